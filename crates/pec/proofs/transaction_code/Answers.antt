use Rattle.std.proofs.Common.{sym}
use borrow.Author.Tests.{le-ltb}
use Rattle.prelude.proofs.Tests.{tests, if-false}
use Rattle.pec.specs.Code.{after_bytes}
use Rattle.pec.specs.Transaction.{transaction_code}
use Rattle.pec.proofs.transaction_code.Goals as goal

pub returns-then-bytes-gt-MAX_COUNT : goal.returns-then-bytes-gt-MAX_COUNT
unfolding transaction_code
returns-then-bytes-gt-MAX_COUNT c = search tests

pub returns : goal.returns
unfolding transaction_code after_bytes
returns c =
    rw c.by_table-2.ensures (rw c.by_table.ensures (sym (if-false _ _ _ (le-ltb _ _ c.if-bytes-gt-MAX_COUNT.false))))
