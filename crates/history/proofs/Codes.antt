-- The code that the rules look up is the one that the history divides for.
-- Assumes nothing.
use Prim.Native.Nat.{ℕ}
use mathlib.Core.Bool.{Bool, true, false, not}
use mathlib.Core.List.{List}
use mathlib.Core.Path.{◌≡◌, refl, sym, ap, ◌∙◌}
use lib.Dec.{eqb, leb, ltb}
use lib.ListN.{length}
use borrow.Author.Tests.{ltb-true, ltb-false, le-leb, lt-leb}
use Rattle.std.specs.Prelude.{Option, None, Some}
use Rattle.prelude.specs.Choice.{when◌then◌else◌}
use Rattle.prelude.proofs.Tests.{if-true, if-false, if-cases}
use Rattle.pec.specs.Division.{remainder}
use Rattle.pec.specs.Table.{code_by_table}
use Rattle.pec.specs.Transaction.{max_count, coded, transaction_code}
use Rattle.pec.proofs.Properties.{one-code}
use Rattle.record.specs.Transaction.{Transaction}
use Rattle.translator.specs.Check.{is_code, passes_check}
use Rattle.history.specs.Reading.{Setup, is_code_right, is_code_bad}

code-agrees : (t : Transaction) → is_code (transaction_code t.address t.command t.bytes) t.code ≡ is_code_right t
unfolding transaction_code is_code_right
code-agrees t =
    if-cases (λ (code : Option ℕ). is_code code t.code ≡ (when leb (length t.bytes) max_count then eqb (remainder bytes) t.code else false)) (ltb max_count (length t.bytes)) None (Some (code_by_table 0 bytes))
    (λ many. sym (if-false (leb (length t.bytes) max_count) (eqb (remainder bytes) t.code) false (lt-leb (length t.bytes) max_count (ltb-true _ _ many))))
    (λ few.
    ap (λ (code : ℕ). eqb code t.code) (one-code.by_table 0 bytes ∙ one-code.by_division bytes)
    ∙ sym (if-true _ _ _ (le-leb (length t.bytes) max_count (ltb-false _ _ few))))
  where
    bytes : List ℕ
    bytes = coded t.address t.command t.bytes

-- of a state with the check as the list has it
pub check-agrees : (setup : Setup) (check : ℕ) (t : Transaction) → check ≡ (when setup.check then 1 else 0) → passes_check check t ≡ not (is_code_bad setup t)
unfolding passes_check is_code_bad when◌then◌else◌
check-agrees setup check t e = rw e (by-check setup.check)
  where
    by-check : (on : Bool)
        → (when eqb (when on then 1 else 0) 1 then is_code (transaction_code t.address t.command t.bytes) t.code else true) ≡ not (when on then not (is_code_right t) else false)
    by-check true = code-agrees t ∙ not-not (is_code_right t)
      where
        not-not : (b : Bool) → b ≡ not (not b)
        not-not true = refl
        not-not false = refl
    by-check false = refl
