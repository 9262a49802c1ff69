-- A reading uses no more bytes than it is fed.
use Rattle.std.proofs.Common.{ℕ, ◌≤◌, length, subst, sym}
use Rattle.journal.specs.Feeding.{Fed}
use Rattle.journal.proofs.Whole.{fed-within}
use Rattle.cases.proofs.printed.print_fed.Goals as goal

pub drain-requires-clause-in_bounds : goal.drain-requires-clause-in_bounds
drain-requires-clause-in_bounds c =
    subst (λ (size : ℕ). c.feed-used.result ≤ size) c.deref.ensures.len
    (subst (λ (f : Fed). f.used ≤ length c.deref.result.now) (sym c.feed-used.ensures) (fed-within _ _))
