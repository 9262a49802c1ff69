-- The decision settles which word is in force.
-- Assumes nothing.
use mathlib.Core.Logic.{inl, inr}
use mathlib.Core.Path.{refl}
use native.Mathlib.Omega.{arith}
use borrow.Author.Tests.{eqb-false}
use Rattle.prelude.proofs.Tests.{if-cases}
use Rattle.setlink.specs.Decide.{no_reason, reason, settled, decided}
use Rattle.setlink.specs.Properties.{Settles, EveryDecision}

pub every-decision : EveryDecision
unfolding decided settled
every-decision in_force word host_present media =
    if-cases (Settles in_force word) _ _ _
    (λ e. record { answered = inl refl; accepted = λ _. (refl, refl); refused = λ p. absurd (omega arith) })
    (λ e. record { answered = inr refl; accepted = λ p. absurd (omega arith); refused = λ _. (eqb-false (reason word host_present media) no_reason e, refl) })
