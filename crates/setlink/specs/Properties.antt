-- What the decision does with the word in force, whatever the words, the host and the medium (manual 7.4).
use Rattle.std.specs.Prelude.{ℕ, Bool, ◌⊎◌, ◌≡◌}
use Rattle.setlink.specs.declared.Decision.{Decision}
use Rattle.setlink.specs.declared.Media.{Media}
use Rattle.setlink.specs.Decide.{completed, failed, no_reason, decided}

-- an accepted word is in force, and after a refusal the one that was (manual 7.4)
pub record Settles (in_force word : ℕ) (decision : Decision) : Type 0 where
  pub answered : (decision.response ≡ completed) ⊎ (decision.response ≡ failed)
  pub accepted : decision.response ≡ completed → (decision.reason ≡ no_reason) × (decision.in_force ≡ word)
  pub refused : decision.response ≡ failed → (decision.reason ≡ no_reason → ⊥) × (decision.in_force ≡ in_force)

abbrev pub EveryDecision : Type 0
EveryDecision = (in_force word : ℕ) (host_present : Bool) (media : Media) → Settles in_force word (decided in_force word host_present media)
