-- What follows for every fresh state, and of every sound one (manual 1.2, 8.8, 10.1).
use Rattle.std.specs.Prelude.{ℕ, ◌≤◌, Bool, true, ◌≡◌}
use Rattle.state.specs.declared.State.{State}
use Rattle.state.specs.Sound.{sound}
use Rattle.state.specs.State.{made}

-- it is sound, whatever maximum was asked for, with the check on or off (manual 1.2, 8.8)
abbrev pub EveryFresh : Type 0
EveryFresh = (maximum : ℕ) (check : Bool) → sound (made maximum check).state ≡ true

-- a sound state has a maximum from 1 to 240 and a check of 0 or 1, and no other numbers there (manual 1.2, 8.8, 10.1)
pub record EverySound : Type 0 where
  pub maximum_least : (s : State) → sound s ≡ true → 1 ≤ s.maximum
  pub maximum_most : (s : State) → sound s ≡ true → s.maximum ≤ 240
  pub check_most : (s : State) → sound s ≡ true → s.check ≤ 1
