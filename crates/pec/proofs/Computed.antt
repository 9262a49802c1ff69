-- A test that antt computes at every number below a bound holds at each of them.
-- Assumes nothing.
use Prim.Native.Nat.{ℕ, zero, suc, ◌<◌}
use mathlib.Core.Bool.{Bool, true}
use mathlib.Core.Logic.{⊎_elim}
use mathlib.Core.Path.{◌≡◌, ap, ◌∙◌}
use native.Mathlib.Nat.{le_of_suc-le-suc, not-suc-le-zero, eq-or-lt_of_le}
use Rattle.prelude.specs.Choice.{◌and◌}
use Rattle.prelude.proofs.Tests.{if-first, if-second}

abbrev pub every_below : (test : ℕ → Bool) → ℕ → Bool
every_below test zero = true
every_below test (suc n) = test n and every_below test n

pub below-at : (test : ℕ → Bool) (n k : ℕ) → every_below test n ≡ true → k < n → test k ≡ true
below-at test zero k e h = absurd (not-suc-le-zero h)
below-at test (suc n) k e h =
    ⊎_elim (λ same. ap test same ∙ if-first (test n) (every_below test n) e)
    (λ smaller. below-at test n k (if-second (test n) (every_below test n) e) smaller)
    (eq-or-lt_of_le (le_of_suc-le-suc h))
