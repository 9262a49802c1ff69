-- A fresh state, and that it is sound.
-- Assumes nothing.
use Prim.Native.Nat.{ℕ, ◌*◌, ◌≤◌}
use mathlib.Core.Bool.{Bool, true, false}
use mathlib.Core.Path.{◌≡◌, refl, ap, ◌∙◌}
use native.Mathlib.Omega.{arith}
use borrow.Author.Tests.{le-leb, le-ltb, ltb-false}
use Rattle.prelude.specs.Choice.{when◌then◌else◌}
use Rattle.prelude.proofs.Tests.{if-false, if-cases}
use Rattle.state.specs.declared.Made.{Made}
use Rattle.state.specs.Account.{all_fragments}
use Rattle.state.specs.Properties.{EveryFresh}
use Rattle.state.specs.Sound.{row_sound, rows_sound, singles_sound, open_sound, sum_holds, account_sound, sound}
use Rattle.state.specs.State.{max_maximum, check_on, check_number, setup_of, fresh_state, made}

pub made-fresh : (maximum : ℕ) (check : Bool) → 1 ≤ maximum → maximum ≤ max_maximum → (made maximum check).state ≡ fresh_state (setup_of maximum (check_number check))
unfolding made
made-fresh maximum check least most =
    ap (λ (m : Made). m.state) (if-false _ _ _ (le-ltb maximum 1 least) ∙ if-false _ _ _ (le-ltb max_maximum maximum most))

-- a truth value is a number that a state may have for the check
pub check-allowed : (check : Bool) → check_number check ≤ check_on
check-allowed true = omega arith
check-allowed false = omega arith

pub fresh-sound : (maximum : ℕ) (check : Bool) → 1 ≤ maximum → maximum ≤ max_maximum → sound (fresh_state (setup_of maximum (check_number check))) ≡ true
unfolding sound account_sound rows_sound row_sound singles_sound open_sound sum_holds all_fragments when◌then◌else◌
fresh-sound maximum check least most =
    rw (le-leb 1 maximum least, le-leb maximum max_maximum most, le-leb 0 (maximum * 0) (omega arith), le-leb (check_number check) check_on (check-allowed check)) refl

pub every-fresh : EveryFresh
unfolding made
every-fresh maximum check =
    if-cases P _ _ _ (λ _. for-largest)
    (λ some. if-cases P _ _ _ (λ _. for-largest) (λ few. fresh-sound maximum check (ltb-false maximum 1 some) (ltb-false max_maximum maximum few)))
  where
    P : Made → Type 0
    P m = sound m.state ≡ true

    for-largest : sound (fresh_state (setup_of max_maximum (check_number check))) ≡ true
    for-largest = fresh-sound max_maximum check (omega arith) (omega arith)
