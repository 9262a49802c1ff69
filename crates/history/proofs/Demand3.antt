-- After any calls from a fresh start, what the caller keeps and what every call replies is what the list says.
-- Assumes nothing.
use Prim.Native.Nat.{ℕ, ◌+◌, ◌-◌, ◌*◌, ◌<◌, ◌≤◌}
use mathlib.Core.Bool.{Bool, true, false}
use mathlib.Core.List.{List, [], reverse}
use mathlib.Core.Path.{◌≡◌, refl, sym, ap, ◌∙◌}
use native.Mathlib.Omega.{arith}
use lib.Dec.{ltb}
use lib.ListN.{length, get_or, take, replicate, get_or-replicate}
use borrow.Author.Tests.{ltb-true, ltb-false, le-leb, lt-leb}
use Rattle.prelude.specs.Choice.{when◌then◌else◌}
use Rattle.prelude.proofs.Tests.{if-true, if-false}
use Rattle.settings.proofs.Properties.{every-fresh}
use Rattle.state.specs.declared.Made.{Made}
use Rattle.state.specs.declared.State.{State}
use Rattle.state.specs.Account.{limit, row_count, columns}
use Rattle.state.specs.State.{max_maximum, check_number, setup_of, fresh_account, fresh_state, made}
use Rattle.state.proofs.FreshStates.{every-fresh as every-fresh-state}
use Rattle.history.specs.Lines.{Fate, row_of, Column, packets, fragments, bytes}
use Rattle.history.specs.Reading.{maximum_for, setup_for}
use Rattle.history.specs.Calls.{Kept, after, entries_by, with_room, most_counted}
use Rattle.history.specs.Demand3.{fresh, Demand3}
use Rattle.history.proofs.Counts.{Counts, cell_in, row-in-grid}
use Rattle.history.proofs.Settings.{fresh-read}
use Rattle.history.proofs.Reached.{Reached}
use Rattle.history.proofs.Agrees.{agrees}
use Rattle.history.proofs.Calls.{calls-reach, listed}
use Rattle.history.proofs.Replies.{all-replies}

-- a fresh state has counted nothing
made-is-fresh : (maximum : ℕ) (check : Bool) → (made maximum check).state ≡ fresh_state (setup_of (maximum_for maximum) (check_number check))
unfolding made maximum_for
made-is-fresh maximum check = by_tests (ltb maximum 1) (ltb max_maximum maximum) refl refl
  where
    fresh : ℕ → State
    fresh n = fresh_state (setup_of n (check_number check))

    by_tests : (few many : Bool) → ltb maximum 1 ≡ few → ltb max_maximum maximum ≡ many → (made maximum check).state ≡ fresh (maximum_for maximum)
    by_tests true many e f = ap (λ (m : Made). m.state) (if-true _ _ _ e) ∙ sym (ap fresh (if-false _ _ _ (if-false _ _ _ (lt-leb 1 maximum (ltb-true maximum 1 e)))))
    by_tests false true e f =
        ap (λ (m : Made). m.state) (if-false _ _ _ e ∙ if-true _ _ _ f)
        ∙ sym (ap fresh (if-false _ _ _ (if-true _ _ _ (le-leb 1 maximum (ltb-false maximum 1 e)) ∙ lt-leb maximum max_maximum (ltb-true max_maximum maximum f))))
    by_tests false false e f =
        ap (λ (m : Made). m.state) (if-false _ _ _ e ∙ if-false _ _ _ f)
        ∙ sym (ap fresh (if-true _ _ _ (if-true _ _ _ (le-leb 1 maximum (ltb-false maximum 1 e)) ∙ le-leb maximum max_maximum (ltb-false max_maximum maximum f))))

fresh-counts : Counts fresh_account [] [] 0
fresh-counts = record {
  formed = refl;
  total_is = refl;
  held_fragments = refl;
  held_bytes = refl;
  cells = zeros;
  taken-are = refl;
  refused-are = refl;
  none_open = λ c. refl;
}
  where
    zero-at : (at : ℕ) → at < row_count * columns → get_or (replicate {A = ℕ} (row_count * columns) 0) at 0 ≡ 0
    zero-at at h = get_or-replicate (row_count * columns) at 0 0 h

    zeros : (fate : Fate) (c : Column) → cell_in (row_of fate) c (replicate (row_count * columns) 0) ≡ 0
    zeros fate packets = zero-at (row_of fate * columns) (omega (arith, row-in-grid fate))
    zeros fate fragments = zero-at (row_of fate * columns + 1) (omega (arith, row-in-grid fate))
    zeros fate bytes = zero-at (row_of fate * columns + 2) (omega (arith, row-in-grid fate))

-- the number of the check, as the history says it
check-number-is : (check : Bool) → check_number check ≡ (when check then 1 else 0)
unfolding when◌then◌else◌
check-number-is true = refl
check-number-is false = refl

fresh-reached : (maximum : ℕ) (check : Bool) (store settings : List ℕ) → 15 ≤ length settings → Reached (setup_for maximum check) store settings [] (fresh maximum check store settings)
fresh-reached maximum check store settings room = record {
  counts = rw (made-is-fresh maximum check) fresh-counts;
  maximum-is = ap (λ (s : State). s.maximum) (made-is-fresh maximum check);
  check-is = ap (λ (s : State). s.check) (made-is-fresh maximum check) ∙ check-number-is check;
  state_is_sound = every-fresh-state maximum check;
  store_length = refl;
  stored = refl;
  sent_are = refl;
  settings_are = fresh-read settings room;
  settings_are_sound = ((every-fresh.by_answer settings).written room).1;
}

pub demand3 : Demand3
demand3 maximum check store settings room calls =
    let start : Kept = fresh maximum check store settings in
    let reached : Reached (setup_for maximum check) store settings (reverse (entries_by calls start)) (after calls start) =
    calls-reach (setup_for maximum check) store settings room calls [] start (fresh-reached maximum check store settings room) in
    let all : limit - 0 ≡ most_counted = omega arith in
    record {
      agrees = agrees (setup_for maximum check) store settings (entries_by calls start) (after calls start) reached;
      list_is =
          listed (setup_for maximum check) store settings room calls [] start (fresh-reached maximum check store settings room)
          ∙ ap (λ (k : ℕ). take k (with_room (length store) (length settings) calls)) all;
      replies = all-replies (setup_for maximum check) store settings room (entries_by calls start) (after calls start) reached;
    }
