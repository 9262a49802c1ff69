-- What a step does is what the rules do, and counting it in rows that are held is counting it in the grid.
-- Assumes nothing.
use Prim.Native.Nat.{ℕ}
use mathlib.Core.List.{List}
use mathlib.Core.Path.{◌≡◌, refl, sym, ap, ◌∙◌}
use native.Mathlib.Omega.{arith}
use Rattle.std.specs.Prelude.{Ok}
use Rattle.prelude.specs.After.{after}
use Rattle.prelude.specs.Choice.{when◌then◌else◌}
use Rattle.record.specs.Transaction.{Transaction}
use Rattle.state.specs.declared.Beside.{Beside}
use Rattle.state.specs.declared.Setup.{Setup}
use Rattle.state.specs.Account.{limit, row_number}
use Rattle.state.specs.Grid.{rows_of, flat_of}
use Rattle.state.specs.State.{state_of}
use Rattle.outcome.specs.declared.Outcome.{Outcome}
use Rattle.translator.specs.declared.tally.Tally.{Tally}
use Rattle.translator.specs.declared.judged.Judged.{Judged}
use Rattle.translator.specs.declared.step.Step.{Step}
use Rattle.translator.specs.Counting.{add_to, tally_of, grid_after, beside_after, counted}
use Rattle.translator.specs.Held.{Placed, Steps, TakesRecord, held, rejected_step}
use Rattle.translator.specs.Judge.{judge}
use Rattle.translator.specs.Replay.{state_after}
use Rattle.translator.specs.Rows.{BesideFits, TallyFits, rows_after}
use Rattle.translator.specs.Transact.{Readiness, with, applied, readiness_of, transacted}
use Rattle.translator.proofs.Grids.{rows-after-are, flat_after}
use Rattle.translator.proofs.Readied.{counted_is}
use Rattle.translator.proofs.Room.{own_room, ended-room}

module _ (r : Readiness) (beside : Beside) (setup : Setup) (store settings : List ℕ) (t : Transaction) where
  pub rejected-steps : (o : Outcome)
      → ((grid : List ℕ) → r ≡ readiness_of (state_of grid beside setup) store settings → transacted (state_of grid beside setup) store settings t ≡ after (with (state_of grid beside setup) o) store settings)
      → Steps r beside setup store settings t (rejected_step o beside) store settings
  unfolding grid_after add_to when◌then◌else◌
  rejected-steps o unchanged = record {
    steps = λ grid e. sym (unchanged grid e);
    fits = λ rows _. record { own = λ l. absurd (omega arith); ended = λ l. absurd (omega arith) };
  }

  pub counted-steps : (j : Judged) (y : Tally) (after-it : Beside) (store' settings' : List ℕ) → r ≡ Ok tt → (beside.total ≡ limit → ⊥)
      → after j store' settings' ≡ judge setup beside.open_fragments beside.open_bytes t store settings
      → y ≡ tally_of j beside → after-it ≡ beside_after y beside → BesideFits beside → TallyFits y
      → Steps r beside setup store settings t (record { outcome = j.outcome; ends = j.ends; tally = y; beside = after-it }) store' settings'
  unfolding counted
  counted-steps j y after-it store' settings' ready room comes tallied numbers beside-fits tally-fits = record {
    steps = λ grid e.
        rw (numbers, tallied)
        (sym (counted_is (state_of grid beside setup) store settings t (sym e ∙ ready) room ∙ ap (applied (state_of grid beside setup)) (sym comes)));
    fits = λ rows rows_fit. record { own = own_room rows y (rows_fit ready) tally-fits; ended = ended-room rows (row_number j.ends) beside y (rows_fit ready) beside-fits tally-fits };
  }

module _ (rows : List (List ℕ)) (beside : Beside) (setup : Setup) (store settings : List ℕ) (t : Transaction) (placed : Placed rows) where
  module _ (ends : ℕ) (y : Tally) where
    flat-is : flat_of (rows_after ends beside y rows) ≡ grid_after ends beside y (flat_of rows)
    flat-is = ap (λ (r : List (List ℕ)). flat_of (rows_after ends beside y r)) placed ∙ flat_after (flat_of rows) ends beside y refl

    after-placed : Placed (rows_after ends beside y rows)
    after-placed = ap (rows_after ends beside y) placed ∙ (rows-after-are (flat_of rows) ends beside y refl ∙ ap rows_of (sym flat-is))

  pub step-takes : (r : Readiness) (s : Step) (store' settings' : List ℕ) (rows' : List (List ℕ)) → r ≡ readiness_of (held rows beside setup) store settings
      → Steps r beside setup store settings t s store' settings' → rows' ≡ rows_after (row_number s.ends) beside s.tally rows
      → TakesRecord rows beside setup store settings t rows' s.beside store' settings'
  step-takes r s store' settings' rows' known does rows_are =
      rw rows_are
      (record {
        placed = after-placed (row_number s.ends) s.tally;
        taken = rw (flat-is (row_number s.ends) s.tally) (ap state_after (does.steps (flat_of rows) known));
      })
