-- Internal: a state whose account is held as rows and the numbers beside them. Nobody has to believe these definitions.
use Rattle.std.specs.Prelude.{ℕ, ◌*◌, List, None, Ok, ◌≡◌, length}
use Rattle.prelude.specs.After.{after}
use Rattle.record.specs.Transaction.{Transaction}
use Rattle.state.specs.declared.Beside.{Beside}
use Rattle.state.specs.declared.Setup.{Setup}
use Rattle.state.specs.declared.State.{State}
use Rattle.state.specs.Account.{row_count, columns, row_number}
use Rattle.state.specs.Grid.{rows_of, flat_of}
use Rattle.state.specs.State.{state_of}
use Rattle.outcome.specs.declared.Outcome.{Outcome}
use Rattle.translator.specs.declared.step.Step.{Step}
use Rattle.translator.specs.Counting.{tally, grid_after}
use Rattle.translator.specs.Replay.{state_after}
use Rattle.translator.specs.Rows.{CountFits, RowsFit}
use Rattle.translator.specs.Transact.{Readiness, with, readiness_of, transacted}

abbrev pub held : List (List ℕ) → Beside → Setup → State
held rows beside setup = state_of (flat_of rows) beside setup

-- what is known to be the readiness of a state with these numbers, whatever its grid
pub record IsReadiness (r : Readiness) (beside : Beside) (setup : Setup) (store settings : List ℕ) : Type 0 where
  pub grid : List ℕ
  pub formed : length grid ≡ row_count * columns
  pub known : r ≡ readiness_of (state_of grid beside setup) store settings

-- nothing changes
abbrev pub rejected_step : Outcome → Beside → Step
rejected_step o b = record { outcome = o; ends = None; tally = tally None 0 0 0 0 0 0 0; beside = b }

-- what a step does is what the rules do, whatever the grid, and it fits where the rows do
pub record Steps (r : Readiness) (beside : Beside) (setup : Setup) (store settings : List ℕ) (t : Transaction) (s : Step) (store' settings' : List ℕ) : Type 0 where
  pub steps :
      (grid : List ℕ) → r ≡ readiness_of (state_of grid beside setup) store settings
      → after (with (state_of (grid_after (row_number s.ends) beside s.tally grid) s.beside setup) s.outcome) store' settings' ≡ transacted (state_of grid beside setup) store settings t
  pub fits : (rows : List (List ℕ)) → (r ≡ Ok tt → RowsFit rows) → CountFits (row_number s.ends) beside s.tally rows

-- rows that are those of a grid
abbrev pub Placed : List (List ℕ) → Type 0
Placed rows = rows ≡ rows_of (flat_of rows)

-- rows that hold a grid
pub record Holds (rows : List (List ℕ)) (grid : List ℕ) : Type 0 where
  pub placed : Placed rows
  pub same : flat_of rows ≡ grid

-- the rows and the numbers beside them, and the buffers, are then what the rules leave
pub record TakesRecord (rows : List (List ℕ)) (beside : Beside) (setup : Setup) (store settings : List ℕ) (t : Transaction) (rows' : List (List ℕ)) (beside' : Beside) (store' settings' : List ℕ) : Type 0 where
  pub placed : Placed rows'
  pub taken : after (held rows' beside' setup) store' settings' ≡ state_after (transacted (held rows beside setup) store settings t)
