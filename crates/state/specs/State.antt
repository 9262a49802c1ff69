-- The state around the account, and a fresh one (manual 1.2, 8.8, 10.1).
use Rattle.std.specs.Prelude.{ℕ, ◌*◌, Bool, true, false, List, eqb, ltb, replicate}
use Rattle.prelude.specs.Choice.{when◌then◌else◌}
use Rattle.state.specs.declared.Account.{Account}
use Rattle.state.specs.declared.Beside.{Beside}
use Rattle.state.specs.declared.Made.{Made}
use Rattle.state.specs.declared.Setup.{Setup}
use Rattle.state.specs.declared.State.{State}
use Rattle.state.specs.Account.{row_count, columns, besides, account_of}

-- the largest fragment maximum (manual 1.2)
abbrev pub max_maximum : ℕ
max_maximum = 240

-- the check in a state: on, or off (manual 10.1)
abbrev pub check_on : ℕ
check_on = 1

abbrev pub check_off : ℕ
check_off = 0

abbrev pub check_number : Bool → ℕ
check_number true = check_on
check_number false = check_off

abbrev pub is_on : (check : ℕ) → Bool
is_on check = eqb check check_on

-- what is fixed when a state is made (manual 1.2, 10.1)
abbrev pub setup_of : (maximum check : ℕ) → Setup
setup_of maximum check = record { maximum = maximum; check = check }

-- the state of a grid, of the numbers beside it and of a setup (manual 8.8)
abbrev pub state_of : List ℕ → Beside → Setup → State
state_of grid beside setup = record { account = account_of grid beside; maximum = setup.maximum; check = setup.check }

-- that of a state (manual 8.8)
abbrev pub setup_in : State → Setup
setup_in s = setup_of s.maximum s.check

-- a state with another account (manual 8.8)
abbrev pub with_account : State → Account → State
with_account s account = state_of account.grid account.beside (setup_in s)

-- nothing is counted (manual 8.8)
abbrev pub fresh_account : Account
fresh_account = account_of (replicate (row_count * columns) 0) (besides 0 0 0 0 0)

abbrev pub fresh_state : Setup → State
fresh_state setup = state_of fresh_account.grid fresh_account.beside setup

-- a call that is done and has no number of its own (manual 2.5)
abbrev pub success : ℕ
success = 0

-- a fragment maximum that is not allowed (manual 2.1)
abbrev pub bad_maximum : ℕ
bad_maximum = 16

-- the state that is made for a maximum, or for the largest one, with the check as asked (manual 1.2)
unfoldable pub made : (maximum : ℕ) → (check : Bool) → Made
made maximum check =
    when ltb maximum 1 then record { answer = bad_maximum; state = fresh_state (setup_of max_maximum (check_number check)) } else
    when ltb max_maximum maximum then record { answer = bad_maximum; state = fresh_state (setup_of max_maximum (check_number check)) } else
    record { answer = success; state = fresh_state (setup_of maximum (check_number check)) }
