-- What follows for every account (manual 9.4).
use Rattle.std.specs.Prelude.{ℕ, ◌≤◌, true, List, ◌++◌, ◌≡◌, length, drop}
use Rattle.state.specs.declared.Account.{Account}
use Rattle.state.specs.Sound.{account_sound}
use Rattle.printout.specs.Printout.{printout, max_printout, written, printed}

-- no printout is longer than the most bytes of one (manual 9.4)
abbrev pub EveryPrintout : Type 0
EveryPrintout = (a : Account) → length (printout a) ≤ max_printout

-- so a buffer of that size holds every sound account's (manual 9.4)
abbrev pub EveryBuffer : Type 0
EveryBuffer =
    (a : Account) (out : List ℕ) → account_sound a ≡ true → max_printout ≤ length out
    → printed a out ≡ written (length (printout a)) (printout a ++ drop (length (printout a)) out)
