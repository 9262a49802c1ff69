-- The classes of commands (manual 1.3, 1.4).
use Rattle.std.specs.Prelude.{ℕ, Bool, true, false, List, [], ◌∷◌, eqb}
use Rattle.prelude.specs.Bits.{is_set}
use Rattle.prelude.specs.Choice.{when◌then◌else◌, ◌and◌}
use Rattle.translator.specs.declared.command.Class.{Class}
use Rattle.translator.specs.declared.command.Class.TheVariants.{Fragment, Enable, Unknown}
use Rattle.translator.specs.declared.command.Command.{Command}

-- a fragment by whether it is First and whether it is Last, and Receive Enable (manual 1.4)
abbrev pub commands : List Command
commands =
    record { byte = 0x84; class = Fragment true false }
    ∷ record { byte = 0x04; class = Fragment false false }
    ∷ record { byte = 0x44; class = Fragment false true }
    ∷ record { byte = 0xC4; class = Fragment true true }
    ∷ record { byte = 0xCA; class = Enable }
    ∷ []

-- the class that a table gives a command; one that stands in no entry is unknown (manual 1.4)
unfoldable pub class_in : List Command → ℕ → Class
class_in [] command = Unknown
class_in (entry ∷ rest) command = when eqb command entry.byte then entry.class else class_in rest command

-- F and L are both set (manual 1.3)
unfoldable pub has_both_flags : ℕ → Bool
has_both_flags command = is_set 7 command and is_set 6 command
