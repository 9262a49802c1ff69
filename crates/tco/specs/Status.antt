-- Status data written and read, with the answer in numbers: its own and the first bad field's (manual 2.1, 6.6).
use Rattle.std.specs.Prelude.{ℕ, List}
use Rattle.status.specs.declared.Fields.{Fields}
use Rattle.status.specs.Judged.{number_of, bad_field_number}
use Rattle.status.specs.Block.{written, block_back, parsed, fields_back}
use Rattle.tco.specs.declared.StatusRead.{StatusRead}
use Rattle.tco.specs.declared.StatusWritten.{StatusWritten}

-- of a writer (manual 6.6)
abbrev pub written_in_numbers : Fields → StatusWritten
written_in_numbers f = record { answer = number_of (written f); field = bad_field_number (written f); block = block_back f }

-- of a reader (manual 6.6)
abbrev pub read_in_numbers : List ℕ → StatusRead
read_in_numbers b = record { answer = number_of (parsed b); field = bad_field_number (parsed b); fields = fields_back b }
