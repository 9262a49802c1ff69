-- What one more transaction does to the lines of the places before it (manual 8.9).
use Rattle.std.specs.Prelude.{List, [], ◌∷◌, ◌++◌, map, reverse, ◌≡◌}
use Rattle.record.specs.Transaction.{Transaction}
use Rattle.history.specs.Lines.{Line, row, opened, taken, refused, nowhere, line_of}
use Rattle.history.specs.Reading.{Entry, counted, Setup}
use Rattle.history.specs.Settings.{is_mac_kept}
use Rattle.history.specs.Runs.{role_of, open_pieces, run_from}
use Rattle.history.specs.Replies.{reply_at}
use Rattle.history.specs.Partition.{lines_of}

-- a place of the open packet goes with it to a line, and any other stays (manual 8.4)
abbrev pub moved_to : (to stood : Line) → Line
moved_to to opened = to
moved_to to (row fate) = row fate
moved_to to taken = taken
moved_to to refused = refused
moved_to to nowhere = nowhere

-- where a transaction brings the open packet: to the row in which it ends, or it stays open (manual 8.4)
abbrev pub open_goes_to : Setup → List Entry → Transaction → Line
open_goes_to setup entries t = (run_from (open_pieces setup entries) (role_of setup (is_mac_kept setup (reverse entries)) t ∷ [])).line

-- all places of the open packet go to one line, every other place keeps its own, and the newest stands in the line of its answer (manual 8.3, 8.4)
abbrev pub LinesStay : Type 0
LinesStay =
    (setup : Setup) (entries : List Entry) (t : Transaction)
    → lines_of setup (entries ++ counted t ∷ []) ≡ map (moved_to (open_goes_to setup entries t)) (lines_of setup entries) ++ line_of (reply_at setup (reverse entries) t).answer ∷ []
