-- The list cut into First-to-Last runs and what stands alone, and the account that follows (manual 3, 8.9). A run is found by looking forward from the fragment that begins it, and the fragments so far at a place by looking back: no state is carried.
use Rattle.std.specs.Prelude.{ℕ, ◌+◌, Bool, true, false, not, List, [], ◌∷◌, ◌++◌, reverse, ltb, length}
use Rattle.prelude.specs.Choice.{when◌then◌else◌, ◌and◌}
use Rattle.record.specs.Transaction.{Transaction}
use Rattle.state.specs.declared.Account.{Account}
use Rattle.state.specs.Account.{besides, account_of}
use Rattle.history.specs.Lines.{Fate, superseded, flushed, broken, sent, fates, Line, row, opened, taken, refused, is_line, in_line, line_of, Column, packets, fragments, bytes, grid_of}
use Rattle.history.specs.Packets.{concatenated, total_of, largest_total, smallest_total, with_fill}
use Rattle.history.specs.Reading.{Entry, counted, total, Setup, has_f, has_l, is_fragment, is_length_allowed, is_code_bad, is_receive_enable}
use Rattle.history.specs.Settings.{enable_answer, is_mac_kept}

-- what a transaction is to the runs: an allowed fragment that begins one or goes on with one, Last or not; or, with its answer, one that ends the run it meets or one that a run passes over (manual 8.9)
pub data Role : Type 0 where
  begins goes_on : (last : Bool) (piece : List ℕ) (link_up : Bool) → Role
  ends : Fate → (answer : ℕ) → Role
  passes : (answer : ℕ) → Role

-- 7, or as Receive Enable is answered (manual 2.1)
unfoldable pub command_answer : (mac_kept : Bool) → Transaction → ℕ
command_answer mac_kept t = when is_receive_enable t.command then enable_answer mac_kept t.bytes else 7

-- by its command: a fragment of a bad length breaks, a command with F and L flushes, any other passes (manual 3.4, 3.5)
unfoldable pub command_role : Setup → (mac_kept : Bool) → Transaction → Role
command_role setup mac_kept t =
    when is_fragment t.command then
    (when not (is_length_allowed setup t.bytes) then ends broken 3 else
    when has_f t.command then begins (has_l t.command) t.bytes t.link_up else
    goes_on (has_l t.command) t.bytes t.link_up)
    else when has_f t.command and has_l t.command then ends flushed (command_answer mac_kept t)
    else passes (command_answer mac_kept t)

-- a bad code breaks, whatever the command (manual 3.7, 10.5)
unfoldable pub role_of : Setup → (mac_kept : Bool) → Transaction → Role
role_of setup mac_kept t = when is_code_bad setup t then ends broken 17 else command_role setup mac_kept t

-- the roles of entries newest first, and of the list (manual 8.9)
abbrev pub roles_back : Setup → (earlier : List Entry) → List Role
roles_back setup [] = []
roles_back setup (counted t ∷ earlier) = role_of setup (is_mac_kept setup earlier) t ∷ roles_back setup earlier

abbrev pub roles : Setup → List Entry → List Role
roles setup entries = reverse (roles_back setup (reverse entries))

-- looking back, newest first: the fragments so far of the run that goes on (manual 3.1, 8.9)
abbrev pub grown : List (List ℕ) → List ℕ → List (List ℕ)
grown [] piece = []
grown (first ∷ pieces) piece = (first ∷ pieces) ++ piece ∷ []

abbrev pub so_far : (earlier : List Role) → List (List ℕ)
so_far [] = []
so_far (begins true piece link_up ∷ earlier) = []
so_far (begins false piece link_up ∷ earlier) = piece ∷ []
so_far (goes_on true piece link_up ∷ earlier) = []
so_far (goes_on false piece link_up ∷ earlier) = grown (so_far earlier) piece
so_far (ends fate answer ∷ earlier) = []
so_far (passes answer ∷ earlier) = so_far earlier

-- the fragments of the open packet (manual 3.1)
abbrev pub open_pieces : Setup → List Entry → List (List ℕ)
open_pieces setup entries = so_far (roles_back setup (reverse entries))

-- what the list is cut into: a run, which is one packet, or what stands alone, which is none (manual 8.9)
pub record Item : Type 0 where
  pub packet_count : ℕ
  pub pieces : List (List ℕ)
  pub line : Line

abbrev pub run : List (List ℕ) → Line → Item
run pieces line = record { packet_count = 1; pieces = pieces; line = line }

abbrev pub alone : List ℕ → Line → Item
alone piece line = record { packet_count = 0; pieces = piece ∷ []; line = line }

-- of a run that reached its Last: 4, 5, 6, else sent (manual 3.6)
unfoldable pub last_answer : (link_up : Bool) (total : ℕ) → ℕ
last_answer link_up total =
    when ltb largest_total total then 4 else
    when ltb total smallest_total then 5 else
    when link_up then 1 else 6

abbrev pub completed : (link_up : Bool) → List (List ℕ) → Item
completed link_up pieces = run pieces (line_of (last_answer link_up (total_of pieces)))

-- the run that has these fragments, by what follows them (manual 8.9)
abbrev pub run_from : List (List ℕ) → (later : List Role) → Item
run_from pieces [] = run pieces opened
run_from pieces (begins last piece link_up ∷ later) = run pieces (row superseded)
run_from pieces (goes_on true piece link_up ∷ later) = completed link_up (pieces ++ piece ∷ [])
run_from pieces (goes_on false piece link_up ∷ later) = run_from (pieces ++ piece ∷ []) later
run_from pieces (ends fate answer ∷ later) = run pieces (row fate)
run_from pieces (passes answer ∷ later) = run_from pieces later

-- the run that begins at a place (manual 8.9)
abbrev pub begun : (last : Bool) (piece : List ℕ) (link_up : Bool) (later : List Role) → Item
begun true piece link_up later = completed link_up (piece ∷ [])
begun false piece link_up later = run_from (piece ∷ []) later

-- what begins at a place, or stands alone there: a fragment that no run takes in is answered 2 and counted with its bytes; nothing else that stands alone is counted with bytes (manual 8.3)
abbrev pub aborted_if : List (List ℕ) → (piece : List ℕ) → List Item
aborted_if [] piece = alone piece (line_of 2) ∷ []
aborted_if (first ∷ pieces) piece = []

abbrev pub item_at : (earlier : List Role) → Role → (later : List Role) → List Item
item_at earlier (begins last piece link_up) later = begun last piece link_up later ∷ []
item_at earlier (goes_on last piece link_up) later = aborted_if (so_far earlier) piece
item_at earlier (ends fate answer) later = alone [] (line_of answer) ∷ []
item_at earlier (passes answer) later = alone [] (line_of answer) ∷ []

abbrev pub items : (earlier later : List Role) → List Item
items earlier [] = []
items earlier (role ∷ later) = item_at earlier role later ++ items (role ∷ earlier) later

-- what a line has in a column (manual 8.2)
unfoldable pub amount : Item → Column → ℕ
amount item packets = item.packet_count
amount item fragments = length item.pieces
amount item bytes = total_of item.pieces

abbrev pub count_in : List Item → Line → Column → ℕ
count_in [] line column = 0
count_in (item ∷ rest) line column = in_line item.line (amount item column) line + count_in rest line column

-- the account that the list makes (manual 8.2, 8.5)
abbrev pub items_of : Setup → List Entry → List Item
items_of setup entries = items [] (roles setup entries)

abbrev pub account_for : Setup → List Entry → Account
account_for setup entries =
    let count : Line → Column → ℕ = count_in (items_of setup entries) in
    account_of (grid_of count fates) (besides (count opened fragments) (count opened bytes) (count taken fragments) (count refused fragments) (total entries))

-- the packet that an item sends, with its fill, and all packets sent, in order (manual 4.3)
abbrev pub sent_by : Item → List (List ℕ)
sent_by item = when is_line item.line (row sent) then with_fill (concatenated item.pieces) ∷ [] else []

abbrev pub packets_sent : List Item → List (List ℕ)
packets_sent [] = []
packets_sent (item ∷ rest) = sent_by item ++ packets_sent rest
