-- Pieces put one behind the other.
-- Assumes nothing.
use Prim.Native.Nat.{ℕ, zero, suc, ◌+◌, ◌-◌, ◌≤◌, ◌<◌, min}
use mathlib.Core.List.{List, [], ◌∷◌, ◌++◌, append_assoc}
use mathlib.Core.Path.{◌≡◌, refl, sym, ap, ◌∙◌}
use native.Mathlib.Nat.{min-le_right}
use native.Mathlib.Numerals.{add-one}
use native.Mathlib.Omega.{arith}
use lib.ListN.{length, get_or, take, drop, drop_of_length-le}
use lib.Seq.{take_all, drop-cons, length-take-le, take-append-add}
use borrow.Rule.Slice.PartMut.{put_mid}
use Rattle.std.proofs.lemmas.List.{take_min, take_more, flat_map_more}
use Rattle.std.specs.List.{flat_map}
use Rattle.std.proofs.lemmas.Slice.{take-put_mid}
use Rattle.state.specs.declared.TheConstants.{ROWS}
use Rattle.state.specs.Account.{row_count, place_of}
use Rattle.state.specs.declared.row.Row.{Row}
use Rattle.state.specs.declared.row.Row.TheVariants as row
use Rattle.prelude.specs.Ascii.{ascii}
use Rattle.printout.specs.Lines.{cut, name_of, row_line}
use Rattle.printout.specs.Printout.{field, fields, heading, line_of, cells_of, max_printout}

abbrev row_at : ℕ → Row
row_at i = get_or ROWS i row.Sent

take-again : (n : ℕ) (text more : List ℕ) → take n (take n text ++ more) ≡ take n (text ++ more)
take-again zero text more = refl
take-again (suc n) [] more = refl
take-again (suc n) (byte ∷ rest) more = ap (λ (l : List ℕ). byte ∷ l) (take-again n rest more)

cut-again : (text more : List ℕ) → cut (cut text ++ more) ≡ cut (text ++ more)
unfolding cut
cut-again text more = take-again max_printout text more

-- one piece and then another
pub then-put : (text piece : List ℕ) {middle : List ℕ} (next : List ℕ) {after : List ℕ} → middle ≡ cut (text ++ piece) → after ≡ cut (middle ++ next) → after ≡ cut (text ++ (piece ++ next))
then-put text piece next first second =
    second ∙ (ap (λ (l : List ℕ). cut (l ++ next)) first ∙ (cut-again (text ++ piece) next ∙ ap cut (append_assoc text piece next)))

-- a text that is short enough
pub cut-short : (text : List ℕ) → length text ≤ max_printout → cut text ≡ text
unfolding cut
cut-short text short = take_all max_printout text short

-- a row's line behind the heading and the lines of the rows before it
pub row-put : (text grid : List ℕ) (i : ℕ) {middle after name cells : List ℕ} → i < row_count → middle ≡ cut (text ++ (heading ++ flat_map (row_line grid) (take i ROWS)))
    → name ≡ name_of (row_at i) → cells ≡ cells_of (place_of (row_at i)) grid → after ≡ cut (middle ++ line_of name cells)
    → after ≡ cut (text ++ (heading ++ flat_map (row_line grid) (take (i + 1) ROWS)))
row-put text grid i {middle} more first named celled second =
    then-put text (heading ++ flat_map (row_line grid) (take i ROWS)) (row_line grid (row_at i)) first (rw (← named, ← celled) second)
    ∙ ap (λ (l : List ℕ). cut (text ++ l)) (flat_map_more (row_line grid) heading (take i ROWS) (row_at i) ∙ ap (λ (l : List Row). heading ++ flat_map (row_line grid) l) (sym (take_more ROWS i row.Sent more)))

-- a copy of what fits of a piece
pub fitting-put : (bytes copy piece : List ℕ) (end size : ℕ) → end ≤ max_printout → length bytes ≡ max_printout → size ≡ min (max_printout - end) (length piece) → copy ≡ take size piece
    → take (end + size) (put_mid end (end + size - end) bytes copy) ≡ cut (take end bytes ++ piece)
unfolding cut
fitting-put bytes copy piece end size room long s c =
    let front : length (take end bytes) ≡ end = length-take-le end bytes (omega arith) in
    let fits : min (max_printout - end) (length piece) ≤ length piece = min-le_right (max_printout - end) (length piece) in
    let many : length (take size piece) ≡ size = length-take-le size piece (omega arith) in
    let whole : max_printout ≡ length (take end bytes) + (max_printout - end) = omega arith in
    take-put_mid end (end + size - end) bytes copy (end + size) (rw c (omega arith)) (omega arith)
    ∙ (ap (λ (l : List ℕ). take end bytes ++ l) (c ∙ (ap (λ (n : ℕ). take n piece) s ∙ take_min (max_printout - end) piece))
    ∙ (sym (take-append-add (take end bytes) piece (max_printout - end)) ∙ ap (λ (n : ℕ). take n (take end bytes ++ piece)) (sym whole)))

-- the numbers of a line from a place on
pub fields-more : (numbers : List ℕ) (i : ℕ) → i < length numbers → fields (drop i numbers) ≡ field (get_or numbers i 0) ++ fields (drop (i + 1) numbers)
unfolding fields
fields-more numbers i more = ap fields (drop-cons numbers i 0 more) ∙ ap (λ (n : ℕ). field (get_or numbers i 0) ++ fields (drop n numbers)) (sym (add-one i))

pub fields-done : (numbers : List ℕ) (i : ℕ) → length numbers ≤ i → fields (drop i numbers) ≡ ascii "\n"
unfolding fields
fields-done numbers i none = ap fields (drop_of_length-le numbers none)
