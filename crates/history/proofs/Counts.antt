-- The numbers of an account are those of what is done and of the fragments held, and counting a transaction keeps it so.
-- Assumes nothing.
use Prim.Native.Nat.{ℕ, ◌+◌, ◌*◌, ◌<◌}
use mathlib.Core.List.{List, [], ◌∷◌, ◌++◌, append-nil}
use mathlib.Core.Path.{◌≡◌, refl, sym, ap, ◌∙◌, subst}
use native.Mathlib.Omega.{arith}
use Rattle.std.specs.Prelude.{Option, None, Some}
use lib.Dec.{eqb, ltb}
use lib.ListN.{length}
use borrow.Author.Tests.{eqb-true, eqb-false, ne_eqb, eq-eqb, lt-ltb}
use Rattle.prelude.specs.Choice.{when◌then◌else◌}
use Rattle.prelude.proofs.Tests.{if-true, if-false, if-cases}
use Rattle.state.specs.declared.Account.{Account}
use Rattle.state.specs.declared.row.Row.{Row}
use Rattle.state.specs.declared.row.Row.TheVariants as the_row
use Rattle.state.specs.Account.{row_count, columns, no_row, place_of, row_number, packets_in, fragments_in, bytes_in, Formed, account_of}
use Rattle.outcome.specs.declared.Outcome.{Outcome}
use Rattle.translator.specs.Counting as counting
use Rattle.translator.specs.Judge.{judged, ends_in}
use Rattle.translator.proofs.Added.{added-formed, added-here, added-elsewhere}
use Rattle.history.specs.Lines.{Fate, row_of, sent, superseded, flushed, broken, over, short, linkdown, aborted, badlength, badcheck, Line, row, opened, taken, refused, line_number, Column, packets, fragments, bytes, is_line, in_line}
use Rattle.history.specs.Packets.{total_of}
use Rattle.history.specs.Runs.{Item, run, alone, amount, count_in}
use Rattle.history.proofs.Cutting.{closing, count-append}

pub row-in-grid : (fate : Fate) → row_of fate < row_count
row-in-grid sent = omega arith
row-in-grid superseded = omega arith
row-in-grid flushed = omega arith
row-in-grid broken = omega arith
row-in-grid over = omega arith
row-in-grid short = omega arith
row-in-grid linkdown = omega arith
row-in-grid aborted = omega arith
row-in-grid badlength = omega arith
row-in-grid badcheck = omega arith

-- the row of a fate
abbrev pub fate_row : Fate → Row
fate_row sent = the_row.Sent
fate_row superseded = the_row.Superseded
fate_row flushed = the_row.Flushed
fate_row broken = the_row.Broken
fate_row over = the_row.Over
fate_row short = the_row.Short
fate_row linkdown = the_row.LinkDown
fate_row aborted = the_row.Aborted
fate_row badlength = the_row.BadLength
fate_row badcheck = the_row.BadCheck

fate-place : (fate : Fate) → place_of (fate_row fate) ≡ row_of fate
fate-place sent = refl
fate-place superseded = refl
fate-place flushed = refl
fate-place broken = refl
fate-place over = refl
fate-place short = refl
fate-place linkdown = refl
fate-place aborted = refl
fate-place badlength = refl
fate-place badcheck = refl

pub in-other-line : (line : Line) (count : ℕ) (other : Line) → (line_number line ≡ line_number other → ⊥) → in_line line count other ≡ 0
unfolding in_line
in-other-line line count other n = if-false _ _ _ (ne_eqb _ _ n)

pub in-same-line : (line : Line) (count : ℕ) → in_line line count line ≡ count
unfolding in_line
in-same-line line count = if-true (is_line line line) count 0 (eq-eqb (line_number line) (line_number line) refl)

-- a cell of the grid, and what is added to it
abbrev pub cell_in : ℕ → Column → List ℕ → ℕ
cell_in at packets grid = packets_in at grid
cell_in at fragments grid = fragments_in at grid
cell_in at bytes grid = bytes_in at grid

abbrev amount_of : ℕ → ℕ → ℕ → Column → ℕ
amount_of p f b packets = p
amount_of p f b fragments = f
amount_of p f b bytes = b

amount-of : (item : Item) (c : Column) → amount item c ≡ amount_of item.packet_count (length item.pieces) (total_of item.pieces) c
unfolding amount
amount-of item packets = refl
amount-of item fragments = refl
amount-of item bytes = refl

-- a count, where it belongs to the row that is asked for
abbrev in_row : ℕ → ℕ → Fate → ℕ
in_row at count other = when eqb at (row_of other) then count else 0

same_row : (fate : Fate) (count : ℕ) (other : Fate) → in_row (row_of fate) count other ≡ in_line (row fate) count (row other)
unfolding in_line
same_row fate count other = refl

no-row : (count : ℕ) (other : Fate) → in_row no_row count other ≡ 0
no-row count other = if-false _ _ _ (ne_eqb no_row (row_of other) (λ q. omega (arith, row-in-grid other, q)))

cell-here : (at p f b : ℕ) (grid : List ℕ) (c : Column) → length grid ≡ row_count * columns → at < row_count → cell_in at c (counting.add_to at p f b grid) ≡ cell_in at c grid + amount_of p f b c
cell-here at p f b grid packets formed l = (added-here grid at p f b formed l).packets_more
cell-here at p f b grid fragments formed l = (added-here grid at p f b formed l).fragments_more
cell-here at p f b grid bytes formed l = (added-here grid at p f b formed l).bytes_more

cell-elsewhere : (at p f b : ℕ) (grid : List ℕ) (other : ℕ) (c : Column) → length grid ≡ row_count * columns → (other ≡ at → ⊥) → cell_in other c (counting.add_to at p f b grid) ≡ cell_in other c grid
cell-elsewhere at p f b grid other packets formed n = (added-elsewhere grid at p f b formed other n).packets
cell-elsewhere at p f b grid other fragments formed n = (added-elsewhere grid at p f b formed other n).fragments
cell-elsewhere at p f b grid other bytes formed n = (added-elsewhere grid at p f b formed other n).bytes

-- a row that is added to gets the amounts, and no other does
cell-added : (at p f b : ℕ) (grid : List ℕ) (other : Fate) (c : Column) → length grid ≡ row_count * columns
    → cell_in (row_of other) c (counting.add_to at p f b grid) ≡ cell_in (row_of other) c grid + in_row at (amount_of p f b c) other
cell-added at p f b grid other c formed =
    if-cases (λ (n : ℕ). cell_in (row_of other) c (counting.add_to at p f b grid) ≡ cell_in (row_of other) c grid + n) (eqb at (row_of other)) _ _
    (λ e.
    let same : at ≡ row_of other = eqb-true _ _ e in
    subst (λ (r : ℕ). cell_in (row_of other) c (counting.add_to r p f b grid) ≡ cell_in (row_of other) c grid + amount_of p f b c) (sym same)
    (cell-here (row_of other) p f b grid c formed (row-in-grid other)))
    (λ e. cell-elsewhere at p f b grid (row_of other) c formed (λ q. eqb-false _ _ e (sym q)) ∙ omega arith)

-- what is added to a row, and to the commands taken and refused, is what these items count
pub record Adds (at p f b k q : ℕ) (more : List Item) : Type 0 where
  pub in_rows : (other : Fate) (c : Column) → in_row at (amount_of p f b c) other ≡ count_in more (row other) c
  pub in_taken : k ≡ count_in more taken fragments
  pub in-refused : q ≡ count_in more refused fragments
  pub none_open : (c : Column) → count_in more opened c ≡ 0

pub adds_none : (p f b : ℕ) → Adds no_row p f b 0 0 []
adds_none p f b = record { in_rows = λ other c. no-row (amount_of p f b c) other; in_taken = refl; in-refused = refl; none_open = λ c. refl }

-- an item in a row
adds-item : (fate : Fate) (item : Item) → item.line ≡ row fate → Adds (row_of fate) item.packet_count (length item.pieces) (total_of item.pieces) 0 0 (item ∷ [])
adds-item fate item e = record {
  in_rows = λ other c.
      same_row fate (amount_of item.packet_count (length item.pieces) (total_of item.pieces) c) other
      ∙ (ap (λ (n : ℕ). in_line (row fate) n (row other)) (sym (amount-of item c)) ∙ (ap (λ (line : Line). in_line line (amount item c) (row other)) (sym e) ∙ omega arith));
  in_taken = sym (elsewhere fragments taken (λ q. omega (arith, row-in-grid fate, q)));
  in-refused = sym (elsewhere fragments refused (λ q. omega (arith, row-in-grid fate, q)));
  none_open = λ c. elsewhere c opened (λ q. omega (arith, row-in-grid fate, q));
}
  where
    elsewhere : (c : Column) (other : Line) → (row_of fate ≡ line_number other → ⊥) → count_in (item ∷ []) other c ≡ 0
    elsewhere c other n = omega (arith, ap (λ (line : Line). in_line line (amount item c) other) e, in-other-line (row fate) (amount item c) other n)

pub adds_run : (fate : Fate) (pieces : List (List ℕ)) (f b : ℕ) → f ≡ length pieces → b ≡ total_of pieces → Adds (place_of (fate_row fate)) 1 f b 0 0 (run pieces (row fate) ∷ [])
adds_run fate pieces f b ef eb = rw (fate-place fate, ef, eb) (adds-item fate (run pieces (row fate)) refl)

pub adds-alone : (fate : Fate) (piece : List ℕ) → Adds (place_of (fate_row fate)) 0 1 (length piece) 0 0 (alone piece (row fate) ∷ [])
adds-alone fate piece =
    rw (fate-place fate)
    (subst (λ (bytes : List ℕ). Adds (row_of fate) 0 1 (length bytes) 0 0 (alone piece (row fate) ∷ [])) (append-nil piece) (adds-item fate (alone piece (row fate)) refl))

-- a command, in a line that is no row
adds-command : (line : Line) (k q : ℕ) → ((fate : Fate) → line_number line ≡ row_of fate → ⊥) → k ≡ count_in (alone [] line ∷ []) taken fragments
    → q ≡ count_in (alone [] line ∷ []) refused fragments → ((c : Column) → count_in (alone [] line ∷ []) opened c ≡ 0) → Adds no_row 0 0 0 k q (alone [] line ∷ [])
adds-command line k q apart in-taken in-refused none = record {
  in_rows = λ other c. no-row (amount_of 0 0 0 c) other ∙ sym (omega (arith, in-other-line line (amount (alone [] line) c) (row other) (apart other)));
  in_taken = in-taken;
  in-refused = in-refused;
  none_open = none;
}

pub adds-taken : Adds no_row 0 0 0 1 0 (alone [] taken ∷ [])
unfolding amount in_line when◌then◌else◌
adds-taken = adds-command taken 1 0 (λ fate e. omega (arith, row-in-grid fate, e)) refl refl (λ c. refl)

pub adds-refused : Adds no_row 0 0 0 0 1 (alone [] refused ∷ [])
unfolding amount in_line when◌then◌else◌
adds-refused = adds-command refused 0 1 (λ fate e. omega (arith, row-in-grid fate, e)) refl refl (λ c. refl)

-- the packet that ends, if one is open
pub adds-closing : (fate : Fate) (held : List (List ℕ)) (f b : ℕ) → f ≡ length held → b ≡ total_of held → Adds (row_number (ends_in (fate_row fate) f)) 1 f b 0 0 (closing (row fate) held)
unfolding ends_in
adds-closing fate [] f b ef eb =
    if-cases (λ (at : Option Row). Adds (row_number at) 1 f b 0 0 []) (ltb 0 f) (Some (fate_row fate)) None
    (λ e. absurd (omega (arith, borrow.Author.Tests.ltb-true 0 f e, ef))) (λ _. adds_none 1 f b)
adds-closing fate (p ∷ ps) f b ef eb = rw (if-true (ltb 0 f) (Some (fate_row fate)) None (lt-ltb 0 f (omega (arith, ef)))) (adds_run fate (p ∷ ps) f b ef eb)

-- nothing of it is left open then
pub left-none : (fate : Fate) (held : List (List ℕ)) (f n : ℕ) → f ≡ length held → (f ≡ 0 → n ≡ 0) → counting.left_open (row_number (ends_in (fate_row fate) f)) n ≡ 0
unfolding ends_in counting.left_open
left-none fate held f n ef none =
    if-cases (λ (at : Option Row). (when ltb (row_number at) row_count then 0 else n) ≡ 0) (ltb 0 f) (Some (fate_row fate)) None
    (λ _. if-true _ _ _ (lt-ltb _ _ (rw (fate-place fate) (row-in-grid fate))))
    (λ e. if-false (ltb no_row row_count) 0 n refl ∙ none (omega (arith, borrow.Author.Tests.ltb-false 0 f e)))

pub left-all : (n : ℕ) → counting.left_open no_row n ≡ n
unfolding counting.left_open
left-all n = if-false _ _ _ refl

pub record Counts (a : Account) (held : List (List ℕ)) (done : List Item) (total : ℕ) : Type 0 where
  pub formed : Formed a
  pub total_is : a.beside.total ≡ total
  pub held_fragments : a.beside.open_fragments ≡ length held
  pub held_bytes : a.beside.open_bytes ≡ total_of held
  pub cells : (fate : Fate) (c : Column) → cell_in (row_of fate) c a.grid ≡ count_in done (row fate) c
  pub taken-are : a.beside.taken ≡ count_in done taken fragments
  pub refused-are : a.beside.refused ≡ count_in done refused fragments
  pub none_open : (c : Column) → count_in done opened c ≡ 0

-- of a packet with no fragments, no bytes are open
pub none-held : (held : List (List ℕ)) (f b : ℕ) → f ≡ length held → b ≡ total_of held → f ≡ 0 → b ≡ 0
none-held [] f b ef eb none = eb
none-held (p ∷ ps) f b ef eb none = absurd (omega (arith, ef, none))

-- a transaction is counted: the packet that it ends, and its own line
pub counted-counts : {held : List (List ℕ)} {done : List Item} {total : ℕ} (o : Outcome) (ends : Option Row) (size : ℕ) (a : Account) → Counts a held done total
    → (held_after : List (List ℕ)) (closed own : List Item)
    → Adds (row_number ends) 1 a.beside.open_fragments a.beside.open_bytes 0 0 closed
    → (at : Option Row) (p f b open_fragments open_bytes k q : ℕ)
    → counting.outcome_tally o (counting.left_open (row_number ends) a.beside.open_fragments) (counting.left_open (row_number ends) a.beside.open_bytes) size ≡ counting.tally at p f b open_fragments open_bytes k q
    → Adds (row_number at) p f b k q own → open_fragments ≡ length held_after → open_bytes ≡ total_of held_after
    → Counts (counting.counted (judged o ends size) a) held_after ((done ++ closed) ++ own) (1 + total)
unfolding counting.counted counting.grid_after
counted-counts {held} {done} {total} o ends size a i held_after closed own closes at p f b open_fragments open_bytes k q e mine ef eb =
    subst (λ t. Counts (account_of (counting.grid_after (row_number ends) a.beside t a.grid) (counting.beside_after t a.beside)) held_after ((done ++ closed) ++ own) (1 + total)) (sym e)
    (record {
      formed = added-formed first (row_number ends) 1 a.beside.open_fragments a.beside.open_bytes first-formed;
      total_is = omega (arith, i.total_is);
      held_fragments = ef;
      held_bytes = eb;
      cells = λ fate c.
          cell-added (row_number ends) 1 a.beside.open_fragments a.beside.open_bytes first fate c first-formed
          ∙ omega (arith, cell-added (row_number at) p f b a.grid fate c i.formed, i.cells fate c, closes.in_rows fate c, mine.in_rows fate c, sum (row fate) c);
      taken-are = omega (arith, i.taken-are, closes.in_taken, mine.in_taken, sum taken fragments);
      refused-are = omega (arith, i.refused-are, closes.in-refused, mine.in-refused, sum refused fragments);
      none_open = λ c. omega (arith, i.none_open c, closes.none_open c, mine.none_open c, sum opened c);
    })
  where
    first : List ℕ
    first = counting.add_to (row_number at) p f b a.grid

    first-formed : length first ≡ row_count * columns
    first-formed = added-formed a.grid (row_number at) p f b i.formed

    sum : (line : Line) (c : Column) → count_in ((done ++ closed) ++ own) line c ≡ count_in done line c + count_in closed line c + count_in own line c
    sum line c = count-append (done ++ closed) own line c ∙ ap (λ (n : ℕ). n + count_in own line c) (count-append done closed line c)
