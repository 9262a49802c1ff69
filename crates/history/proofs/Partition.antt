-- Every place of the list stands in one line, and the account's fragments are the counts of those.
-- Assumes nothing.
use Prim.Native.Nat.{ℕ, suc, ◌+◌}
use mathlib.Core.Bool.{Bool, true, false}
use mathlib.Core.List.{List, [], ◌∷◌, ◌++◌, reverse_aux, reverse}
use mathlib.Core.Path.{◌≡◌, refl, ap, ◌∙◌}
use native.Mathlib.Omega.{arith}
use lib.ListN.{length, length-append, length-reverse_aux}
use Rattle.prelude.specs.Choice.{when◌then◌else◌}
use Rattle.prelude.proofs.Tests.{if-cases}
use Rattle.history.specs.Lines.{Fate, sent, superseded, flushed, broken, over, short, linkdown, aborted, badlength, badcheck, Line, row, opened, lines, line_of, fragments, is_line, in_line}
use Rattle.history.specs.Packets.{total_of}
use Rattle.history.specs.Reading.{Entry, counted, total, Setup}
use Rattle.history.specs.Runs.{Role, begins, goes_on, ends, passes, roles_back, roles, grown, so_far, last_answer, run_from, amount, items, count_in, items_of}
use Rattle.history.specs.Partition.{line_from, line_at, lines_after, lines_of, places_in, sum_over, Partition}
use Rattle.history.proofs.Cutting.{pending, Alone, of-3, of-7, of-8, of-9, of-10, of-11, of-17, IsRole, AreRoles}
use Rattle.history.proofs.Roles.{are-roles, are-reversed, roles-length}

in-line-add : (line : Line) (m n : ℕ) (other : Line) → in_line line (m + n) other ≡ in_line line m other + in_line line n other
unfolding in_line when◌then◌else◌
in-line-add line m n other = by-test (is_line line other)
  where
    by-test : (t : Bool) → (when t then m + n else 0) ≡ (when t then m else 0) + (when t then n else 0)
    by-test true = refl
    by-test false = refl

one_more : (line : Line) (pieces : List (List ℕ)) (d : List ℕ) (other : Line) → in_line line (length (pieces ++ d ∷ [])) other ≡ in_line line 1 other + in_line line (length pieces) other
one_more line pieces d other = rw length-append (in-line-add line (length pieces) 1 other ∙ omega arith)

-- of the run that goes on at a place, the fragments so far in its line
abbrev held_in : List (List ℕ) → (later : List Role) → Line → ℕ
held_in [] later line = 0
held_in (p ∷ ps) later line = in_line (run_from (p ∷ ps) later).line (length (p ∷ ps)) line

-- where the run takes in nothing more, these are all
run-over : (held : List (List ℕ)) (later : List Role) (line : Line) → (run_from held later).pieces ≡ held → held_in held later line ≡ count_in (pending held later) line fragments
unfolding amount
run-over [] later line e = refl
run-over (p ∷ ps) later line e = rw e (omega arith)

places : (later earlier : List Role) (held : List (List ℕ)) → so_far earlier ≡ held → (line : Line)
    → places_in (lines_after earlier later) line + held_in held later line ≡ count_in (pending held later) line fragments + count_in (items earlier later) line fragments
unfolding amount
places [] earlier [] e line = refl
places [] earlier (p ∷ ps) e line = omega arith
places (begins true d k ∷ later) earlier held e line =
    omega (arith, places later (begins true d k ∷ earlier) [] refl line, run-over held (begins true d k ∷ later) line refl)
places (begins false d k ∷ later) earlier held e line =
    omega (arith, places later (begins false d k ∷ earlier) (d ∷ []) refl line, run-over held (begins false d k ∷ later) line refl)
places (goes_on true d k ∷ later) earlier [] e line = rw e (omega (arith, places later (goes_on true d k ∷ earlier) [] refl line))
places (goes_on true d k ∷ later) earlier (p ∷ ps) e line =
    rw e (omega (arith, places later (goes_on true d k ∷ earlier) [] refl line, one_more (run_from (p ∷ ps) (goes_on true d k ∷ later)).line (p ∷ ps) d line))
places (goes_on false d k ∷ later) earlier [] e line =
    rw e (omega (arith, places later (goes_on false d k ∷ earlier) [] (ap (λ (h : List (List ℕ)). grown h d) e) line))
places (goes_on false d k ∷ later) earlier (p ∷ ps) e line =
    rw e
    (omega (
      arith,
      places later (goes_on false d k ∷ earlier) ((p ∷ ps) ++ d ∷ []) (ap (λ (h : List (List ℕ)). grown h d) e) line,
      one_more (run_from (p ∷ ps) (goes_on false d k ∷ later)).line (p ∷ ps) d line,
    ))
places (ends fate answer ∷ later) earlier held e line =
    omega (arith, places later (ends fate answer ∷ earlier) [] refl line, run-over held (ends fate answer ∷ later) line refl)
places (passes answer ∷ later) earlier [] e line = omega (arith, places later (passes answer ∷ earlier) [] e line)
places (passes answer ∷ later) earlier (p ∷ ps) e line = omega (arith, places later (passes answer ∷ earlier) (p ∷ ps) e line)

counts_are_places : (list : List Role) (line : Line) → count_in (items [] list) line fragments ≡ places_in (lines_after [] list) line
counts_are_places list line = omega (arith, places list [] [] refl line)

a_line_each : (earlier later : List Role) → length (lines_after earlier later) ≡ length later
a_line_each earlier [] = refl
a_line_each earlier (role ∷ later) = ap suc (a_line_each (role ∷ earlier) later)

-- a line that is one of the list of lines, once
abbrev Once : Line → Type 0
Once line = sum_over lines (in_line line 1) ≡ 1

row-once : (fate : Fate) → Once (row fate)
unfolding in_line when◌then◌else◌
row-once sent = refl
row-once superseded = refl
row-once flushed = refl
row-once broken = refl
row-once over = refl
row-once short = refl
row-once linkdown = refl
row-once aborted = refl
row-once badlength = refl
row-once badcheck = refl

opened-once : Once opened
unfolding in_line when◌then◌else◌
opened-once = refl

last-once : (link_up : Bool) (size : ℕ) → Once (line_of (last_answer link_up size))
unfolding last_answer
last-once link_up size =
    if-cases Is _ _ _ (λ _. row-once _) (λ _. if-cases Is _ _ _ (λ _. row-once _) (λ _. if-cases Is _ _ _ (λ _. row-once _) (λ _. row-once _)))
  where
    Is : ℕ → Type 0
    Is answer = Once (line_of answer)

alone-once : (answer : ℕ) → Alone answer → Once (line_of answer)
unfolding in_line when◌then◌else◌
alone-once _ of-3 = refl
alone-once _ of-7 = refl
alone-once _ of-8 = refl
alone-once _ of-9 = refl
alone-once _ of-10 = refl
alone-once _ of-11 = refl
alone-once _ of-17 = refl

run-once : (later : List Role) (pieces : List (List ℕ)) → Once (run_from pieces later).line
run-once [] pieces = opened-once
run-once (begins l d k ∷ later) pieces = row-once superseded
run-once (goes_on true d k ∷ later) pieces = last-once k (total_of (pieces ++ d ∷ []))
run-once (goes_on false d k ∷ later) pieces = run-once later (pieces ++ d ∷ [])
run-once (ends fate answer ∷ later) pieces = row-once fate
run-once (passes answer ∷ later) pieces = run-once later pieces

from-once : (held : List (List ℕ)) (later : List Role) → Once (line_from held later)
from-once [] later = row-once aborted
from-once (p ∷ ps) later = run-once later (p ∷ ps)

line-once : (earlier : List Role) (role : Role) (later : List Role) → IsRole role → Once (line_at earlier role later)
line-once earlier (begins true d k) later i = last-once k (total_of (d ∷ []))
line-once earlier (begins false d k) later i = run-once later (d ∷ [])
line-once earlier (goes_on l d k) later i = from-once (so_far earlier) (goes_on l d k ∷ later)
line-once earlier (ends fate answer) later i = alone-once answer i
line-once earlier (passes answer) later i = alone-once answer i

sum-zero : (ls : List Line) → sum_over ls (places_in []) ≡ 0
sum-zero [] = refl
sum-zero (l ∷ ls) = omega (arith, sum-zero ls)

sum-add : (line : Line) (stand ls : List Line) → sum_over ls (places_in (line ∷ stand)) ≡ sum_over ls (in_line line 1) + sum_over ls (places_in stand)
sum-add line stand [] = refl
sum-add line stand (l ∷ ls) = omega (arith, sum-add line stand ls)

sum-places : (earlier later : List Role) → AreRoles later → sum_over lines (places_in (lines_after earlier later)) ≡ length later
sum-places earlier [] i = sum-zero lines
sum-places earlier (role ∷ later) i =
    sum-add (line_at earlier role later) (lines_after (role ∷ earlier) later) lines
    ∙ omega (arith, line-once earlier role later i.0, sum-places (role ∷ earlier) later i.1)

sum_same : (f g : Line → ℕ) → ((line : Line) → f line ≡ g line) → (ls : List Line) → sum_over ls f ≡ sum_over ls g
sum_same f g e [] = refl
sum_same f g e (l ∷ ls) = omega (arith, e l, sum_same f g e ls)

total-reversed : (list more : List Entry) → total (reverse_aux list more) ≡ total list + total more
total-reversed [] more = omega arith
total-reversed (counted t ∷ list) more = omega (arith, total-reversed list (counted t ∷ more))

pub total-reverse : (entries : List Entry) → total (reverse entries) ≡ total entries
total-reverse entries = omega (arith, total-reversed entries [])

pub as-many-roles : (setup : Setup) (entries : List Entry) → length (roles setup entries) ≡ total entries
as-many-roles setup entries = omega (arith, length-reverse_aux (roles_back setup (reverse entries)) [], roles-length setup (reverse entries), total-reverse entries)

pub partition : Partition
partition setup entries =
    let list : List Role = roles setup entries in
    let i : AreRoles list = are-reversed (roles_back setup (reverse entries)) [] (are-roles setup (reverse entries)) tt in
    record {
      a_line_each = a_line_each [] list ∙ as-many-roles setup entries;
      counts_are_places = counts_are_places list;
      all_lines =
          sum_same (λ (line : Line). count_in (items_of setup entries) line fragments) (places_in (lines_of setup entries)) (counts_are_places list) lines
          ∙ (sum-places [] list i ∙ as-many-roles setup entries);
    }
