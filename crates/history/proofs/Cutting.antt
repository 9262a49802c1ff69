-- The list gone through from the front, with what is done so far: what is counted and sent then is what the cut of the whole list gives.
-- Assumes nothing.
use Prim.Native.Nat.{ℕ, ◌+◌}
use mathlib.Core.Bool.{true, false}
use mathlib.Core.List.{List, [], ◌∷◌, ◌++◌, append_assoc, append-nil, reverse_aux, reverse, reverse-reverse}
use mathlib.Core.Path.{◌≡◌, refl, sym, ap, ◌∙◌}
use native.Mathlib.Omega.{arith}
use Rattle.prelude.specs.Choice.{when◌then◌else◌}
use Rattle.history.specs.Lines.{superseded, Line, row, opened, line_of, Column}
use Rattle.history.specs.Runs.{Role, begins, goes_on, ends, passes, grown, so_far, Item, run, alone, completed, run_from, begun, aborted_if, item_at, items, count_in, sent_by, packets_sent}

-- the fragments so far behind a role, by those before it
abbrev pub held_on : Role → List (List ℕ) → List (List ℕ)
held_on (begins true piece link_up) held = []
held_on (begins false piece link_up) held = piece ∷ []
held_on (goes_on true piece link_up) held = []
held_on (goes_on false piece link_up) held = grown held piece
held_on (ends fate answer) held = []
held_on (passes answer) held = held

pub so-far-on : (role : Role) (earlier : List Role) → so_far (role ∷ earlier) ≡ held_on role (so_far earlier)
so-far-on (begins true piece link_up) earlier = refl
so-far-on (begins false piece link_up) earlier = refl
so-far-on (goes_on true piece link_up) earlier = refl
so-far-on (goes_on false piece link_up) earlier = refl
so-far-on (ends fate answer) earlier = refl
so-far-on (passes answer) earlier = refl

-- the fragments held, if there are any, as a run in this line
abbrev pub closing : Line → List (List ℕ) → List Item
closing line [] = []
closing line (piece ∷ pieces) = run (piece ∷ pieces) line ∷ []

-- the packet that a role ends, and what it completes or is itself
abbrev pub closed : Role → List (List ℕ) → List Item
closed (begins last piece link_up) held = closing (row superseded) held
closed (goes_on last piece link_up) held = []
closed (ends fate answer) held = closing (row fate) held
closed (passes answer) held = []

abbrev pub own : Role → List (List ℕ) → List Item
own (begins true piece link_up) held = completed link_up (piece ∷ []) ∷ []
own (begins false piece link_up) held = []
own (goes_on last piece link_up) [] = alone piece (line_of 2) ∷ []
own (goes_on true piece link_up) (p ∷ ps) = completed link_up ((p ∷ ps) ++ piece ∷ []) ∷ []
own (goes_on false piece link_up) (p ∷ ps) = []
own (ends fate answer) held = alone [] (line_of answer) ∷ []
own (passes answer) held = alone [] (line_of answer) ∷ []

-- all that is done, newest role first
abbrev pub done_back : (earlier : List Role) → List Item
done_back [] = []
done_back (role ∷ earlier) = (done_back earlier ++ closed role (so_far earlier)) ++ own role (so_far earlier)

pub count-append : (list more : List Item) (line : Line) (column : Column) → count_in (list ++ more) line column ≡ count_in list line column + count_in more line column
count-append [] more line column = omega arith
count-append (item ∷ list) more line column = omega (arith, count-append list more line column)

pub sent-append : (list more : List Item) → packets_sent (list ++ more) ≡ packets_sent list ++ packets_sent more
sent-append [] more = refl
sent-append (item ∷ list) more =
    ap (λ (ps : List (List ℕ)). sent_by item ++ ps) (sent-append list more) ∙ sym (append_assoc (sent_by item) (packets_sent list) (packets_sent more))

-- the run that the fragments held will be, once the rest of the list has come
abbrev pub pending : List (List ℕ) → (later : List Role) → List Item
pending [] later = []
pending (piece ∷ pieces) later = run_from (piece ∷ pieces) later ∷ []

-- what stands at a place, by the fragments so far
abbrev item_on : List (List ℕ) → Role → (later : List Role) → List Item
item_on held (begins last piece link_up) later = begun last piece link_up later ∷ []
item_on held (goes_on last piece link_up) later = aborted_if held piece
item_on held (ends fate answer) later = alone [] (line_of answer) ∷ []
item_on held (passes answer) later = alone [] (line_of answer) ∷ []

item_on-is : (earlier : List Role) (role : Role) (later : List Role) → item_at earlier role later ≡ item_on (so_far earlier) role later
item_on-is earlier (begins last piece link_up) later = refl
item_on-is earlier (goes_on last piece link_up) later = refl
item_on-is earlier (ends fate answer) later = refl
item_on-is earlier (passes answer) later = refl

pending-nil : (held : List (List ℕ)) → pending held [] ≡ closing opened held
pending-nil [] = refl
pending-nil (p ∷ ps) = refl

module _ (line : Line) (column : Column) where
  abbrev count : List Item → ℕ
  count list = count_in list line column

  step_count : (role : Role) (held : List (List ℕ)) (later : List Role)
      → count (closed role held) + count (own role held) + count (pending (held_on role held) later) ≡ count (pending held (role ∷ later)) + count (item_on held role later)
  step_count (begins true d k) [] later = omega arith
  step_count (begins true d k) (p ∷ ps) later = omega arith
  step_count (begins false d k) [] later = omega arith
  step_count (begins false d k) (p ∷ ps) later = omega arith
  step_count (goes_on true d k) [] later = omega arith
  step_count (goes_on true d k) (p ∷ ps) later = omega arith
  step_count (goes_on false d k) [] later = omega arith
  step_count (goes_on false d k) (p ∷ ps) later = omega arith
  step_count (ends fate answer) [] later = omega arith
  step_count (ends fate answer) (p ∷ ps) later = omega arith
  step_count (passes answer) [] later = omega arith
  step_count (passes answer) (p ∷ ps) later = omega arith

  count-from : (later earlier : List Role)
      → count (done_back (reverse_aux later earlier)) + count (closing opened (so_far (reverse_aux later earlier)))
      ≡ count (done_back earlier) + count (pending (so_far earlier) later) + count (items earlier later)
  count-from [] earlier = omega (arith, ap count (pending-nil (so_far earlier)))
  count-from (role ∷ later) earlier =
      let held : List (List ℕ) = so_far earlier in
      omega (
        arith,
        count-from later (role ∷ earlier),
        ap (λ (h : List (List ℕ)). count (pending h later)) (so-far-on role earlier),
        count-append (done_back earlier ++ closed role held) (own role held) line column,
        count-append (done_back earlier) (closed role held) line column,
        step_count role held later,
        ap count (item_on-is earlier role later),
        count-append (item_at earlier role later) (items (role ∷ earlier) later) line column,
      )

  -- of roles newest first
  pub cut-count : (earlier : List Role) → count_in (items [] (reverse earlier)) line column ≡ count (done_back earlier) + count (closing opened (so_far earlier))
  cut-count earlier =
      let back : reverse_aux (reverse earlier) [] ≡ earlier = reverse-reverse earlier in
      sym (ap (λ (e : List Role). count (done_back e) + count (closing opened (so_far e))) (sym back) ∙ count-from (reverse earlier) [] ∙ omega arith)

-- the answers of what stands alone: 3, 7 to 11, and 17
pub data Alone : ℕ → Type 0 where
  of-3 : Alone 3
  of-7 : Alone 7
  of-8 : Alone 8
  of-9 : Alone 9
  of-10 : Alone 10
  of-11 : Alone 11
  of-17 : Alone 17

abbrev pub IsRole : Role → Type 0
IsRole (begins last piece link_up) = Unit
IsRole (goes_on last piece link_up) = Unit
IsRole (ends fate answer) = Alone answer
IsRole (passes answer) = Alone answer

abbrev pub AreRoles : List Role → Type 0
AreRoles [] = Unit
AreRoles (role ∷ rest) = IsRole role × AreRoles rest

pub alone-not-sent : (answer : ℕ) → Alone answer → packets_sent (alone [] (line_of answer) ∷ []) ≡ []
unfolding when◌then◌else◌
alone-not-sent _ of-3 = refl
alone-not-sent _ of-7 = refl
alone-not-sent _ of-8 = refl
alone-not-sent _ of-9 = refl
alone-not-sent _ of-10 = refl
alone-not-sent _ of-11 = refl
alone-not-sent _ of-17 = refl

open-not-sent : (held : List (List ℕ)) → packets_sent (closing opened held) ≡ []
unfolding when◌then◌else◌
open-not-sent [] = refl
open-not-sent (p ∷ ps) = refl

step-sent : (role : Role) (held : List (List ℕ)) (later : List Role) → IsRole role
    → (packets_sent (closed role held) ++ packets_sent (own role held)) ++ packets_sent (pending (held_on role held) later)
    ≡ packets_sent (pending held (role ∷ later)) ++ packets_sent (item_on held role later)
step-sent (begins true d k) [] later i = simp append-nil
step-sent (begins true d k) (p ∷ ps) later i = simp append-nil
step-sent (begins false d k) [] later i = simp append-nil
step-sent (begins false d k) (p ∷ ps) later i = simp append-nil
step-sent (goes_on true d k) [] later i = simp append-nil
step-sent (goes_on true d k) (p ∷ ps) later i = simp append-nil
step-sent (goes_on false d k) [] later i = simp append-nil
step-sent (goes_on false d k) (p ∷ ps) later i = simp append-nil
step-sent (ends fate answer) [] later i = simp append-nil
step-sent (ends fate answer) (p ∷ ps) later i = simp append-nil
step-sent (passes answer) [] later i = simp append-nil
step-sent (passes answer) (p ∷ ps) later i =
    let none : packets_sent (alone [] (line_of answer) ∷ []) ≡ [] = alone-not-sent answer i in
    let rest : List (List ℕ) = packets_sent (run_from (p ∷ ps) later ∷ []) in
    ap (λ (s : List (List ℕ)). s ++ rest) none ∙ sym (ap (λ (s : List (List ℕ)). rest ++ s) none ∙ append-nil rest)

sent-from : (later earlier : List Role) → AreRoles later
    → packets_sent (done_back (reverse_aux later earlier)) ≡ (packets_sent (done_back earlier) ++ packets_sent (pending (so_far earlier) later)) ++ packets_sent (items earlier later)
sent-from [] earlier i =
    sym (append-nil _ ∙ (ap (λ (ps : List (List ℕ)). packets_sent (done_back earlier) ++ ps) (ap packets_sent (pending-nil (so_far earlier)) ∙ open-not-sent (so_far earlier)) ∙ append-nil (packets_sent (done_back earlier))))
sent-from (role ∷ later) earlier i =
    let held : List (List ℕ) = so_far earlier in
    let done : List (List ℕ) = packets_sent (done_back earlier) in
    let mine : List (List ℕ) = packets_sent (closed role held) ++ packets_sent (own role held) in
    let next : List (List ℕ) = packets_sent (pending (held_on role held) later) in
    let rest : List (List ℕ) = packets_sent (items (role ∷ earlier) later) in
    let appended : packets_sent (done_back (role ∷ earlier)) ≡ done ++ mine =
    sent-append (done_back earlier ++ closed role held) (own role held)
    ∙ (ap (λ (ps : List (List ℕ)). ps ++ packets_sent (own role held)) (sent-append (done_back earlier) (closed role held))
    ∙ append_assoc done (packets_sent (closed role held)) (packets_sent (own role held))) in
    sent-from later (role ∷ earlier) i.1
    ∙ (ap (λ (ps : List (List ℕ)). (ps ++ packets_sent (pending (so_far (role ∷ earlier)) later)) ++ rest) appended
    ∙ (ap (λ (h : List (List ℕ)). ((done ++ mine) ++ packets_sent (pending h later)) ++ rest) (so-far-on role earlier)
    ∙ (ap (λ (ps : List (List ℕ)). ps ++ rest) (append_assoc done mine next ∙ ap (λ (ps : List (List ℕ)). done ++ ps) (step-sent role held later i.0))
    ∙ sym (ap (λ (ps : List (List ℕ)). (done ++ packets_sent (pending held (role ∷ later))) ++ ps) (sent-append (item_at earlier role later) (items (role ∷ earlier) later) ∙ ap (λ (own : List Item). packets_sent own ++ rest) (item_on-is earlier role later))
    ∙ simp append_assoc))))

pub cut-sent : (earlier : List Role) → AreRoles (reverse earlier) → packets_sent (items [] (reverse earlier)) ≡ packets_sent (done_back earlier)
cut-sent earlier i = sym (ap (λ (e : List Role). packets_sent (done_back e)) (sym (reverse-reverse earlier)) ∙ sent-from (reverse earlier) [] i)
