-- One more transaction moves the places of the open packet to one line, and no other place.
-- Assumes nothing.
use Prim.Native.Nat.{ℕ}
use mathlib.Core.Bool.{Bool, true, false}
use mathlib.Core.List.{List, [], ◌∷◌, ◌++◌, map, reverse_aux, reverse, reverse-append, reverse-cons, reverse-reverse}
use mathlib.Core.Path.{◌≡◌, refl, sym, ap, ◌∙◌}
use Rattle.prelude.proofs.Tests.{if-cases}
use Rattle.record.specs.Transaction.{Transaction}
use Rattle.history.specs.Lines.{Line, line_of}
use Rattle.history.specs.Packets.{total_of}
use Rattle.history.specs.Reading.{Entry, counted, Setup}
use Rattle.history.specs.Settings.{is_mac_kept}
use Rattle.history.specs.Runs.{Role, begins, goes_on, ends, passes, role_of, roles_back, roles, grown, so_far, last_answer, run_from}
use Rattle.history.specs.Partition.{line_from, line_at, lines_after, lines_of}
use Rattle.history.specs.LinesStay.{moved_to, LinesStay}
use Rattle.history.proofs.Cutting.{Alone, of-3, of-7, of-8, of-9, of-10, of-11, of-17, IsRole, AreRoles}
use Rattle.history.proofs.Roles.{are-roles, are-reversed, line-of-answer}

-- lines that are never that of an open packet
abbrev Stays : Line → ℕ → Type 0
Stays to answer = line_of answer ≡ moved_to to (line_of answer)

last-stays : (to : Line) (link_up : Bool) (size : ℕ) → Stays to (last_answer link_up size)
unfolding last_answer
last-stays to link_up size =
    if-cases (Stays to) _ _ _ (λ _. refl) (λ _. if-cases (Stays to) _ _ _ (λ _. refl) (λ _. if-cases (Stays to) _ _ _ (λ _. refl) (λ _. refl)))

alone-stays : (to : Line) (answer : ℕ) → Alone answer → Stays to answer
alone-stays to _ of-3 = refl
alone-stays to _ of-7 = refl
alone-stays to _ of-8 = refl
alone-stays to _ of-9 = refl
alone-stays to _ of-10 = refl
alone-stays to _ of-11 = refl
alone-stays to _ of-17 = refl

-- with one role more behind the others
module _ (role : Role) where
  -- where it brings the run that is open then
  abbrev goal : (later earlier : List Role) → Line
  goal later earlier = (run_from (so_far (reverse_aux later earlier)) (role ∷ [])).line

  run-moves : (later earlier : List Role) (p : List ℕ) (ps : List (List ℕ)) → so_far earlier ≡ p ∷ ps
      → (run_from (p ∷ ps) (later ++ role ∷ [])).line ≡ moved_to (goal later earlier) (run_from (p ∷ ps) later).line
  run-moves [] earlier p ps e = ap (λ (h : List (List ℕ)). (run_from h (role ∷ [])).line) (sym e)
  run-moves (begins l d k ∷ later) earlier p ps e = refl
  run-moves (goes_on true d k ∷ later) earlier p ps e = last-stays _ k (total_of ((p ∷ ps) ++ d ∷ []))
  run-moves (goes_on false d k ∷ later) earlier p ps e = run-moves later (goes_on false d k ∷ earlier) p (ps ++ d ∷ []) (ap (λ (h : List (List ℕ)). grown h d) e)
  run-moves (ends fate answer ∷ later) earlier p ps e = refl
  run-moves (passes answer ∷ later) earlier p ps e = run-moves later (passes answer ∷ earlier) p ps e

  from-moves : (later earlier : List Role) (held : List (List ℕ)) → so_far earlier ≡ held
      → line_from held (later ++ role ∷ []) ≡ moved_to (goal later earlier) (line_from held later)
  from-moves later earlier [] e = refl
  from-moves later earlier (p ∷ ps) e = run-moves later earlier p ps e

  line-moves : (later earlier : List Role) (r : Role) → IsRole r → line_at earlier r (later ++ role ∷ []) ≡ moved_to (goal (r ∷ later) earlier) (line_at earlier r later)
  line-moves later earlier (begins true d k) i = last-stays _ k (total_of (d ∷ []))
  line-moves later earlier (begins false d k) i = run-moves later (begins false d k ∷ earlier) d [] refl
  line-moves later earlier (goes_on l d k) i = from-moves (goes_on l d k ∷ later) earlier (so_far earlier) refl
  line-moves later earlier (ends fate answer) i = alone-stays _ answer i
  line-moves later earlier (passes answer) i = alone-stays _ answer i

  lines-move : (later earlier : List Role) → AreRoles later
      → lines_after earlier (later ++ role ∷ []) ≡ map (moved_to (goal later earlier)) (lines_after earlier later) ++ line_at (reverse_aux later earlier) role [] ∷ []
  lines-move [] earlier i = refl
  lines-move (r ∷ later) earlier i =
      ap (λ (l : Line). l ∷ lines_after (r ∷ earlier) (later ++ role ∷ [])) (line-moves later earlier r i.0)
      ∙ ap (λ (ls : List Line). moved_to (goal (r ∷ later) earlier) (line_at earlier r later) ∷ ls) (lines-move later (r ∷ earlier) i.1)

-- the roles of one entry more
pub roles-snoc : (setup : Setup) (entries : List Entry) (t : Transaction) → roles setup (entries ++ counted t ∷ []) ≡ roles setup entries ++ role_of setup (is_mac_kept setup (reverse entries)) t ∷ []
roles-snoc setup entries t =
    ap (λ (list : List Entry). reverse (roles_back setup list)) (reverse-append entries (counted t ∷ []))
    ∙ reverse-cons (role_of setup (is_mac_kept setup (reverse entries)) t) (roles_back setup (reverse entries))

pub lines_stay : LinesStay
lines_stay setup entries t =
    let back : List Role = roles_back setup (reverse entries) in
    let role : Role = role_of setup (is_mac_kept setup (reverse entries)) t in
    ap (lines_after []) (roles-snoc setup entries t)
    ∙ (lines-move role (reverse back) [] (are-reversed back [] (are-roles setup (reverse entries)) tt)
    ∙ (ap (λ (b : List Role). map (moved_to (run_from (so_far b) (role ∷ [])).line) (lines_of setup entries) ++ line_at b role [] ∷ []) (reverse-reverse back)
    ∙ ap (λ (l : Line). map (moved_to (run_from (so_far back) (role ∷ [])).line) (lines_of setup entries) ++ l ∷ []) (line-of-answer back role)))
