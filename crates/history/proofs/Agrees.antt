-- What was reached is what the list says.
-- Assumes nothing.
use Prim.Native.Nat.{ℕ, ◌+◌}
use mathlib.Core.Bool.{Bool, true, false}
use mathlib.Core.List.{List, [], ◌∷◌, ◌++◌, reverse}
use mathlib.Core.Path.{◌≡◌, refl, sym, ap, ◌∙◌}
use native.Mathlib.Omega.{arith}
use lib.ListN.{length, get_or, length-append}
use Rattle.prelude.specs.Choice.{when◌then◌else◌}
use Rattle.prelude.proofs.Lists.{all-elements}
use Rattle.state.specs.declared.Beside.{Beside}
use Rattle.state.specs.Account.{besides, account_of}
use Rattle.history.specs.Lines.{Fate, sent, superseded, flushed, broken, over, short, linkdown, aborted, badlength, badcheck, row_of, fates, Line, row, opened, taken, refused, line_of, Column, packets, fragments, bytes, is_line, in_line, line_number, grid_of}
use Rattle.history.specs.Packets.{concatenated, total_of, with_fill}
use Rattle.history.specs.Reading.{Entry, total, Setup}
use Rattle.history.specs.Runs.{Role, begins, goes_on, ends, passes, roles_back, roles, so_far, Item, run, alone, last_answer, run_from, aborted_if, item_at, items, amount, count_in, items_of, account_for, packets_sent}
use Rattle.history.specs.Calls.{Kept}
use Rattle.history.specs.Demand3.{Agrees}
use Rattle.history.proofs.Cutting.{closing, done_back, count-append, sent-append, Alone, of-3, of-7, of-8, of-9, of-10, of-11, of-17, IsRole, AreRoles, cut-count, cut-sent}
use Rattle.history.proofs.Counts.{cell_in, row-in-grid, in-other-line, in-same-line}
use Rattle.history.proofs.Roles.{are-roles, are-reversed}
use Rattle.history.proofs.Partition.{total-reverse}
use Rattle.history.proofs.Reached.{Reached}

-- numbers beside the grid, and rows of it, that are the same
same_beside : (a b c d e a₁ b₁ c₁ d₁ e₁ : ℕ) → a ≡ a₁ → b ≡ b₁ → c ≡ c₁ → d ≡ d₁ → e ≡ e₁ → besides a b c d e ≡ besides a₁ b₁ c₁ d₁ e₁
same_beside a b c d e a₁ b₁ c₁ d₁ e₁ p q r s t = rw (p, q, r, s, t)

same_row : (a b c a₁ b₁ c₁ : ℕ) (more more₁ : List ℕ) → a ≡ a₁ → b ≡ b₁ → c ≡ c₁ → more ≡ more₁ → ◌≡◌ {A = List ℕ} (a ∷ b ∷ c ∷ more) (a₁ ∷ b₁ ∷ c₁ ∷ more₁)
same_row a b c a₁ b₁ c₁ more more₁ p q r s = rw (p, q, r, s)

-- the line of the open packet has its fragments and bytes, and no other line has
open-count : (held : List (List ℕ)) → (count_in (closing opened held) opened fragments ≡ length held) × (count_in (closing opened held) opened bytes ≡ total_of held)
unfolding amount
open-count [] = (refl, refl)
open-count (p ∷ ps) = (omega (arith, in-same-line opened (length (p ∷ ps))), omega (arith, in-same-line opened (total_of (p ∷ ps))))

not-open-count : (held : List (List ℕ)) (line : Line) (c : Column) → (10 ≡ line_number line → ⊥) → count_in (closing opened held) line c ≡ 0
not-open-count [] line c n = refl
not-open-count (p ∷ ps) line c n = omega (arith, in-other-line opened (amount (run (p ∷ ps) opened) c) line n)

-- a list of items counts as many packets as sent as it sends
abbrev AsMany : List Item → Type 0
AsMany list = count_in list (row sent) packets ≡ length (packets_sent list)

as-many-append : (list more : List Item) → AsMany list → AsMany more → AsMany (list ++ more)
as-many-append list more i j = rw (count-append list more (row sent) packets, sent-append list more, length-append (packets_sent list) (packets_sent more)) (omega (arith, i, j))

as-many-run : (pieces : List (List ℕ)) (line : Line) → AsMany (run pieces line ∷ [])
unfolding amount in_line when◌then◌else◌
as-many-run pieces line = by-test (is_line line (row sent))
  where
    by-test : (t : Bool) → (when t then 1 else 0) + 0 ≡ length ((when t then with_fill (concatenated pieces) ∷ [] else []) ++ [])
    by-test true = refl
    by-test false = refl

as-many-begun : (later : List Role) (pieces : List (List ℕ)) → AsMany (run_from pieces later ∷ [])
as-many-begun [] pieces = as-many-run pieces opened
as-many-begun (begins l d k ∷ later) pieces = as-many-run pieces (row superseded)
as-many-begun (goes_on true d k ∷ later) pieces = as-many-run (pieces ++ d ∷ []) (line_of (last_answer k (total_of (pieces ++ d ∷ []))))
as-many-begun (goes_on false d k ∷ later) pieces = as-many-begun later (pieces ++ d ∷ [])
as-many-begun (ends fate answer ∷ later) pieces = as-many-run pieces (row fate)
as-many-begun (passes answer ∷ later) pieces = as-many-begun later pieces

as-many-alone : (answer : ℕ) → Alone answer → AsMany (alone [] (line_of answer) ∷ [])
unfolding amount in_line when◌then◌else◌
as-many-alone _ of-3 = refl
as-many-alone _ of-7 = refl
as-many-alone _ of-8 = refl
as-many-alone _ of-9 = refl
as-many-alone _ of-10 = refl
as-many-alone _ of-11 = refl
as-many-alone _ of-17 = refl

as-many-aborted : (held : List (List ℕ)) (piece : List ℕ) → AsMany (aborted_if held piece)
unfolding amount in_line when◌then◌else◌
as-many-aborted [] piece = refl
as-many-aborted (p ∷ ps) piece = refl

as-many-at : (earlier : List Role) (role : Role) (later : List Role) → IsRole role → AsMany (item_at earlier role later)
as-many-at earlier (begins true d k) later i = as-many-run (d ∷ []) (line_of (last_answer k (total_of (d ∷ []))))
as-many-at earlier (begins false d k) later i = as-many-begun later (d ∷ [])
as-many-at earlier (goes_on l d k) later i = as-many-aborted (so_far earlier) d
as-many-at earlier (ends fate answer) later i = as-many-alone answer i
as-many-at earlier (passes answer) later i = as-many-alone answer i

as-many-sent : (later earlier : List Role) → AreRoles later → AsMany (items earlier later)
as-many-sent [] earlier i = refl
as-many-sent (role ∷ later) earlier i = as-many-append (item_at earlier role later) (items (role ∷ earlier) later) (as-many-at earlier role later i.0) (as-many-sent later (role ∷ earlier) i.1)

-- from what was reached to the list
module _ (setup : Setup) (store settings : List ℕ) (entries : List Entry) (kept : Kept) (r : Reached setup store settings (reverse entries) kept) where
  abbrev back : List Role
  back = roles_back setup (reverse entries)

  abbrev count : Line → Column → ℕ
  count = count_in (items_of setup entries)

  count-is : (line : Line) (c : Column) → count line c ≡ count_in (done_back back) line c + count_in (closing opened (so_far back)) line c
  count-is line c = cut-count line c back

  cell : (fate : Fate) (c : Column) → cell_in (row_of fate) c kept.state.account.grid ≡ count (row fate) c
  cell fate c = omega (arith, r.counts.cells fate c, count-is (row fate) c, not-open-count (so_far back) (row fate) c (λ q. omega (arith, q, row-in-grid fate)))

  grid-is : kept.state.account.grid ≡ grid_of count fates
  grid-is =
      sym (all-elements 30 kept.state.account.grid r.counts.formed)
      ∙ same_row _ _ _ _ _ _ _ _ (cell sent packets) (cell sent fragments) (cell sent bytes)
      (same_row _ _ _ _ _ _ _ _ (cell superseded packets) (cell superseded fragments) (cell superseded bytes)
      (same_row _ _ _ _ _ _ _ _ (cell flushed packets) (cell flushed fragments) (cell flushed bytes)
      (same_row _ _ _ _ _ _ _ _ (cell broken packets) (cell broken fragments) (cell broken bytes)
      (same_row _ _ _ _ _ _ _ _ (cell over packets) (cell over fragments) (cell over bytes)
      (same_row _ _ _ _ _ _ _ _ (cell short packets) (cell short fragments) (cell short bytes)
      (same_row _ _ _ _ _ _ _ _ (cell linkdown packets) (cell linkdown fragments) (cell linkdown bytes)
      (same_row _ _ _ _ _ _ _ _ (cell aborted packets) (cell aborted fragments) (cell aborted bytes)
      (same_row _ _ _ _ _ _ _ _ (cell badlength packets) (cell badlength fragments) (cell badlength bytes)
      (same_row _ _ _ _ _ _ _ _ (cell badcheck packets) (cell badcheck fragments) (cell badcheck bytes) refl)))))))))

  beside-is : kept.state.account.beside ≡ besides (count opened fragments) (count opened bytes) (count taken fragments) (count refused fragments) (total entries)
  beside-is =
      same_beside _ _ _ _ _ _ _ _ _ _
      (omega (arith, r.counts.held_fragments, count-is opened fragments, r.counts.none_open fragments, (open-count (so_far back)).0))
      (omega (arith, r.counts.held_bytes, count-is opened bytes, r.counts.none_open bytes, (open-count (so_far back)).1))
      (omega (arith, r.counts.taken-are, count-is taken fragments, not-open-count (so_far back) taken fragments (λ q. omega (arith, q))))
      (omega (arith, r.counts.refused-are, count-is refused fragments, not-open-count (so_far back) refused fragments (λ q. omega (arith, q))))
      (omega (arith, r.counts.total_is, total-reverse entries))

  account-is : kept.state.account ≡ account_for setup entries
  account-is = ap (λ (g : List ℕ). account_of g kept.state.account.beside) grid-is ∙ ap (λ (b : Beside). account_of (grid_of count fates) b) beside-is

  sent_is : kept.sent ≡ packets_sent (items_of setup entries)
  sent_is = r.sent_are ∙ sym (cut-sent back (are-reversed back [] (are-roles setup (reverse entries)) tt))

  sent-count : get_or kept.state.account.grid 0 0 ≡ length kept.sent
  sent-count = cell sent packets ∙ (as-many-sent (roles setup entries) [] (are-reversed back [] (are-roles setup (reverse entries)) tt) ∙ ap length (sym sent_is))

  pub agrees : Agrees setup settings entries kept
  agrees = record {
    account_agrees = account-is;
    maximum_stays = r.maximum-is;
    check_stays = r.check-is;
    settings_agree = r.settings_are;
    open_packet_agrees = r.stored;
    sent_agree = sent_is;
    sent_are_counted = sent-count;
    state_is_sound = r.state_is_sound;
    settings_are_sound = r.settings_are_sound;
  }
