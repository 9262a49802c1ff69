-- Every reply is what the list says, and the newest place stands in its line.
-- Assumes nothing.
use Prim.Native.Nat.{ℕ, ◌≤◌}
use mathlib.Core.Bool.{true≢false}
use mathlib.Core.List.{List, [], ◌∷◌, ◌++◌, reverse_aux, reverse, reverse-reverse}
use mathlib.Core.Path.{◌≡◌, refl, sym, ap, ◌∙◌}
use native.Mathlib.Omega.{arith}
use lib.ListN.{length, get_or}
use borrow.Author.Tests.{eq-eqb, ne_eqb}
use Rattle.prelude.specs.Choice.{when◌then◌else◌}
use Rattle.record.specs.Transaction.{Transaction}
use Rattle.outcome.specs.declared.Reply.{Reply}
use Rattle.history.specs.Lines.{nowhere, line_of, is_counted}
use Rattle.history.specs.Reading.{Entry, counted, total, Setup}
use Rattle.history.specs.Settings.{is_mac_kept}
use Rattle.history.specs.Runs.{Role, role_of, roles_back, roles}
use Rattle.history.specs.Replies.{reply_at}
use Rattle.history.specs.Partition.{line_at, lines_after, lines_of}
use Rattle.history.specs.Calls.{Kept, most_counted}
use Rattle.history.specs.Demand3.{reply_after, Replies}
use Rattle.history.proofs.Roles.{answer-counted, line-of-answer}
use Rattle.history.proofs.Partition.{total-reverse, as-many-roles}
use Rattle.history.proofs.LinesStay.{roles-snoc}
use Rattle.history.proofs.Reached.{Reached}
use Rattle.history.proofs.Calls.{Way, is-counted, has-no-room, is-full, way}

last_line : (list earlier : List Role) (role : Role) → get_or (lines_after earlier (list ++ role ∷ [])) (length list) nowhere ≡ line_at (reverse_aux list earlier) role []
last_line [] earlier role = refl
last_line (r ∷ list) earlier role = last_line list (r ∷ earlier) role

-- of one more transaction, behind what was reached
module _ (setup : Setup) (store settings : List ℕ) (start : 15 ≤ length settings) (entries : List Entry) (kept : Kept) (r : Reached setup store settings (reverse entries) kept) (n m : ℕ) (t : Transaction) where
  abbrev back : List Role
  back = roles_back setup (reverse entries)

  abbrev role : Role
  role = role_of setup (is_mac_kept setup (reverse entries)) t

  newest-line : get_or (lines_of setup (entries ++ counted t ∷ [])) (total entries) nowhere ≡ line_of (reply_at setup (reverse entries) t).answer
  newest-line =
      ap (λ (list : List Role). get_or (lines_after [] list) (total entries) nowhere) (roles-snoc setup entries t)
      ∙ (ap (λ (k : ℕ). get_or (lines_after [] (roles setup entries ++ role ∷ [])) k nowhere) (sym (as-many-roles setup entries))
      ∙ (last_line (roles setup entries) [] role
      ∙ (ap (λ (list : List Role). line_at list role []) (reverse-reverse back) ∙ line-of-answer back role)))

  pub all-replies : Replies setup (length store) (length settings) entries kept n m t
  unfolding reply_after is_counted when◌then◌else◌
  all-replies = by_way (way setup store settings start n m t (reverse entries) kept r)
    where
      by_way : Way setup store settings start n m t (reverse entries) kept → Replies setup (length store) (length settings) entries kept n m t
      by_way (is-counted room less adds replies reaches) = record {
        reply_is = rw (room, ne_eqb (total entries) most_counted (λ q. omega (arith, less, total-reverse entries, q))) replies;
        never_unsound = λ q. true≢false (sym (answer-counted setup (reverse entries) t) ∙ ap is_counted (sym (ap (λ (x : Reply). x.answer) replies) ∙ q));
        in_its_line = λ _. newest-line ∙ ap (λ (x : Reply). line_of x.answer) (sym replies);
      }
      by_way (has-no-room room adds replies stays) = record {
        reply_is = rw room replies;
        never_unsound = λ q. omega (arith, ap (λ (x : Reply). x.answer) replies, q);
        in_its_line = λ c. absurd (true≢false (sym c ∙ ap (λ (x : Reply). is_counted x.answer) replies));
      }
      by_way (is-full room full adds replies stays) = record {
        reply_is = rw (room, eq-eqb (total entries) most_counted (omega (arith, full, total-reverse entries))) replies;
        never_unsound = λ q. omega (arith, ap (λ (x : Reply). x.answer) replies, q);
        in_its_line = λ c. absurd (true≢false (sym c ∙ ap (λ (x : Reply). is_counted x.answer) replies));
      }
