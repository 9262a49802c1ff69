-- What each call does, what any calls reach, and the list that they make.
-- Assumes nothing.
use Prim.Native.Nat.{ℕ, suc, ◌+◌, ◌-◌, ◌<◌, ◌≤◌}
use mathlib.Core.Bool.{Bool, true, false}
use mathlib.Core.List.{List, [], ◌∷◌, ◌++◌, reverse_aux}
use mathlib.Core.Path.{◌≡◌, refl, sym, ap, ◌∙◌, subst}
use native.Mathlib.Omega.{arith}
use lib.Arith.{lt_of_le-ne}
use lib.Dec.{eqb}
use lib.ListN.{length, take}
use lib.Seq.{take-nil}
use borrow.Author.Tests.{eqb-true, eqb-false}
use Rattle.prelude.specs.Choice.{when◌then◌else◌}
use Rattle.record.specs.Transaction.{Transaction}
use Rattle.state.specs.Account.{limit}
use Rattle.state.proofs.Soundness.{account-sound-tells, sound-tells}
use Rattle.outcome.specs.declared.Reply.{Reply}
use Rattle.history.specs.Lines.{is_counted}
use Rattle.history.specs.Reading.{Entry, counted, total, Setup}
use Rattle.history.specs.Replies.{answered, reply_at}
use Rattle.history.specs.Calls.{Call, transact, reads, Kept, reply_of, step, after, entry_if, entries_of, entries_by, has_room, with_room}
use Rattle.history.proofs.Roles.{answer-counted}
use Rattle.history.proofs.Reached.{Reached, without-room, full-rejects, replies-when-counted, reaches-when-counted}

module _ (setup : Setup) (store settings : List ℕ) (start : 15 ≤ length settings) where
  -- what a transaction does: it is counted, or rejected for one of two reasons
  pub data Way (n m : ℕ) (t : Transaction) (earlier : List Entry) (kept : Kept) : Type 0 where
    is-counted : has_room (length store) (length settings) n m ≡ true → total earlier < limit → entries_of (transact n m t) kept ≡ counted t ∷ []
        → reply_of n m t kept ≡ reply_at setup earlier t → Reached setup store settings (counted t ∷ earlier) (step (transact n m t) kept) → Way n m t earlier kept
    has-no-room : has_room (length store) (length settings) n m ≡ false → entries_of (transact n m t) kept ≡ []
        → reply_of n m t kept ≡ answered 12 → step (transact n m t) kept ≡ kept → Way n m t earlier kept
    is-full : has_room (length store) (length settings) n m ≡ true → total earlier ≡ limit → entries_of (transact n m t) kept ≡ []
        → reply_of n m t kept ≡ answered 14 → step (transact n m t) kept ≡ kept → Way n m t earlier kept

  within : (earlier : List Entry) (kept : Kept) → Reached setup store settings earlier kept → total earlier ≤ limit
  within earlier kept r = omega (arith, r.counts.total_is, (account-sound-tells kept.state.account (sound-tells kept.state r.state_is_sound).account-is-sound).within)

  pub way : (n m : ℕ) (t : Transaction) (earlier : List Entry) (kept : Kept) → Reached setup store settings earlier kept → Way n m t earlier kept
  unfolding is_counted when◌then◌else◌
  way n m t earlier kept r = by-room (has_room (length store) (length settings) n m) refl
    where
      entries-are : (reply : Reply) → reply_of n m t kept ≡ reply → (b : Bool) → is_counted reply.answer ≡ b → entries_of (transact n m t) kept ≡ (when b then counted t ∷ [] else [])
      entries-are reply e b c = ap (entry_if t) e ∙ ap (λ (x : Bool). when x then counted t ∷ [] else []) c

      by_total : (b : Bool) → eqb (total earlier) limit ≡ b → has_room (length store) (length settings) n m ≡ true → Way n m t earlier kept
      by_total true e room =
          let full : total earlier ≡ limit = eqb-true (total earlier) limit e in
          let rejects = full-rejects setup store settings start n m t earlier kept r room full in
          is-full room full (entries-are (answered 14) rejects.replies false refl) rejects.replies rejects.nothing_changes
      by_total false e room =
          let not_full : total earlier ≡ limit → ⊥ = eqb-false (total earlier) limit e in
          let replies : reply_of n m t kept ≡ reply_at setup earlier t = replies-when-counted setup store settings start n m t earlier kept r room not_full in
          is-counted room (lt_of_le-ne (within earlier kept r) not_full) (entries-are (reply_at setup earlier t) replies true (answer-counted setup earlier t)) replies
          (reaches-when-counted setup store settings start n m t earlier kept r room not_full)

      by-room : (b : Bool) → has_room (length store) (length settings) n m ≡ b → Way n m t earlier kept
      by-room true e = by_total (eqb (total earlier) limit) refl e
      by-room false e =
          let rejects = without-room setup store settings start n m t earlier kept r e in
          has-no-room e (entries-are (answered 12) rejects.replies false refl) rejects.replies rejects.nothing_changes

  -- what any calls reach
  pub calls-reach : (calls : List Call) (earlier : List Entry) (kept : Kept) → Reached setup store settings earlier kept
      → Reached setup store settings (reverse_aux (entries_by calls kept) earlier) (after calls kept)
  calls-reach [] earlier kept r = r
  calls-reach (reads ∷ calls) earlier kept r = calls-reach calls earlier kept r
  calls-reach (transact n m t ∷ calls) earlier kept r = by_way (way n m t earlier kept r) (calls-reach calls)
    where
      Later : Type 0
      Later = (earlier : List Entry) (kept : Kept) → Reached setup store settings earlier kept → Reached setup store settings (reverse_aux (entries_by calls kept) earlier) (after calls kept)

      now : Kept
      now = step (transact n m t) kept

      with_entries : (added : List Entry) → entries_of (transact n m t) kept ≡ added
          → Reached setup store settings (reverse_aux (added ++ entries_by calls now) earlier) (after calls now)
          → Reached setup store settings (reverse_aux (entries_by (transact n m t ∷ calls) kept) earlier) (after calls now)
      with_entries added e = subst (λ (x : List Entry). Reached setup store settings (reverse_aux (x ++ entries_by calls now) earlier) (after calls now)) (sym e)

      by_way : Way n m t earlier kept → Later → Reached setup store settings (reverse_aux (entries_by (transact n m t ∷ calls) kept) earlier) (after calls now)
      by_way (is-counted room less adds replies reaches) later = with_entries (counted t ∷ []) adds (later (counted t ∷ earlier) now reaches)
      by_way (has-no-room room adds replies stays) later =
          with_entries [] adds (subst (λ (k : Kept). Reached setup store settings (reverse_aux (entries_by calls k) earlier) (after calls k)) (sym stays) (later earlier kept r))
      by_way (is-full room full adds replies stays) later =
          with_entries [] adds (subst (λ (k : Kept). Reached setup store settings (reverse_aux (entries_by calls k) earlier) (after calls k)) (sym stays) (later earlier kept r))

  -- the list is the first of the transactions that had room
  pub listed : (calls : List Call) (earlier : List Entry) (kept : Kept) → Reached setup store settings earlier kept
      → entries_by calls kept ≡ take (limit - total earlier) (with_room (length store) (length settings) calls)
  unfolding when◌then◌else◌
  listed [] earlier kept r = sym (take-nil {A = Entry} (limit - total earlier))
  listed (reads ∷ calls) earlier kept r = listed calls earlier kept r
  listed (transact n m t ∷ calls) earlier kept r = by_way (way n m t earlier kept r) (listed calls)
    where
      Later : Type 0
      Later = (earlier : List Entry) (kept : Kept) → Reached setup store settings earlier kept → entries_by calls kept ≡ take (limit - total earlier) (with_room (length store) (length settings) calls)

      rest : List Entry
      rest = with_room (length store) (length settings) calls

      now : Kept
      now = step (transact n m t) kept

      Result : Bool → Type 0
      Result room = entries_of (transact n m t) kept ++ entries_by calls now ≡ take (limit - total earlier) (when room then counted t ∷ rest else rest)

      by_way : Way n m t earlier kept → Later → Result (has_room (length store) (length settings) n m)
      by_way (is-counted room less adds replies reaches) later =
          let one : limit - total earlier ≡ suc (limit - (1 + total earlier)) = omega arith in
          rw (room, adds, one) (ap (λ (x : List Entry). counted t ∷ x) (later (counted t ∷ earlier) now reaches))
      by_way (has-no-room room adds replies stays) later = rw (room, adds, stays) (later earlier kept r)
      by_way (is-full room full adds replies stays) later =
          let none : limit - total earlier ≡ 0 = omega arith in
          rw (room, adds, stays, none) (later earlier kept r ∙ ap (λ (k : ℕ). take k rest) none)
