-- Every transaction is counted once or changes nothing; no other line moves than its own and that of the packet it ends.
-- Assumes nothing.
use Prim.Native.Nat.{ℕ, ◌+◌, ◌≤◌, ◌<◌}
use mathlib.Core.Bool.{Bool, true, false, not, true≢false}
use mathlib.Core.List.{List}
use mathlib.Core.Logic.{⊎_elim}
use mathlib.Core.Path.{◌≡◌, refl, sym, ap, subst, ◌∙◌}
use native.Mathlib.Omega.{arith}
use lib.ListN.{length}
use borrow.Author.Tests.{eqb-true, leb-true, le-ltb}
use Rattle.prelude.specs.After.{After}
use Rattle.prelude.specs.Choice.{when◌then◌else◌}
use Rattle.prelude.proofs.Tests.{if-cases, if-false, if-first, if-second}
use Rattle.record.specs.Transaction.{Transaction}
use Rattle.state.specs.declared.Account.{Account}
use Rattle.state.specs.declared.State.{State}
use Rattle.state.specs.Account.{row_count, no_row, row_number}
use Rattle.outcome.specs.declared.Outcome.{Outcome}
use Rattle.outcome.specs.Outcome.{number_of, is_counted}
use Rattle.translator.specs.declared.tally.Tally.{Tally}
use Rattle.translator.specs.declared.judged.Judged.{Judged}
use Rattle.translator.specs.Counting.{grid_after, counted}
use Rattle.translator.specs.Properties.{Counts, EveryTransaction, own_row, closed_row, Frames, EveryFrame, Adds, Closing, EveryClosing, Packet, packet_of, open_packet, packet_left, completes, Leaves, EveryLeaving}
use Rattle.translator.proofs.Counted.{both-same, both-closing, both_own, tally, tallies, ends-closed, own-not-ends, left_is, counted-formed, counted-sound}
use Rattle.translator.proofs.Tallies.{InRow, Opens}
use Rattle.translator.proofs.Ways.{Ready, ComesOn, every}

pub every-transaction : EveryTransaction
unfolding counted
every-transaction =
    every (λ s store settings t left. Counts s store settings left)
    (λ s store settings t o formed n. record {
      rejected = λ _. refl;
      counted = λ c. absurd (true≢false (sym c ∙ n));
      state_stays_sound = λ h. h;
      account_stays_formed = formed;
      settings_stay_sound = λ h. h;
      settings_change = λ _. refl;
    })
    (λ s store settings t d r w. record {
      rejected = λ n. absurd (true≢false (sym w.is-counted ∙ n));
      counted = λ _. refl;
      state_stays_sound = λ _. counted-sound s store settings t d r w;
      account_stays_formed = counted-formed s store settings t d r w;
      settings_stay_sound = λ _. w.settings_are.stay-sound;
      settings_change = w.settings_are.change;
    })

pub rejected-number : (n : ℕ) → is_counted n ≡ false → 12 ≤ n
unfolding is_counted
rejected-number n = if-cases (λ (t : Bool). not t ≡ false → 12 ≤ n) _ _ _ (λ e _. leb-true _ _ e) (λ _ h. absurd (true≢false h))

-- a Last is no other answer
pub completes-tells : (n : ℕ) → completes n ≡ true → (1 ≤ n) × (n ≤ 6) × (n ≡ 2 → ⊥) × (n ≡ 3 → ⊥)
completes-tells n =
    if-cases (λ (t : Bool). t ≡ true → (1 ≤ n) × (n ≤ 6) × (n ≡ 2 → ⊥) × (n ≡ 3 → ⊥)) _ _ _ (λ e _. let one : n ≡ 1 = eqb-true _ _ e in omega arith)
    (λ _ h. let from : 4 ≤ n = leb-true _ _ (if-first _ _ h) in let to : n ≤ 6 = leb-true _ _ (if-second _ _ h) in omega arith)

completes-not : (n k : ℕ) → completes n ≡ false → completes k ≡ true → n ≡ k → ⊥
completes-not n k h c e = true≢false (sym c ∙ (ap completes (sym e) ∙ h))

-- the transactions that are rejected
module _ (a : Account) (command : ℕ) (o : Outcome) (rejected : is_counted (number_of o) ≡ false) where
  closes-none : closed_row a command o ≡ no_row
  unfolding closed_row
  closes-none = if-cases (λ (row : ℕ). row ≡ no_row) _ _ _ (λ _. if-false _ _ _ rejected) (λ _. refl)

  pub leaves_all : packet_left a command o ≡ open_packet a
  unfolding packet_left
  leaves_all = if-false _ _ _ (le-ltb (closed_row a command o) row_count (omega (arith, closes-none)))

pub every-frame : EveryFrame
unfolding counted grid_after
every-frame =
    every (λ s store settings t left. Frames s t.command left.result.outcome left.result.state)
    (λ s store settings t o formed n.
    let many : 12 ≤ number_of o = rejected-number (number_of o) n in
    record {
      other_rows = λ row _ _. record { packets = refl; fragments = refl; bytes = refl };
      taken = λ e. absurd (omega arith);
      not_taken = λ _. refl;
      refused = λ _ few. absurd (omega arith);
      not_refused = λ _. refl;
      maximum = refl;
      check = refl;
    })
    (λ s store settings t d r w.
    let m : ℕ = s.account.beside.refused in
    let n : ℕ = s.account.beside.taken in
    let c : _ = (tallies s store settings t d r w).commands in
    record {
      other_rows = λ row own closed. both-same (row_number d.result.ends) _ _ (tally s store settings t d r w) s.account.grid r.formed row
          (λ e. own (e ∙ (tallies s store settings t d r w).own)) (λ e. closed (e ∙ ends-closed s store settings t d r w));
      taken = λ e. ap (λ (k : ℕ). n + k) (c.taken e);
      not_taken = λ e. omega (arith, c.not_taken e);
      refused = λ from to. ap (λ (k : ℕ). m + k) (c.refused from to);
      not_refused = λ e. omega (arith, ⊎_elim c.few-not-refused c.many-not-refused e);
      maximum = refl;
      check = refl;
    })

pub every-closing : EveryClosing
unfolding counted grid_after
every-closing =
    every (λ s store settings t left. Closing (closed_row s.account t.command left.result.outcome) s.account left.result.state.account)
    (λ s store settings t o formed n l. absurd (omega (arith, closes-none s.account t.command o n)))
    (λ s store settings t d r w.
    subst (λ (row : ℕ). Closing row s.account (counted d.result s.account)) (ends-closed s store settings t d r w)
    (λ l. both-closing (row_number d.result.ends) _ _ (tally s store settings t d r w) s.account.grid r.formed (own-not-ends s store settings t d r w l) l))

module _ (s : State) (store settings : List ℕ) (t : Transaction) (d : After Judged) (r : Ready s) (w : ComesOn s store settings t d) where
  abbrev o : Outcome
  o = d.result.outcome

  abbrev added : Tally
  added = tally s store settings t d r w

  abbrev left : Account
  left = counted d.result s.account

  own-adds : (row packets fragments bytes : ℕ) → row_number added.row ≡ row → InRow packets fragments bytes added → Adds row packets fragments bytes s.account.grid left.grid
  unfolding counted grid_after
  own-adds row packets fragments bytes e i =
      rw (← e, ← i.packets-are, ← i.fragments-are, ← i.bytes-are)
      (both_own (row_number d.result.ends) _ _ added s.account.grid r.formed
      (λ q. let less : row_number added.row < row_count = i.in-grid in own-not-ends s store settings t d r w (omega arith) q) i.in-grid)

  opens : (f b : ℕ) → Opens f b added → open_packet left ≡ packet_of f b
  unfolding counted
  opens f b (p, q) = cc

  counted-leaves : Leaves (packet_left s.account t.command o) (length t.bytes) s.account o left
  unfolding when◌then◌else◌
  counted-leaves =
      let own : row_number added.row ≡ own_row o = (tallies s store settings t d r w).own in
      let c : _ = (tallies s store settings t d r w).fragments in
      subst (λ (p : Packet). Leaves p (length t.bytes) s.account o left) (sym (left_is s store settings t d r w)) (record {
        joined_goes_behind_what_is_left = λ e. opens _ _ (c.joined e);
        last_leaves_none_open = λ h. let (from, to, n, m) = completes-tells _ h in opens _ _ (c.completed from to n m).0;
        last_counts_what_is_left = λ h. let (from, to, n, m) = completes-tells _ h in own-adds _ _ _ _ own (c.completed from to n m).1;
        aborted_counts_alone = λ e. own-adds _ _ _ _ (c.aborts e).0 (c.aborts e).1;
        bad_length_counts_alone = λ e. own-adds _ _ _ _ (c.breaks e).0 (c.breaks e).1;
        bad_check_counts_alone = λ e. own-adds _ _ _ _ (c.fails-check e).0 (c.fails-check e).1;
        others_leave_what_is_left = λ n h. opens _ _ (c.others n (completes-not _ 1 h refl) (completes-not _ 4 h refl) (completes-not _ 5 h refl) (completes-not _ 6 h refl));
      })

pub every-leaving : EveryLeaving
unfolding is_counted when◌then◌else◌
every-leaving =
    every (λ s store settings t left.
    Leaves (packet_left s.account t.command left.result.outcome) (length t.bytes) s.account left.result.outcome left.result.state.account)
    (λ s store settings t o formed n.
    let many : 12 ≤ number_of o = rejected-number (number_of o) n in
    record {
      joined_goes_behind_what_is_left = λ e. absurd (omega arith);
      last_leaves_none_open = λ h. absurd (omega (arith, completes-tells (number_of o) h));
      last_counts_what_is_left = λ h. absurd (omega (arith, completes-tells (number_of o) h));
      aborted_counts_alone = λ e. absurd (omega arith);
      bad_length_counts_alone = λ e. absurd (omega arith);
      bad_check_counts_alone = λ e. absurd (true≢false (ap is_counted (sym e) ∙ n));
      others_leave_what_is_left = λ _ _. sym (leaves_all s.account t.command o n);
    })
    counted-leaves
