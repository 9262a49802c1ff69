-- A transaction leaves the bytes of the buffers that are not its own, and a fragment that joins stands at its place.
-- Assumes nothing.
use Prim.Native.Nat.{ℕ, ◌+◌, ◌≤◌, ◌<◌}
use mathlib.Core.Bool.{Bool, true, false, true≢false}
use mathlib.Core.List.{List}
use mathlib.Core.Logic.{inl, inr, ⊎_elim}
use mathlib.Core.Path.{◌≡◌, refl, sym, ap, ◌∙◌}
use native.Mathlib.Omega.{arith}
use lib.ListN.{length}
use borrow.Author.Tests.{le-ltb, eqb-true}
use Rattle.prelude.specs.After.{After}
use Rattle.prelude.specs.Choice.{when◌then◌else◌}
use Rattle.prelude.specs.Parts.{part, ChangesOnly}
use Rattle.prelude.proofs.Lists.{part-before-put}
use Rattle.prelude.proofs.Tests.{if-false, if-cases}
use Rattle.packet.specs.Store.{max_packet, min_sent, filled}
use Rattle.packet.proofs.Properties.{leaves-the-rest}
use Rattle.record.specs.Transaction.{Transaction}
use Rattle.settings.specs.declared.enable.Refusal.TheVariants as refusal
use Rattle.settings.specs.Properties.{KeepsTheRest}
use Rattle.state.specs.declared.State.{State}
use Rattle.outcome.specs.declared.Cause.TheVariants as cause
use Rattle.outcome.specs.declared.Outcome.{Outcome}
use Rattle.outcome.specs.declared.Outcome.TheVariants as outcome
use Rattle.outcome.specs.Outcome.{number_of}
use Rattle.translator.specs.declared.Transacted.{Transacted}
use Rattle.translator.specs.declared.judged.Judged.{Judged}
use Rattle.translator.specs.Properties.{completes, joins, Packet, packet_left, Keeps, Stands, EveryKeeping, EveryWriting}
use Rattle.translator.proofs.Comes.{store_after}
use Rattle.translator.proofs.Counted.{left_is}
use Rattle.translator.proofs.Joined.{written, written-too-much, written-changes, written-past, written-part}
use Rattle.translator.proofs.Properties.{rejected-number, completes-tells}
use Rattle.translator.proofs.Ways.{Ready, ComesOn, every}

nothing_changes : (at size : ℕ) (o : Outcome) (store : List ℕ) → Keeps at size o store store
nothing_changes at size o store = record {
  same_length = refl;
  unchanged = λ _ _. refl;
  too_much = λ _. refl;
  before_its_place = λ _ _. refl;
  behind_its_place = λ _ _ _. refl;
  past_1536 = λ _ _. refl;
}

module _ (at : ℕ) (bytes store : List ℕ) (room : max_packet ≤ length store) where
  abbrev store_left : List ℕ
  store_left = written store at bytes

  changes : ChangesOnly at (at + length bytes) store store_left
  changes = written-changes store bytes at room

  fragment-written : (o : Outcome) → ((number_of o ≡ 0 → ⊥) → completes (number_of o) ≡ false → ⊥) → Keeps at (length bytes) o store store_left
  fragment-written o writes = record {
    same_length = changes.same_length;
    unchanged = λ n h. absurd (writes n h);
    too_much = written-too-much store bytes at;
    before_its_place = λ k l. changes.elsewhere k (inl l);
    behind_its_place = λ k l _. changes.elsewhere k (inr l);
    past_1536 = written-past store bytes at room;
  }

  -- a packet that is too long for the store is too long for the fill
  too-much-to-fill : max_packet < at + length bytes → filled store_left (at + length bytes) ≡ store
  unfolding filled
  too-much-to-fill past = if-false _ _ _ (le-ltb (at + length bytes) min_sent (omega arith)) ∙ written-too-much store bytes at past

  fragment-filled : (n : ℕ) → Keeps at (length bytes) (outcome.Sent n) store (filled store_left (at + length bytes))
  unfolding when◌then◌else◌
  fragment-filled n =
      let fills : ChangesOnly (at + length bytes) min_sent store_left (filled store_left (at + length bytes)) = leaves-the-rest store_left (at + length bytes) in
      record {
        same_length = fills.same_length ∙ changes.same_length;
        unchanged = λ _ h. absurd (true≢false h);
        too_much = too-much-to-fill;
        before_its_place = λ k l. fills.elsewhere k (inl (omega arith)) ∙ changes.elsewhere k (inl l);
        behind_its_place = λ k l. ⊎_elim (λ m. fills.elsewhere k (inr m) ∙ changes.elsewhere k (inr l)) (λ n. absurd (n refl));
        past_1536 = λ k l. fills.elsewhere k (inr (omega arith)) ∙ written-past store bytes at room k l;
      }

  store_kept : (o : Outcome) → Keeps at (length bytes) o store (store_after o at bytes store)
  unfolding when◌then◌else◌
  store_kept outcome.Joined = fragment-written outcome.Joined (λ n _. n refl)
  store_kept (outcome.Sent n) = fragment-filled n
  store_kept (outcome.Discarded cause.Aborted) = nothing_changes at (length bytes) _ store
  store_kept (outcome.Discarded cause.BadLength) = nothing_changes at (length bytes) _ store
  store_kept (outcome.Discarded cause.Over) = fragment-written _ (λ _ h. true≢false h)
  store_kept (outcome.Discarded cause.Short) = fragment-written _ (λ _ h. true≢false h)
  store_kept (outcome.Discarded cause.LinkDown) = fragment-written _ (λ _ h. true≢false h)
  store_kept outcome.Unknown = nothing_changes at (length bytes) _ store
  store_kept (outcome.Refused r) = nothing_changes at (length bytes) _ store
  store_kept outcome.Taken = nothing_changes at (length bytes) _ store
  store_kept outcome.NoRoom = nothing_changes at (length bytes) _ store
  store_kept outcome.NotSound = nothing_changes at (length bytes) _ store
  store_kept outcome.Full = nothing_changes at (length bytes) _ store
  store_kept outcome.BadCheck = nothing_changes at (length bytes) _ store

counted-keeps : (s : State) (store settings : List ℕ) (t : Transaction) (d : After Judged) → Ready s → ComesOn s store settings t d
    → Keeps (packet_left s.account t.command d.result.outcome).bytes (length t.bytes) d.result.outcome store d.store
counted-keeps s store settings t d r w =
    let place : _ = ap (λ (p : Packet). p.bytes) (left_is s store settings t d r w) in
    rw (w.store_is, place) (store_kept _ t.bytes store w.store-room d.result.outcome)

pub every-keeping : EveryKeeping
every-keeping =
    every P (λ s store settings t o formed n. (nothing_changes _ (length t.bytes) o store, (refl, refl)))
    (λ s store settings t d r w. (counted-keeps s store settings t d r w, w.settings_are.the_rest))
  where
    P : State → List ℕ → List ℕ → Transaction → After Transacted → Type 0
    P s store settings t left =
        Keeps (packet_left s.account t.command left.result.outcome).bytes (length t.bytes) left.result.outcome store left.store
        × KeepsTheRest settings left.settings

-- the fill is behind the fragment
filled-part : (store : List ℕ) (at n : ℕ) → at + n ≤ length store → part at n (filled store (at + n)) ≡ part at n store
unfolding filled
filled-part store at n h =
    if-cases P _ _ _ (λ _. if-cases P _ _ _ (λ _. refl) (λ _. part-before-put store _ at n h)) (λ _. refl)
  where
    P : List ℕ → Type 0
    P after = part at n after ≡ part at n store

module _ (at : ℕ) (bytes store : List ℕ) (room : max_packet ≤ length store) where
  written_stands : at + length bytes ≤ max_packet → part at (length bytes) (written store at bytes) ≡ bytes
  written_stands = written-part store bytes at room

  sent-stands : at + length bytes ≤ max_packet → part at (length bytes) (filled (written store at bytes) (at + length bytes)) ≡ bytes
  sent-stands end =
      let size : length (written store at bytes) ≡ length store = (written-changes store bytes at room).same_length in
      filled-part (written store at bytes) at (length bytes) (omega arith) ∙ written_stands end

  fragment-stands : (o : Outcome) → Stands at bytes o (store_after o at bytes store)
  unfolding when◌then◌else◌
  fragment-stands outcome.Joined = λ _. written_stands
  fragment-stands (outcome.Sent n) = λ _. sent-stands
  fragment-stands (outcome.Discarded cause.Aborted) = λ joined. absurd (true≢false (sym joined))
  fragment-stands (outcome.Discarded cause.BadLength) = λ joined. absurd (true≢false (sym joined))
  fragment-stands (outcome.Discarded cause.Over) = λ _. written_stands
  fragment-stands (outcome.Discarded cause.Short) = λ _. written_stands
  fragment-stands (outcome.Discarded cause.LinkDown) = λ _. written_stands
  fragment-stands outcome.Unknown = λ joined. absurd (true≢false (sym joined))
  fragment-stands (outcome.Refused refusal.TooShort) = λ joined. absurd (true≢false (sym joined))
  fragment-stands (outcome.Refused refusal.NotSound) = λ joined. absurd (true≢false (sym joined))
  fragment-stands (outcome.Refused refusal.BadForm) = λ joined. absurd (true≢false (sym joined))
  fragment-stands (outcome.Refused refusal.BadControl) = λ joined. absurd (true≢false (sym joined))
  fragment-stands (outcome.Refused refusal.NoMac) = λ joined. absurd (true≢false (sym joined))
  fragment-stands outcome.Taken = λ joined. absurd (true≢false (sym joined))
  fragment-stands outcome.NoRoom = λ joined. absurd (true≢false (sym joined))
  fragment-stands outcome.NotSound = λ joined. absurd (true≢false (sym joined))
  fragment-stands outcome.Full = λ joined. absurd (true≢false (sym joined))
  fragment-stands outcome.BadCheck = λ joined. absurd (true≢false (sym joined))

joins-below : (n : ℕ) → joins n ≡ true → 12 ≤ n → ⊥
joins-below n =
    if-cases (λ (t : Bool). t ≡ true → 12 ≤ n → ⊥) _ _ _ (λ e _ many. let none : n ≡ 0 = eqb-true _ _ e in omega arith)
    (λ _ c many. omega (arith, completes-tells n c))

pub every-writing : EveryWriting
every-writing =
    every (λ s store settings t left. Stands (packet_left s.account t.command left.result.outcome).bytes t.bytes left.result.outcome left.store)
    (λ s store settings t o formed n.
    let many : 12 ≤ number_of o = rejected-number (number_of o) n in
    λ joined. absurd (joins-below (number_of o) joined many))
    (λ s store settings t d r w.
    let place : _ = ap (λ (p : Packet). p.bytes) (left_is s store settings t d r w) in
    rw (w.store_is, place) (fragment-stands _ t.bytes store w.store-room d.result.outcome))
