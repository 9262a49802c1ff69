-- Whatever the reads give, the reading and the bytes kept for it are those of the whole.
-- Assumes nothing.
use Prim.Native.Nat.{ℕ, ◌+◌, ◌-◌, ◌≤◌, ◌<◌, zero-le}
use mathlib.Core.Bool.{Bool, true, false, true≢false}
use mathlib.Core.List.{List, [], ◌∷◌, ◌++◌, append-nil}
use mathlib.Core.Path.{◌≡◌, refl, sym, ap, subst, ◌∙◌}
use native.Mathlib.Omega.{arith}
use lib.ListN.{length, take, drop, length-drop}
use lib.Seq.{take-add, length-take-le}
use borrow.Author.Tests.{le-ltb}
use Rattle.std.specs.Prelude.{Option}
use Rattle.prelude.specs.Choice.{when◌then◌else◌}
use Rattle.prelude.specs.Parts.{part}
use Rattle.prelude.proofs.Tests.{if-true, if-false}
use Rattle.state.specs.declared.Account.{Account}
use Rattle.journal.specs.declared.reading.Reading.{Reading}
use Rattle.journal.specs.Feeding.{Fed, fed, is_bad, started, concluded}
use Rattle.journal.specs.Format.{parsed}
use Rattle.journal.specs.Journal.{account_in, outcome_printed}
use Rattle.journal.specs.Properties.{Progress, fed_on, fed_pieces, at_start, max_record, max_awaited}
use Rattle.journal.proofs.Left.{less-than-a-record, most-awaited}
use Rattle.journal.proofs.Pieces.{in_pieces}
use Rattle.journal.proofs.Whole.{fed-within}
use Rattle.account.specs.Buffer.{Moved, moved_to_front}
use Rattle.account.proofs.Moving.{is-moved, moved-bytes, moved-fits}
use Rattle.account.specs.Piece.{InBuffer, first_of, used_of, unused_moved, piece_fed}
use Rattle.account.specs.Properties.{Reads, Session, begins, goes_on, EverySession, AlwaysRoom}

-- the reading is that of all the bytes, and unless it is bad the unused bytes are kept
pub record Stands (bytes : List ℕ) (s : InBuffer) : Type 0 where
  pub reading-is : s.next.reading ≡ (fed_on at_start bytes).reading
  pub fits : s.next.unused ≤ length s.buffer
  pub none-of-bad : is_bad s.next.reading ≡ true → s.next.unused ≡ 0
  pub unused-are : is_bad s.next.reading ≡ false → take s.next.unused s.buffer ≡ (fed_on at_start bytes).unused

-- a read and what is fed then
module _ (bytes piece : List ℕ) (before after : InBuffer) (st : Stands bytes before) (r : Reads before piece after) where
  abbrev p : Progress
  p = fed_on at_start bytes

  abbrev unused : ℕ
  unused = before.next.unused

  abbrev there : List ℕ
  there = first_of r.end r.filled

  abbrev f : Fed
  f = fed before.next.reading there

  abbrev used : ℕ
  used = used_of (is_bad f.reading) f.used r.end

  there-is : there ≡ take r.end r.filled
  there-is = if-false _ _ _ (le-ltb (length r.filled) r.end r.inside)

  joined-are : is_bad before.next.reading ≡ false → there ≡ p.unused ++ piece
  joined-are good =
      let whole : unused + (r.end - unused) ≡ r.end = omega (arith, r.forward) in
      there-is
      ∙ (ap (λ (n : ℕ). take n r.filled) (sym whole)
      ∙ (take-add unused (r.end - unused) r.filled
      ∙ (ap (λ (l : List ℕ). l ++ part unused (r.end - unused) r.filled) (r.unused_stay ∙ st.unused-are good)
      ∙ ap (λ (l : List ℕ). p.unused ++ l) r.behind_them)))

  fed-inside : f.used ≤ r.end
  fed-inside =
      let within : f.used ≤ length there = fed-within before.next.reading there in
      let size : length there ≡ r.end = ap length there-is ∙ length-take-le r.end r.filled r.inside in
      omega arith

  used-inside : used ≤ r.end
  unfolding when◌then◌else◌
  used-inside = by-test (is_bad f.reading)
    where
      by-test : (b : Bool) → used_of b f.used r.end ≤ r.end
      by-test true = omega arith
      by-test false = fed-inside

  after_is : after ≡ unused_moved f r.end r.filled
  unfolding piece_fed
  after_is = r.is_fed

  on : fed_on p piece ≡ fed_on at_start (bytes ++ piece)
  on = in_pieces.two_pieces at_start bytes piece

  -- the reading, by whether it was bad before
  reading-next : (b : Bool) → is_bad before.next.reading ≡ b → f.reading ≡ (fed_on p piece).reading
  reading-next true e =
      let same : is_bad p.reading ≡ true = ap is_bad (sym st.reading-is) ∙ e in
      in_pieces.bad_stays (record { reading = before.next.reading; unused = [] }) there e
      ∙ (st.reading-is ∙ sym (in_pieces.bad_stays p piece same))
  reading-next false e =
      ap (λ (l : List ℕ). (fed before.next.reading l).reading) (joined-are e) ∙ ap (λ (x : Reading). (fed x (p.unused ++ piece)).reading) st.reading-is

  -- one that is not bad now was not bad before
  was-good : (b : Bool) → is_bad before.next.reading ≡ b → is_bad f.reading ≡ false → is_bad before.next.reading ≡ false
  was-good false e good = e
  was-good true e good =
      absurd (true≢false (sym (ap is_bad (in_pieces.bad_stays (record { reading = before.next.reading; unused = [] }) there e) ∙ e) ∙ good))

  left-next : is_bad f.reading ≡ false → take (moved_to_front used r.end r.filled).count (moved_to_front used r.end r.filled).buffer ≡ (fed_on p piece).unused
  left-next good =
      let before-good : is_bad before.next.reading ≡ false = was-good (is_bad before.next.reading) refl good in
      let used-is : used ≡ f.used = if-false _ _ _ good in
      moved-bytes used r.end r.filled used-inside r.inside
      ∙ (ap (λ (n : ℕ). drop n (take r.end r.filled)) used-is
      ∙ (ap (drop f.used) (sym there-is ∙ joined-are before-good)
      ∙ (ap (λ (l : List ℕ). drop (fed before.next.reading l).used (p.unused ++ piece)) (joined-are before-good)
      ∙ ap (λ (x : Reading). drop (fed x (p.unused ++ piece)).used (p.unused ++ piece)) st.reading-is)))

  none-next : is_bad f.reading ≡ true → (moved_to_front used r.end r.filled).count ≡ 0
  none-next b =
      let used-is : used ≡ r.end = if-true _ _ _ b in
      ap (λ (m : Moved). m.count) (is-moved used r.end r.filled used-inside r.inside) ∙ omega arith

  stands-next : Stands (bytes ++ piece) after
  stands-next =
      subst (Stands (bytes ++ piece)) (sym after_is)
      (record {
        reading-is = reading-next (is_bad before.next.reading) refl ∙ ap (λ (q : Progress). q.reading) on;
        fits = moved-fits used r.end r.filled;
        none-of-bad = none-next;
        unused-are = λ good. left-next good ∙ ap (λ (q : Progress). q.unused) on;
      })

start_is : at_start ≡ fed_on at_start []
unfolding fed_pieces
start_is = in_pieces.any_pieces []

stands : (bytes : List ℕ) (s : InBuffer) → Session bytes s → Stands bytes s
stands bytes s (begins buffer) =
    record {
      reading-is = ap (λ (q : Progress). q.reading) start_is;
      fits = zero-le;
      none-of-bad = λ _. refl;
      unused-are = λ _. ap (λ (q : Progress). q.unused) start_is;
    }
stands bytes s (goes_on {bytes = first} {piece = piece} {before = before} {after = after} session r) = stands-next first piece before after (stands first before session) r

session-account : (bytes : List ℕ) (s : InBuffer) → Session bytes s → concluded s.next.reading s.next.unused ≡ account_in (parsed bytes)
unfolding fed_pieces
session-account bytes s session =
    let st : Stands bytes s = stands bytes s session in
    let p : Progress = fed_on at_start bytes in
    let whole : concluded p.reading (length p.unused) ≡ account_in (parsed bytes) =
    in_pieces.account_in_the_end (bytes ∷ []) ∙ ap (λ (l : List ℕ). account_in (parsed l)) (append-nil bytes) in
    by-test st (is_bad s.next.reading) refl ∙ whole
  where
    by-test : Stands bytes s → (b : Bool) → is_bad s.next.reading ≡ b
        → concluded s.next.reading s.next.unused ≡ concluded (fed_on at_start bytes).reading (length (fed_on at_start bytes).unused)
    by-test st true e =
        in_pieces.bad_has_none s.next.reading s.next.unused e
        ∙ sym (in_pieces.bad_has_none (fed_on at_start bytes).reading (length (fed_on at_start bytes).unused) (ap is_bad (sym st.reading-is) ∙ e))
    by-test st false e =
        let size : s.next.unused ≡ length (fed_on at_start bytes).unused = sym (length-take-le s.next.unused s.buffer st.fits) ∙ ap length (st.unused-are e) in
        ap (λ (n : ℕ). concluded s.next.reading n) size
        ∙ ap (λ (x : Reading). concluded x (length (fed_on at_start bytes).unused)) st.reading-is

pub every-session : EverySession
every-session = record {
  account_is = session-account;
  printed_is = λ bytes s out session. ap (λ (a : Option Account). outcome_printed a out) (session-account bytes s session) ∙ in_pieces.printed_in_the_end bytes out;
}

pub always-room : AlwaysRoom
always-room bytes s small session =
    let st : Stands bytes s = stands bytes s session in
    by-test st (is_bad s.next.reading) refl
  where
    by-test : Stands bytes s → (b : Bool) → is_bad s.next.reading ≡ b → s.next.unused < max_record true
    by-test st true e = let none : s.next.unused ≡ 0 = st.none-of-bad e in omega arith
    by-test st false e =
        let f : Fed = fed started bytes in
        let size : s.next.unused ≡ length (drop f.used bytes) = sym (length-take-le s.next.unused s.buffer st.fits) ∙ ap length (st.unused-are e) in
        let left : length bytes < f.used + max_awaited f.reading = less-than-a-record.left_in started bytes small (ap is_bad (sym st.reading-is) ∙ e) in
        let most : max_awaited f.reading ≤ max_record true = most-awaited f.reading in
        omega (arith, length-drop f.used bytes)
