-- The store holds the bytes of the open packet, and shows them when it is sent.
-- Assumes nothing.
use Prim.Native.Nat.{ℕ, ◌+◌, ◌-◌, ◌<◌, ◌≤◌}
use mathlib.Core.Bool.{Bool, true, false}
use mathlib.Core.List.{List, [], ◌∷◌, ◌++◌, append_assoc, append-nil}
use mathlib.Core.Path.{◌≡◌, refl, sym, ap, ◌∙◌, subst}
use native.Mathlib.Nat.{zero-add}
use native.Mathlib.Omega.{arith}
use lib.Dec.{ltb}
use lib.ListN.{length, take, drop, replicate, length-append, length-replicate}
use lib.Seq.{take_at, take-append-le, length-take-le}
use borrow.Author.Tests.{ltb-true, ltb-false, lt-ltb, le-ltb}
use Rattle.prelude.specs.Choice.{when◌then◌else◌}
use Rattle.prelude.specs.Parts.{Slice, put}
use Rattle.prelude.proofs.Lists.{length-put}
use Rattle.prelude.proofs.Tests.{if-true, if-false, if-cases}
use Rattle.packet.specs.Store.{max_packet, min_sent, filled, sent_length, shown}
use Rattle.packet.proofs.Properties.{leaves-the-rest}
use Rattle.translator.proofs.Joined.{written}
use Rattle.history.specs.Packets.{concatenated, compared_from, with_fill}
use Rattle.history.specs.Calls.{shown_bytes}

-- what is compared of an open packet is all of it, as long as it is within the largest
pub compared-all : (before : ℕ) (pieces : List (List ℕ)) → before + length (concatenated pieces) ≤ max_packet → compared_from before pieces ≡ concatenated pieces
compared-all before [] h = refl
compared-all before (p ∷ ps) h =
    let sum : length (p ++ concatenated ps) ≡ length p + length (concatenated ps) = length-append p (concatenated ps) in
    if-false _ _ _ (le-ltb max_packet (before + length p) (omega arith)) ∙ ap (λ (r : List ℕ). p ++ r) (compared-all (before + length p) ps (omega arith))

pub compared-within : (before : ℕ) (pieces : List (List ℕ)) → before ≤ max_packet → before + length (compared_from before pieces) ≤ max_packet
compared-within before [] h = omega arith
compared-within before (p ∷ ps) h =
    if-cases (λ (w : List ℕ). before + length w ≤ max_packet) _ _ _ (λ _. omega arith)
    (λ e.
    let within : before + length p ≤ max_packet = ltb-false max_packet (before + length p) e in
    let rest : (before + length p) + length (compared_from (before + length p) ps) ≤ max_packet = compared-within (before + length p) ps within in
    rw length-append (omega arith))

append-choice : (t : Bool) (before w piece : List ℕ) → before ++ (when t then w else w ++ piece) ≡ (when t then before ++ w else ((before ++ w) ++ piece))
unfolding when◌then◌else◌
append-choice true before w piece = refl
append-choice false before w piece = sym (append_assoc before w piece)

-- one fragment more is compared where the total is still within the largest
pub compared-snoc : (before : ℕ) (pieces : List (List ℕ)) (piece : List ℕ)
    → compared_from before (pieces ++ piece ∷ []) ≡ (when ltb max_packet (before + (length (concatenated pieces) + length piece)) then compared_from before pieces else compared_from before pieces ++ piece)
compared-snoc before [] piece = rw (append-nil piece, zero-add)
compared-snoc before (p ∷ ps) piece = by-test (ltb max_packet (before + length p)) refl (compared-snoc (before + length p) ps piece)
  where
    rest : ℕ
    rest = (before + length p) + (length (concatenated ps) + length piece)

    sum : length (p ++ concatenated ps) ≡ length p + length (concatenated ps)
    sum = length-append p (concatenated ps)

    whole : ℕ
    whole = before + (length (p ++ concatenated ps) + length piece)

    by-test : (t : Bool) → ltb max_packet (before + length p) ≡ t
        → compared_from (before + length p) (ps ++ piece ∷ []) ≡ (when ltb max_packet rest then compared_from (before + length p) ps else compared_from (before + length p) ps ++ piece)
        → compared_from before (p ∷ (ps ++ piece ∷ [])) ≡ (when ltb max_packet whole then compared_from before (p ∷ ps) else compared_from before (p ∷ ps) ++ piece)
    by-test true e later =
        let past : max_packet < before + length p = ltb-true max_packet (before + length p) e in
        let over : ltb max_packet whole ≡ true = lt-ltb max_packet whole (omega (arith, sum)) in
        if-true {A = List ℕ} _ _ _ e ∙ sym (if-true {A = List ℕ} _ _ _ over ∙ if-true {A = List ℕ} _ _ _ e)
    by-test false e later =
        let same : whole ≡ rest = omega (arith, sum) in
        if-false {A = List ℕ} _ _ _ e ∙ ap (λ (r : List ℕ). p ++ r) later
        ∙ append-choice (ltb max_packet rest) p (compared_from (before + length p) ps) piece
        ∙ rw (same, if-false {A = List ℕ} _ [] (p ++ compared_from (before + length p) ps) e)

-- the store begins with what is compared of the fragments held
pub record Holds (size : ℕ) (store : List ℕ) (held : List (List ℕ)) : Type 0 where
  pub size_is : length store ≡ size
  pub room : max_packet ≤ length store
  pub stored : take (length (compared_from 0 held)) store ≡ compared_from 0 held

pub holds-nothing : {size : ℕ} (store : List ℕ) → length store ≡ size → max_packet ≤ length store → Holds size store []
holds-nothing store size_is room = record { size_is = size_is; room = room; stored = refl }

-- of a part that is lent, and of the whole again
pub stored-lent : (store rest : List ℕ) (held : List (List ℕ)) → max_packet ≤ length store
    → take (length (compared_from 0 held)) (store ++ rest) ≡ compared_from 0 held → Holds (length store) store held
stored-lent store rest held room stored = record {
  size_is = refl;
  room = room;
  stored = sym (take-append-le (length (compared_from 0 held)) store rest (omega (arith, compared-within 0 held (omega arith)))) ∙ stored;
}

pub stored-whole : {size : ℕ} (store rest : List ℕ) (held : List (List ℕ)) → Holds size store held → take (length (compared_from 0 held)) (store ++ rest) ≡ compared_from 0 held
stored-whole store rest held h = take-append-le (length (compared_from 0 held)) store rest (omega (arith, compared-within 0 held (omega arith), h.room)) ∙ h.stored

take_put : (store piece : List ℕ) (at : ℕ) → at ≤ length store → take (at + length piece) (put store at piece) ≡ take at store ++ piece
unfolding put
take_put store piece at h =
    let front : length (take at store ++ piece) ≡ at + length piece = length-append (take at store) piece ∙ omega (arith, length-take-le at store h) in
    rw (sym (append_assoc (take at store) piece (drop (at + length piece) store))) (take_at (take at store ++ piece) (drop (at + length piece) store) (at + length piece) front)

pub written-holds : {n : ℕ} (store piece : List ℕ) (held : List (List ℕ)) → Holds n store held → Holds n (written store (length (concatenated held)) piece) (held ++ piece ∷ [])
unfolding written
written-holds {n} store piece held h = if-cases (λ (left : List ℕ). Holds n left (held ++ piece ∷ [])) _ _ _ past within
  where
    size : ℕ
    size = length (concatenated held)

    snoc : compared_from 0 (held ++ piece ∷ []) ≡ (when ltb max_packet (size + length piece) then compared_from 0 held else compared_from 0 held ++ piece)
    snoc = compared-snoc 0 held piece ∙ rw zero-add

    past : ltb max_packet (size + length piece) ≡ true → Holds n store (held ++ piece ∷ [])
    past e = record { size_is = h.size_is; room = h.room; stored = rw (snoc ∙ if-true {A = List ℕ} _ _ _ e) h.stored }

    within : ltb max_packet (size + length piece) ≡ false → Holds n (put store size piece) (held ++ piece ∷ [])
    within e =
        let end : size + length piece ≤ max_packet = ltb-false max_packet (size + length piece) e in
        let fits : size + length piece ≤ length store = omega (arith, h.room) in
        let all : compared_from 0 held ≡ concatenated held = compared-all 0 held (omega arith) in
        let front : take size store ≡ concatenated held = subst (λ (w : List ℕ). take (length w) store ≡ w) all h.stored in
        let now : compared_from 0 (held ++ piece ∷ []) ≡ concatenated held ++ piece = snoc ∙ (if-false {A = List ℕ} _ _ _ e ∙ ap (λ (w : List ℕ). w ++ piece) all) in
        record {
          size_is = length-put store piece size fits ∙ h.size_is;
          room = rw (length-put store piece size fits) h.room;
          stored = rw (now, length-append) (take_put store piece size (omega arith) ∙ ap (λ (w : List ℕ). w ++ piece) front);
        }

-- what is shown, where it is within the store and the largest packet
shown-within : (store : List ℕ) (size : ℕ) → size ≤ length store → size ≤ max_packet → shown_bytes store size ≡ take size store
unfolding shown
shown-within store size h k = ap (λ (s : Slice). s.bytes) (if-false _ _ _ (le-ltb (length store) size h) ∙ if-false _ _ _ (le-ltb max_packet size k))

pub filled-length : (store : List ℕ) (total : ℕ) → length (filled store total) ≡ length store
filled-length store total = (leaves-the-rest store total).same_length

-- a packet is sent: what is shown of its sent length is the packet with its fill
pub sent-shown : {n : ℕ} (store rest : List ℕ) (held : List (List ℕ)) → Holds n store held → length (concatenated held) ≤ max_packet
    → shown_bytes (filled store (length (concatenated held)) ++ rest) (sent_length (length (concatenated held))) ≡ with_fill (concatenated held)
unfolding filled sent_length
sent-shown store rest held h within = by-test (ltb (length (concatenated held)) min_sent) refl
  where
    size : ℕ
    size = length (concatenated held)

    front : take size store ≡ concatenated held
    front = subst (λ (w : List ℕ). take (length w) store ≡ w) (compared-all 0 held (omega arith)) h.stored

    zeros : List ℕ
    zeros = replicate (min_sent - size) 0

    by-test : (t : Bool) → ltb size min_sent ≡ t
        → shown_bytes ((when ltb size min_sent then (when ltb (length store) min_sent then store else put store size zeros) else store) ++ rest) (when ltb size min_sent then min_sent else size) ≡ with_fill (concatenated held)
    by-test true e =
        let less : size < min_sent = ltb-true size min_sent e in
        let many : length zeros ≡ min_sent - size = length-replicate (min_sent - size) 0 in
        let fits : size + length zeros ≤ length store = omega (arith, h.room) in
        let room : min_sent ≤ length (put store size zeros) = rw (length-put store zeros size fits) (omega (arith, h.room)) in
        let whole : size + length zeros ≡ min_sent = omega arith in
        rw (if-true {A = List ℕ} _ (when ltb (length store) min_sent then store else put store size zeros) store e, if-true {A = ℕ} _ min_sent size e, if-false {A = List ℕ} _ store (put store size zeros) (le-ltb (length store) min_sent (omega (arith, h.room))))
        (shown-within (put store size zeros ++ rest) min_sent (rw length-append (omega arith)) (omega arith)
        ∙ take-append-le min_sent (put store size zeros) rest room
        ∙ ap (λ (n : ℕ). take n (put store size zeros)) (sym whole)
        ∙ take_put store zeros size (omega (arith, h.room))
        ∙ ap (λ (w : List ℕ). w ++ zeros) front)
    by-test false e =
        let much : min_sent ≤ size = ltb-false size min_sent e in
        let none : min_sent - size ≡ 0 = omega arith in
        rw (if-false {A = List ℕ} _ (when ltb (length store) min_sent then store else put store size zeros) store e, if-false {A = ℕ} _ min_sent size e)
        (shown-within (store ++ rest) size (rw length-append (omega (arith, h.room))) within
        ∙ take-append-le size store rest (omega (arith, h.room))
        ∙ front ∙ sym (ap (λ (n : ℕ). concatenated held ++ replicate n 0) none ∙ append-nil (concatenated held)))
