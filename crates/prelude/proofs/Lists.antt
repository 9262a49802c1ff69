-- Laws on lists that the library does not have.
-- Assumes nothing.
use Prim.Native.Nat.{ℕ, zero, suc, ◌+◌, ◌-◌, ◌≤◌, ◌<◌}
use mathlib.Core.Bool.{Bool, true, false}
use mathlib.Core.List.{List, [], ◌∷◌, ◌++◌, append_assoc, append-nil}
use mathlib.Core.Logic.{⊎_elim}
use mathlib.Core.Path.{◌≡◌, refl, sym, ap, ◌∙◌}
use native.Mathlib.Nat.{add-zero, add-suc, suc-add}
use native.Mathlib.Omega.{arith}
use lib.ListN.{length, get_or, take, drop, length-take, length-drop, length-append, drop_of_length-le, get_or-append}
use lib.Seq.{take-length, get_or-take, get_or-drop, get_or-append-add, take-add, take_at, take-append_seam, length-take-le, drop_at, drop-drop, drop-cons, drop-append-add}
use borrow.Rule.Slice.PartMut.{put_mid}
use Rattle.prelude.specs.Choice.{when◌then◌else◌}
use Rattle.prelude.specs.Parts.{part, put, ChangesOnly}

-- the n elements from place i on, one by one: at numerals it computes to the list of them
abbrev pub elements : ℕ → ℕ → List ℕ → List ℕ
elements zero i xs = []
elements (suc n) i xs = get_or xs i 0 ∷ elements n (suc i) xs

drop-elements : (n i : ℕ) (xs : List ℕ) → i + n ≤ length xs → drop i xs ≡ elements n i xs ++ drop (i + n) xs
drop-elements zero i xs h = rw add-zero
drop-elements (suc n) i xs h =
    drop-cons xs i 0 (omega arith)
    ∙ ap (λ (r : List ℕ). get_or xs i 0 ∷ r) (drop-elements n (suc i) xs (omega arith) ∙ rw (add-suc i n, suc-add i n))

-- a list is its first n elements, one by one, and what comes after them
pub by-elements : (n : ℕ) (xs : List ℕ) → n ≤ length xs → xs ≡ elements n 0 xs ++ drop n xs
by-elements n xs h = drop-elements n 0 xs (omega arith) ∙ rw (native.Mathlib.Nat.zero-add n)

pub all-elements : (n : ℕ) (xs : List ℕ) → length xs ≡ n → elements n 0 xs ≡ xs
all-elements n xs e =
    let short : length xs ≤ n = omega arith in
    let none : drop n xs ≡ [] = drop_of_length-le xs short in
    sym (by-elements n xs (omega arith) ∙ (ap (λ (r : List ℕ). elements n 0 xs ++ r) none ∙ append-nil (elements n 0 xs)))

pub length_part : (at n : ℕ) (bytes : List ℕ) → at + n ≤ length bytes → length (part at n bytes) ≡ n
length_part at n bytes h = simp (length-take, length-drop) (omega arith)

pub drop_past : (n m : ℕ) (xs ys : List ℕ) → length xs ≡ n → drop (n + m) (xs ++ ys) ≡ drop m ys
drop_past n m xs ys e = rw (← e) (drop-append-add xs ys m)

-- a piece copied over the part of a slice that is as long
pub copied-over-part : (bytes piece copy : List ℕ) (at n : ℕ) → n ≡ length piece → copy ≡ piece → put_mid at n bytes copy ≡ put bytes at piece
unfolding put
copied-over-part bytes piece copy at n h e = rw (h, e, drop-drop (length piece) at bytes)

-- a piece put at the front of the tail of a slice that starts at a place
pub put-in-tail : (bytes piece copy : List ℕ) (at : ℕ) → at ≤ length bytes → copy ≡ put (take (length bytes - at) (drop at bytes)) 0 piece
    → put_mid at (length bytes - at) bytes copy ≡ put bytes at piece
unfolding put
put-in-tail bytes piece copy at h e =
    let tail : take (length bytes - at) (drop at bytes) ≡ drop at bytes = rw (← length-drop at bytes) (take-length (drop at bytes)) in
    let none : drop (length bytes - at) (drop at bytes) ≡ [] = drop_of_length-le (drop at bytes) (omega (arith, length-drop at bytes)) in
    let front : copy ≡ piece ++ drop (at + length piece) bytes = e ∙ rw (tail, native.Mathlib.Nat.zero-add (length piece), drop-drop (length piece) at bytes) refl in
    rw (none, front, append-nil) refl

pub length-put : (bytes piece : List ℕ) (at : ℕ) → at + length piece ≤ length bytes → length (put bytes at piece) ≡ length bytes
unfolding put
length-put bytes piece at h = simp (length-append, length-take, length-drop) (omega arith)

-- a piece written over one as long, wherever they stand
pub put-over : (before old piece after : List ℕ) (at : ℕ) → length before ≡ at → length old ≡ length piece
    → put (before ++ (old ++ after)) at piece ≡ before ++ (piece ++ after)
unfolding put
put-over before old piece after at b e =
    let rest : drop (length before + length piece) (before ++ (old ++ after)) ≡ after =
    drop-append-add before (old ++ after) (length piece) ∙ drop_at old after (length piece) e in
    rw (take_at before (old ++ after) at b, ← b, rest)

-- the same where the piece is given
pub put-over-if : (given : Bool) (before old piece after : List ℕ) (at : ℕ) → length before ≡ at → length old ≡ length piece
    → (when given then put (before ++ (old ++ after)) at piece else before ++ (old ++ after)) ≡ before ++ ((when given then piece else old) ++ after)
unfolding when◌then◌else◌
put-over-if true before old piece after at b e = put-over before old piece after at b e
put-over-if false before old piece after at b e = refl

-- nothing changes
pub unchanged : (from to : ℕ) (bytes : List ℕ) → ChangesOnly from to bytes bytes
unchanged from to bytes = record { same_length = refl; elsewhere = λ k _. refl }

-- bytes before and behind a piece that is written stay
put-before : (bytes piece : List ℕ) (at k : ℕ) → at ≤ length bytes → k < at → get_or (put bytes at piece) k 0 ≡ get_or bytes k 0
unfolding put
put-before bytes piece at k room l =
    let inside : k < length (take at bytes) = rw (length-take-le at bytes room) l in
    get_or-append (take at bytes) (piece ++ drop (at + length piece) bytes) 0 k inside ∙ get_or-take at bytes k 0 l

put-after : (bytes piece : List ℕ) (at k : ℕ) → at ≤ length bytes → at + length piece ≤ k → get_or (put bytes at piece) k 0 ≡ get_or bytes k 0
unfolding put
put-after bytes piece at k room l =
    let rest : ℕ = k - (at + length piece) in
    let first : length (take at bytes) ≡ at = length-take-le at bytes room in
    let split : k ≡ length (take at bytes) + (length piece + rest) = omega arith in
    let again : at + length piece + rest ≡ k = omega arith in
    rw split
    (get_or-append-add (take at bytes) (piece ++ drop (at + length piece) bytes) (length piece + rest) 0
    ∙ (get_or-append-add piece (drop (at + length piece) bytes) rest 0 ∙ (get_or-drop (at + length piece) bytes rest 0 ∙ ap (λ (n : ℕ). get_or bytes n 0) (again ∙ split))))

pub put-changes : (bytes piece : List ℕ) (at : ℕ) → at + length piece ≤ length bytes → ChangesOnly at (at + length piece) bytes (put bytes at piece)
put-changes bytes piece at room =
    let start : at ≤ length bytes = omega arith in
    record {
      same_length = length-put bytes piece at room;
      elsewhere = λ k where-k. ⊎_elim (λ l. put-before bytes piece at k start l) (λ l. put-after bytes piece at k start l) where-k;
    }

-- what is written stands at its place
pub part-put : (bytes piece : List ℕ) (at : ℕ) → at ≤ length bytes → part at (length piece) (put bytes at piece) ≡ piece
unfolding put
part-put bytes piece at h =
    let rest : List ℕ = drop (at + length piece) bytes in
    ap (take (length piece)) (drop_at (take at bytes) (piece ++ rest) at (length-take-le at bytes h)) ∙ take-append_seam piece rest

-- and a part that ends where it starts stays
pub part-before-put : (bytes piece : List ℕ) (at n : ℕ) → at + n ≤ length bytes → part at n (put bytes (at + n) piece) ≡ part at n bytes
unfolding put
part-before-put bytes piece at n h =
    let rest : List ℕ = piece ++ drop (at + n + length piece) bytes in
    let whole : take (at + n) bytes ++ rest ≡ take at bytes ++ (part at n bytes ++ rest) =
    ap (λ (front : List ℕ). front ++ rest) (take-add at n bytes) ∙ append_assoc (take at bytes) (part at n bytes) rest in
    ap (part at n) whole
    ∙ (ap (take n) (drop_at (take at bytes) (part at n bytes ++ rest) at (length-take-le at bytes (omega arith))) ∙ take_at (part at n bytes) rest n (length_part at n bytes h))
