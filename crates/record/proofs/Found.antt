-- What stands at a place of some bytes, taken as a record.
-- Assumes nothing.
use Prim.Native.Nat.{ℕ, ◌+◌, ◌-◌, ◌≤◌, ◌<◌}
use mathlib.Core.Bool.{Bool, true, false}
use mathlib.Core.List.{List, ◌++◌}
use mathlib.Core.Path.{◌≡◌, refl, sym, ap, ◌∙◌}
use native.Mathlib.Omega.{arith}
use lib.ListN.{length, get_or, drop, length-drop, length-append, get_or-append}
use lib.Seq.{get_or-drop}
use borrow.Author.Tests.{ltb-true, ltb-false, lt-ltb, le-ltb}
use Rattle.std.specs.Prelude.{Result, Ok, Err}
use Rattle.prelude.proofs.Tests.{if-true, if-false, if-cases}
use Rattle.record.specs.Records.{check_size, byte_if, head_size, record_at, found_at}
use Rattle.record.specs.declared.Record.{Record}
use Rattle.record.specs.declared.Stop.{Stop}
use Rattle.record.specs.declared.Stop.TheVariants as stop

-- a whole record stands there, with so many bytes of data
pub record Whole (check : Bool) (bytes : List ℕ) (at size : ℕ) : Type 0 where
  pub link-low : get_or bytes (at + check_size check + 1) 0 ≤ 1
  pub size-is : get_or bytes (at + check_size check + 2) 0 ≡ size
  pub inside : at + head_size check + size + check_size check ≤ length bytes

-- where the check is on, a byte more
pub check-size-le : (check : Bool) → check_size check ≤ 1
check-size-le true = omega arith
check-size-le false = omega arith

-- a link byte stands there that is no truth value
pub record BadLink (check : Bool) (bytes : List ℕ) (at : ℕ) : Type 0 where
  pub is-there : at + check_size check + 2 ≤ length bytes
  pub link-high : 1 < get_or bytes (at + check_size check + 1) 0

module _ (check : Bool) (bytes : List ℕ) (at : ℕ) where
  pub whole-found : (size : ℕ) → Whole check bytes at size → found_at check bytes at ≡ Ok (record_at check bytes at size)
  unfolding found_at
  whole-found size w =
      if-false _ _ _ (le-ltb (length bytes) at (omega (arith, w.inside)))
      ∙ (if-false _ _ _ (le-ltb (length bytes - at) (check_size check + 2) (omega (arith, w.inside)))
      ∙ (if-false _ _ _ (le-ltb 1 (get_or bytes (at + check_size check + 1) 0) w.link-low)
      ∙ (if-false _ _ _ (le-ltb (length bytes - at) (head_size check) (omega (arith, w.inside)))
      ∙ (if-false _ _ _ (le-ltb (length bytes - at - head_size check) (get_or bytes (at + check_size check + 2) 0 + check_size check) (omega (arith, w.inside, w.size-is)))
      ∙ ap (λ (n : ℕ). Ok (record_at check bytes at n)) w.size-is))))

  pub bad-link-found : BadLink check bytes at → found_at check bytes at ≡ Err stop.BadLink
  unfolding found_at
  bad-link-found b =
      if-false _ _ _ (le-ltb (length bytes) at (omega (arith, b.is-there)))
      ∙ (if-false _ _ _ (le-ltb (length bytes - at) (check_size check + 2) (omega (arith, b.is-there)))
      ∙ if-true _ _ _ (lt-ltb 1 (get_or bytes (at + check_size check + 1) 0) b.link-high))

  -- what is known of the bytes, by what was found
  pub data Tells : Result Record Stop → Type 0 where
    whole : (size : ℕ) → Whole check bytes at size → Tells (Ok (record_at check bytes at size))
    bad-link : BadLink check bytes at → Tells (Err stop.BadLink)
    cut : length bytes < at + head_size check + get_or bytes (at + check_size check + 2) 0 + check_size check → Tells (Err stop.Cut)

  pub found-tells : Tells (found_at check bytes at)
  unfolding found_at
  found-tells =
      if-cases Tells _ _ _ (λ t₀. cut (omega (arith, ltb-true _ _ t₀)))
      (λ t₀. if-cases Tells _ _ _ (λ t₁. cut (omega (arith, ltb-true _ _ t₁)))
      (λ t₁. if-cases Tells _ _ _ (λ t₂. bad-link (record { is-there = omega (arith, ltb-false _ _ t₀, ltb-false _ _ t₁); link-high = ltb-true _ _ t₂ }))
      (λ t₂. if-cases Tells _ _ _ (λ t₃. cut (omega (arith, ltb-true _ _ t₃)))
      (λ t₃. if-cases Tells _ _ _ (λ t₄. cut (omega (arith, ltb-true _ _ t₄)))
      (λ t₄. whole _ (record { link-low = ltb-false _ _ t₂; size-is = refl; inside = omega (arith, ltb-false _ _ t₀, ltb-false _ _ t₃, ltb-false _ _ t₄) }))))))

-- more bytes behind a record, and behind a bad link byte, change nothing
pub byte-append : (check : Bool) (part more : List ℕ) (k : ℕ) → k + check_size check ≤ length part → byte_if check (part ++ more) k ≡ byte_if check part k
byte-append false part more k h = refl
byte-append true part more k h = get_or-append part more 0 k (omega arith)

module _ (check : Bool) (part more : List ℕ) (at : ℕ) where
  byte-stays : (k : ℕ) → k < length part → get_or (part ++ more) k 0 ≡ get_or part k 0
  byte-stays k h = get_or-append part more 0 k h

  pub record-append : (size : ℕ) → at + head_size check + size + check_size check ≤ length part → record_at check (part ++ more) at size ≡ record_at check part at size
  record-append size h =
      rw (
        byte-append check part more at (omega arith),
        byte-append check part more (at + head_size check + size) h,
        byte-stays (at + check_size check) (omega arith),
        byte-stays (at + check_size check + 1) (omega arith),
      ) refl

  pub whole-append : (size : ℕ) → Whole check part at size → Whole check (part ++ more) at size
  whole-append size w =
      record {
        link-low = rw (byte-stays (at + check_size check + 1) (omega (arith, w.inside))) w.link-low;
        size-is = byte-stays (at + check_size check + 2) (omega (arith, w.inside)) ∙ w.size-is;
        inside = rw length-append (omega (arith, w.inside));
      }

  pub bad-link-append : BadLink check part at → BadLink check (part ++ more) at
  bad-link-append b =
      record {
        is-there = rw length-append (omega (arith, b.is-there));
        link-high = rw (byte-stays (at + check_size check + 1) (omega (arith, b.is-there))) b.link-high;
      }

-- a record further on in the bytes
abbrev pub placed : (at : ℕ) → Record → Record
placed at r = record { attributes = r.attributes; start = at + r.start; end = at + r.end; next = at + r.next }

abbrev pub placed_if : (at : ℕ) → Result Record Stop → Result Record Stop
placed_if at (Ok r) = Ok (placed at r)
placed_if at (Err why) = Err why

byte-drop : (check : Bool) (at : ℕ) (bytes : List ℕ) (k m : ℕ) → at + k ≡ m → byte_if check (drop at bytes) k ≡ byte_if check bytes m
byte-drop false at bytes k m e = refl
byte-drop true at bytes k m e = get_or-drop at bytes k 0 ∙ ap (λ (n : ℕ). get_or bytes n 0) e

module _ (check : Bool) (bytes : List ℕ) (at : ℕ) where
  abbrev rest : List ℕ
  rest = drop at bytes

  byte-is : (k m : ℕ) → at + k ≡ m → get_or rest k 0 ≡ get_or bytes m 0
  byte-is k m e = get_or-drop at bytes k 0 ∙ ap (λ (n : ℕ). get_or bytes n 0) e

  record-placed : (size : ℕ) → placed at (record_at check rest 0 size) ≡ record_at check bytes at size
  record-placed size =
      let start : at + (0 + head_size check) ≡ at + head_size check = omega arith in
      let end : at + (0 + head_size check + size) ≡ at + head_size check + size = omega arith in
      let next : at + (0 + head_size check + size + check_size check) ≡ at + head_size check + size + check_size check = omega arith in
      rw (
        start,
        end,
        next,
        byte-drop check at bytes 0 at (omega arith),
        byte-drop check at bytes (0 + head_size check + size) (at + head_size check + size) (omega arith),
        byte-is (0 + check_size check) (at + check_size check) (omega arith),
        byte-is (0 + check_size check + 1) (at + check_size check + 1) (omega arith),
      ) refl

  whole-at-front : (size : ℕ) → Whole check bytes at size → Whole check rest 0 size
  whole-at-front size w =
      record {
        link-low = rw (byte-is (0 + check_size check + 1) (at + check_size check + 1) (omega arith)) w.link-low;
        size-is = byte-is (0 + check_size check + 2) (at + check_size check + 2) (omega arith) ∙ w.size-is;
        inside = omega (arith, length-drop at bytes, w.inside);
      }

  whole-at-place : (size : ℕ) → Whole check rest 0 size → Whole check bytes at size
  whole-at-place size w =
      record {
        link-low = rw (byte-is (0 + check_size check + 1) (at + check_size check + 1) (omega arith)) at w.link-low;
        size-is = sym (byte-is (0 + check_size check + 2) (at + check_size check + 2) (omega arith)) ∙ w.size-is;
        inside = omega (arith, length-drop at bytes, w.inside);
      }

  bad-link-at-front : BadLink check bytes at → BadLink check rest 0
  bad-link-at-front b =
      record {
        is-there = omega (arith, length-drop at bytes, b.is-there);
        link-high = rw (byte-is (0 + check_size check + 1) (at + check_size check + 1) (omega arith)) b.link-high;
      }

  bad-link-at-place : BadLink check rest 0 → BadLink check bytes at
  bad-link-at-place b =
      record {
        is-there = omega (arith, length-drop at bytes, b.is-there);
        link-high = rw (byte-is (0 + check_size check + 1) (at + check_size check + 1) (omega arith)) at b.link-high;
      }

  -- what is found at a place is what is found at the front of the bytes from there on
  pub found-placed : placed_if at (found_at check rest 0) ≡ found_at check bytes at
  found-placed = by-front (found_at check rest 0) refl (found-tells check rest 0)
    where
      by-front : (g : Result Record Stop) → found_at check rest 0 ≡ g → Tells check rest 0 g → placed_if at g ≡ found_at check bytes at
      by-front _ e (whole size w) = ap (λ (r : Record). Ok r) (record-placed size) ∙ sym (whole-found check bytes at size (whole-at-place size w))
      by-front _ e (bad-link b) = sym (bad-link-found check bytes at (bad-link-at-place b))
      by-front _ e (cut _) = by-place (found_at check bytes at) (found-tells check bytes at)
        where
          by-place : (f : Result Record Stop) → Tells check bytes at f → Err stop.Cut ≡ f
          by-place _ (whole size w) = let found : _ = whole-found check rest 0 size (whole-at-front size w) in cc
          by-place _ (bad-link b) = let found : _ = bad-link-found check rest 0 (bad-link-at-front b) in cc
          by-place _ (cut _) = refl
