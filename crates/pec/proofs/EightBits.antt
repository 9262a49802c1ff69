-- Division tells apart bits that differ, where they do so only within eight neighbours.
-- Assumes nothing.
use Prim.Native.Nat.{ℕ, zero, suc, ◌+◌, ◌*◌, ◌^◌, ◌≤◌, ◌<◌, suc-le-suc}
use mathlib.Core.List.{List, [], ◌∷◌, ◌++◌}
use mathlib.Core.Path.{◌≡◌, refl, sym, ap, ap₂, ◌∙◌}
use native.Mathlib.Nat.{pow-suc, mul-le-mul_right, le-mul_of_pos_right}
use native.Mathlib.Omega.{arith}
use lib.Bits.{bit_xor, xor_lt, xor_self}
use lib.Dec.{lit≤, lit<}
use lib.ListN.{length, get_or}
use lib.Seq.{ext_get_or}
use borrow.Author.Tests.{lt-ltb}
use Rattle.prelude.proofs.Tests.{if-true}
use Rattle.std.proofs.lemmas.Nat.{pow_pos}
use Rattle.pec.specs.Code.{bit_step}
use Rattle.pec.specs.Division.{brought_down, divided, bits_of, all_bits}
use Rattle.pec.specs.Properties.{DifferWithin}
use Rattle.pec.proofs.Division.{down-is}
use Rattle.pec.proofs.Linear.{step-linear}
use Rattle.pec.proofs.Telling.{AreDigits, digits-of-all, digits-of-zeros, down-lt, divided-tells, divided-lt, divided-append, zeros}
use Rattle.pec.proofs.Xor.{same-of-xor-zero, xor-exchange}

-- the difference of what two bits leave behind two remainders is what the difference of the bits leaves behind that of the remainders
down-linear : (r s a b : ℕ) → r < 256 → s < 256 → a < 2 → b < 2
    → bit_xor (brought_down r a) (brought_down s b) ≡ brought_down (bit_xor r s) (bit_xor a b)
down-linear r s a b hr hs ha hb =
    ap₂ bit_xor (down-is r a hr ha) (down-is s b hs hb)
    ∙ (xor-exchange (bit_step r) a (bit_step s) b
    ∙ (ap (λ (x : ℕ). bit_xor x (bit_xor a b)) (sym (step-linear r s hr hs)) ∙ sym (down-is (bit_xor r s) (bit_xor a b) (xor_lt 8 r s hr hs) (xor_lt 1 a b ha hb))))

-- no polynomial is taken away from a small remainder
down-small : (rest bit : ℕ) → rest * 2 + bit < 256 → brought_down rest bit ≡ rest * 2 + bit
unfolding brought_down
down-small rest bit h = if-true _ _ _ (lt-ltb (rest * 2 + bit) 256 h)

-- how far two remainders may differ where n bits of the eight are still to come down
abbrev pub IsNear : (n r s : ℕ) → Type 0
IsNear n r s = (bit_xor r s + 1) * 2 ^ n ≤ 256

same-bits : (xs ys : List ℕ) → length xs ≡ length ys → ((other : ℕ) → get_or xs other 0 ≡ get_or ys other 0) → xs ≡ ys
same-bits xs ys long same = ext_get_or 0 xs ys long (λ k _. same k)

bound-doubled : (n apart bit : ℕ) → bit < 2 → (apart + 1) * 2 ^ suc n ≤ 256 → (apart * 2 + bit + 1) * 2 ^ n ≤ 256
bound-doubled n apart bit h near =
    let both : 2 ^ suc n ≡ 2 ^ n * 2 = pow-suc 2 n in
    let whole : (apart + 1) * (2 ^ n * 2) ≤ 256 = rw both at near in
    let more : (apart * 2 + bit + 1) * 2 ^ n ≤ (apart * 2 + 2) * 2 ^ n = mul-le-mul_right (2 ^ n) (omega arith) in
    omega arith

below-bound : (n apart : ℕ) → (apart + 1) * 2 ^ n ≤ 256 → apart < 256
below-bound n apart near =
    let more : apart + 1 ≤ (apart + 1) * 2 ^ n = le-mul_of_pos_right (apart + 1) (pow_pos n) in
    omega arith

-- while bits of the eight come down, the polynomial is never taken away from the difference
module _ (n r s a b : ℕ) (hr : r < 256) (hs : s < 256) (ha : a < 2) (hb : b < 2) (near : IsNear (suc n) r s) where
  bound : (bit_xor r s * 2 + bit_xor a b + 1) * 2 ^ n ≤ 256
  bound = bound-doubled n (bit_xor r s) (bit_xor a b) (xor_lt 1 a b ha hb) near

  next-apart : bit_xor (brought_down r a) (brought_down s b) ≡ bit_xor r s * 2 + bit_xor a b
  next-apart = down-linear r s a b hr hs ha hb ∙ down-small (bit_xor r s) (bit_xor a b) (below-bound n (bit_xor r s * 2 + bit_xor a b) bound)

  next-near : IsNear n (brought_down r a) (brought_down s b)
  next-near = rw next-apart bound

  -- so where the next remainders are the same, these and the bits are
  none_apart : brought_down r a ≡ brought_down s b → bit_xor r s * 2 + bit_xor a b ≡ 0
  none_apart e = sym next-apart ∙ (ap (λ (t : ℕ). bit_xor t (brought_down s b)) e ∙ xor_self (brought_down s b))

  same-rests : brought_down r a ≡ brought_down s b → r ≡ s
  same-rests e = same-of-xor-zero r s (omega (arith, none_apart e))

  same-digits : brought_down r a ≡ brought_down s b → a ≡ b
  same-digits e = same-of-xor-zero a b (omega (arith, none_apart e))

-- bits that differ only in the first n come down behind two remainders
near-tells : (n r s : ℕ) (xs ys : List ℕ) → r < 256 → s < 256 → AreDigits xs → AreDigits ys → IsNear n r s → length xs ≡ length ys
    → ((other : ℕ) → n ≤ other → get_or xs other 0 ≡ get_or ys other 0) → (r ≡ s → xs ≡ ys → ⊥) → divided r xs ≡ divided s ys → ⊥
unfolding divided
near-tells zero r s xs ys hr hs hx hy near long behind differ e =
    let same : xs ≡ ys = same-bits xs ys long (λ k. behind k (omega arith)) in
    differ (divided-tells r s xs hr hs hx (e ∙ ap (divided s) (sym same))) same
near-tells (suc n) r s [] [] hr hs hx hy near long behind differ e = differ e refl
near-tells (suc n) r s [] (y ∷ ys) hr hs hx hy near long behind differ e = omega arith
near-tells (suc n) r s (x ∷ xs) [] hr hs hx hy near long behind differ e = omega arith
near-tells (suc n) r s (x ∷ xs) (y ∷ ys) hr hs hx hy near long behind differ e =
    near-tells n (brought_down r x) (brought_down s y) xs ys (down-lt r x hr hx.0) (down-lt s y hs hy.0) hx.1 hy.1
    (next-near n r s x y hr hs hx.0 hy.0 near) (omega arith) (λ k h. behind (suc k) (suc-le-suc h))
    (λ rests same. differ (same-rests n r s x y hr hs hx.0 hy.0 near rests) (ap₂ (λ (bit : ℕ) (later : List ℕ). bit ∷ later) (same-digits n r s x y hr hs hx.0 hy.0 near rests) same))
    e

-- the same with `place` equal bits before them
bits-tell : (rest : ℕ) (xs ys : List ℕ) (place : ℕ) → rest < 256 → AreDigits xs → AreDigits ys → length xs ≡ length ys
    → ((other : ℕ) → other < place → get_or xs other 0 ≡ get_or ys other 0) → ((other : ℕ) → place + 8 ≤ other → get_or xs other 0 ≡ get_or ys other 0)
    → (xs ≡ ys → ⊥) → divided rest xs ≡ divided rest ys → ⊥
unfolding divided
bits-tell rest xs ys zero h hx hy long before behind differ e =
    near-tells 8 rest rest xs ys h h hx hy (rw (xor_self rest) (lit≤ tt)) long (λ k l. behind k (omega arith)) (λ _. differ) e
bits-tell rest [] [] (suc place) h hx hy long before behind differ e = differ refl
bits-tell rest [] (y ∷ ys) (suc place) h hx hy long before behind differ e = omega arith
bits-tell rest (x ∷ xs) [] (suc place) h hx hy long before behind differ e = omega arith
bits-tell rest (x ∷ xs) (y ∷ ys) (suc place) h hx hy long before behind differ e =
    let same : x ≡ y = before 0 (omega arith) in
    bits-tell (brought_down rest x) xs ys place (down-lt rest x h hx.0) hx.1 hy.1 (omega arith) (λ k l. before (suc k) (suc-le-suc l))
    (λ k l. behind (suc k) (omega arith)) (λ later. differ (ap₂ (λ (bit : ℕ) (bits : List ℕ). bit ∷ bits) same later))
    (e ∙ ap (λ (bit : ℕ). divided (brought_down rest bit) ys) (sym same))

length-all-bits : (bytes : List ℕ) → length (all_bits bytes) ≡ 8 * length bytes
unfolding all_bits bits_of
length-all-bits [] = refl
length-all-bits (byte ∷ bytes) = omega (arith, length-all-bits bytes)

pub eight-bits-tell : (xs ys : List ℕ) (place : ℕ) → length xs ≡ length ys → DifferWithin place xs ys
    → divided 0 (all_bits xs ++ zeros) ≡ divided 0 (all_bits ys ++ zeros) → ⊥
eight-bits-tell xs ys place long d e =
    let rests : divided (divided 0 (all_bits xs)) zeros ≡ divided (divided 0 (all_bits ys)) zeros =
    sym (divided-append 0 (all_bits xs) zeros) ∙ (e ∙ divided-append 0 (all_bits ys) zeros) in
    let same : divided 0 (all_bits xs) ≡ divided 0 (all_bits ys) =
    divided-tells (divided 0 (all_bits xs)) (divided 0 (all_bits ys)) zeros (divided-lt 0 (all_bits xs) (lit< tt) (digits-of-all xs))
    (divided-lt 0 (all_bits ys) (lit< tt) (digits-of-all ys)) (digits-of-zeros 8) rests in
    let bits : length (all_bits xs) ≡ length (all_bits ys) = length-all-bits xs ∙ (ap (λ (n : ℕ). 8 * n) long ∙ sym (length-all-bits ys)) in
    bits-tell 0 (all_bits xs) (all_bits ys) place (lit< tt) (digits-of-all xs) (digits-of-all ys) bits d.before d.behind d.somewhere same
