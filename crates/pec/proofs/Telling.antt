-- Division tells apart bytes that differ in one place, and bits that differ within eight neighbours.
-- Assumes nothing.
use Prim.Native.Nat.{ℕ, zero, suc, ◌+◌, ◌/◌, ◌%◌, ◌^◌, ◌<◌}
use mathlib.Core.Bool.{Bool}
use mathlib.Core.List.{List, [], ◌∷◌, ◌++◌}
use mathlib.Core.Path.{◌≡◌, refl, sym, ap, ◌∙◌}
use native.Mathlib.Nat.{mod-lt, mod-eq_of_lt, zero-lt-suc, lt_of_lt_of_le}
use native.Mathlib.Omega.{arith}
use lib.Bits.{bit_xor, xor_lt}
use lib.Dec.{eqb, lit≤}
use lib.ListN.{length, replicate}
use lib.Seq.{ext_get_or}
use borrow.Author.Tests.{eqb-true}
use Rattle.prelude.specs.Parts.{AreBytes}
use Rattle.prelude.specs.Choice.{when◌then◌else◌}
use Rattle.pec.specs.Code.{bit_step, bit_steps, low_polynomial}
use Rattle.pec.specs.Division.{brought_down, divided, bits_of, all_bits}
use Rattle.pec.specs.Properties.{DifferAt}
use Rattle.pec.proofs.Computed.{below-at}
use Rattle.pec.proofs.Division.{down-is, step-lt, after_byte, after-byte-lt, byte-down}
use Rattle.pec.proofs.Xor.{xor-cancel-left, xor-cancel-right}

-- a bit step taken back: its result is odd where the polynomial was taken away
step_back : ℕ → ℕ
step_back crc = when eqb (crc % 2) 0 then crc / 2 else bit_xor crc low_polynomial / 2 + 128

is_taken_back : ℕ → Bool
is_taken_back crc = eqb (step_back (bit_step crc)) crc

step-back : (crc : ℕ) → crc < 256 → step_back (bit_step crc) ≡ crc
unfolding bit_step step_back when◌then◌else◌ is_taken_back
step-back crc h = eqb-true (step_back (bit_step crc)) crc (below-at is_taken_back 256 crc refl h)

step-tells : (r s : ℕ) → r < 256 → s < 256 → bit_step r ≡ bit_step s → r ≡ s
step-tells r s hr hs e = sym (step-back r hr) ∙ (ap step_back e ∙ step-back s hs)

-- each is 0 or 1
abbrev pub AreDigits : List ℕ → Type 0
AreDigits [] = Unit {0}
AreDigits (bit ∷ later) = (bit < 2) × AreDigits later

digits-append : (xs ys : List ℕ) → AreDigits xs → AreDigits ys → AreDigits (xs ++ ys)
digits-append [] ys hx hy = hy
digits-append (x ∷ xs) ys hx hy = (hx.0, digits-append xs ys hx.1 hy)

digits-of : (n number : ℕ) → AreDigits (bits_of n number)
unfolding bits_of
digits-of zero number = tt
digits-of (suc n) number = (mod-lt (number / 2 ^ n) (zero-lt-suc 1), digits-of n number)

pub digits-of-all : (bytes : List ℕ) → AreDigits (all_bits bytes)
unfolding all_bits
digits-of-all [] = tt
digits-of-all (byte ∷ bytes) = digits-append (bits_of 8 byte) (all_bits bytes) (digits-of 8 byte) (digits-of-all bytes)

pub digits-of-zeros : (n : ℕ) → AreDigits (replicate n 0)
digits-of-zeros zero = tt
digits-of-zeros (suc n) = (zero-lt-suc 1, digits-of-zeros n)

pub down-lt : (rest bit : ℕ) → rest < 256 → bit < 2 → brought_down rest bit < 256
down-lt rest bit h k = rw (down-is rest bit h k) (xor_lt 8 (bit_step rest) bit (step-lt rest h) (lt_of_lt_of_le k (lit≤ tt)))

down-tells : (r s bit : ℕ) → r < 256 → s < 256 → bit < 2 → brought_down r bit ≡ brought_down s bit → r ≡ s
down-tells r s bit hr hs k e =
    step-tells r s hr hs (xor-cancel-right (bit_step r) (bit_step s) bit (sym (down-is r bit hr k) ∙ (e ∙ down-is s bit hs k)))

-- where the same bits come down behind two remainders, those left tell these
pub divided-tells : (r s : ℕ) (later : List ℕ) → r < 256 → s < 256 → AreDigits later → divided r later ≡ divided s later → r ≡ s
unfolding divided
divided-tells r s [] hr hs k e = e
divided-tells r s (bit ∷ later) hr hs k e =
    down-tells r s bit hr hs k.0
    (divided-tells (brought_down r bit) (brought_down s bit) later (down-lt r bit hr k.0) (down-lt s bit hs k.0) k.1 e)

pub divided-lt : (rest : ℕ) (later : List ℕ) → rest < 256 → AreDigits later → divided rest later < 256
unfolding divided
divided-lt rest [] h k = h
divided-lt rest (bit ∷ later) h k = divided-lt (brought_down rest bit) later (down-lt rest bit h k.0) k.1

pub divided-append : (rest : ℕ) (first later : List ℕ) → divided rest (first ++ later) ≡ divided (divided rest first) later
unfolding divided
divided-append rest [] later = refl
divided-append rest (bit ∷ first) later = divided-append (brought_down rest bit) first later

-- what stands behind all bits
abbrev pub zeros : List ℕ
zeros = replicate 8 0

byte-tells : (rest x y : ℕ) (bytes : List ℕ) → rest < 256 → x < 256 → y < 256
    → divided rest (all_bits (x ∷ bytes) ++ zeros) ≡ divided rest (all_bits (y ∷ bytes) ++ zeros) → x ≡ y
byte-tells rest x y bytes h hx hy e =
    let later : List ℕ = all_bits bytes ++ zeros in
    let digits : AreDigits later = digits-append (all_bits bytes) zeros (digits-of-all bytes) (digits-of-zeros 8) in
    let same : after_byte rest x ≡ after_byte rest y =
    divided-tells (after_byte rest x) (after_byte rest y) later (after-byte-lt rest x h) (after-byte-lt rest y h) digits
    (sym (byte-down rest x bytes zeros h) ∙ (e ∙ byte-down rest y bytes zeros h)) in
    sym (mod-eq_of_lt hx) ∙ (xor-cancel-left (bit_steps 8 rest) (x % 256) (y % 256) same ∙ mod-eq_of_lt hy)

pub one-byte-tells : (rest : ℕ) (xs ys : List ℕ) (place : ℕ) → rest < 256 → AreBytes xs → AreBytes ys → length xs ≡ length ys → DifferAt place xs ys
    → divided rest (all_bits xs ++ zeros) ≡ divided rest (all_bits ys ++ zeros) → ⊥
one-byte-tells rest [] [] place h hx hy long d e = d.there refl
one-byte-tells rest [] (y ∷ ys) place h hx hy long d e = omega arith
one-byte-tells rest (x ∷ xs) [] place h hx hy long d e = omega arith
one-byte-tells rest (x ∷ xs) (y ∷ ys) zero h hx hy long d e =
    let same : xs ≡ ys = ext_get_or 0 xs ys (omega arith) (λ k _. d.elsewhere (suc k) (λ z. omega arith)) in
    d.there (byte-tells rest x y xs h (hx 0) (hy 0) (e ∙ ap (λ (bytes : List ℕ). divided rest (all_bits (y ∷ bytes) ++ zeros)) (sym same)))
one-byte-tells rest (x ∷ xs) (y ∷ ys) (suc place) h hx hy long d e =
    let same : x ≡ y = d.elsewhere 0 (λ z. omega arith) in
    let tail : DifferAt place xs ys = record { elsewhere = λ other apart. d.elsewhere (suc other) (λ z. apart (omega arith)); there = d.there } in
    one-byte-tells (after_byte rest x) xs ys place (after-byte-lt rest x h) (λ k. hx (suc k)) (λ k. hy (suc k)) (omega arith) tail
    (sym (byte-down rest x xs zeros h)
    ∙ (e ∙ (byte-down rest y ys zeros h ∙ ap (λ (byte : ℕ). divided (after_byte rest byte) (all_bits ys ++ zeros)) (sym same))))
