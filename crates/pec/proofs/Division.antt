-- The code is the remainder of long division.
-- Assumes nothing.
use Prim.Native.Nat.{ℕ, zero, suc, ◌+◌, ◌-◌, ◌*◌, ◌/◌, ◌%◌, ◌^◌, ◌≤◌, ◌<◌}
use mathlib.Core.Bool.{Bool}
use mathlib.Core.List.{List, [], ◌∷◌, ◌++◌, append_assoc}
use mathlib.Core.Path.{◌≡◌, refl, sym, ap, ap₂, ◌∙◌}
use native.Mathlib.Nat.{mod-lt, mod-eq_of_lt, zero-lt-suc, div-add-mod', div-div-eq-div-mul, div-one, div-le_self, div-eq_of_lt, pow-suc, lt_of_le_of_lt, le_of_suc-le, le_of_suc-le-suc, not-suc-le-zero}
use native.Mathlib.Omega.{arith}
use lib.Bits.{bit_xor, xor_lt, xor_assoc, xor_mod, xor_shifted, xor_zero_r}
use lib.Dec.{eqb, ltb, lit<}
use lib.ListN.{replicate}
use lib.Pow.{mod-pow-add}
use Rattle.std.proofs.lemmas.Nat.{field_of, mod-mul-add}
use borrow.Author.Tests.{eqb-true, ltb-true, lt-ltb}
use Rattle.prelude.specs.Bits.{bits}
use Rattle.prelude.specs.Choice.{when◌then◌else◌}
use Rattle.prelude.proofs.Tests.{if-true}
use Rattle.pec.specs.Code.{bit_step, bit_steps, byte_step, after_bytes, code_by_bits}
use Rattle.pec.specs.Division.{brought_down, divided, bits_of, all_bits, remainder}
use Rattle.pec.proofs.Computed.{below-at}
use Rattle.pec.proofs.Linear.{step-linear}

is_step_and_bit : (bit : ℕ) → ℕ → Bool
is_step_and_bit bit rest = eqb (brought_down rest bit) (bit_xor (bit_step rest) bit)

is_byte_step : ℕ → Bool
is_byte_step rest = ltb (bit_step rest) 256

-- a bit that comes down is a bit step and the bit
pub down-is : (rest bit : ℕ) → rest < 256 → bit < 2 → brought_down rest bit ≡ bit_xor (bit_step rest) bit
unfolding brought_down bit_step when◌then◌else◌ is_step_and_bit
down-is rest zero h k = eqb-true (brought_down rest 0) (bit_xor (bit_step rest) 0) (below-at (is_step_and_bit 0) 256 rest refl h)
down-is rest (suc zero) h k = eqb-true (brought_down rest 1) (bit_xor (bit_step rest) 1) (below-at (is_step_and_bit 1) 256 rest refl h)
down-is rest (suc (suc bit)) h k = absurd (not-suc-le-zero (le_of_suc-le-suc (le_of_suc-le-suc k)))

pub step-lt : (rest : ℕ) → rest < 256 → bit_step rest < 256
unfolding bit_step when◌then◌else◌ is_byte_step
step-lt rest h = ltb-true (bit_step rest) 256 (below-at is_byte_step 256 rest refl h)

pub steps-lt : (n rest : ℕ) → rest < 256 → bit_steps n rest < 256
unfolding bit_steps
steps-lt zero rest h = h
steps-lt (suc n) rest h = steps-lt n (bit_step rest) (step-lt rest h)

step-double : (low : ℕ) → low < 128 → bit_step low ≡ low * 2
unfolding bit_step
step-double low h = if-true _ _ _ (lt-ltb low 128 h)

-- the low eight bits of a number are all that its lowest bits are taken from
bit-of-low : (n number : ℕ) → n < 8 → bits n 1 (number % 256) ≡ bits n 1 number
bit-of-low n number h =
    let over : ℕ = 7 - n in
    let all : 8 ≡ suc over + n = omega arith in
    let high : ℕ = number / 2 ^ n in
    let digit : high % 2 < 2 = mod-lt high (zero-lt-suc 1) in
    let shifted : number % 256 / 2 ^ n ≡ high % 2 ^ suc over = ap (λ (m : ℕ). number % 2 ^ m / 2 ^ n) all ∙ field_of number (suc over) n in
    let split : high % 2 ^ suc over ≡ high / 2 % 2 ^ over * 2 + high % 2 = ap (λ (m : ℕ). high % 2 ^ m) (omega arith) ∙ mod-pow-add high over 1 in
    ap (λ (m : ℕ). m % 2) (shifted ∙ split) ∙ mod-mul-add (high / 2 % 2 ^ over) 2 (high % 2) digit

bits-of-low : (n number : ℕ) → n ≤ 8 → bits_of n (number % 256) ≡ bits_of n number
unfolding bits_of
bits-of-low zero number h = refl
bits-of-low (suc n) number h = ap₂ (λ (bit : ℕ) (later : List ℕ). bit ∷ later) (bit-of-low n number h) (bits-of-low n number (le_of_suc-le h))

-- the bits of a byte come down, one after the other
bits-down : (n rest byte : ℕ) (later : List ℕ) → rest < 256 → byte < 256
    → divided (bit_xor rest (byte / 2 ^ n)) (bits_of n byte ++ later) ≡ divided (bit_xor (bit_steps n rest) byte) later
unfolding divided bits_of bit_steps
bits-down zero rest byte later hr hb = ap (λ (b : ℕ). divided (bit_xor rest b) later) (div-one byte)
bits-down (suc n) rest byte later hr hb =
    let high : ℕ = byte / 2 ^ n in
    let bit : ℕ = high % 2 in
    let small : high < 256 = lt_of_le_of_lt (div-le_self byte (2 ^ n)) hb in
    let half : high / 2 < 128 = omega arith in
    let half-byte : high / 2 < 256 = omega arith in
    let digit : bit < 2 = mod-lt high (zero-lt-suc 1) in
    let next : byte / 2 ^ suc n ≡ high / 2 = ap (λ (m : ℕ). byte / m) (pow-suc 2 n) ∙ sym (div-div-eq-div-mul byte (2 ^ n) 2) in
    let down : brought_down (bit_xor rest (byte / 2 ^ suc n)) bit ≡ bit_xor (bit_step rest) high =
    ap (λ (y : ℕ). brought_down (bit_xor rest y) bit) next
    ∙ (down-is (bit_xor rest (high / 2)) bit (xor_lt 8 rest (high / 2) hr half-byte) digit
    ∙ (ap (λ (x : ℕ). bit_xor x bit) (step-linear rest (high / 2) hr half-byte ∙ ap (bit_xor (bit_step rest)) (step-double (high / 2) half))
    ∙ (xor_assoc (bit_step rest) (high / 2 * 2) bit ∙ ap (bit_xor (bit_step rest)) (xor_shifted (high / 2) 1 bit digit ∙ div-add-mod' high 2)))) in
    ap (λ (r : ℕ). divided r (bits_of n byte ++ later)) down ∙ bits-down n (bit_step rest) byte later (step-lt rest hr) hb

-- what is left once the low eight bits of a number have come down
abbrev pub after_byte : (rest byte : ℕ) → ℕ
after_byte rest byte = bit_xor (bit_steps 8 rest) (byte % 256)

pub after-byte-lt : (rest byte : ℕ) → rest < 256 → after_byte rest byte < 256
after-byte-lt rest byte h = xor_lt 8 (bit_steps 8 rest) (byte % 256) (steps-lt 8 rest h) (mod-lt byte (zero-lt-suc 255))

pub byte-down : (rest byte : ℕ) (bytes later : List ℕ) → rest < 256
    → divided rest (all_bits (byte ∷ bytes) ++ later) ≡ divided (after_byte rest byte) (all_bits bytes ++ later)
unfolding all_bits
byte-down rest byte bytes later h =
    let low : ℕ = byte % 256 in
    let low-lt : low < 256 = mod-lt byte (zero-lt-suc 255) in
    let nothing : rest ≡ bit_xor rest (low / 256) = sym (ap (bit_xor rest) (div-eq_of_lt low-lt) ∙ xor_zero_r rest) in
    ap (divided rest) (append_assoc (bits_of 8 byte) (all_bits bytes) later)
    ∙ (ap₂ (λ (r : ℕ) (bits : List ℕ). divided r (bits ++ (all_bits bytes ++ later))) nothing (sym (bits-of-low 8 byte (omega arith)))
    ∙ bits-down 8 rest low (all_bits bytes ++ later) h low-lt)

zeros-down : (n rest : ℕ) → rest < 256 → divided rest (replicate n 0) ≡ bit_steps n rest
unfolding divided bit_steps
zeros-down zero rest h = refl
zeros-down (suc n) rest h =
    ap (λ (r : ℕ). divided r (replicate n 0)) (down-is rest 0 h (lit< tt) ∙ xor_zero_r (bit_step rest)) ∙ zeros-down n (bit_step rest) (step-lt rest h)

step-after-byte : (rest byte : ℕ) → rest < 256 → bit_steps 8 (after_byte rest byte) ≡ byte_step (bit_steps 8 rest) byte
unfolding byte_step
step-after-byte rest byte h =
    let whole : bit_steps 8 rest < 256 = steps-lt 8 rest h in
    ap (bit_steps 8) (sym (xor_mod (bit_steps 8 rest) byte 8 ∙ ap (λ (x : ℕ). bit_xor x (byte % 256)) (mod-eq_of_lt whole)))

all-down : (rest : ℕ) (bytes : List ℕ) → rest < 256 → divided rest (all_bits bytes ++ replicate 8 0) ≡ code_by_bits (bit_steps 8 rest) bytes
unfolding all_bits after_bytes
all-down rest [] h = zeros-down 8 rest h
all-down rest (byte ∷ bytes) h =
    byte-down rest byte bytes (replicate 8 0) h
    ∙ (all-down (after_byte rest byte) bytes (after-byte-lt rest byte h) ∙ ap (λ (c : ℕ). after_bytes byte_step c bytes) (step-after-byte rest byte h))

pub code-by-division : (bytes : List ℕ) → code_by_bits 0 bytes ≡ remainder bytes
unfolding remainder bit_step bit_steps when◌then◌else◌
code-by-division bytes = sym (all-down 0 bytes (lit< tt))
