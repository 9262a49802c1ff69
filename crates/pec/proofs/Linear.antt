-- A bit step is linear: that of an exclusive or is the exclusive or of the steps.
-- Assumes nothing.
use Prim.Native.Nat.{ℕ, zero, suc, ◌*◌, ◌/◌, ◌%◌, ◌^◌, ◌<◌}
use mathlib.Core.Bool.{Bool}
use mathlib.Core.Path.{◌≡◌, refl, sym, ap, ap₂, ◌∙◌}
use native.Mathlib.Nat.{add-zero, zero-lt-suc, div-lt_iff_lt-mul, le_of_suc-le-suc, not-suc-le-zero}
use lib.Bits.{bit_xor, xor_lt, xor_block, xor_shr, xor_mod}
use lib.Dec.{eqb}
use borrow.Author.Tests.{eqb-true}
use Rattle.prelude.specs.Choice.{when◌then◌else◌}
use Rattle.pec.specs.Code.{bit_step, low_polynomial}
use Rattle.pec.proofs.Computed.{below-at}
use Rattle.pec.proofs.Xor.{xor-exchange}

-- a bit step without a test: what is left of twice the code, and the polynomial as often as its highest bit says
shifted : ℕ → ℕ
shifted crc = bit_xor (crc * 2 % 2 ^ 8) (crc / 2 ^ 7 * low_polynomial)

is_shifted : ℕ → Bool
is_shifted crc = eqb (bit_step crc) (shifted crc)

step-is-shifted : (crc : ℕ) → crc < 256 → bit_step crc ≡ shifted crc
unfolding bit_step when◌then◌else◌ shifted is_shifted
step-is-shifted crc h = eqb-true (bit_step crc) (shifted crc) (below-at is_shifted 256 crc refl h)

double : (a b : ℕ) → bit_xor a b * 2 ≡ bit_xor (a * 2) (b * 2)
double a b =
    sym (ap₂ bit_xor (sym (add-zero (a * 2))) (sym (add-zero (b * 2)))
    ∙ (xor_block 1 a b 0 0 (zero-lt-suc 1) (zero-lt-suc 1) ∙ add-zero (bit_xor a b * 2)))

times-digit : (x y : ℕ) → x < 2 → y < 2 → bit_xor x y * low_polynomial ≡ bit_xor (x * low_polynomial) (y * low_polynomial)
times-digit zero y hx hy = refl
times-digit (suc zero) zero hx hy = refl
times-digit (suc zero) (suc zero) hx hy = refl
times-digit (suc zero) (suc (suc y)) hx hy = absurd (not-suc-le-zero (le_of_suc-le-suc (le_of_suc-le-suc hy)))
times-digit (suc (suc x)) y hx hy = absurd (not-suc-le-zero (le_of_suc-le-suc (le_of_suc-le-suc hx)))

highest : (crc : ℕ) → crc < 256 → crc / 2 ^ 7 < 2
highest crc h = (div-lt_iff_lt-mul (zero-lt-suc 127)).1 h

shifted-linear : (a b : ℕ) → a < 256 → b < 256 → shifted (bit_xor a b) ≡ bit_xor (shifted a) (shifted b)
unfolding shifted
shifted-linear a b ha hb =
    ap₂ bit_xor (ap (λ (x : ℕ). x % 2 ^ 8) (double a b) ∙ xor_mod (a * 2) (b * 2) 8)
    (ap (λ (x : ℕ). x * low_polynomial) (xor_shr a b 7) ∙ times-digit (a / 2 ^ 7) (b / 2 ^ 7) (highest a ha) (highest b hb))
    ∙ xor-exchange (a * 2 % 2 ^ 8) (b * 2 % 2 ^ 8) (a / 2 ^ 7 * low_polynomial) (b / 2 ^ 7 * low_polynomial)

pub step-linear : (a b : ℕ) → a < 256 → b < 256 → bit_step (bit_xor a b) ≡ bit_xor (bit_step a) (bit_step b)
step-linear a b ha hb =
    step-is-shifted (bit_xor a b) (xor_lt 8 a b ha hb)
    ∙ (shifted-linear a b ha hb ∙ ap₂ bit_xor (sym (step-is-shifted a ha)) (sym (step-is-shifted b hb)))
