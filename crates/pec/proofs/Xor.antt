-- The exclusive or takes itself back, so that it tells its operands apart.
-- Assumes nothing.
use Prim.Native.Nat.{ℕ}
use mathlib.Core.Path.{◌≡◌, sym, ap, ◌∙◌}
use lib.Bits.{bit_xor, xor_assoc, xor_comm, xor_self, xor_zero_l}

pub xor-twice : (a b : ℕ) → bit_xor a (bit_xor a b) ≡ b
xor-twice a b = sym (xor_assoc a a b) ∙ (ap (λ (x : ℕ). bit_xor x b) (xor_self a) ∙ xor_zero_l b)

pub xor-cancel-left : (a b c : ℕ) → bit_xor a b ≡ bit_xor a c → b ≡ c
xor-cancel-left a b c e = sym (xor-twice a b) ∙ (ap (bit_xor a) e ∙ xor-twice a c)

pub xor-cancel-right : (a b c : ℕ) → bit_xor a c ≡ bit_xor b c → a ≡ b
xor-cancel-right a b c e = xor-cancel-left c a b (xor_comm c a ∙ (e ∙ xor_comm b c))

pub same-of-xor-zero : (a b : ℕ) → bit_xor a b ≡ 0 → a ≡ b
same-of-xor-zero a b e = sym (xor-cancel-left a b a (e ∙ sym (xor_self a)))

-- two pairs, the inner operands exchanged
pub xor-exchange : (a b c d : ℕ) → bit_xor (bit_xor a b) (bit_xor c d) ≡ bit_xor (bit_xor a c) (bit_xor b d)
xor-exchange a b c d =
    xor_assoc a b (bit_xor c d)
    ∙ (ap (bit_xor a) (sym (xor_assoc b c d) ∙ (ap (λ (x : ℕ). bit_xor x d) (xor_comm b c) ∙ xor_assoc c b d)) ∙ sym (xor_assoc a c (bit_xor b d)))
