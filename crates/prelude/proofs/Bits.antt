-- Laws on numbers in the bits of a word.
-- Assumes nothing.
use Prim.Native.Nat.{ℕ, ◌+◌, ◌*◌, ◌/◌, ◌^◌}
use mathlib.Core.Path.{◌≡◌}
use lib.Pow.{mod-pow-add, shr-shr}
use Rattle.prelude.specs.Bits.{bits}

-- neighbouring bits are one number
pub bits-add : (n high low word : ℕ) → bits n (high + low) word ≡ bits (n + low) high word * 2 ^ low + bits n low word
bits-add n high low word = rw (← shr-shr) (mod-pow-add (word / 2 ^ n) high low)
