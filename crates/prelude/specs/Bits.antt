-- Numbers in the bits of a word.
use Rattle.std.specs.Prelude.{ℕ, ◌/◌, ◌%◌, ◌^◌, Bool, eqb}

-- the number in `count` bits of a word, from bit n on
abbrev pub bits : ℕ → ℕ → ℕ → ℕ
bits n count word = word / 2 ^ n % 2 ^ count

-- bit n of a word is one
abbrev pub is_set : ℕ → ℕ → Bool
is_set n word = eqb (bits n 1 word) 1
