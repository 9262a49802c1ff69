-- A step further in a run of steps.
-- Assumes nothing.
use Prim.Native.Nat.{ℕ, suc, ◌+◌, ◌-◌, ◌<◌, ◌≤◌}
use mathlib.Core.List.{List}
use mathlib.Core.Path.{◌≡◌, ap}
use native.Mathlib.Omega.{arith}
use lib.ListN.{length, get_or, drop}
use Rattle.std.proofs.lemmas.List.{at_drop_more, at_drop_all}
use Rattle.pec.specs.Code.{bit_step, bit_steps, after_bytes}

pub after-bytes-more : (step : ℕ → ℕ → ℕ) (crc : ℕ) (bytes : List ℕ) (i : ℕ) → i < length bytes
    → after_bytes step crc (drop i bytes) ≡ after_bytes step (step crc (get_or bytes i 0)) (drop (i + 1) bytes)
unfolding after_bytes
after-bytes-more step crc bytes i h = at_drop_more (after_bytes step crc) bytes i 0 h

pub after-bytes-all : (step : ℕ → ℕ → ℕ) (crc : ℕ) (bytes : List ℕ) (i : ℕ) → length bytes ≤ i → after_bytes step crc (drop i bytes) ≡ crc
unfolding after_bytes
after-bytes-all step crc bytes i h = at_drop_all (after_bytes step crc) bytes i h

pub bit-steps-more : (n i crc : ℕ) → i < n → bit_steps (n - i) crc ≡ bit_steps (n - (i + 1)) (bit_step crc)
unfolding bit_steps
bit-steps-more n i crc h =
    let left : n - i ≡ suc (n - (i + 1)) = omega arith in
    ap (λ (k : ℕ). bit_steps k crc) left
