-- The bytes of a buffer from one place up to another, moved to its start.
-- Assumes nothing.
use Prim.Native.Nat.{ℕ, ◌+◌, ◌-◌, ◌≤◌, zero-le}
use mathlib.Core.List.{List, ◌++◌}
use mathlib.Core.Path.{◌≡◌, sym, ap, ◌∙◌}
use native.Mathlib.Omega.{arith}
use lib.ListN.{length, take, drop}
use lib.Seq.{take_at}
use borrow.Author.Tests.{le-ltb, ltb-false}
use Rattle.std.specs.List.{copy_within}
use Rattle.std.proofs.lemmas.Slice.{between_is}
use Rattle.prelude.specs.Parts.{part, put}
use Rattle.prelude.proofs.Lists.{length_part, length-put}
use Rattle.prelude.proofs.Tests.{if-false, if-cases}
use Rattle.account.specs.Buffer.{Moved, moved, moved_to_front}

-- what is moved to the front is there
module _ (from to : ℕ) (buffer : List ℕ) (h : from ≤ to) (k : to ≤ length buffer) where
  abbrev piece : List ℕ
  piece = part from (to - from) buffer

  piece-size : length piece ≡ to - from
  piece-size = length_part from (to - from) buffer (omega arith)

  pub is-moved : moved_to_front from to buffer ≡ moved (to - from) (put buffer 0 piece)
  unfolding moved_to_front
  is-moved = if-false _ _ _ (le-ltb (length buffer) to k) ∙ if-false _ _ _ (le-ltb to from h)

  pub moved-bytes : take (moved_to_front from to buffer).count (moved_to_front from to buffer).buffer ≡ drop from (take to buffer)
  unfolding put
  moved-bytes =
      ap (λ (m : Moved). take m.count m.buffer) is-moved
      ∙ (take_at piece (drop (0 + length piece) buffer) (to - from) piece-size ∙ between_is buffer from to)

  pub copied-to-front : copy_within buffer from to 0 ≡ put buffer 0 piece
  unfolding put
  copied-to-front = ap (λ (n : ℕ). piece ++ drop (0 + n) buffer) (sym piece-size)

-- no more than the buffer holds
pub moved-fits : (from to : ℕ) (buffer : List ℕ) → (moved_to_front from to buffer).count ≤ length (moved_to_front from to buffer).buffer
unfolding moved_to_front
moved-fits from to buffer =
    if-cases Fits _ _ _ (λ _. zero-le) (λ room.
    if-cases Fits _ _ _ (λ _. zero-le) (λ forward.
    let size : length (put buffer 0 (part from (to - from) buffer)) ≡ length buffer = length-put buffer (part from (to - from) buffer) 0 (omega (arith, ltb-false, length_part from (to - from) buffer (omega (arith, ltb-false)))) in
    omega (arith, ltb-false, size)))
  where
    Fits : Moved → Type 0
    Fits m = m.count ≤ length m.buffer
