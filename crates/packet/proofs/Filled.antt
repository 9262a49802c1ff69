-- A packet filled up with zeros.
-- Assumes nothing.
use Prim.Native.Nat.{ℕ, ◌-◌, ◌≤◌, ◌<◌}
use mathlib.Core.List.{List}
use mathlib.Core.Path.{◌≡◌, sym, ap, ◌∙◌}
use native.Mathlib.Omega.{arith}
use borrow.Author.Tests.{lt-ltb, le-ltb}
use borrow.Rule.Slice.PartMut.{put_mid}
use lib.ListN.{length, replicate, length-replicate}
use lib.Seq.{drop-drop}
use Rattle.prelude.specs.Parts.{put, part}
use Rattle.prelude.proofs.Lists.{length_part}
use Rattle.prelude.proofs.Tests.{if-true, if-false}
use Rattle.packet.specs.Store.{min_sent, filled}

-- zeros written over the part behind the packet
pub zeros-behind : (store zeros : List ℕ) (total : ℕ) → total < min_sent → min_sent ≤ length store
    → zeros ≡ replicate (length (part total (min_sent - total) store)) 0 → put_mid total (min_sent - total) store zeros ≡ filled store total
unfolding filled put
zeros-behind store zeros total short long e =
    let size : length (part total (min_sent - total) store) ≡ min_sent - total = length_part total (min_sent - total) store (omega arith) in
    let same : zeros ≡ replicate (min_sent - total) 0 = e ∙ ap (λ (n : ℕ). replicate n 0) size in
    sym (if-true _ _ _ (lt-ltb _ _ short) ∙ if-false _ _ _ (le-ltb _ _ long) ∙ simp (length-replicate, same, drop-drop))
