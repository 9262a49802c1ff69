-- The fill leaves the rest of the store alone.
-- Assumes nothing.
use Prim.Native.Nat.{ℕ, ◌+◌, ◌-◌, ◌≤◌, ◌<◌}
use mathlib.Core.List.{List}
use mathlib.Core.Path.{◌≡◌, subst}
use native.Mathlib.Omega.{arith}
use lib.ListN.{length, replicate, length-replicate}
use borrow.Author.Tests.{ltb-true, ltb-false}
use Rattle.prelude.specs.Parts.{put, ChangesOnly}
use Rattle.prelude.proofs.Lists.{unchanged, put-changes}
use Rattle.prelude.proofs.Tests.{if-cases}
use Rattle.packet.specs.Store.{min_sent, filled}
use Rattle.packet.specs.Properties.{LeavesTheRest}

pub leaves-the-rest : LeavesTheRest
unfolding filled
leaves-the-rest store total =
    if-cases (ChangesOnly total min_sent store) _ _ _
    (λ less. if-cases (ChangesOnly total min_sent store) _ _ _ (λ _. unchanged total min_sent store)
    (λ room.
    let short : total < min_sent = ltb-true _ _ less in
    let enough : min_sent ≤ length store = ltb-false _ _ room in
    let zeros : List ℕ = replicate (min_sent - total) 0 in
    let many : length zeros ≡ min_sent - total = length-replicate (min_sent - total) 0 in
    let end : total + length zeros ≡ min_sent = omega arith in
    let fits : total + length zeros ≤ length store = omega arith in
    subst (λ (n : ℕ). ChangesOnly total n store (put store total zeros)) end (put-changes store zeros total fits)))
    (λ _. unchanged total min_sent store)
