-- What joining does, told by whether the fragment is a Last, and what it leaves of the store.
-- Assumes nothing.
use Prim.Native.Nat.{ℕ, ◌+◌, ◌≤◌, ◌<◌}
use mathlib.Core.Bool.{Bool, true, false}
use mathlib.Core.List.{List}
use mathlib.Core.Logic.{inr}
use mathlib.Core.Path.{◌≡◌, refl, ap, ◌∙◌}
use native.Mathlib.Omega.{arith}
use lib.Dec.{ltb}
use lib.ListN.{length, get_or}
use borrow.Author.Tests.{lt-ltb, le-ltb, ltb-false}
use Rattle.prelude.specs.Choice.{when◌then◌else◌}
use Rattle.prelude.specs.Parts.{part, put, ChangesOnly}
use Rattle.prelude.proofs.Lists.{unchanged, put-changes, part-put}
use Rattle.prelude.proofs.Tests.{if-true, if-false, if-cases}
use Rattle.packet.specs.Store.{max_packet}
use Rattle.outcome.specs.declared.Cause.TheVariants as cause
use Rattle.outcome.specs.declared.Outcome.{Outcome}
use Rattle.outcome.specs.declared.Outcome.TheVariants as outcome
use Rattle.translator.specs.Joining.{Stored, stored, completed_of, filled_if, completed, joined}

-- the store with a fragment at `at`: past 1536 it is not written
unfoldable pub written : List ℕ → ℕ → List ℕ → List ℕ
written store at fragment = when ltb max_packet (at + length fragment) then store else put store at fragment

-- what becomes of a packet of any total that its Last completes
unfoldable pub last_of : ℕ → Bool → Outcome
last_of total link_up = when ltb max_packet total then outcome.Discarded cause.Over else completed_of total link_up

-- a Last, or another fragment
abbrev pub by_last : ℕ → List ℕ → Bool → Bool → List ℕ → Stored Outcome
by_last at fragment last link_up store =
    when last then stored (last_of (at + length fragment) link_up) (filled_if (last_of (at + length fragment) link_up) (at + length fragment) (written store at fragment))
    else stored outcome.Joined (written store at fragment)

pub joined-by-last : (at : ℕ) (fragment : List ℕ) (last link_up : Bool) (store : List ℕ) → joined at fragment last link_up store ≡ by_last at fragment last link_up store
unfolding joined completed written last_of filled_if when◌then◌else◌
joined-by-last at fragment last link_up store = by_tests (ltb max_packet total) last
  where
    total : ℕ
    total = at + length fragment

    by_tests : (past last : Bool)
        → (when past then stored (when last then outcome.Discarded cause.Over else outcome.Joined) store else when last then completed total link_up (put store at fragment) else stored outcome.Joined (put store at fragment))
        ≡ (let o : Outcome = when past then outcome.Discarded cause.Over else completed_of total link_up in
        let left : List ℕ = when past then store else put store at fragment in
        when last then stored o (filled_if o total left) else stored outcome.Joined left)
    by_tests true true = refl
    by_tests true false = refl
    by_tests false true = refl
    by_tests false false = refl

module _ (store fragment : List ℕ) (at : ℕ) where
  pub written-too-much : max_packet < at + length fragment → written store at fragment ≡ store
  unfolding written
  written-too-much past = if-true _ _ _ (lt-ltb _ _ past)

  -- a fragment that is written ends within 1536
  pub written-within : (P : List ℕ → Type 0) → P store → (at + length fragment ≤ max_packet → P (put store at fragment)) → P (written store at fragment)
  unfolding written
  written-within P unwritten within = if-cases P _ _ _ (λ _. unwritten) (λ small. within (ltb-false _ _ small))

  module _ (room : max_packet ≤ length store) where
    pub written-changes : ChangesOnly at (at + length fragment) store (written store at fragment)
    written-changes =
        written-within (ChangesOnly at (at + length fragment) store) (unchanged at (at + length fragment) store)
        (λ end. put-changes store fragment at (omega arith))

    pub written-past : (k : ℕ) → max_packet ≤ k → get_or (written store at fragment) k 0 ≡ get_or store k 0
    written-past k past =
        written-within (λ (after : List ℕ). get_or after k 0 ≡ get_or store k 0) refl
        (λ end. let behind : at + length fragment ≤ k = omega arith in (put-changes store fragment at (omega arith)).elsewhere k (inr behind))

    -- a fragment that is written stands at its place
    pub written-part : at + length fragment ≤ max_packet → part at (length fragment) (written store at fragment) ≡ fragment
    unfolding written
    written-part end = ap (part at (length fragment)) (if-false _ _ _ (le-ltb max_packet (at + length fragment) end)) ∙ part-put store fragment at (omega arith)
