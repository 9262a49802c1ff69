-- What each outcome adds to the account, in numbers.
-- Assumes nothing.
use Prim.Native.Nat.{ℕ, ◌+◌, ◌*◌, ◌≤◌, ◌<◌}
use mathlib.Core.Bool.{true, true≢false}
use mathlib.Core.Path.{◌≡◌, refl, sym}
use native.Mathlib.Omega.{arith}
use Rattle.prelude.specs.Choice.{when◌then◌else◌}
use Rattle.state.specs.Account.{row_count, superseded, broken, aborted, badlength, badcheck, row_number}
use Rattle.state.specs.State.{max_maximum}
use Rattle.outcome.specs.declared.Cause.TheVariants as cause
use Rattle.outcome.specs.declared.Outcome.{Outcome}
use Rattle.outcome.specs.declared.Outcome.TheVariants as outcome
use Rattle.outcome.specs.Outcome.{number_of, is_counted}
use Rattle.translator.specs.declared.tally.Tally.{Tally}
use Rattle.translator.specs.Counting.{outcome_tally}
use Rattle.translator.specs.Properties.{own_row}
use Rattle.translator.proofs.Added.{Fair}
use Rattle.translator.proofs.Comes.{counted_bytes, counted-refusals}

-- the fragments and bytes that are open, or are left so
pub record Open (maximum f b : ℕ) : Type 0 where
  pub least : f ≤ b
  pub within : b ≤ maximum * f
  pub most : b ≤ max_maximum * f

-- a tally that keeps an account sound, behind the `f` fragments that are left open
pub record SoundTally (maximum f : ℕ) (t : Tally) : Type 0 where
  pub apart : (row : ℕ) → superseded ≤ row → row ≤ broken → row ≡ row_number t.row → ⊥
  pub fair : Fair (row_number t.row) t.added_packets t.added_fragments t.added_bytes
  pub none : row_count ≤ row_number t.row → t.added_fragments ≡ 0
  pub sum : t.added_fragments + t.open_fragments + t.added_taken + t.added_refused ≡ f + 1
  pub leaves : Open maximum t.open_fragments t.open_bytes

-- the commands that an answer counts
pub record CommandTally (n : ℕ) (t : Tally) : Type 0 where
  pub taken : n ≡ 11 → t.added_taken ≡ 1
  pub not_taken : (n ≡ 11 → ⊥) → t.added_taken ≡ 0
  pub refused : 7 ≤ n → n ≤ 10 → t.added_refused ≡ 1
  pub few-not-refused : n < 7 → t.added_refused ≡ 0
  pub many-not-refused : 10 < n → t.added_refused ≡ 0

-- what a tally adds to its row, and what is open then
pub record InRow (packets fragments bytes : ℕ) (t : Tally) : Type 0 where
  pub in-grid : row_number t.row < row_count
  pub packets-are : t.added_packets ≡ packets
  pub fragments-are : t.added_fragments ≡ fragments
  pub bytes-are : t.added_bytes ≡ bytes

abbrev pub Opens : ℕ → ℕ → Tally → Type 0
Opens fragments bytes t = (t.open_fragments ≡ fragments) × (t.open_bytes ≡ bytes)

-- the fragments that an answer counts, behind the `f` fragments and `b` bytes that are left open
pub record FragmentTally (n f b size : ℕ) (t : Tally) : Type 0 where
  pub joined : n ≡ 0 → Opens (f + 1) (b + size) t
  pub completed : 1 ≤ n → n ≤ 6 → (n ≡ 2 → ⊥) → (n ≡ 3 → ⊥) → Opens 0 0 t × InRow 1 (f + 1) (b + size) t
  pub aborts : n ≡ 2 → (row_number t.row ≡ aborted) × InRow 0 1 size t
  pub breaks : n ≡ 3 → (row_number t.row ≡ badlength) × InRow 0 1 0 t
  pub fails-check : n ≡ 17 → (row_number t.row ≡ badcheck) × InRow 0 1 0 t
  pub others : (n ≡ 0 → ⊥) → (n ≡ 1 → ⊥) → (n ≡ 4 → ⊥) → (n ≡ 5 → ⊥) → (n ≡ 6 → ⊥) → Opens f b t

pub record Tallies (o : Outcome) (maximum f b size : ℕ) (t : Tally) : Type 0 where
  pub own : row_number t.row ≡ own_row o
  pub sound : SoundTally maximum f t
  pub commands : CommandTally (number_of o) t
  pub fragments : FragmentTally (number_of o) f b size t

module _ (maximum f b size : ℕ) (most : maximum ≤ max_maximum) (left : Open maximum f b) where
  pub tallied : (o : Outcome) → is_counted (number_of o) ≡ true → counted_bytes o size ≤ maximum → (number_of o ≡ 0 → 1 ≤ counted_bytes o size)
      → Tallies o maximum f b size (outcome_tally o f b (counted_bytes o size))
  unfolding is_counted when◌then◌else◌
  tallied outcome.Joined c few some = record { own = refl; sound = omega (arith, some refl); commands = omega (arith, some refl); fragments = omega (arith, some refl) }
  tallied (outcome.Sent n) c few some = record { own = refl; sound = omega arith; commands = omega arith; fragments = omega arith }
  tallied (outcome.Discarded cause.Aborted) c few some = record { own = refl; sound = omega arith; commands = omega arith; fragments = omega arith }
  tallied (outcome.Discarded cause.BadLength) c few some = record { own = refl; sound = omega arith; commands = omega arith; fragments = omega arith }
  tallied (outcome.Discarded cause.Over) c few some = record { own = refl; sound = omega arith; commands = omega arith; fragments = omega arith }
  tallied (outcome.Discarded cause.Short) c few some = record { own = refl; sound = omega arith; commands = omega arith; fragments = omega arith }
  tallied (outcome.Discarded cause.LinkDown) c few some = record { own = refl; sound = omega arith; commands = omega arith; fragments = omega arith }
  tallied outcome.Unknown c few some = record { own = refl; sound = omega arith; commands = omega arith; fragments = omega arith }
  tallied (outcome.Refused r) c few some = record { own = refl; sound = omega (arith, counted-refusals r c); commands = omega (arith, counted-refusals r c); fragments = omega (arith, counted-refusals r c) }
  tallied outcome.Taken c few some = record { own = refl; sound = omega arith; commands = omega arith; fragments = omega arith }
  tallied outcome.NoRoom c few some = absurd (true≢false (sym c))
  tallied outcome.NotSound c few some = absurd (true≢false (sym c))
  tallied outcome.Full c few some = absurd (true≢false (sym c))
  tallied outcome.BadCheck c few some = record { own = refl; sound = omega arith; commands = omega arith; fragments = omega arith }
