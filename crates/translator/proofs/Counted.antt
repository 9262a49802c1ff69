-- The account after a transaction that was counted.
-- Assumes nothing.
use Prim.Native.Nat.{ℕ, ◌+◌, ◌*◌, ◌≤◌, ◌<◌}
use mathlib.Core.Bool.{Bool, true, false}
use mathlib.Core.List.{List}
use mathlib.Core.Path.{◌≡◌, refl, sym, ap, subst, ◌∙◌}
use native.Mathlib.Omega.{arith}
use lib.Dec.{ltb}
use lib.ListN.{length}
use borrow.Author.Tests.{ltb-true, ltb-false}
use Rattle.prelude.specs.After.{After}
use Rattle.prelude.specs.Choice.{when◌then◌else◌}
use Rattle.prelude.proofs.Tests.{if-cases, if-true}
use Rattle.record.specs.Transaction.{Transaction}
use Rattle.state.specs.declared.Account.{Account}
use Rattle.state.specs.declared.State.{State}
use Rattle.state.specs.Account.{Formed, account_of, limit, row_count, columns, no_row, is_open, superseded, broken, all_fragments, row_number}
use Rattle.state.specs.Sound.{sound}
use Rattle.state.specs.State.{with_account}
use Rattle.state.proofs.Soundness.{AccountSound, account-sound-tells, account-sound-if, Sound, sound-tells, sound-if}
use Rattle.outcome.specs.declared.Outcome.{Outcome}
use Rattle.translator.specs.declared.command.Class.{Class}
use Rattle.translator.specs.declared.command.Class.TheVariants as class
use Rattle.translator.specs.declared.tally.Tally.{Tally}
use Rattle.translator.specs.declared.judged.Judged.{Judged}
use Rattle.translator.specs.Command.{commands, class_in}
use Rattle.translator.specs.Counting.{add_to, outcome_tally, left_open, tally_of, grid_after, beside_after, counted}
use Rattle.translator.specs.Properties.{fragment_closes, closes_in, closes, closed_row, SameRow, Adds, packet_of, no_packet, open_packet, packet_left}
use Rattle.translator.proofs.Comes.{ends_at}
use Rattle.translator.proofs.Added.{GridSound, added-formed, added-elsewhere, added-here, fragments-stand, added-sound}
use Rattle.translator.proofs.Tallies.{Open, SoundTally, Tallies, tallied}
use Rattle.translator.proofs.Ways.{Ready, ComesOn}

-- a row that one step leaves and another adds to
module _ (row packets fragments bytes : ℕ) (a b c : List ℕ) where
  adds-then-same : Adds row packets fragments bytes a b → SameRow row b c → Adds row packets fragments bytes a c
  adds-then-same p q =
      record { packets_more = q.packets ∙ p.packets_more; fragments_more = q.fragments ∙ p.fragments_more; bytes_more = q.bytes ∙ p.bytes_more }

  same-then-adds : SameRow row a b → Adds row packets fragments bytes b c → Adds row packets fragments bytes a c
  same-then-adds p q = record {
    packets_more = q.packets_more ∙ ap (λ (n : ℕ). n + packets) p.packets;
    fragments_more = q.fragments_more ∙ ap (λ (n : ℕ). n + fragments) p.fragments;
    bytes_more = q.bytes_more ∙ ap (λ (n : ℕ). n + bytes) p.bytes;
  }

-- the rows in which an open packet ends
pub record Closes (row : ℕ) : Type 0 where
  pub from : superseded ≤ row
  pub to : row ≤ broken

fragment-closes-in : (first : Bool) (o : Outcome) → fragment_closes first o < row_count → Closes (fragment_closes first o)
fragment-closes-in first o =
    if-cases P _ _ _ (λ _ _. omega arith) (λ _. if-cases P _ _ _ (λ _ _. omega arith) (λ _ l. absurd (omega arith)))
  where
    P : ℕ → Type 0
    P row = row < row_count → Closes row

closes_in-closes : (c : Class) (command : ℕ) (o : Outcome) → closes_in c command o < row_count → Closes (closes_in c command o)
unfolding closes_in
closes_in-closes (class.Fragment first last) command o = fragment-closes-in first o
closes_in-closes class.Enable command o = λ _. omega arith
closes_in-closes class.Unknown command o = if-cases (λ (row : ℕ). row < row_count → Closes row) _ _ _ (λ _ _. omega arith) (λ _ l. absurd (omega arith))

closes-closes : (command : ℕ) (o : Outcome) → closes command o < row_count → Closes (closes command o)
closes-closes command o =
    if-cases (λ (row : ℕ). row < row_count → Closes row) _ _ _ (λ _ _. omega arith) (λ _. closes_in-closes (class_in commands command) command o)

-- one ends where one is open
ends-closes : (row f : ℕ) → (row < row_count → Closes row) → ends_at row f < row_count → Closes (ends_at row f) × (1 ≤ f)
ends-closes row f closes =
    if-cases (λ (ends : ℕ). ends < row_count → Closes ends × (1 ≤ f)) (ltb 0 f) row no_row (λ was-open-then l. (closes l, ltb-true _ _ was-open-then)) (λ _ l. absurd (omega arith))

left_open-open : (maximum ends f b : ℕ) → Open maximum f b → Open maximum (left_open ends f) (left_open ends b)
unfolding left_open when◌then◌else◌
left_open-open maximum ends f b p = by-test (ltb ends row_count)
  where
    by-test : (t : Bool) → Open maximum (when t then 0 else f) (when t then 0 else b)
    by-test true = omega arith
    by-test false = p

-- the grid: the tally's row, then that of the packet that ends
module _ (t : Tally) (grid : List ℕ) where
  abbrev pub own : List ℕ
  own = add_to (row_number t.row) t.added_packets t.added_fragments t.added_bytes grid

  own-formed : length grid ≡ row_count * columns → length own ≡ row_count * columns
  own-formed = added-formed grid (row_number t.row) _ _ _

module _ (ends f b : ℕ) (t : Tally) (grid : List ℕ) where
  abbrev pub both : List ℕ
  both = add_to ends 1 f b (own t grid)

  module _ (formed : length grid ≡ row_count * columns) where
    pub both-formed : length both ≡ row_count * columns
    both-formed = added-formed (own t grid) ends 1 f b (own-formed t grid formed)

    pub both-same : (row : ℕ) → (row ≡ row_number t.row → ⊥) → (row ≡ ends → ⊥) → SameRow row grid both
    both-same row n m =
        let p : SameRow row grid (own t grid) = added-elsewhere grid (row_number t.row) _ _ _ formed row n in
        let q : SameRow row (own t grid) both = added-elsewhere (own t grid) ends 1 f b (own-formed t grid formed) row m in
        record { packets = q.packets ∙ p.packets; fragments = q.fragments ∙ p.fragments; bytes = q.bytes ∙ p.bytes }

    pub both-closing : (ends ≡ row_number t.row → ⊥) → ends < row_count → Adds ends 1 f b grid both
    both-closing apart l =
        same-then-adds ends 1 f b grid (own t grid) both (added-elsewhere grid (row_number t.row) _ _ _ formed ends apart)
        (added-here (own t grid) ends 1 f b (own-formed t grid formed) l)

    pub both_own : (ends ≡ row_number t.row → ⊥) → row_number t.row < row_count → Adds (row_number t.row) t.added_packets t.added_fragments t.added_bytes grid both
    both_own apart l =
        adds-then-same (row_number t.row) _ _ _ grid (own t grid) both (added-here grid (row_number t.row) _ _ _ formed l)
        (added-elsewhere (own t grid) ends 1 f b (own-formed t grid formed) (row_number t.row) (λ e. apart (sym e)))

-- what a sound tally adds keeps a state sound
module _ (s : State) (ends : ℕ) (t : Tally) (formed : Formed s.account) (is-sound : Sound s) (room : s.account.beside.total < limit)
    (tallies : SoundTally s.maximum (left_open ends s.account.beside.open_fragments) t)
    (closes : ends < row_count → Closes ends × (1 ≤ s.account.beside.open_fragments)) where
  abbrev f : ℕ
  f = s.account.beside.open_fragments

  abbrev b : ℕ
  b = s.account.beside.open_bytes

  abbrev grid : List ℕ
  grid = s.account.grid

  abbrev after : List ℕ
  after = both ends f b t grid

  a : AccountSound s.account
  a = account-sound-tells s.account is-sound.account-is-sound

  after-sound : GridSound after
  after-sound =
      added-sound (own t grid) ends 1 f b
      (added-sound grid (row_number t.row) _ _ _ (record { formed = formed; rows-are-sound = a.rows-are-sound; singles-are-sound = a.singles-are-sound }) (λ _. tallies.fair))
      (λ l. let c : Closes ends × (1 ≤ f) = closes l in let most : _ = a.bytes_most in omega arith)

  no-row-no-fragments : left_open (row_number t.row) t.added_fragments ≡ 0
  unfolding left_open
  no-row-no-fragments = if-cases (λ (n : ℕ). n ≡ 0) (ltb (row_number t.row) row_count) _ _ (λ _. refl) (λ l. tallies.none (ltb-false _ _ l))

  -- every fragment stands in the grid or is open
  fragments-after : all_fragments row_count after + left_open ends f ≡ all_fragments row_count grid + t.added_fragments + f
  fragments-after =
      omega (
        arith,
        no-row-no-fragments,
        fragments-stand grid (row_number t.row) t.added_packets t.added_fragments t.added_bytes formed,
        fragments-stand (own t grid) ends 1 f b (own-formed t grid formed),
      )

  tally-sound : sound (with_account s (account_of after (beside_after t s.account.beside))) ≡ true
  tally-sound =
      sound-if _ (record {
        account-is-sound = account-sound-if _ (record {
          within = omega arith;
          rows-are-sound = after-sound.rows-are-sound;
          singles-are-sound = after-sound.singles-are-sound;
          bytes-least = tallies.leaves.least;
          bytes_most = tallies.leaves.most;
          sum = omega (arith, fragments-after, tallies.sum, a.sum);
        });
        least = is-sound.least;
        most = is-sound.most;
        bytes-within = tallies.leaves.within;
        check-allowed = is-sound.check-allowed;
      })

-- a transaction that was counted
module _ (s : State) (store settings : List ℕ) (t : Transaction) (d : After Judged) (r : Ready s) (w : ComesOn s store settings t d) where
  abbrev before : Account
  before = s.account

  abbrev o : Outcome
  o = d.result.outcome

  abbrev ends : ℕ
  ends = row_number d.result.ends

  abbrev pub tally : Tally
  tally = tally_of d.result before.beside

  is-sound : Sound s
  is-sound = sound-tells s r.is-sound

  account-is-sound : AccountSound before
  account-is-sound = account-sound-tells before is-sound.account-is-sound

  was-open : Open s.maximum before.beside.open_fragments before.beside.open_bytes
  was-open = record { least = account-is-sound.bytes-least; within = is-sound.bytes-within; most = account-is-sound.bytes_most }

  pub tallies : Tallies o s.maximum (left_open ends before.beside.open_fragments) (left_open ends before.beside.open_bytes) (length t.bytes) tally
  tallies =
      let size : _ = w.bytes-are in
      let few : _ = w.few in
      subst (λ (n : ℕ). Tallies o s.maximum (left_open ends before.beside.open_fragments) (left_open ends before.beside.open_bytes) (length t.bytes)
      (outcome_tally o (left_open ends before.beside.open_fragments) (left_open ends before.beside.open_bytes) n)) (sym size)
      (tallied s.maximum _ _ (length t.bytes) is-sound.most (left_open-open s.maximum ends _ _ was-open) o w.is-counted (omega arith) (λ z. omega (arith, w.some z)))

  pub ends-closed : ends ≡ closed_row before t.command o
  unfolding closed_row
  ends-closed = w.ends-are ∙ ap (λ (row : ℕ). when is_open before then row else no_row) (sym (if-true _ _ _ w.is-counted))

  closed-apart : ends < row_count → Closes ends × (1 ≤ before.beside.open_fragments)
  closed-apart =
      subst (λ (row : ℕ). row < row_count → Closes row × (1 ≤ before.beside.open_fragments)) (sym w.ends-are)
      (ends-closes (closes t.command o) _ (closes-closes t.command o))

  pub own-not-ends : ends < row_count → ends ≡ row_number tally.row → ⊥
  own-not-ends l e = let c : Closes ends = (closed-apart l).0 in tallies.sound.apart ends c.from c.to e

  pub left_is : packet_left before t.command o ≡ packet_of (left_open ends before.beside.open_fragments) (left_open ends before.beside.open_bytes)
  unfolding packet_left left_open when◌then◌else◌
  left_is = rw (← ends-closed) (by-test (ltb ends row_count))
    where
      by-test : (c : Bool) → (when c then no_packet else open_packet before) ≡ packet_of (when c then 0 else before.beside.open_fragments) (when c then 0 else before.beside.open_bytes)
      by-test true = refl
      by-test false = refl

  abbrev pub left : Account
  left = counted d.result before

  pub counted-formed : Formed left
  unfolding counted grid_after
  counted-formed = both-formed ends _ _ tally before.grid r.formed

  pub counted-sound : sound (with_account s left) ≡ true
  unfolding counted grid_after
  counted-sound = tally-sound s ends tally r.formed is-sound r.room tallies.sound closed-apart
