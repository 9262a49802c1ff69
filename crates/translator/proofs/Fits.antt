-- No number of an account that a transaction is counted in grows past what fits.
-- Assumes nothing.
use Prim.Native.Nat.{ℕ, ◌≤◌, ◌<◌}
use mathlib.Core.Bool.{true}
use mathlib.Core.Path.{◌≡◌, refl, sym, ap, ◌∙◌}
use native.Mathlib.Nat.{le_trans, mul-le-mul_left}
use native.Mathlib.Omega.{arith}
use borrow.Author.Rules.{rules}
use Rattle.prelude.proofs.Tests.{if-cases}
use Rattle.packet.specs.Store.{max_packet, sent_length}
use Rattle.state.specs.declared.Account.{Account}
use Rattle.state.specs.declared.Beside.{Beside}
use Rattle.state.specs.Account.{Formed, limit, row_count, packets_in, fragments_in, bytes_in, row_number}
use Rattle.state.specs.Grid.{cell, rows_of, flat_of}
use Rattle.state.specs.Sound.{account_sound}
use Rattle.state.specs.State.{max_maximum}
use Rattle.state.proofs.Rows.{cell-flat, flat_rows}
use Rattle.state.proofs.Soundness.{Bounds, sound-bounds}
use Rattle.outcome.specs.declared.Cause.{Cause}
use Rattle.outcome.specs.declared.Cause.TheVariants as cause
use Rattle.outcome.specs.declared.Outcome.{Outcome}
use Rattle.outcome.specs.declared.Outcome.TheVariants as outcome
use Rattle.translator.specs.declared.judged.Judged.{Judged}
use Rattle.translator.specs.Counting.{left_open, cause_tally, outcome_tally, tally_of}
use Rattle.translator.specs.Rows.{BesideFits, TallyFits, AccountFits, most}

pub sent-length-within : (total : ℕ) → total ≤ max_packet → sent_length total ≤ max_packet
unfolding sent_length
sent-length-within total few = if-cases (λ (n : ℕ). n ≤ max_packet) _ _ _ (λ _. omega arith) (λ _. few)

pub left-open-least : (ends n : ℕ) → left_open ends n ≤ n
unfolding left_open
left-open-least ends n = if-cases (λ (m : ℕ). m ≤ n) _ _ _ (λ _. omega arith) (λ _. omega arith)

-- what is added by an outcome behind a packet that fits
module _ (f b size : ℕ) (few : f ≤ limit) (much : b ≤ most) (small : size ≤ max_maximum) where
  cause-fits : (c : Cause) → TallyFits (cause_tally c f b size)
  cause-fits cause.Aborted = search rules
  cause-fits cause.BadLength = search rules
  cause-fits cause.Over = search rules
  cause-fits cause.Short = search rules
  cause-fits cause.LinkDown = search rules

  outcome_fits : (o : Outcome) → TallyFits (outcome_tally o f b size)
  outcome_fits outcome.Joined = search rules
  outcome_fits (outcome.Sent n) = search rules
  outcome_fits (outcome.Discarded c) = cause-fits c
  outcome_fits outcome.Unknown = search rules
  outcome_fits (outcome.Refused r) = search rules
  outcome_fits outcome.Taken = search rules
  outcome_fits outcome.NoRoom = search rules
  outcome_fits outcome.NotSound = search rules
  outcome_fits outcome.Full = search rules
  outcome_fits outcome.BadCheck = search rules

pub tally-fits : (j : Judged) (b : Beside) → BesideFits b → j.bytes ≤ max_maximum → TallyFits (tally_of j b)
tally-fits j b fits small =
    outcome_fits (left_open (row_number j.ends) b.open_fragments) (left_open (row_number j.ends) b.open_bytes) j.bytes
    (le_trans (left-open-least (row_number j.ends) b.open_fragments) fits.held_fragments)
    (le_trans (left-open-least (row_number j.ends) b.open_bytes) fits.held_bytes) small j.outcome

-- a sound account fits
pub sound-fits : (a : Account) → Formed a → account_sound a ≡ true → AccountFits a
sound-fits a formed s = record {
  formed = formed;
  rows = record { all_rows = refl; cells = cells };
  beside = record {
    held_fragments = le_trans bounds.held_fragments bounds.within;
    held_bytes = le_trans bounds.held_bytes (mul-le-mul_left max_maximum (le_trans bounds.held_fragments bounds.within));
    taken = le_trans bounds.taken bounds.within;
    refused = le_trans bounds.refused bounds.within;
    total = bounds.within;
  };
}
  where
    bounds : Bounds a
    bounds = sound-bounds a s

    cells : (row : ℕ) → row < row_count → (cell (rows_of a.grid) row 0 ≤ most) × (cell (rows_of a.grid) row 1 ≤ most) × (cell (rows_of a.grid) row 2 ≤ most)
    cells row l =
        let same : _ = cell-flat (rows_of a.grid) row l in
        let flat : flat_of (rows_of a.grid) ≡ a.grid = flat_rows a.grid formed in
        let packets : packets_in row a.grid ≡ cell (rows_of a.grid) row 0 = sym (ap (packets_in row) flat) ∙ same.0 in
        let fragments : fragments_in row a.grid ≡ cell (rows_of a.grid) row 1 = sym (ap (fragments_in row) flat) ∙ same.1 in
        let bytes : bytes_in row a.grid ≡ cell (rows_of a.grid) row 2 = sym (ap (bytes_in row) flat) ∙ same.2 in (
          omega (arith, bounds.packets row l, bounds.fragments row l, bounds.within),
          omega (arith, bounds.fragments row l, bounds.within),
          omega (arith, bounds.bytes row l, bounds.fragments row l, bounds.within),
        )
