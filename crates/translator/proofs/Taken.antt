-- The records of a part, taken one by one.
-- Assumes nothing.
use Prim.Native.Nat.{ℕ, ◌+◌, ◌-◌}
use mathlib.Core.Bool.{Bool, true, false}
use mathlib.Core.List.{List}
use mathlib.Core.Path.{◌≡◌, sym, ap, ◌∙◌}
use native.Mathlib.Nat.{add-zero}
use native.Mathlib.Omega.{arith}
use lib.ListN.{drop}
use Rattle.std.specs.Prelude.{Result, Ok, Err}
use Rattle.std.proofs.lemmas.Result.{IfOk-at_ok}
use Rattle.prelude.specs.After.{After, after}
use Rattle.record.specs.declared.Record.{Record}
use Rattle.record.specs.declared.Stop.{Stop}
use Rattle.record.specs.declared.Stop.TheVariants as stop
use Rattle.record.specs.Records.{Records, none, found_at, transaction_in, records_in}
use Rattle.record.proofs.Records.{by_found, records-by-found, WholeAt, whole-at}
use Rattle.state.specs.declared.Account.{Account}
use Rattle.state.specs.declared.State.{State}
use Rattle.state.specs.Account.{Formed}
use Rattle.state.specs.Grid.{rows_of, flat_of}
use Rattle.state.proofs.Rows.{flat_rows}
use Rattle.state.specs.State.{is_on}
use Rattle.translator.specs.Held.{Holds}
use Rattle.translator.specs.Replay.{Replayed, state_after, all_transacted, replay_of, replayed_to, stopped_at, stopped_after, records_taken}
use Rattle.translator.specs.Transact.{transacted}

-- where the parts of a record that was found lie
pub whole_record : (check : Bool) {bytes : List ℕ} {at : ℕ} {r : Record} → Ok r ≡ found_at check bytes at → WholeAt bytes at r.start r.end r.next
whole_record check {bytes = bytes} {at = at} e = IfOk-at_ok _ (sym e) (whole-at check bytes at)

module _ (s : State) (store settings : List ℕ) (part : List ℕ) (at : ℕ) where
  -- what the records from here on come to
  abbrev taken_by : Records → Replayed
  taken_by records = stopped_after at records (all_transacted (after s store settings) records.transactions)

  by-found : (f : Result Record Stop) → found_at (is_on s.check) part at ≡ f → records_taken s store settings at (drop at part) ≡ taken_by (by_found (is_on s.check) part at f)
  unfolding records_taken
  by-found f q = ap taken_by (records-by-found (is_on s.check) part at ∙ ap (by_found (is_on s.check) part at) q)

  none-taken : (bad_link : Bool) → taken_by (none bad_link) ≡ replayed_to (replay_of s store settings) (stopped_at at bad_link)
  unfolding all_transacted
  none-taken bad_link = ap (λ (place : ℕ). replayed_to (replay_of s store settings) (stopped_at place bad_link)) (add-zero at)

  -- no whole record stands here
  pub records-stop : (why : Stop) → found_at (is_on s.check) part at ≡ Err why
      → replayed_to (replay_of s store settings) (record { at = at; stop = why }) ≡ records_taken s store settings at (drop at part)
  records-stop stop.Cut q = sym (by-found _ q ∙ none-taken false)
  records-stop stop.BadLink q = sym (by-found _ q ∙ none-taken true)

  -- one record on
  pub records-go-on : (r : Record) (s' : State) (store' settings' : List ℕ) → s'.check ≡ s.check
      → found_at (is_on s.check) part at ≡ Ok r
      → after s' store' settings' ≡ state_after (transacted s store settings (transaction_in part r))
      → records_taken s' store' settings' r.next (drop r.next part) ≡ records_taken s store settings at (drop at part)
  unfolding records_taken all_transacted
  records-go-on r s' store' settings' same e d =
      let w : WholeAt part at r.start r.end r.next = whole_record (is_on s.check) (sym e) in
      let rest : Records = records_in (is_on s.check) (drop r.next part) in
      let place : r.next + rest.used ≡ at + (r.next - at + rest.used) = omega arith in
      ap (λ (check : ℕ). stopped_after r.next (records_in (is_on check) (drop r.next part)) (all_transacted (after s' store' settings') (records_in (is_on check) (drop r.next part)).transactions)) same
      ∙ (ap (λ (c : After State). stopped_after r.next rest (all_transacted c rest.transactions)) d
      ∙ (ap (λ (n : ℕ). used-to n (state_after (transacted s store settings (transaction_in part r))) rest) place ∙ sym (by-found _ e)))
    where
      used-to : ℕ → After State → Records → Replayed
      used-to n c rest =
          let l : After State = all_transacted c rest.transactions in
          replayed_to (replay_of l.result l.store l.settings) (stopped_at n rest.bad_link)

-- the rows of a grid hold it
pub rows_hold : (rows : List (List ℕ)) (a : Account) → rows ≡ rows_of a.grid → Formed a → Holds rows a.grid
rows_hold rows a are formed =
    let flat : flat_of rows ≡ a.grid = ap flat_of are ∙ flat_rows a.grid formed in
    record { placed = are ∙ ap rows_of (sym flat); same = flat }
