-- How many bytes a reading leaves unused at most.
-- Assumes nothing.
use Prim.Native.Nat.{ℕ, zero, suc, ◌+◌, ◌≤◌, ◌<◌, zero-le}
use mathlib.Core.Bool.{Bool, true, false, true≢false}
use mathlib.Core.List.{List, [], ◌∷◌}
use mathlib.Core.Path.{◌≡◌, refl, sym, ap, subst, ◌∙◌}
use native.Mathlib.Nat.{le_of_suc-le-suc, not-suc-le-zero}
use native.Mathlib.Omega.{arith}
use lib.ListN.{length, drop, length-drop}
use lib.Seq.{get_or-drop}
use Rattle.std.specs.Prelude.{Result, Ok, Err}
use Rattle.prelude.specs.After.{After, after}
use Rattle.prelude.specs.Parts.{AreBytes}
use Rattle.record.specs.Records.{Records, check_size, found_at, found_then, skipped_by, records_after, records_in}
use Rattle.record.specs.declared.Record.{Record}
use Rattle.record.specs.declared.Stop.{Stop}
use Rattle.record.proofs.Found.{check-size-le, Tells, whole, bad-link, cut, found-tells}
use Rattle.state.specs.declared.State.{State}
use Rattle.state.specs.State.{is_on, made}
use Rattle.state.proofs.FreshStates.{made-fresh}
use Rattle.translator.specs.declared.records.Replay.{Replay}
use Rattle.translator.specs.Replay.{stop_of, all_transacted, records_taken, empty_store, settings_at_start, replayed, fresh_replay}
use Rattle.journal.specs.declared.header.Header.{Header}
use Rattle.journal.specs.declared.header.HeaderError.{HeaderError}
use Rattle.journal.specs.declared.header.HeaderError.TheVariants as error
use Rattle.journal.specs.declared.reading.Reading.{Reading}
use Rattle.journal.specs.declared.reading.Stage.{Stage}
use Rattle.journal.specs.declared.reading.Stage.TheVariants as stage
use Rattle.journal.specs.Feeding.{started, stage_after, records_fed, is_bad, is_bad_stage, by_header, by_stage, fed}
use Rattle.journal.specs.Format.{header_size, header_in}
use Rattle.journal.specs.Properties.{max_record, max_next, max_awaited, LessThanARecord}
use Rattle.journal.proofs.Headers.{Good, cut_short}
use Rattle.journal.proofs.Headers.{good as good-header}
use Rattle.journal.proofs.Pieces.{all-keep-check}
use Rattle.journal.proofs.Whole.{on-as-asked}

-- of records, unless a bad link byte comes next
records-left : (check : Bool) (skipped : ℕ) (bytes : List ℕ) → AreBytes bytes → skipped ≤ length bytes → (records_after check skipped bytes).bad_link ≡ false
    → length bytes < skipped + (records_after check skipped bytes).used + max_record check
unfolding records_after
records-left check (suc skipped) [] small h e = absurd (not-suc-le-zero h)
records-left check (suc skipped) (byte ∷ rest) small h e =
    let others : length rest < skipped + (records_after check skipped rest).used + max_record check = records-left check skipped rest (λ k. small (suc k)) (le_of_suc-le-suc h) e in
    omega arith
records-left check zero [] small h e = omega arith
records-left check zero (byte ∷ rest) small h good =
    by-found (found_at check bytes 0) (found-tells check bytes 0) (records-left check (skipped_by (found_at check bytes 0)) rest (λ k. small (suc k))) good
  where
    bytes : List ℕ
    bytes = byte ∷ rest

    by-found : (f : Result Record Stop) → Tells check bytes 0 f
        → (skipped_by f ≤ length rest → (records_after check (skipped_by f) rest).bad_link ≡ false → length rest < skipped_by f + (records_after check (skipped_by f) rest).used + max_record check)
        → (let r : Records = found_then bytes f (records_after check (skipped_by f) rest) in r.bad_link ≡ false → length bytes < 0 + r.used + max_record check)
    by-found _ (whole size w) later e = omega (arith, later (omega (arith, w.inside)) e)
    by-found _ (bad-link b) later e = absurd (true≢false e)
    by-found _ (cut short) later e = omega (arith, small (0 + check_size check + 2), check-size-le check)

-- what is left of records that were replayed, by the check, which no record changes
fed-left : (r : Replay) (before : ℕ) (part : List ℕ) → AreBytes part → before ≤ length part
    → is_bad (records_fed (replayed r before (drop before part))).reading ≡ false
    → length part < (records_fed (replayed r before (drop before part))).used + max_awaited (records_fed (replayed r before (drop before part))).reading
unfolding records_taken
fed-left r before part small h = by-link records.bad_link (records-left on 0 (drop before part) bytes zero-le)
  where
    on : Bool
    on = is_on r.state.check

    records : Records
    records = records_in on (drop before part)

    bytes : AreBytes (drop before part)
    bytes = λ k. subst (λ (n : ℕ). n < 256) (sym (get_or-drop before part k 0)) (small (before + k))

    left : After State
    left = all_transacted (after r.state r.store r.settings) records.transactions

    by-link : (b : Bool) → (b ≡ false → length (drop before part) < 0 + records.used + max_record on)
        → is_bad_stage (stage_after (stop_of b)) ≡ false → length part < before + records.used + max_next (stage_after (stop_of b)) (is_on left.result.check)
    by-link true less good = absurd (true≢false good)
    by-link false less good =
        rw (all-keep-check (after r.state r.store r.settings) records.transactions)
        (let some : length (drop before part) < 0 + records.used + max_record on = less refl in omega (arith, length-drop before part))

left-in : (reading : Reading) (part : List ℕ) → AreBytes part → is_bad (fed reading part).reading ≡ false → length part < (fed reading part).used + max_awaited (fed reading part).reading
unfolding by_stage by_header
left-in reading part small = by-stage reading.stage
  where
    by-header : (h : Result Header HeaderError) → header_in part ≡ h → is_bad (by_header h reading.replay part).reading ≡ false
        → length part < (by_header h reading.replay part).used + max_awaited (by_header h reading.replay part).reading
    by-header (Err error.Cut) e good = let short : length part < header_size = cut_short part e in omega arith
    by-header (Err error.Bad) e good = absurd (true≢false good)
    by-header (Ok h) e good = fed-left (fresh_replay h.maximum h.check) header_size part small (good-header part h e).long good

    by-stage : (s : Stage) → is_bad (by_stage s reading.replay part).reading ≡ false
        → length part < (by_stage s reading.replay part).used + max_awaited (by_stage s reading.replay part).reading
    by-stage stage.Start good = by-header (header_in part) refl good
    by-stage stage.Records good = fed-left reading.replay 0 part small zero-le good
    by-stage stage.Bad good = absurd (true≢false good)

-- the state that a header makes has the check on or off as its version says, and its records keep that
by-version : (part : List ℕ) (h : Header) → header_in part ≡ Ok h → is_on (fed started part).reading.replay.state.check ≡ h.check
unfolding by_stage by_header records_taken fresh_replay
by-version part h e =
    let told : Good part h = good-header part h e in
    let fresh : State = (made h.maximum h.check).state in
    let records : Records = records_in (is_on fresh.check) (drop header_size part) in
    ap (λ (found : Result Header HeaderError). is_on (by_header found started.replay part).reading.replay.state.check) e
    ∙ (ap is_on (all-keep-check (after fresh empty_store settings_at_start) records.transactions)
    ∙ (ap (λ (s : State). is_on s.check) (made-fresh h.maximum h.check told.least told.most) ∙ on-as-asked h.check))

pub less-than-a-record : LessThanARecord
less-than-a-record = record { left_in = left-in; by_version = by-version; in_numbers = (refl, refl) }

-- no more than the longest record of any version
pub most-awaited : (reading : Reading) → max_awaited reading ≤ max_record true
most-awaited reading = by-stage reading.stage (is_on reading.replay.state.check)
  where
    by-stage : (s : Stage) (check : Bool) → max_next s check ≤ max_record true
    by-stage stage.Start check = omega arith
    by-stage stage.Records true = omega arith
    by-stage stage.Records false = omega arith
    by-stage stage.Bad check = omega arith
