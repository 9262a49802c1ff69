-- A whole journal that is fed at once and concluded gives its account, and its output is printed of that.
-- Assumes nothing.
use Prim.Native.Nat.{ℕ, ◌+◌, ◌-◌, ◌≤◌, ◌<◌}
use mathlib.Core.Bool.{Bool, true, false}
use mathlib.Core.List.{List, [], ◌∷◌}
use mathlib.Core.Path.{◌≡◌, refl, ap, ◌∙◌}
use native.Mathlib.Omega.{arith}
use lib.Dec.{eqb}
use lib.ListN.{length, drop, length-drop}
use borrow.Author.Tests.{eqb-true, eqb-false, eq-eqb, ne_eqb}
use Rattle.prelude.specs.After.{After, after}
use Rattle.std.specs.Prelude.{Result, Ok, Err, Option, None, Some}
use Rattle.prelude.specs.Choice.{when◌then◌else◌}
use Rattle.prelude.proofs.Tests.{if-true, if-false, if-cases}
use Rattle.printout.specs.Printout.{shown, printed}
use Rattle.record.specs.Records.{Records, records_in}
use Rattle.record.specs.Transaction.{Transaction}
use Rattle.record.proofs.Records.{Within, used-within}
use Rattle.state.specs.declared.Account.{Account}
use Rattle.state.specs.declared.State.{State}
use Rattle.state.specs.Account.{Formed}
use Rattle.state.specs.Sound.{account_sound, sound}
use Rattle.state.specs.State.{max_maximum, check_number, is_on, setup_of, fresh_state}
use Rattle.state.proofs.FreshStates.{made-fresh, fresh-sound}
use Rattle.state.proofs.Soundness.{sound-tells}
use Rattle.translator.specs.declared.records.Replay.{Replay}
use Rattle.translator.specs.Replay.{Replayed, stop_of, state_after, all_transacted, stopped_after, records_taken, empty_store, settings_at_start, fresh_replay, replayed}
use Rattle.translator.specs.Transact.{transacted}
use Rattle.translator.proofs.Properties.{every-transaction}
use Rattle.journal.specs.declared.header.Header.{Header}
use Rattle.journal.specs.declared.header.HeaderError.{HeaderError}
use Rattle.journal.specs.declared.header.HeaderError.TheVariants as error
use Rattle.journal.specs.declared.reading.Reading.{Reading}
use Rattle.journal.specs.declared.reading.Stage.{Stage}
use Rattle.journal.specs.declared.reading.Stage.TheVariants as stage
use Rattle.journal.specs.Feeding.{Fed, records_fed, by_header, by_stage, fed, reading_at, stage_after, started, account_at, concluded}
use Rattle.journal.specs.Format.{Journal, header_size, header_in, bad, good, with_header, parsed}
use Rattle.journal.specs.Journal.{account_after, account_in, text_of, output, outcome_printed}
use Rattle.journal.proofs.Headers.{Good}
use Rattle.journal.proofs.Headers.{good as good-header}

-- a sound state stays sound through any transactions
pub all_sound : (c : After State) (transactions : List Transaction) → Formed c.result.account → sound c.result ≡ true
    → sound (all_transacted c transactions).result ≡ true
unfolding all_transacted
all_sound c [] formed h = h
all_sound c (t ∷ rest) formed h =
    let left : _ = every-transaction c.result c.store c.settings t formed in
    all_sound (state_after (transacted c.result c.store c.settings t)) rest left.account_stays_formed (left.state_stays_sound h)

-- not all of it is used: bad, whatever was read
concluded-left : (reading : Reading) (unused : ℕ) → (unused ≡ 0 → ⊥) → concluded reading unused ≡ None
unfolding concluded
concluded-left reading unused h = if-false _ _ _ (ne_eqb unused 0 h)

-- all of it is used, and no link byte was bad
concluded-all : (bad_link : Bool) (replay : Replay) (unused : ℕ) → (bad_link ≡ true → ⊥) → unused ≡ 0
    → concluded (reading_at (stage_after (stop_of bad_link)) replay) unused ≡ Some replay.state.account
unfolding concluded
concluded-all true replay unused h e = absurd (h refl)
concluded-all false replay unused h e = if-true _ _ _ (eq-eqb unused 0 e)

-- the check of a state that was made is on where it was asked for
pub on-as-asked : (check : Bool) → is_on (check_number check) ≡ check
on-as-asked true = refl
on-as-asked false = refl

-- the bytes behind a good header
module _ (h : Header) (journal : List ℕ) (g : Good journal h) where
  abbrev rest : List ℕ
  rest = drop header_size journal

  abbrev records : Records
  records = records_in h.check rest

  abbrev fresh : After State
  fresh = after (fresh_state (setup_of h.maximum (check_number h.check))) empty_store settings_at_start

  abbrev left : Replayed
  left = stopped_after header_size records (all_transacted fresh records.transactions)

  left-is : replayed (fresh_replay h.maximum h.check) header_size rest ≡ left
  unfolding records_taken fresh_replay
  left-is =
      ap (λ (s : State). records_taken s empty_store settings_at_start header_size rest) (made-fresh h.maximum h.check g.least g.most)
      ∙ ap (λ (on : Bool). stopped_after header_size (records_in on rest) (all_transacted fresh (records_in on rest).transactions)) (on-as-asked h.check)

  account-sound : account_sound (account_after h records.transactions) ≡ true
  account-sound =
      (sound-tells _ (all_sound fresh records.transactions refl (fresh-sound h.maximum h.check g.least g.most))).account-is-sound

  size : length rest ≡ length journal - header_size
  size = length-drop header_size journal

  within : Within 0 rest records
  within = used-within h.check 0 rest (omega arith)

  all-or-left : (t : Bool) → eqb records.used (length rest) ≡ t
      → concluded (records_fed left).reading (length journal - left.stopped.at) ≡ account_in (when t then good h records.transactions else bad)
  unfolding when◌then◌else◌
  all-or-left true e =
      concluded-all records.bad_link left.replay _ (λ b. not-below (eqb-true _ _ e) (within.left b)) none
    where
      not-below : records.used ≡ length rest → 0 + records.used < length rest → ⊥
      not-below e l = omega arith

      none : length journal - left.stopped.at ≡ 0
      none = let all : records.used ≡ length rest = eqb-true _ _ e in omega (arith, size)
  all-or-left false e = concluded-left _ _ (λ z. eqb-false _ _ e (same z size within.within g.long))
    where
      same : length journal - left.stopped.at ≡ 0 → length rest ≡ length journal - header_size → 0 + records.used ≤ length rest → header_size ≤ length journal → records.used ≡ length rest
      same z size w long = omega arith

  records-concluded :
      (let f : Fed = records_fed (replayed (fresh_replay h.maximum h.check) header_size rest) in
      concluded f.reading (length journal - f.used) ≡ account_in (with_header (Ok h) rest))
  records-concluded =
      ap (λ (r : Replayed). concluded (records_fed r).reading (length journal - (records_fed r).used)) left-is
      ∙ all-or-left (eqb records.used (length rest)) refl

  -- whether all of it is used or not, what is printed is the output: the account is sound
  records-printed : (out : List ℕ) → outcome_printed (account_in (with_header (Ok h) rest)) out ≡ shown (text_of (account_in (with_header (Ok h) rest))) out
  unfolding printed
  records-printed out =
      if-cases (λ (j : Journal). outcome_printed (account_in j) out ≡ shown (text_of (account_in j)) out) (eqb records.used (length rest)) _ _
      (λ _. if-true _ _ _ account-sound) (λ _. refl)

concluded-unread : (s : Stage) (r : Replay) (unused : ℕ) → account_at s r ≡ None → concluded (reading_at s r) unused ≡ None
unfolding concluded
concluded-unread s r unused e = if-cases (λ (a : Option Account). a ≡ None) _ _ _ (λ _. e) (λ _. refl)

-- a whole journal, fed at once
pub whole-concluded : (journal : List ℕ) →
    let f : Fed = fed started journal in
    concluded f.reading (length journal - f.used) ≡ account_in (parsed journal)
unfolding by_stage by_header parsed
whole-concluded journal = by-header (header_in journal) refl
  where
    P : Result Header HeaderError → Type 0
    P found =
        let f : Fed = by_header found (fresh_replay max_maximum false) journal in
        concluded f.reading (length journal - f.used) ≡ account_in (with_header found (drop header_size journal))

    by-header : (found : Result Header HeaderError) → header_in journal ≡ found → P found
    by-header (Err error.Cut) e = concluded-unread _ _ _ refl
    by-header (Err error.Bad) e = concluded-unread _ _ _ refl
    by-header (Ok h) e = records-concluded h journal (good-header journal h e)

-- what is printed of its account is its output
pub whole-printed : (journal out : List ℕ) → outcome_printed (account_in (parsed journal)) out ≡ shown (output journal) out
unfolding parsed output
whole-printed journal out = by-header (header_in journal) refl
  where
    by-header : (found : Result Header HeaderError) → header_in journal ≡ found
        → outcome_printed (account_in (with_header found (drop header_size journal))) out ≡ shown (text_of (account_in (with_header found (drop header_size journal)))) out
    by-header (Err error.Cut) e = refl
    by-header (Err error.Bad) e = refl
    by-header (Ok h) e = records-printed h journal (good-header journal h e) out

-- what is used of a part is there
records-fed-within : (r : Replay) (before : ℕ) (part : List ℕ) → before ≤ length part → (records_fed (replayed r before (drop before part))).used ≤ length part
unfolding records_taken
records-fed-within r before part h =
    let w : Within 0 (drop before part) (records_in (is_on r.state.check) (drop before part)) = used-within (is_on r.state.check) 0 (drop before part) (omega arith) in
    omega (arith, length-drop before part)

pub fed-within : (reading : Reading) (part : List ℕ) → (fed reading part).used ≤ length part
unfolding by_stage by_header
fed-within reading part = by-stage reading.stage
  where
    by-header : (found : Result Header HeaderError) → header_in part ≡ found → (by_header found reading.replay part).used ≤ length part
    by-header (Err error.Cut) e = omega arith
    by-header (Err error.Bad) e = omega arith
    by-header (Ok h) e = records-fed-within _ header_size part (good-header part h e).long

    by-stage : (s : Stage) → (by_stage s reading.replay part).used ≤ length part
    by-stage stage.Start = by-header (header_in part) refl
    by-stage stage.Records = records-fed-within reading.replay 0 part (omega arith)
    by-stage stage.Bad = omega arith
