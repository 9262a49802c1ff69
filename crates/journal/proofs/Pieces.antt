-- A journal that is fed in pieces is read as the whole is.
-- Assumes nothing.
use Prim.Native.Nat.{ℕ, ◌+◌, ◌≤◌, ◌<◌, zero-le}
use mathlib.Core.Bool.{Bool, true, false, true≢false}
use mathlib.Core.List.{List, [], ◌∷◌, ◌++◌, append_assoc, append-nil}
use mathlib.Core.Path.{◌≡◌, refl, sym, ap, ◌∙◌}
use native.Mathlib.Nat.{zero-add, add-zero}
use native.Mathlib.Omega.{arith}
use lib.ListN.{length, get_or, drop, length-append, length-drop, get_or-append}
use lib.Seq.{drop-drop, drop-append-le}
use borrow.Author.Tests.{le-ltb}
use Rattle.prelude.specs.After.{After, after}
use Rattle.std.specs.Prelude.{Result, Ok, Err, Option, None}
use Rattle.prelude.specs.Choice.{when◌then◌else◌}
use Rattle.prelude.proofs.Tests.{if-true, if-false, if-cases}
use Rattle.record.specs.Records.{Records, records_in}
use Rattle.record.specs.Transaction.{Transaction}
use Rattle.record.proofs.Resuming.{and_then, records-append}
use Rattle.state.specs.declared.Account.{Account}
use Rattle.state.specs.declared.State.{State}
use Rattle.translator.specs.declared.records.Replay.{Replay}
use Rattle.state.specs.State.{is_on}
use Rattle.translator.specs.Replay.{state_after, all_transacted, stopped_after, records_taken, replay_of, stop_of, replayed, fresh_replay}
use Rattle.translator.specs.Transact.{transacted}
use Rattle.translator.proofs.Usable.{check-stays}
use Rattle.journal.specs.declared.header.Header.{Header}
use Rattle.journal.specs.declared.header.HeaderError.{HeaderError}
use Rattle.journal.specs.declared.header.HeaderError.TheVariants as error
use Rattle.journal.specs.declared.reading.Reading.{Reading}
use Rattle.journal.specs.declared.reading.Stage.{Stage}
use Rattle.journal.specs.declared.reading.Stage.TheVariants as stage
use Rattle.journal.specs.Feeding.{Fed, fed_to, reading_at, stage_after, records_fed, by_header, by_stage, fed, is_bad, is_bad_stage, account_at, concluded}
use Rattle.journal.specs.Format.{maximum_at, header_size, is_named, header_in, parsed}
use Rattle.journal.specs.Journal.{account_in}
use Rattle.journal.specs.Properties.{Progress, progress, fed_on, fed_pieces, joined, at_start, InPieces}
use Rattle.journal.proofs.Headers.{Good, bad-long}
use Rattle.journal.proofs.Headers.{good as good-header}
use Rattle.journal.proofs.Whole.{fed-within, whole-concluded, whole-printed}

all_append : (c : After State) (first second : List Transaction) → all_transacted c (first ++ second) ≡ all_transacted (all_transacted c first) second
unfolding all_transacted
all_append c [] second = refl
all_append c (t ∷ rest) second = all_append (state_after (transacted c.result c.store c.settings t)) rest second

-- no transaction changes the check
pub all-keep-check : (c : After State) (transactions : List Transaction) → (all_transacted c transactions).result.check ≡ c.result.check
unfolding all_transacted
all-keep-check c [] = refl
all-keep-check c (t ∷ rest) = all-keep-check (state_after (transacted c.result c.store c.settings t)) rest ∙ check-stays c.result c.store c.settings t

-- a header that is there stays what it is
header-append : (bytes more : List ℕ) → header_size ≤ length bytes → header_in (bytes ++ more) ≡ header_in bytes
unfolding header_in is_named
header-append bytes more h =
    let longer : header_size ≤ length (bytes ++ more) = simp length-append (omega arith) in
    let at : (k : ℕ) → k < header_size → get_or (bytes ++ more) k 0 ≡ get_or bytes k 0 = λ k l. get_or-append bytes more 0 k (omega arith) in
    simp (le-ltb (length (bytes ++ more)) header_size longer, le-ltb (length bytes) header_size h, at 0 (omega arith), at 1 (omega arith), at 2 (omega arith), at 3 (omega arith), at 4 (omega arith), at maximum_at (omega arith))

-- what is fed once more of what was left
abbrev onward : Fed → List ℕ → List ℕ → Fed
onward f bytes more =
    let g : Fed = fed f.reading (drop f.used bytes ++ more) in
    fed_to g.reading (f.used + g.used)

module _ (r : Replay) (before : ℕ) (bytes more : List ℕ) (h : before ≤ length bytes) where
  abbrev on : Bool
  on = is_on r.state.check

  abbrev here : Records
  here = records_in on (drop before bytes)

  abbrev from : After State
  from = after r.state r.store r.settings

  abbrev reached : After State
  reached = all_transacted from here.transactions

  abbrev replay_at : After State → Replay
  replay_at c = replay_of c.result c.store c.settings

  -- what records read come to
  abbrev fed_by : Records → Fed
  fed_by records = records_fed (stopped_after before records (all_transacted from records.transactions))

  -- onward, by whether a bad link byte was met
  abbrev onward_from : Bool → List ℕ → Fed
  onward_from b rest =
      let g : Fed = fed (reading_at (stage_after (stop_of b)) (replay_at reached)) rest in
      fed_to g.reading (before + here.used + g.used)

  left : drop (0 + here.used) (drop before bytes) ≡ drop (before + here.used) bytes
  left = drop-drop (0 + here.used) before bytes ∙ ap (λ (n : ℕ). drop (before + n) bytes) (zero-add here.used)

  met : (b : Bool) → here.bad_link ≡ b
      → fed_by (and_then here (records_in on (drop (before + here.used) bytes ++ more))) ≡ onward_from b (drop (before + here.used) bytes ++ more)
  unfolding by_stage records_taken when◌then◌else◌
  met true e =
      ap (fed_by) (if-true _ _ _ e)
      ∙ (ap (λ (b : Bool). fed_to (reading_at (stage_after (stop_of b)) (replay_at reached)) (before + here.used)) e
      ∙ ap (λ (n : ℕ). fed_to (reading_at stage.Bad (replay_at reached)) n) (sym (add-zero (before + here.used))))
  met false e =
      let rest : Records = records_in on (drop (before + here.used) bytes ++ more) in
      let both : Records = record { transactions = here.transactions ++ rest.transactions; used = here.used + rest.used; bad_link = rest.bad_link } in
      let place : before + (here.used + rest.used) ≡ before + here.used + (0 + rest.used) = omega arith in
      ap (fed_by) (if-false _ _ _ e)
      ∙ (ap (λ (c : After State). records_fed (stopped_after before both c)) (all_append from here.transactions rest.transactions)
      ∙ (ap (λ (n : ℕ). fed_to (reading_at (stage_after (stop_of rest.bad_link)) (replay_at (all_transacted reached rest.transactions))) n) place
      ∙ ap (λ (b : Bool). gone-on (records_in b (drop (before + here.used) bytes ++ more))) (sym (ap is_on (all-keep-check from here.transactions)))))
    where
      gone-on : Records → Fed
      gone-on rest = fed_to (reading_at (stage_after (stop_of rest.bad_link)) (replay_at (all_transacted reached rest.transactions))) (before + here.used + (0 + rest.used))

  records-onward : records_fed (replayed r before (drop before (bytes ++ more))) ≡ onward (records_fed (replayed r before (drop before bytes))) bytes more
  unfolding records_taken
  records-onward =
      ap (λ (l : List ℕ). fed_by (records_in on l)) (drop-append-le before bytes more h)
      ∙ (ap (fed_by)
      (records-append on 0 (drop before bytes) more zero-le ∙ ap (λ (l : List ℕ). and_then here (records_in on (l ++ more))) left)
      ∙ met here.bad_link refl)

-- any part of a journal, and then what it left with more bytes behind it
fed-onward : (reading : Reading) (bytes more : List ℕ) → fed reading (bytes ++ more) ≡ onward (fed reading bytes) bytes more
unfolding by_stage by_header
fed-onward reading bytes more = by-stage reading.stage
  where
    r : Replay
    r = reading.replay

    by-header : (found : Result Header HeaderError) → header_in bytes ≡ found → by_header (header_in (bytes ++ more)) r (bytes ++ more) ≡ onward (by_header found r bytes) bytes more
    by-header (Err error.Cut) e =
        let g : Fed = fed (reading_at stage.Start r) (bytes ++ more) in
        ap (λ (n : ℕ). fed_to g.reading n) (sym (zero-add g.used))
    by-header (Err error.Bad) e =
        ap (λ (found : Result Header HeaderError). by_header found r (bytes ++ more)) (header-append bytes more (bad-long bytes e) ∙ e)
    by-header (Ok h) e =
        let g : Good bytes h = good-header bytes h e in
        ap (λ (found : Result Header HeaderError). by_header found r (bytes ++ more)) (header-append bytes more g.long ∙ e)
        ∙ records-onward (fresh_replay h.maximum h.check) header_size bytes more g.long

    by-stage : (s : Stage) → by_stage s r (bytes ++ more) ≡ onward (by_stage s r bytes) bytes more
    by-stage stage.Start = by-header (header_in bytes) refl
    by-stage stage.Records = records-onward r 0 bytes more zero-le
    by-stage stage.Bad = refl

two_pieces : (p : Progress) (piece next : List ℕ) → fed_on (fed_on p piece) next ≡ fed_on p (piece ++ next)
two_pieces p piece next =
    let bytes : List ℕ = p.unused ++ piece in
    let f : Fed = fed p.reading bytes in
    let g : Fed = fed f.reading (drop f.used bytes ++ next) in
    let rest : drop g.used (drop f.used bytes ++ next) ≡ drop (f.used + g.used) (bytes ++ next) =
    ap (drop g.used) (sym (drop-append-le f.used bytes next (fed-within p.reading bytes))) ∙ drop-drop g.used f.used (bytes ++ next) in
    ap (λ (l : List ℕ). record { reading = g.reading; unused = l }) rest
    ∙ (ap (λ (a : Fed). progress a (bytes ++ next)) (sym (fed-onward p.reading bytes next))
    ∙ ap (λ (l : List ℕ). progress (fed p.reading l) l) (append_assoc p.unused piece next))

-- a reading that has used all it can
all-pieces : (p : Progress) (pieces : List (List ℕ)) → fed_on p [] ≡ p → fed_pieces p pieces ≡ fed_on p (joined pieces)
unfolding fed_pieces
all-pieces p [] e = sym e
all-pieces p (piece ∷ rest) e = all-pieces (fed_on p piece) rest (two_pieces p piece [] ∙ ap (fed_on p) (append-nil piece)) ∙ two_pieces p piece (joined rest)

fed-nothing : fed_on at_start [] ≡ at_start
unfolding by_stage by_header header_in when◌then◌else◌
fed-nothing = refl

any_pieces : (pieces : List (List ℕ)) → fed_pieces at_start pieces ≡ fed_on at_start (joined pieces)
any_pieces pieces = all-pieces at_start pieces fed-nothing

bad-stage : (s : Stage) → is_bad_stage s ≡ true → s ≡ stage.Bad
bad-stage stage.Start e = absurd (true≢false (sym e))
bad-stage stage.Records e = absurd (true≢false (sym e))
bad-stage stage.Bad e = refl

bad_stays : (p : Progress) (piece : List ℕ) → is_bad p.reading ≡ true → (fed_on p piece).reading ≡ p.reading
unfolding by_stage
bad_stays p piece b =
    let e : p.reading.stage ≡ stage.Bad = bad-stage p.reading.stage b in
    ap (λ (s : Stage). (by_stage s p.reading.replay (p.unused ++ piece)).reading) e ∙ ap (λ (s : Stage). reading_at s p.reading.replay) (sym e)

bad_has_none : (reading : Reading) (unused : ℕ) → is_bad reading ≡ true → concluded reading unused ≡ None
unfolding concluded
bad_has_none reading unused b =
    if-cases (λ (a : Option Account). a ≡ None) _ _ _
    (λ _. ap (λ (s : Stage). account_at s reading.replay) (bad-stage reading.stage b)) (λ _. refl)

account_in_the_end : (pieces : List (List ℕ)) →
    let p : Progress = fed_pieces at_start pieces in
    concluded p.reading (length p.unused) ≡ account_in (parsed (joined pieces))
account_in_the_end pieces =
    let journal : List ℕ = joined pieces in
    let p : Progress = fed_on at_start journal in
    ap (λ (q : Progress). concluded q.reading (length q.unused)) (any_pieces pieces)
    ∙ (ap (λ (n : ℕ). concluded p.reading n) (length-drop _ journal) ∙ whole-concluded journal)

pub in_pieces : InPieces
in_pieces =
    record {
      two_pieces = two_pieces;
      any_pieces = any_pieces;
      bad_stays = bad_stays;
      bad_has_none = bad_has_none;
      account_in_the_end = account_in_the_end;
      printed_in_the_end = whole-printed;
    }
