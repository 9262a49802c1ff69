-- What the rules make of a transaction follows what its role does to what is done and held.
-- Assumes nothing.
use Prim.Native.Nat.{ℕ, ◌+◌, ◌≤◌}
use mathlib.Core.Bool.{Bool, true, false, not}
use mathlib.Core.List.{List, [], ◌∷◌, ◌++◌, append-nil}
use mathlib.Core.Path.{◌≡◌, refl, sym, ap, ◌∙◌, subst}
use native.Mathlib.Omega.{arith}
use Rattle.std.specs.Prelude.{Option, None}
use lib.Dec.{eqb, ltb, leb}
use lib.ListN.{length, length-append}
use borrow.Author.Tests.{ltb-false, lt-ltb, le-ltb, leb-true, leb-false, ne_eqb}
use Rattle.prelude.specs.Choice.{when◌then◌else◌, ◌and◌}
use Rattle.prelude.proofs.Tests.{if-false, if-both}
use Rattle.packet.specs.Store.{max_packet, min_packet, filled}
use Rattle.packet.specs.Store as store_of
use Rattle.state.specs.declared.Account.{Account}
use Rattle.state.specs.declared.row.Row.{Row}
use Rattle.state.specs.Account.{no_row, row_number}
use Rattle.outcome.specs.declared.Cause.{Cause}
use Rattle.outcome.specs.declared.Cause.TheVariants as cause
use Rattle.outcome.specs.declared.Outcome.{Outcome}
use Rattle.outcome.specs.declared.Outcome.TheVariants as outcome
use Rattle.outcome.specs.declared.Reply.{Reply}
use Rattle.outcome.specs.Outcome.{cause_number, reply_to}
use Rattle.translator.specs.Counting as counting
use Rattle.translator.specs.Joining as join
use Rattle.translator.specs.Judge as judge
use Rattle.translator.proofs.Joined.{written, last_of, by_last, joined-by-last}
use Rattle.history.specs.Lines.{Fate, row_of, sent, superseded, flushed, broken, over, short, linkdown, aborted, badlength, badcheck, row, line_of}
use Rattle.history.specs.Packets.{concatenated, total_of, sent_length}
use Rattle.history.specs.Reading.{Setup, is_length_allowed}
use Rattle.history.specs.Runs.{Role, begins, goes_on, ends, passes, Item, run, alone, last_answer, completed, packets_sent}
use Rattle.history.specs.Replies.{answered, last_reply, taken_reply, reply_on}
use Rattle.history.specs.Calls.{packets_of}
use Rattle.history.proofs.Cutting.{held_on, closing, closed, own, Alone, of-3, of-7, of-8, of-9, of-10, of-11, of-17, alone-not-sent, sent-append}
use Rattle.history.proofs.Counts.{fate_row, Counts, Adds, adds_none, adds_run, adds-alone, adds-closing, left-none, left-all, none-held, counted-counts}
use Rattle.history.proofs.Holds.{Holds, holds-nothing, written-holds, filled-length, sent-shown}

pub concatenated-snoc : (pieces : List (List ℕ)) (piece : List ℕ) → concatenated (pieces ++ piece ∷ []) ≡ concatenated pieces ++ piece
concatenated-snoc [] piece = append-nil piece
concatenated-snoc (p ∷ ps) piece = rw (concatenated-snoc ps piece) (sym (mathlib.Core.List.append_assoc p (concatenated ps) piece))

pub total-snoc : (pieces : List (List ℕ)) (piece : List ℕ) → total_of (pieces ++ piece ∷ []) ≡ total_of pieces + length piece
total-snoc pieces piece = ap length (concatenated-snoc pieces piece) ∙ length-append (concatenated pieces) piece

-- a packet that ends unsent adds none
closing-unsent : (fate : Fate) (held : List (List ℕ)) → (row_of fate ≡ 0 → ⊥) → packets_sent (closing (row fate) held) ≡ []
closing-unsent fate [] n = refl
closing-unsent fate (p ∷ ps) n = ap (λ (ps : List (List ℕ)). ps ++ []) (if-false _ _ _ (ne_eqb (row_of fate) 0 n))

run-unsent : (fate : Fate) (pieces : List (List ℕ)) → (row_of fate ≡ 0 → ⊥) → packets_sent (run pieces (row fate) ∷ []) ≡ []
run-unsent fate pieces n = ap (λ (ps : List (List ℕ)). ps ++ []) (if-false _ _ _ (ne_eqb (row_of fate) 0 n))

-- the role of a fragment with these flags
abbrev pub fragment_role : (piece : List ℕ) (last link_up : Bool) → Setup → (first : Bool) → Role
fragment_role piece last link_up setup first = when not (is_length_allowed setup piece) then ends broken 3 else when first then begins last piece link_up else goes_on last piece link_up

-- what is held and done once these fragments were joined, Last or not
abbrev after_last : Bool → List (List ℕ) → List (List ℕ)
after_last true pieces = []
after_last false pieces = pieces

abbrev completes : Bool → Bool → List (List ℕ) → List Item
completes true link_up pieces = completed link_up pieces ∷ []
completes false link_up pieces = []

-- of what was done, held and sent before, in a store of which the rest was not lent
module _ (a : Account) (held : List (List ℕ)) (done : List Item) (total : ℕ) (counts : Counts a held done total) (before : List (List ℕ)) (sent-before : before ≡ packets_sent done) (size : ℕ) (rest : List ℕ) where
  abbrev open_fragments : ℕ
  open_fragments = a.beside.open_fragments

  abbrev open_bytes : ℕ
  open_bytes = a.beside.open_bytes

  -- an outcome with the row of the packet that it ends and the bytes that it counts, and the store that it leaves
  pub record Goes (o : Outcome) (ending : Option Row) (bytes : ℕ) (store : List ℕ) (held_after : List (List ℕ)) (closes owns : List Item) (reply : Reply) : Type 0 where
    pub counts-are : Counts (counting.counted (judge.judged o ending bytes) a) held_after ((done ++ closes) ++ owns) (1 + total)
    pub holds : Holds size store held_after
    pub sent_are : before ++ packets_of (reply_to o) (store ++ rest) ≡ packets_sent ((done ++ closes) ++ owns)
    pub reply_is : reply_to o ≡ reply

  abbrev pub Follows : Outcome → Option Row → ℕ → List ℕ → Role → Type 0
  Follows o ending bytes store role = Goes o ending bytes store (held_on role held) (closed role held) (own role held) (reply_on role held)

  -- what was sent, where the packet that ends was not
  sent-then : (closes owns : List Item) (more : List (List ℕ)) → packets_sent closes ≡ [] → packets_sent owns ≡ more → before ++ more ≡ packets_sent ((done ++ closes) ++ owns)
  sent-then closes owns more none is =
      sym (sent-append (done ++ closes) owns
      ∙ (ap (λ (ps : List (List ℕ)). ps ++ packets_sent owns) (sent-append done closes ∙ (ap (λ (ps : List (List ℕ)). packets_sent done ++ ps) none ∙ append-nil (packets_sent done)))
      ∙ (ap (λ (ps : List (List ℕ)). packets_sent done ++ ps) is ∙ ap (λ (ps : List (List ℕ)). ps ++ more) (sym sent-before))))

  -- a fragment joins these fragments, behind the packet that it ends
  module _ (joining : List (List ℕ)) (piece : List ℕ) (at : ℕ) (ending : Option Row) (closes : List Item) (at-is : at ≡ total_of joining)
      (left-fragments : counting.left_open (row_number ending) open_fragments ≡ length joining) (left-bytes : counting.left_open (row_number ending) open_bytes ≡ total_of joining)
      (closes-adds : Adds (row_number ending) 1 open_fragments open_bytes 0 0 closes) (closes-unsent : packets_sent closes ≡ []) (link_up : Bool) (store : List ℕ) (holds : Holds size store joining) where
    abbrev pieces : List (List ℕ)
    pieces = joining ++ piece ∷ []

    abbrev store_left : List ℕ
    store_left = written store at piece

    store-holds : Holds size store_left pieces
    store-holds = rw at-is (written-holds store piece joining holds)

    more-fragments : counting.left_open (row_number ending) open_fragments + 1 ≡ length pieces
    more-fragments = sym (length-append joining (piece ∷ []) ∙ omega (arith, left-fragments))

    more_bytes : counting.left_open (row_number ending) open_bytes + length piece ≡ total_of pieces
    more_bytes = sym (total-snoc joining piece ∙ omega (arith, left-bytes))

    open-goes : Goes outcome.Joined ending (length piece) store_left pieces closes [] (answered 0)
    unfolding packets_of when◌then◌else◌
    open-goes = record {
      counts-are =
          counted-counts outcome.Joined ending (length piece) a counts pieces closes [] closes-adds _ _ _ _ _ _ _ _ refl (adds_none 0 0 0) more-fragments more_bytes;
      holds = store-holds;
      sent_are = sent-then closes [] [] closes-unsent refl;
      reply_is = refl;
    }

    abbrev Ends : Outcome → ℕ → Type 0
    Ends o answer =
        Goes o ending (length piece) (join.filled_if o (total_of pieces) store_left) [] closes (run pieces (line_of answer) ∷ [])
        (record { answer = answer; sent = when eqb answer 1 then sent_length (total_of pieces) else 0 })

    ended-counts : (o : Outcome) (fate : Fate)
        → counting.outcome_tally o (counting.left_open (row_number ending) open_fragments) (counting.left_open (row_number ending) open_bytes) (length piece) ≡ counting.whole (fate_row fate) (counting.left_open (row_number ending) open_fragments) (counting.left_open (row_number ending) open_bytes) (length piece)
        → Counts (counting.counted (judge.judged o ending (length piece)) a) [] ((done ++ closes) ++ run pieces (row fate) ∷ []) (1 + total)
    ended-counts o fate e =
        counted-counts o ending (length piece) a counts [] closes (run pieces (row fate) ∷ []) closes-adds _ _ _ _ _ _ _ _ e (adds_run fate pieces _ _ more-fragments more_bytes) refl refl

    nothing-held : Holds size store_left []
    nothing-held = holds-nothing store_left store-holds.size_is store-holds.room

    -- a packet that is discarded, in the row of its fate
    discarded-goes : (c : Cause) (fate : Fate)
        → counting.outcome_tally (outcome.Discarded c) (counting.left_open (row_number ending) open_fragments) (counting.left_open (row_number ending) open_bytes) (length piece) ≡ counting.whole (fate_row fate) (counting.left_open (row_number ending) open_fragments) (counting.left_open (row_number ending) open_bytes) (length piece)
        → packets_of (reply_to (outcome.Discarded c)) (store_left ++ rest) ≡ [] → (row_of fate ≡ row_of sent → ⊥)
        → Goes (outcome.Discarded c) ending (length piece) store_left [] closes (run pieces (row fate) ∷ []) (answered (cause_number c))
    discarded-goes c fate e none other = record {
      counts-are = ended-counts (outcome.Discarded c) fate e;
      holds = nothing-held;
      sent_are = sent-then closes (run pieces (row fate) ∷ []) _ closes-unsent (run-unsent fate pieces other ∙ sym none);
      reply_is = refl;
    }

    over-goes : Ends (outcome.Discarded cause.Over) 4
    unfolding join.filled_if packets_of when◌then◌else◌
    over-goes = discarded-goes cause.Over over refl refl (λ q. omega (arith, q))

    short-goes : Ends (outcome.Discarded cause.Short) 5
    unfolding join.filled_if packets_of when◌then◌else◌
    short-goes = discarded-goes cause.Short short refl refl (λ q. omega (arith, q))

    linkdown-goes : Ends (outcome.Discarded cause.LinkDown) 6
    unfolding join.filled_if packets_of when◌then◌else◌
    linkdown-goes = discarded-goes cause.LinkDown linkdown refl refl (λ q. omega (arith, q))

    sent-goes : total_of pieces ≤ max_packet → Ends (outcome.Sent (store_of.sent_length (total_of pieces))) 1
    unfolding join.filled_if packets_of sent_length store_of.sent_length when◌then◌else◌
    sent-goes within = record {
      counts-are = ended-counts (outcome.Sent (store_of.sent_length (total_of pieces))) sent refl;
      holds = holds-nothing (filled store_left (total_of pieces)) (filled-length store_left (total_of pieces) ∙ store-holds.size_is) (rw (filled-length store_left (total_of pieces)) store-holds.room);
      sent_are = sent-then closes (run pieces (row sent) ∷ []) _ closes-unsent (ap (λ (p : List ℕ). p ∷ []) (sym (sent-shown store_left rest pieces store-holds within)));
      reply_is = refl;
    }

    last_goes : Ends (last_of (total_of pieces) link_up) (last_answer link_up (total_of pieces))
    unfolding last_of join.completed_of last_answer
    last_goes =
        if-both Ends (ltb max_packet (total_of pieces)) _ _ _ _ (λ _. over-goes)
        (λ within. if-both Ends (ltb (total_of pieces) min_packet) _ _ _ _ (λ _. short-goes)
        (λ _. if-both Ends link_up _ _ _ _ (λ _. sent-goes (ltb-false max_packet (total_of pieces) within)) (λ _. linkdown-goes)))

    joined-goes : (last : Bool)
        → (let s : join.Stored Outcome = join.joined at piece last link_up store in
        Goes s.result ending (length piece) s.store (after_last last pieces) closes (completes last link_up pieces) (taken_reply last link_up pieces))
    unfolding last_reply when◌then◌else◌
    joined-goes last =
        subst (λ (s : join.Stored Outcome). Goes s.result ending (length piece) s.store (after_last last pieces) closes (completes last link_up pieces) (taken_reply last link_up pieces))
        (sym (joined-by-last at piece last link_up store)) (last-or-not last)
      where
        last-or-not : (l : Bool)
            → (let s : join.Stored Outcome = by_last at piece l link_up store in
            Goes s.result ending (length piece) s.store (after_last l pieces) closes (completes l link_up pieces) (taken_reply l link_up pieces))
        last-or-not true =
            let sum : at + length piece ≡ total_of pieces = sym (total-snoc joining piece ∙ omega (arith, at-is)) in
            rw sum last_goes
        last-or-not false = open-goes

  -- what breaks the packet, and stands in a row alone and with no bytes
  breaks-follows : (store : List ℕ) → Holds size store held → (o : Outcome) (fate : Fate) (answer : ℕ)
      → ((f b : ℕ) → counting.outcome_tally o f b 0 ≡ counting.alone (fate_row fate) f b 0)
      → line_of answer ≡ row fate → packets_of (reply_to o) (store ++ rest) ≡ packets_sent (alone [] (line_of answer) ∷ []) → reply_to o ≡ answered answer
      → Follows o (judge.ends_in (fate_row broken) open_fragments) 0 store (ends broken answer)
  breaks-follows store holds o fate answer tally stands none reply = record {
    counts-are =
        counted-counts o (judge.ends_in (fate_row broken) open_fragments) 0 a counts [] (closing (row broken) held) (alone [] (line_of answer) ∷ [])
        (adds-closing broken held open_fragments open_bytes counts.held_fragments counts.held_bytes) _ _ _ _ _ _ _ _ (tally _ _) (rw stands (adds-alone fate []))
        (left-none broken held open_fragments open_fragments counts.held_fragments (λ none. none))
        (left-none broken held open_fragments open_bytes counts.held_fragments (none-held held open_fragments open_bytes counts.held_fragments counts.held_bytes));
    holds = holds-nothing store holds.size_is holds.room;
    sent_are = sent-then (closing (row broken) held) (alone [] (line_of answer) ∷ []) _ (closing-unsent broken held (λ q. omega (arith, q))) (sym none);
    reply_is = reply;
  }

  pub check-follows : (store : List ℕ) → Holds size store held → (let j = judge.bad_check open_fragments in Follows j.outcome j.ends j.bytes store (ends broken 17))
  unfolding judge.bad_check packets_of when◌then◌else◌
  check-follows store holds = breaks-follows store holds outcome.BadCheck badcheck 17 (λ f b. refl) refl refl refl

  -- a fragment, as the rules take it and as the history reads it
  module _ (store : List ℕ) (holds : Holds size store held) (piece : List ℕ) (last link_up : Bool) where
    abbrev Stores : judge.JudgedWithStore → Role → Type 0
    Stores s role = Follows s.result.outcome s.result.ends s.result.bytes s.store role

    first-follows :
        (let s : join.Stored Outcome = join.joined 0 piece last link_up store in
        Follows s.result (judge.ends_in (fate_row superseded) open_fragments) (length piece) s.store (begins last piece link_up))
    first-follows =
        by-last last
        (joined-goes [] piece 0 (judge.ends_in (fate_row superseded) open_fragments) (closing (row superseded) held) refl
        (left-none superseded held open_fragments open_fragments counts.held_fragments (λ none. none))
        (left-none superseded held open_fragments open_bytes counts.held_fragments (none-held held open_fragments open_bytes counts.held_fragments counts.held_bytes))
        (adds-closing superseded held open_fragments open_bytes counts.held_fragments counts.held_bytes)
        (closing-unsent superseded held (λ q. omega (arith, q))) link_up store (holds-nothing store holds.size_is holds.room))
      where
        by-last : (l : Bool)
            → ((l : Bool)
            → (let s : join.Stored Outcome = join.joined 0 piece l link_up store in
            Goes s.result (judge.ends_in (fate_row superseded) open_fragments) (length piece) s.store (after_last l (piece ∷ [])) (closing (row superseded) held) (completes l link_up (piece ∷ [])) (taken_reply l link_up (piece ∷ []))))
            → (let s : join.Stored Outcome = join.joined 0 piece l link_up store in
            Follows s.result (judge.ends_in (fate_row superseded) open_fragments) (length piece) s.store (begins l piece link_up))
        by-last true goes = goes true
        by-last false goes = goes false

    later-follows : Stores (judge.by_sequence (judge.sequence_of false open_fragments open_bytes) piece last link_up store) (goes_on last piece link_up)
    unfolding judge.sequence_of judge.by_sequence packets_of when◌then◌else◌
    later-follows = by-held held refl last
      where
        Later : List (List ℕ) → Bool → Type 0
        Later h l =
            let s : judge.JudgedWithStore = judge.by_sequence (judge.sequence_of false open_fragments open_bytes) piece l link_up store in
            let role : Role = goes_on l piece link_up in
            Goes s.result.outcome s.result.ends s.result.bytes s.store (held_on role h) (closed role h) (own role h) (reply_on role h)

        none-goes : held ≡ [] → Goes (outcome.Discarded cause.Aborted) None (length piece) store [] [] (alone piece (line_of 2) ∷ []) (answered 2)
        none-goes e = record {
          counts-are =
              counted-counts (outcome.Discarded cause.Aborted) None (length piece) a counts [] [] (alone piece (line_of 2) ∷ []) (adds_none 1 open_fragments open_bytes) _ _ _ _ _ _ _ _ refl
              (adds-alone aborted piece) (left-all open_fragments ∙ (counts.held_fragments ∙ ap length e)) (left-all open_bytes ∙ (counts.held_bytes ∙ ap total_of e));
          holds = holds-nothing store holds.size_is holds.room;
          sent_are = sent-then [] (alone piece (line_of 2) ∷ []) [] refl refl;
          reply_is = refl;
        }

        some-goes : (p : List ℕ) (ps : List (List ℕ)) → held ≡ p ∷ ps → (l : Bool)
            → (let s : join.Stored Outcome = join.joined open_bytes piece l link_up store in
            Goes s.result None (length piece) s.store (after_last l ((p ∷ ps) ++ piece ∷ [])) [] (completes l link_up ((p ∷ ps) ++ piece ∷ [])) (taken_reply l link_up ((p ∷ ps) ++ piece ∷ [])))
        some-goes p ps e =
            joined-goes (p ∷ ps) piece open_bytes None [] (counts.held_bytes ∙ ap total_of e)
            (left-all open_fragments ∙ (counts.held_fragments ∙ ap length e)) (left-all open_bytes ∙ (counts.held_bytes ∙ ap total_of e))
            (adds_none 1 open_fragments open_bytes) refl link_up store (subst (Holds size store) e holds)

        by-held : (h : List (List ℕ)) → held ≡ h → (l : Bool) → Later h l
        by-held [] e true = rw (le-ltb 0 open_fragments (omega (arith, counts.held_fragments, ap length e))) (none-goes e)
        by-held [] e false = rw (le-ltb 0 open_fragments (omega (arith, counts.held_fragments, ap length e))) (none-goes e)
        by-held (p ∷ ps) e true = rw (lt-ltb 0 open_fragments (omega (arith, counts.held_fragments, ap length e))) (some-goes p ps e true)
        by-held (p ∷ ps) e false = rw (lt-ltb 0 open_fragments (omega (arith, counts.held_fragments, ap length e))) (some-goes p ps e false)

    bad-follows : Stores (join.stored (judge.bad_length open_fragments) store) (ends broken 3)
    unfolding judge.bad_length packets_of when◌then◌else◌
    bad-follows = breaks-follows store holds (outcome.Discarded cause.BadLength) badlength 3 (λ f b. refl) refl refl refl

    pub fragment-follows : (setup : Setup) (first : Bool) → Stores (judge.fragment setup.maximum open_fragments open_bytes piece first last link_up store) (fragment_role piece last link_up setup first)
    unfolding is_length_allowed judge.fragment judge.sequence_of judge.by_sequence when◌then◌else◌
    fragment-follows setup first = by_tests (leb 1 (length piece)) (leb (length piece) setup.maximum) refl refl
      where
        Result : Bool → Bool → Type 0
        Result some few =
            Stores (judge.fragment setup.maximum open_fragments open_bytes piece first last link_up store)
            (when not (some and few) then ends broken 3 else when first then begins last piece link_up else goes_on last piece link_up)

        by_first : (f : Bool) → Stores (judge.by_sequence (judge.sequence_of f open_fragments open_bytes) piece last link_up store) (when f then begins last piece link_up else goes_on last piece link_up)
        by_first true = first-follows
        by_first false = later-follows

        by_tests : (some few : Bool) → leb 1 (length piece) ≡ some → leb (length piece) setup.maximum ≡ few → Result some few
        by_tests false few e f = rw (lt-ltb (length piece) 1 (leb-false 1 (length piece) e)) bad-follows
        by_tests true false e f =
            rw (le-ltb (length piece) 1 (leb-true 1 (length piece) e), lt-ltb setup.maximum (length piece) (leb-false (length piece) setup.maximum f)) bad-follows
        by_tests true true e f =
            rw (le-ltb (length piece) 1 (leb-true 1 (length piece) e), le-ltb setup.maximum (length piece) (leb-true (length piece) setup.maximum f)) (by_first first)

  -- a command ends the packet as flushed, or passes
  module _ (store : List ℕ) (holds : Holds size store held) (o : Outcome) (answer k q : ℕ) (stands : Alone answer) (reply : reply_to o ≡ answered answer)
      (tally : (f b : ℕ) → counting.outcome_tally o f b 0 ≡ counting.tally None 0 0 0 f b k q) (adds : Adds no_row 0 0 0 k q (alone [] (line_of answer) ∷ [])) where
    none-sent : packets_of (reply_to o) (store ++ rest) ≡ []
    unfolding packets_of when◌then◌else◌
    none-sent = ap (λ (r : Reply). packets_of r (store ++ rest)) reply ∙ by_answer answer stands
      where
        by_answer : (n : ℕ) → Alone n → packets_of (answered n) (store ++ rest) ≡ []
        by_answer _ of-3 = refl
        by_answer _ of-7 = refl
        by_answer _ of-8 = refl
        by_answer _ of-9 = refl
        by_answer _ of-10 = refl
        by_answer _ of-11 = refl
        by_answer _ of-17 = refl

    pub flush-follows : Follows o (judge.ends_in (fate_row flushed) open_fragments) 0 store (ends flushed answer)
    flush-follows = record {
      counts-are =
          counted-counts o (judge.ends_in (fate_row flushed) open_fragments) 0 a counts [] (closing (row flushed) held) (alone [] (line_of answer) ∷ [])
          (adds-closing flushed held open_fragments open_bytes counts.held_fragments counts.held_bytes) _ _ _ _ _ _ _ _ (tally _ _) adds
          (left-none flushed held open_fragments open_fragments counts.held_fragments (λ none. none))
          (left-none flushed held open_fragments open_bytes counts.held_fragments (none-held held open_fragments open_bytes counts.held_fragments counts.held_bytes));
      holds = holds-nothing store holds.size_is holds.room;
      sent_are = rw none-sent (sent-then (closing (row flushed) held) (alone [] (line_of answer) ∷ []) [] (closing-unsent flushed held (λ q. omega (arith, q))) (alone-not-sent answer stands));
      reply_is = reply;
    }

    pub pass-follows : Follows o None 0 store (passes answer)
    pass-follows = record {
      counts-are =
          counted-counts o None 0 a counts held [] (alone [] (line_of answer) ∷ []) (adds_none 1 open_fragments open_bytes) _ _ _ _ _ _ _ _ (tally _ _) adds
          (left-all open_fragments ∙ counts.held_fragments) (left-all open_bytes ∙ counts.held_bytes);
      holds = holds;
      sent_are = rw none-sent (sent-then [] (alone [] (line_of answer) ∷ []) [] refl (alone-not-sent answer stands));
      reply_is = reply;
    }
