-- What a transaction comes to, told by its outcome.
-- Assumes nothing.
use Prim.Native.Nat.{ℕ, ◌+◌, ◌≤◌}
use mathlib.Core.Bool.{Bool, true, false, not, true≢false}
use mathlib.Core.List.{List}
use mathlib.Core.Logic.{◌⊎◌, inl, inr}
use mathlib.Core.Path.{◌≡◌, refl, sym, ap, subst, ◌∙◌}
use native.Mathlib.Omega.{arith}
use Rattle.std.specs.Prelude.{Option, None, Some}
use lib.Dec.{eqb, leb, ltb}
use lib.ListN.{length}
use borrow.Author.Tests.{ltb-true, ltb-false, ne_eqb}
use Rattle.prelude.specs.After.{After, after}
use Rattle.prelude.specs.Choice.{when◌then◌else◌}
use Rattle.prelude.proofs.Tests.{if-cases, if-true, if-false}
use Rattle.packet.specs.Store.{max_packet, filled}
use Rattle.std.specs.Prelude.{Ok, Err}
use Rattle.settings.specs.declared.enable.Refusal.{Refusal}
use Rattle.settings.specs.declared.enable.Refusal.TheVariants as refusal
use Rattle.settings.specs.Enable.{refusal_number, Answer, Answered, short_form_answered, long_form_answered, receive_enabled}
use Rattle.settings.specs.Enable as settings-enable
use Rattle.settings.specs.Layout as settings_layout
use Rattle.settings.specs.Properties.{KeepsTheRest}
use Rattle.settings.proofs.Properties.{every-enable}
use Rattle.settings.proofs.Sound.{short-is-not-sound}
use Rattle.state.specs.declared.row.Row.{Row}
use Rattle.state.specs.declared.row.Row.TheVariants as row
use Rattle.record.specs.declared.transaction.Attributes.{Attributes}
use Rattle.record.specs.Transaction.{transaction}
use Rattle.state.specs.Account.{row_count, no_row, superseded, flushed, broken, place_of, row_number}
use Rattle.state.specs.State.{setup_of}
use Rattle.outcome.specs.declared.Cause.{Cause}
use Rattle.outcome.specs.declared.Cause.TheVariants as cause
use Rattle.outcome.specs.declared.Outcome.{Outcome}
use Rattle.outcome.specs.declared.Outcome.TheVariants as outcome
use Rattle.outcome.specs.Outcome.{number_of, is_counted}
use Rattle.translator.specs.declared.command.Class.{Class}
use Rattle.translator.specs.declared.command.Class.TheVariants as class
use Rattle.translator.specs.declared.fragment.Joins as joins
use Rattle.translator.specs.declared.judged.Judged.{Judged}
use Rattle.translator.specs.Check.{passes_check}
use Rattle.translator.specs.Command.{commands, class_in, has_both_flags}
use Rattle.translator.specs.Counting.{left_open}
use Rattle.translator.specs.Joining.{Stored, stored, completed_of, filled_if, joined}
use Rattle.translator.specs.Judge.{judged, ends_in, bad_length, sequence_of, by_sequence, fragment, enabled_as, enable, unknown, in_store, by_class, bad_check, judge}
use Rattle.translator.specs.Properties.{fragment_closes, closes_in, closes}
use Rattle.translator.proofs.Joined.{written, last_of, joined-by-last}
use Rattle.std.proofs.lemmas.Bool.{cases_eq}

-- the data bytes that each outcome counts
abbrev cause_bytes : Cause → ℕ → ℕ
cause_bytes cause.Aborted size = size
cause_bytes cause.BadLength size = 0
cause_bytes cause.Over size = size
cause_bytes cause.Short size = size
cause_bytes cause.LinkDown size = size

abbrev pub counted_bytes : Outcome → ℕ → ℕ
counted_bytes outcome.Joined size = size
counted_bytes (outcome.Sent n) size = size
counted_bytes (outcome.Discarded c) size = cause_bytes c size
counted_bytes outcome.Unknown size = 0
counted_bytes (outcome.Refused r) size = 0
counted_bytes outcome.Taken size = 0
counted_bytes outcome.NoRoom size = 0
counted_bytes outcome.NotSound size = 0
counted_bytes outcome.Full size = 0
counted_bytes outcome.BadCheck size = 0

-- the store that each outcome leaves, where the fragment goes to `at`
abbrev cause_store : Cause → List ℕ → List ℕ → List ℕ
cause_store cause.Aborted store after = store
cause_store cause.BadLength store after = store
cause_store cause.Over store after = after
cause_store cause.Short store after = after
cause_store cause.LinkDown store after = after

abbrev pub store_after : Outcome → ℕ → List ℕ → List ℕ → List ℕ
store_after outcome.Joined at bytes store = written store at bytes
store_after (outcome.Sent n) at bytes store = filled (written store at bytes) (at + length bytes)
store_after (outcome.Discarded c) at bytes store = cause_store c store (written store at bytes)
store_after outcome.Unknown at bytes store = store
store_after (outcome.Refused r) at bytes store = store
store_after outcome.Taken at bytes store = store
store_after outcome.NoRoom at bytes store = store
store_after outcome.NotSound at bytes store = store
store_after outcome.Full at bytes store = store
store_after outcome.BadCheck at bytes store = store

-- the number of the row in which the packet that is open ends, where one is
abbrev pub ends_at : ℕ → ℕ → ℕ
ends_at place f = when ltb 0 f then place else no_row

pub ends-in-at : (fate : Row) (f : ℕ) → row_number (ends_in fate f) ≡ ends_at (place_of fate) f
unfolding ends_in
ends-in-at fate f =
    if-cases (λ (ends : Option Row). row_number ends ≡ ends_at (place_of fate) f) (ltb 0 f) (Some fate) None
    (λ e. sym (if-true _ _ _ e)) (λ n. sym (if-false _ _ _ n))

-- the settings that an answer leaves
pub record Enabling (answer : ℕ) (before after : List ℕ) : Type 0 where
  pub the_rest : KeepsTheRest before after
  pub stay-sound : settings_layout.sound after ≡ true
  pub change : (answer ≡ 11 → ⊥) → after ≡ before

-- an answer is that of a wrong code
abbrev pub tells_bad_check : ℕ → Bool
tells_bad_check answer = eqb answer (number_of outcome.BadCheck)

-- all that is known of what a transaction came to, where `f` fragments and `b` bytes were open, and its code was wrong or not
pub record Comes (maximum f b : ℕ) (closes : Outcome → ℕ) (wrong : Bool) (bytes store settings : List ℕ) (d : After Judged) : Type 0 where
  pub is-counted : is_counted (number_of d.result.outcome) ≡ true
  pub wrong-code : tells_bad_check (number_of d.result.outcome) ≡ wrong
  pub ends-are : row_number d.result.ends ≡ ends_at (closes d.result.outcome) f
  pub bytes-are : d.result.bytes ≡ counted_bytes d.result.outcome (length bytes)
  pub few : d.result.bytes ≤ maximum
  pub some : number_of d.result.outcome ≡ 0 → 1 ≤ d.result.bytes
  pub store-room : max_packet ≤ length store
  pub store_is : d.store ≡ store_after d.result.outcome (left_open (row_number d.result.ends) b) bytes store
  pub settings_are : Enabling (number_of d.result.outcome) settings d.settings

counts : (n : ℕ) → leb 12 n ≡ false → is_counted n ≡ true
unfolding is_counted
counts n h = rw (if-false (leb 12 n) (leb n 14) false h)

-- the refusals that are counted are answered 8 to 10
pub counted-refusals : (r : Refusal) → is_counted (refusal_number r) ≡ true → (8 ≤ refusal_number r) × (refusal_number r ≤ 10)
unfolding is_counted when◌then◌else◌
counted-refusals refusal.TooShort c = absurd (true≢false (sym c))
counted-refusals refusal.NotSound c = absurd (true≢false (sym c))
counted-refusals refusal.BadForm c = (omega arith, omega arith)
counted-refusals refusal.BadControl c = (omega arith, omega arith)
counted-refusals refusal.NoMac c = (omega arith, omega arith)

-- a Receive Enable of sound settings is counted
enabled-counted : (settings bytes : List ℕ) → settings_layout.sound settings ≡ true → is_counted (settings-enable.number_of (receive_enabled settings bytes).answer) ≡ true
unfolding receive_enabled short_form_answered long_form_answered
enabled-counted settings bytes s =
    if-cases P _ _ _
    (λ room. absurd (true≢false (sym s ∙ short-is-not-sound settings (ltb-true _ _ room))))
    (λ _. if-cases P _ _ _
    (λ _. if-cases P _ _ _
    (λ _. if-cases P _ _ _ (λ _. if-cases P _ _ _ (λ _. counts 11 refl) (λ _. counts 10 refl)) (λ _. counts 9 refl))
    (λ _. if-cases P _ _ _ (λ _. if-cases P _ _ _ (λ _. counts 11 refl) (λ _. counts 9 refl)) (λ _. counts 8 refl)))
    (λ n. absurd (true≢false (sym s ∙ n))))
  where
    P : Answered Answer → Type 0
    P x = is_counted (settings-enable.number_of x.answer) ≡ true

-- a Receive Enable keeps sound settings sound
enabling : (settings bytes : List ℕ) → settings_layout.sound settings ≡ true
    → (let left : Answered Answer = receive_enabled settings bytes in Enabling (settings-enable.number_of left.answer) settings left.settings)
enabling settings bytes s =
    record { the_rest = (every-enable settings bytes).the_rest; stay-sound = by_number (cases_eq number 11); change = (every-enable settings bytes).refused }
  where
    number : ℕ
    number = settings-enable.number_of (receive_enabled settings bytes).answer

    by_number : (number ≡ 11) ⊎ (number ≡ 11 → ⊥) → settings_layout.sound (receive_enabled settings bytes).settings ≡ true
    by_number (inl e) = (every-enable settings bytes).taken e
    by_number (inr n) = rw ((every-enable settings bytes).refused n) s

module _ (maximum f b : ℕ) (none : f ≤ 0 → b ≡ 0) (bytes store settings : List ℕ) (room : max_packet ≤ length store) (s : settings_layout.sound settings ≡ true) where
  same-settings : (answer : ℕ) → Enabling answer settings settings
  same-settings answer = record { the_rest = (refl, refl); stay-sound = s; change = λ _. refl }

  ends-in-none : no_row ≡ ends_at no_row f
  ends-in-none = if-cases (λ (r : ℕ). no_row ≡ r) (ltb 0 f) no_row no_row (λ _. refl) (λ _. refl)

  left-of-none : b ≡ left_open no_row b
  unfolding left_open
  left-of-none = sym (if-false _ _ _ refl)

  -- nothing is left of a packet that a First supersedes
  left-of-superseded : 0 ≡ left_open (row_number (ends_in row.Superseded f)) b
  unfolding ends_in left_open
  left-of-superseded =
      if-cases (λ (r : Option Row). 0 ≡ (when ltb (row_number r) row_count then 0 else b)) (ltb 0 f) (Some row.Superseded) None
      (λ _. sym (if-true _ _ _ refl)) (λ n. sym (none (ltb-false _ _ n)) ∙ sym (if-false _ _ _ refl))

  -- what leaves the store as it was and counts no bytes
  unwritten-comes : (closes : Outcome → ℕ) (wrong : Bool) (o : Outcome) (ends : Option Row) (left : List ℕ) → is_counted (number_of o) ≡ true → tells_bad_check (number_of o) ≡ wrong → 1 ≤ number_of o
      → counted_bytes o (length bytes) ≡ 0 → store_after o (left_open (row_number ends) b) bytes store ≡ store → row_number ends ≡ ends_at (closes o) f → Enabling (number_of o) settings left
      → Comes maximum f b closes wrong bytes store settings (after (judged o ends 0) store left)
  unwritten-comes closes wrong o ends left c tells some size e ends_as enables = record {
    is-counted = c;
    wrong-code = tells;
    ends-are = ends_as;
    bytes-are = sym size;
    few = omega arith;
    some = λ z. absurd (omega arith);
    store-room = room;
    store_is = sym e;
    settings_are = enables;
  }

  module _ (first : Bool) where
    -- what is shown of a fragment
    abbrev Goes : Stored Judged → Type 0
    Goes d = Comes maximum f b (fragment_closes first) false bytes store settings (in_store d settings)

    bad-length-comes : Goes (stored (bad_length f) store)
    unfolding bad_length when◌then◌else◌
    bad-length-comes =
        unwritten-comes (fragment_closes first) false (outcome.Discarded cause.BadLength) _ settings (counts _ refl) refl (omega arith) refl refl (ends-in-at row.Broken f) (same-settings 3)

    module _ (least : 1 ≤ length bytes) (most : length bytes ≤ maximum) (at : ℕ) (ends : Option Row)
        (ends_as : row_number ends ≡ ends_at (when first then superseded else no_row) f) (at-is : at ≡ left_open (row_number ends) b) where
      -- the outcomes of a fragment of an allowed length
      takes : (o : Outcome) (after : List ℕ) → is_counted (number_of o) ≡ true → tells_bad_check (number_of o) ≡ false → eqb (number_of o) 3 ≡ false → counted_bytes o (length bytes) ≡ length bytes
          → after ≡ store_after o at bytes store → Goes (stored (judged o ends (length bytes)) after)
      takes o after c right n size e = record {
        is-counted = c;
        wrong-code = right;
        ends-are = ends_as ∙ ap (λ (place : ℕ). ends_at place f) (sym (if-false _ _ _ n));
        bytes-are = sym size;
        few = most;
        some = λ _. least;
        store-room = room;
        store_is = e ∙ ap (λ (place : ℕ). store_after o place bytes store) at-is;
        settings_are = same-settings (number_of o);
      }

      -- what is shown of a fragment that joins its packet
      abbrev Joins : Stored Outcome → Type 0
      Joins d = Goes (stored (judged d.result ends (length bytes)) d.store)

      joined-comes : (last link_up : Bool) → Joins (joined at bytes last link_up store)
      unfolding last_of completed_of filled_if
      joined-comes last link_up =
          subst Joins (sym (joined-by-last at bytes last link_up store))
          (if-cases Joins last _ _
          (λ _. if-cases P _ _ _ (λ _. takes (outcome.Discarded cause.Over) _ (counts _ refl) refl refl refl refl)
          (λ _. if-cases P _ _ _ (λ _. takes (outcome.Discarded cause.Short) _ (counts _ refl) refl refl refl refl)
          (λ _. if-cases P link_up _ _ (λ _. takes (outcome.Sent _) _ (counts _ refl) refl refl refl refl)
          (λ _. takes (outcome.Discarded cause.LinkDown) _ (counts _ refl) refl refl refl refl))))
          (λ _. takes outcome.Joined _ (counts _ refl) refl refl refl refl))
        where
          P : Outcome → Type 0
          P o = Goes (stored (judged o ends (length bytes)) (filled_if o (at + length bytes) (written store at bytes)))

    fragment-comes : (last link_up : Bool) → Goes (fragment maximum f b bytes first last link_up store)
    unfolding fragment sequence_of by_sequence
    fragment-comes last link_up =
        if-cases Goes _ _ _ (λ _. bad-length-comes)
        (λ some. if-cases Goes _ _ _ (λ _. bad-length-comes)
        (λ few.
        let least : 1 ≤ length bytes = ltb-false _ _ some in
        let most : length bytes ≤ maximum = ltb-false _ _ few in
        if-cases P first _ _
        (λ e. joined-comes least most 0 (ends_in row.Superseded f) (ends-in-at row.Superseded f ∙ ap (λ (place : ℕ). ends_at place f) (sym (if-true _ _ _ e))) left-of-superseded last link_up)
        (λ n.
        let ends_as : no_row ≡ ends_at (when first then superseded else no_row) f = ends-in-none ∙ ap (λ (place : ℕ). ends_at place f) (sym (if-false _ _ _ n)) in
        if-cases P _ _ _
        (λ _. joined-comes least most b None ends_as left-of-none last link_up)
        (λ _. takes least most b None ends_as left-of-none (outcome.Discarded cause.Aborted) store (counts _ refl) refl refl refl refl))))
      where
        P : Option joins.Joins → Type 0
        P q = Goes (by_sequence q bytes last link_up store)

  unknown-comes : (command : ℕ) → Comes maximum f b (closes_in class.Unknown command) false bytes store settings (after (unknown f command) store settings)
  unfolding unknown closes_in when◌then◌else◌
  unknown-comes command = by_flags (has_both_flags command)
    where
      by_flags : (t : Bool) → Comes maximum f b (λ (o : Outcome). when t then flushed else no_row) false bytes store settings
          (after (when t then judged outcome.Unknown (ends_in row.Flushed f) 0 else judged outcome.Unknown None 0) store settings)
      by_flags true = unwritten-comes _ false outcome.Unknown _ settings (counts 7 refl) refl (omega arith) refl refl (ends-in-at row.Flushed f) (same-settings 7)
      by_flags false = unwritten-comes _ false outcome.Unknown _ settings (counts 7 refl) refl (omega arith) refl refl ends-in-none (same-settings 7)

  enabled-comes : (e : Answer) (left : List ℕ) → is_counted (settings-enable.number_of e) ≡ true → Enabling (settings-enable.number_of e) settings left
      → Comes maximum f b (λ (o : Outcome). flushed) false bytes store settings (after (enabled_as e (ends_in row.Flushed f)) store left)
  enabled-comes (Ok taken) left c e = unwritten-comes _ false outcome.Taken _ left c refl (omega arith) refl refl (ends-in-at row.Flushed f) e
  enabled-comes (Err r) left c e = unwritten-comes _ false (outcome.Refused r) _ left c (ne_eqb _ _ (λ q. omega (arith, counted-refusals r c, q))) (omega (arith, counted-refusals r c)) refl refl (ends-in-at row.Flushed f) e

  by-class-comes : (c : Class) (a : Attributes) → Comes maximum f b (closes_in c a.command) false bytes store settings (by_class c maximum f b (transaction a bytes) store settings)
  unfolding by_class closes_in enable
  by-class-comes (class.Fragment first last) a = fragment-comes first last a.link_up
  by-class-comes class.Enable a = enabled-comes (receive_enabled settings bytes).answer _ (enabled-counted settings bytes s) (enabling settings bytes s)
  by-class-comes class.Unknown a = unknown-comes a.command

  bad-check-comes : (command : ℕ) → Comes maximum f b (closes command) true bytes store settings (after (bad_check f) store settings)
  unfolding bad_check is_counted when◌then◌else◌
  bad-check-comes command = unwritten-comes (closes command) true outcome.BadCheck _ settings refl refl (omega arith) refl refl (ends-in-at row.Broken f) (same-settings 17)

  -- what a transaction with the right code closes is told by its class
  right-comes : (c : Outcome → ℕ) (d : After Judged) → Comes maximum f b c false bytes store settings d
      → Comes maximum f b (λ (o : Outcome). when tells_bad_check (number_of o) then broken else c o) false bytes store settings d
  right-comes c d w = record {
    is-counted = w.is-counted;
    wrong-code = w.wrong-code;
    ends-are = w.ends-are ∙ ap (λ (place : ℕ). ends_at place f) (sym (if-false _ _ _ w.wrong-code));
    bytes-are = w.bytes-are;
    few = w.few;
    some = w.some;
    store-room = w.store-room;
    store_is = w.store_is;
    settings_are = w.settings_are;
  }

  pub judge-comes : (check : ℕ) (a : Attributes)
      → Comes maximum f b (closes a.command) (not (passes_check check (transaction a bytes))) bytes store settings (judge (setup_of maximum check) f b (transaction a bytes) store settings)
  unfolding judge when◌then◌else◌
  judge-comes check a = by-test (passes_check check (transaction a bytes))
    where
      by-test : (t : Bool) → Comes maximum f b (closes a.command) (not t) bytes store settings
          (when t then by_class (class_in commands a.command) maximum f b (transaction a bytes) store settings else after (bad_check f) store settings)
      by-test true = right-comes (closes_in (class_in commands a.command) a.command) _ (by-class-comes (class_in commands a.command) a)
      by-test false = bad-check-comes a.command
