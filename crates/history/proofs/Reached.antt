-- What holds after any calls from a fresh start, and that each call keeps it.
-- Assumes nothing.
use Prim.Native.Nat.{ℕ, ◌<◌, ◌≤◌, min}
use mathlib.Core.Bool.{Bool, true, false, not}
use mathlib.Core.List.{List, [], ◌∷◌, ◌++◌, append_assoc, append-nil}
use mathlib.Core.Path.{◌≡◌, refl, sym, ap, ◌∙◌, subst}
use native.Mathlib.Omega.{arith}
use Rattle.std.specs.Prelude.{Option, None}
use lib.ListN.{length, take, drop, length-take, length-drop, length-append, take-append-drop, get_or-append}
use lib.Seq.{length_front, take-take, take_at, drop_at}
use borrow.Author.Tests.{le-ltb, lt-ltb, leb-true, leb-false, ne_eqb, eq-eqb}
use Rattle.prelude.specs.After.{After, after}
use Rattle.prelude.specs.Choice.{when◌then◌else◌, ◌and◌}
use Rattle.prelude.proofs.Tests.{if-true, if-false, if-first, if-second}
use Rattle.packet.specs.Store.{max_packet}
use Rattle.record.specs.Transaction.{Transaction}
use Rattle.settings.specs.Layout as layout
use Rattle.settings.specs.Enable as enable
use Rattle.state.specs.declared.State.{State}
use Rattle.state.specs.Account.{limit}
use Rattle.state.specs.Sound.{sound}
use Rattle.state.specs.declared.row.Row.{Row}
use Rattle.outcome.specs.declared.Outcome.{Outcome}
use Rattle.outcome.specs.declared.Outcome.TheVariants as outcome
use Rattle.outcome.specs.Outcome.{reply_to}
use Rattle.translator.specs.declared.Transacted.{Transacted}
use Rattle.translator.specs.Command.{commands, class_in, has_both_flags}
use Rattle.translator.specs.Judge as judge
use Rattle.translator.specs.Transact as transact
use Rattle.translator.proofs.Properties.{every-transaction}
use Rattle.history.specs.Lines.{flushed, broken}
use Rattle.history.specs.Packets.{compared_from}
use Rattle.history.specs.Reading.{Entry, counted, total, Setup, is_fragment, is_code_bad}
use Rattle.history.specs.Settings.{settings_of, enable_answer, taken_forms, is_mac_kept}
use Rattle.history.specs.Runs.{Role, ends, passes, command_answer, command_role, role_of, roles_back, so_far, packets_sent}
use Rattle.history.specs.Replies.{answered, reply_at}
use Rattle.history.specs.Calls.{Call, Kept, transacted_by, reply_of, packets_of, left_by, step, has_room}
use Rattle.history.specs.Calls as calls
use Rattle.history.proofs.Codes.{check-agrees}
use Rattle.history.proofs.Cutting.{of-7, of-8, of-9, of-10, of-11, held_on, so-far-on, done_back}
use Rattle.history.proofs.Counts.{fate_row, Counts, adds-taken, adds-refused}
use Rattle.history.proofs.Holds.{Holds, stored-lent, stored-whole}
use Rattle.history.proofs.Settings.{settings-size, AnswersAs, as-taken, as-bad-form, as-bad-control, as-no-mac, enable-reads, other-forms, bad-code-forms, right-code-forms}
use Rattle.history.proofs.Follows.{fragment_role, Follows, fragment-follows, flush-follows, pass-follows, check-follows}
use Rattle.history.proofs.Roles.{with_command, by-command, unknown-role}

-- the soundness of settings is that of their first bytes
sound-front : (lent rest : List ℕ) → layout.size ≤ length lent → layout.sound (lent ++ rest) ≡ layout.sound lent
unfolding layout.sound
sound-front lent rest h =
    let longer : layout.size ≤ length (lent ++ rest) = rw length-append (omega arith) in
    if-false _ _ _ (le-ltb _ _ longer)
    ∙ rw (get_or-append lent rest 0 layout.control_at (omega arith), get_or-append lent rest 0 layout.kept_at (omega arith))
    (sym (if-false _ _ _ (le-ltb _ _ h)))

-- what the rules make of a transaction, where nothing rejects it and where something does
module _ (s : State) (store settings : List ℕ) (t : Transaction) where
  when-ready : max_packet ≤ length store → layout.size ≤ length settings → sound s ≡ true → layout.sound settings ≡ true → (s.account.beside.total ≡ limit → ⊥)
      → transact.transacted s store settings t ≡ transact.applied s (transact.judged_on s store settings t)
  unfolding transact.transacted transact.readiness_of transact.by_readiness when◌then◌else◌
  when-ready room settings-room h k n = rw (le-ltb _ _ room, le-ltb _ _ settings-room, h, k, ne_eqb s.account.beside.total limit n)

  when-full : max_packet ≤ length store → layout.size ≤ length settings → sound s ≡ true → layout.sound settings ≡ true → s.account.beside.total ≡ limit
      → transact.transacted s store settings t ≡ after (transact.with s outcome.Full) store settings
  unfolding transact.transacted transact.readiness_of transact.by_readiness when◌then◌else◌
  when-full room settings-room h k e = rw (le-ltb _ _ room, le-ltb _ _ settings-room, h, k, eq-eqb s.account.beside.total limit e)

  without-store : length store < max_packet → transact.transacted s store settings t ≡ after (transact.with s outcome.NoRoom) store settings
  unfolding transact.transacted transact.readiness_of transact.by_readiness when◌then◌else◌
  without-store less = rw (lt-ltb _ _ less)

  without-settings : max_packet ≤ length store → length settings < layout.size → transact.transacted s store settings t ≡ after (transact.with s outcome.NoRoom) store settings
  unfolding transact.transacted transact.readiness_of transact.by_readiness when◌then◌else◌
  without-settings room less = rw (le-ltb _ _ room, lt-ltb _ _ less)

-- what the caller keeps is what the entries, newest first, say; the buffers are as long as at the start
pub record Reached (setup : Setup) (store settings : List ℕ) (earlier : List Entry) (kept : Kept) : Type 0 where
  pub counts : Counts kept.state.account (so_far (roles_back setup earlier)) (done_back (roles_back setup earlier)) (total earlier)
  pub maximum-is : kept.state.maximum ≡ setup.maximum
  pub check-is : kept.state.check ≡ (when setup.check then 1 else 0)
  pub state_is_sound : sound kept.state ≡ true
  pub store_length : length kept.store ≡ length store
  pub stored : take (length (compared_from 0 (so_far (roles_back setup earlier)))) kept.store ≡ compared_from 0 (so_far (roles_back setup earlier))
  pub sent_are : kept.sent ≡ packets_sent (done_back (roles_back setup earlier))
  pub settings_are : kept.settings ≡ settings_of (taken_forms setup earlier) ++ drop 15 settings
  pub settings_are_sound : layout.sound kept.settings ≡ true

-- a transaction that is rejected leaves all as it was
unmoved : (kept : Kept) (n m : ℕ) (o : Outcome) → ((store : List ℕ) → packets_of (reply_to o) store ≡ [])
    → left_by kept (drop n kept.store) (drop m kept.settings) (after (transact.with kept.state o) (take n kept.store) (take m kept.settings)) ≡ kept
unmoved kept n m o none = simp (none, append-nil, take-append-drop n kept.store, take-append-drop m kept.settings)

module _ (setup : Setup) (store settings : List ℕ) (start : 15 ≤ length settings) (n m : ℕ) (t : Transaction) (earlier : List Entry) (kept : Kept)
    (r : Reached setup store settings earlier kept) where
  abbrev call : Call
  call = calls.transact n m t

  abbrev lent_store : List ℕ
  lent_store = take n kept.store

  abbrev lent_settings : List ℕ
  lent_settings = take m kept.settings

  abbrev store_rest : List ℕ
  store_rest = drop n kept.store

  abbrev settings_rest : List ℕ
  settings_rest = drop m kept.settings

  settings-length : length kept.settings ≡ length settings
  settings-length =
      ap length r.settings_are ∙ (length-append (settings_of (taken_forms setup earlier)) (drop 15 settings) ∙ omega (arith, settings-size (taken_forms setup earlier), length-drop 15 settings))

  store-lent : length lent_store ≡ min n (length store)
  store-lent = length-take n kept.store ∙ ap (min n) r.store_length

  settings-lent : length lent_settings ≡ min m (length settings)
  settings-lent = length-take m kept.settings ∙ ap (min m) settings-length

  enough-is-sound : layout.size ≤ length lent_settings → layout.sound lent_settings ≡ true
  enough-is-sound enough = sym (sound-front lent_settings settings_rest enough) ∙ (ap layout.sound (take-append-drop m kept.settings) ∙ r.settings_are_sound)

  -- without room, or after the last that can be counted, nothing changes
  pub record Rejects (answer : ℕ) : Type 0 where
    pub nothing_changes : step call kept ≡ kept
    pub replies : reply_of n m t kept ≡ answered answer

  no-room-rejects : transacted_by n m t kept ≡ after (transact.with kept.state outcome.NoRoom) lent_store lent_settings → Rejects 12
  unfolding packets_of when◌then◌else◌
  no-room-rejects e = record {
    nothing_changes = ap (left_by kept store_rest settings_rest) e ∙ unmoved kept n m outcome.NoRoom (λ _. refl);
    replies = ap (λ (left : After Transacted). reply_to left.result.outcome) e;
  }

  pub without-room : has_room (length store) (length settings) n m ≡ false → Rejects 12
  unfolding has_room
  without-room e = by-test (lib.Dec.leb max_packet (min n (length store))) refl e
    where
      by-test : (few : Bool) → lib.Dec.leb max_packet (min n (length store)) ≡ few → (few and lib.Dec.leb layout.size (min m (length settings))) ≡ false → Rejects 12
      by-test false f _ = no-room-rejects (without-store kept.state lent_store lent_settings t (rw store-lent (leb-false _ _ f)))
      by-test true f g =
          no-room-rejects (without-settings kept.state lent_store lent_settings t (rw store-lent (leb-true _ _ f))
          (rw settings-lent (leb-false _ _ (sym (if-true true (lib.Dec.leb layout.size (min m (length settings))) false refl) ∙ g))))

  module _ (room-is : has_room (length store) (length settings) n m ≡ true) where
    store-room : max_packet ≤ length lent_store
    unfolding has_room
    store-room = rw store-lent (leb-true _ _ (if-first _ _ room-is))

    settings-room : layout.size ≤ length lent_settings
    unfolding has_room
    settings-room = rw settings-lent (leb-true _ _ (if-second _ _ room-is))

    lent-is-sound : layout.sound lent_settings ≡ true
    lent-is-sound = enough-is-sound settings-room

    pub full-rejects : total earlier ≡ limit → Rejects 14
    unfolding packets_of when◌then◌else◌
    full-rejects full =
        let e : transacted_by n m t kept ≡ after (transact.with kept.state outcome.Full) lent_store lent_settings
        = when-full kept.state lent_store lent_settings t store-room settings-room r.state_is_sound lent-is-sound (r.counts.total_is ∙ full) in
        record {
          nothing_changes = ap (left_by kept store_rest settings_rest) e ∙ unmoved kept n m outcome.Full (λ _. refl);
          replies = ap (λ (left : After Transacted). reply_to left.result.outcome) e;
        }

    abbrev held : List (List ℕ)
    held = so_far (roles_back setup earlier)

    abbrev forms : List (List ℕ)
    forms = taken_forms setup earlier

    -- the settings that are lent are those of the forms taken, and some of what lies past them
    lent-settings-are : lent_settings ≡ settings_of forms ++ drop 15 lent_settings
    lent-settings-are =
        let enough : 15 ≤ m = omega (arith, settings-room, length-take m kept.settings) in
        sym (take-append-drop 15 lent_settings)
        ∙ ap (λ (front : List ℕ). front ++ drop 15 lent_settings)
        (take-take 15 m kept.settings enough ∙ (ap (take 15) r.settings_are ∙ take_at (settings_of forms) (drop 15 settings) 15 (settings-size forms)))

    rest-joins : drop 15 lent_settings ++ settings_rest ≡ drop 15 settings
    rest-joins =
        let whole : settings_of forms ++ (drop 15 lent_settings ++ settings_rest) ≡ settings_of forms ++ drop 15 settings =
        sym (append_assoc (settings_of forms) (drop 15 lent_settings) settings_rest)
        ∙ (ap (λ (front : List ℕ). front ++ settings_rest) (sym lent-settings-are) ∙ (take-append-drop m kept.settings ∙ r.settings_are)) in
        sym (drop_at (settings_of forms) (drop 15 lent_settings ++ settings_rest) 15 (settings-size forms))
        ∙ (ap (drop 15) whole ∙ drop_at (settings_of forms) (drop 15 settings) 15 (settings-size forms))

    holds : Holds (length lent_store) lent_store held
    holds = stored-lent lent_store store_rest held store-room (rw (take-append-drop n kept.store) r.stored)

    -- what is shown of what a transaction comes to that has this role
    record Served (u : Transaction) (role : Role) (o : Outcome) (ending : Option Row) (size : ℕ) (store-after settings-after : List ℕ) : Type 0 where
      follows : Follows kept.state.account held (done_back (roles_back setup earlier)) (total earlier) r.counts kept.sent r.sent_are (length lent_store) store_rest
          o ending size store-after role
      leaves : settings-after ≡ settings_of (taken_forms setup (counted u ∷ earlier)) ++ drop 15 lent_settings

    -- a command that is no Receive Enable leaves the settings
    settings-stay : (c : ℕ) → (c ≡ 0xCA → ⊥) → lent_settings ≡ settings_of (taken_forms setup (counted (with_command c t) ∷ earlier)) ++ drop 15 lent_settings
    settings-stay c other = rw (other-forms setup (with_command c t) earlier other) lent-settings-are

    abbrev FragmentServed : ℕ → Bool → Bool → Type 0
    FragmentServed c first last =
        let s : judge.JudgedWithStore = judge.fragment kept.state.maximum kept.state.account.beside.open_fragments kept.state.account.beside.open_bytes t.bytes first last t.link_up lent_store in
        Served (with_command c t) (command_role setup (is_mac_kept setup earlier) (with_command c t)) s.result.outcome s.result.ends s.result.bytes s.store lent_settings

    fragment-served : (c : ℕ) (first last : Bool) → (c ≡ 0xCA → ⊥)
        → command_role setup (is_mac_kept setup earlier) (with_command c t) ≡ fragment_role t.bytes last t.link_up setup first → FragmentServed c first last
    fragment-served c first last other is-role = record {
      follows =
          subst (λ (role : Role). FollowsAs kept.state.maximum role) (sym is-role)
          (subst (λ (k : ℕ). FollowsAs k (fragment_role t.bytes last t.link_up setup first)) (sym r.maximum-is)
          (fragment-follows kept.state.account held (done_back (roles_back setup earlier)) (total earlier) r.counts kept.sent r.sent_are (length lent_store) store_rest lent_store holds t.bytes last t.link_up setup first));
      leaves = settings-stay c other;
    }
      where
        FollowsAs : ℕ → Role → Type 0
        FollowsAs k role =
            let s : judge.JudgedWithStore = judge.fragment k kept.state.account.beside.open_fragments kept.state.account.beside.open_bytes t.bytes first last t.link_up lent_store in
            Follows kept.state.account held (done_back (roles_back setup earlier)) (total earlier) r.counts kept.sent r.sent_are (length lent_store) store_rest
            s.result.outcome s.result.ends s.result.bytes s.store role

    -- what the rules judge by the command, where the code is not bad
    abbrev ByCommandServed : ℕ → Type 0
    ByCommandServed c =
        let d = judge.by_class (class_in commands c) kept.state.maximum kept.state.account.beside.open_fragments kept.state.account.beside.open_bytes (with_command c t) lent_store lent_settings in
        is_code_bad setup (with_command c t) ≡ false
        → Served (with_command c t) (command_role setup (is_mac_kept setup earlier) (with_command c t)) d.result.outcome d.result.ends d.result.bytes d.store d.settings

    enable-served : ByCommandServed 0xCA
    unfolding class_in judge.by_class judge.enable command_role is_fragment command_answer when◌then◌else◌
    enable-served right =
        let reads = enable-reads forms lent_settings (drop 15 lent_settings) t.bytes lent-settings-are lent-is-sound in
        record {
          follows = by_answer (enable.receive_enabled lent_settings t.bytes).answer (enable_answer (is_mac_kept setup earlier) t.bytes) reads.answers;
          leaves = rw (right-code-forms setup (with_command 0xCA t) right) reads.leaves;
        }
      where
        by_answer : (e : enable.Answer) (answer : ℕ) → AnswersAs e answer
            → (let j = judge.enabled_as e (judge.ends_in (fate_row flushed) kept.state.account.beside.open_fragments) in
            Follows kept.state.account held (done_back (roles_back setup earlier)) (total earlier) r.counts kept.sent r.sent_are (length lent_store) store_rest
            j.outcome j.ends j.bytes lent_store (ends flushed answer))
        by_answer _ _ as-taken =
            flush-follows kept.state.account held (done_back (roles_back setup earlier)) (total earlier) r.counts kept.sent r.sent_are (length lent_store) store_rest lent_store holds
            outcome.Taken 11 1 0 of-11 refl (λ f b. refl) adds-taken
        by_answer _ _ as-bad-form =
            flush-follows kept.state.account held (done_back (roles_back setup earlier)) (total earlier) r.counts kept.sent r.sent_are (length lent_store) store_rest lent_store holds
            (outcome.Refused _) 8 0 1 of-8 refl (λ f b. refl) adds-refused
        by_answer _ _ as-bad-control =
            flush-follows kept.state.account held (done_back (roles_back setup earlier)) (total earlier) r.counts kept.sent r.sent_are (length lent_store) store_rest lent_store holds
            (outcome.Refused _) 9 0 1 of-9 refl (λ f b. refl) adds-refused
        by_answer _ _ as-no-mac =
            flush-follows kept.state.account held (done_back (roles_back setup earlier)) (total earlier) r.counts kept.sent r.sent_are (length lent_store) store_rest lent_store holds
            (outcome.Refused _) 10 0 1 of-10 refl (λ f b. refl) adds-refused

    unknown-served : (c : ℕ) → (c ≡ 0x84 → ⊥) → (c ≡ 0x04 → ⊥) → (c ≡ 0x44 → ⊥) → (c ≡ 0xC4 → ⊥) → (c ≡ 0xCA → ⊥) → ByCommandServed c
    unfolding class_in judge.by_class judge.unknown when◌then◌else◌
    unknown-served c n₁ n₂ n₃ n₄ n₅ _ =
        rw (ne_eqb c 0x84 n₁, ne_eqb c 0x04 n₂, ne_eqb c 0x44 n₃, ne_eqb c 0xC4 n₄, ne_eqb c 0xCA n₅)
        (record { follows = rw (unknown-role setup (is_mac_kept setup earlier) c t n₁ n₂ n₃ n₄ n₅) (by_flags (has_both_flags c)); leaves = settings-stay c n₅ })
      where
        by_flags : (both : Bool)
            → (let j = when both then judge.judged outcome.Unknown (judge.ends_in (fate_row flushed) kept.state.account.beside.open_fragments) 0 else judge.judged outcome.Unknown None 0 in
            Follows kept.state.account held (done_back (roles_back setup earlier)) (total earlier) r.counts kept.sent r.sent_are (length lent_store) store_rest
            j.outcome j.ends j.bytes lent_store (when both then ends flushed 7 else passes 7))
        by_flags true =
            flush-follows kept.state.account held (done_back (roles_back setup earlier)) (total earlier) r.counts kept.sent r.sent_are (length lent_store) store_rest lent_store holds
            outcome.Unknown 7 0 1 of-7 refl (λ f b. refl) adds-refused
        by_flags false =
            pass-follows kept.state.account held (done_back (roles_back setup earlier)) (total earlier) r.counts kept.sent r.sent_are (length lent_store) store_rest lent_store holds
            outcome.Unknown 7 0 1 of-7 refl (λ f b. refl) adds-refused

    by-command-served : ByCommandServed t.command
    unfolding class_in judge.by_class command_role is_fragment when◌then◌else◌
    by-command-served =
        by-command ByCommandServed
        (λ _. fragment-served 0x84 true false (λ q. omega (arith, q)) refl)
        (λ _. fragment-served 0x04 false false (λ q. omega (arith, q)) refl)
        (λ _. fragment-served 0x44 false true (λ q. omega (arith, q)) refl)
        (λ _. fragment-served 0xC4 true true (λ q. omega (arith, q)) refl)
        enable-served
        unknown-served
        t.command

    -- what the rules judge
    served :
        (let d = transact.judged_on kept.state lent_store lent_settings t in
        Served t (role_of setup (is_mac_kept setup earlier) t) d.result.outcome d.result.ends d.result.bytes d.store d.settings)
    unfolding judge.judge role_of when◌then◌else◌
    served = rw (check-agrees setup kept.state.check t r.check-is) (by-code (is_code_bad setup t) refl)
      where
        by-code : (bad : Bool) → is_code_bad setup t ≡ bad
            → (let d =
            when not bad then judge.by_class (class_in commands t.command) kept.state.maximum kept.state.account.beside.open_fragments kept.state.account.beside.open_bytes t lent_store lent_settings else
            after (judge.bad_check kept.state.account.beside.open_fragments) lent_store lent_settings in
            let role : Role = when bad then ends broken 17 else command_role setup (is_mac_kept setup earlier) t in
            Served t role d.result.outcome d.result.ends d.result.bytes d.store d.settings)
        by-code true bad = record {
          follows = check-follows kept.state.account held (done_back (roles_back setup earlier)) (total earlier) r.counts kept.sent r.sent_are (length lent_store) store_rest lent_store holds;
          leaves = rw (bad-code-forms setup t earlier bad) lent-settings-are;
        }
        by-code false right = by-command-served right

    module _ (not_full : total earlier ≡ limit → ⊥) where
      abbrev role : Role
      role = role_of setup (is_mac_kept setup earlier) t

      applied-is : transacted_by n m t kept ≡ transact.applied kept.state (transact.judged_on kept.state lent_store lent_settings t)
      applied-is =
          when-ready kept.state lent_store lent_settings t store-room settings-room r.state_is_sound lent-is-sound (λ full. not_full (sym r.counts.total_is ∙ full))

      pub replies-when-counted : reply_of n m t kept ≡ reply_at setup earlier t
      replies-when-counted = ap (λ (left : After Transacted). reply_to left.result.outcome) applied-is ∙ served.follows.reply_is

      settings-after : (step call kept).settings ≡ settings_of (taken_forms setup (counted t ∷ earlier)) ++ drop 15 settings
      settings-after =
          ap (λ (left : After Transacted). left.settings ++ settings_rest) applied-is
          ∙ (ap (λ (front : List ℕ). front ++ settings_rest) served.leaves
          ∙ (append_assoc (settings_of (taken_forms setup (counted t ∷ earlier))) (drop 15 lent_settings) settings_rest
          ∙ ap (λ (rest : List ℕ). settings_of (taken_forms setup (counted t ∷ earlier)) ++ rest) rest-joins))

      -- soundness is kept by the rules
      state-after : sound (step call kept).state ≡ true
      state-after = (every-transaction kept.state lent_store lent_settings t r.counts.formed).state_stays_sound r.state_is_sound

      sound-after : layout.sound (step call kept).settings ≡ true
      sound-after =
          let left : After Transacted = transacted_by n m t kept in
          let size : layout.size ≤ length left.settings =
          rw (ap (λ (l : After Transacted). length l.settings) applied-is ∙ (ap length served.leaves ∙ length-append (settings_of (taken_forms setup (counted t ∷ earlier))) (drop 15 lent_settings)))
          (omega (arith, settings-size (taken_forms setup (counted t ∷ earlier)))) in
          sound-front left.settings settings_rest size
          ∙ (every-transaction kept.state lent_store lent_settings t r.counts.formed).settings_stay_sound lent-is-sound

      pub reaches-when-counted : Reached setup store settings (counted t ∷ earlier) (step call kept)
      reaches-when-counted =
          let d = transact.judged_on kept.state lent_store lent_settings t in
          let left : After Transacted = transact.applied kept.state d in
          let same : step call kept ≡ left_by kept store_rest settings_rest left = ap (left_by kept store_rest settings_rest) applied-is in
          let held-are : so_far (roles_back setup (counted t ∷ earlier)) ≡ held_on role held = so-far-on role (roles_back setup earlier) in
          record {
            counts =
                subst (λ (k : Kept). Counts k.state.account (so_far (roles_back setup (counted t ∷ earlier))) (done_back (roles_back setup (counted t ∷ earlier))) (total (counted t ∷ earlier))) (sym same)
                (subst (λ (h : List (List ℕ)). Counts left.result.state.account h (done_back (roles_back setup (counted t ∷ earlier))) (total (counted t ∷ earlier))) (sym held-are) served.follows.counts-are);
            maximum-is = ap (λ (k : Kept). k.state.maximum) same ∙ r.maximum-is;
            check-is = ap (λ (k : Kept). k.state.check) same ∙ r.check-is;
            state_is_sound = state-after;
            store_length = ap (λ (k : Kept). length k.store) same ∙ (length_front kept.store d.store n served.follows.holds.size_is ∙ r.store_length);
            stored =
                subst (λ (k : Kept). take (length (compared_from 0 (so_far (roles_back setup (counted t ∷ earlier))))) k.store ≡ compared_from 0 (so_far (roles_back setup (counted t ∷ earlier)))) (sym same)
                (subst (λ (h : List (List ℕ)). take (length (compared_from 0 h)) (d.store ++ store_rest) ≡ compared_from 0 h) (sym held-are) (stored-whole d.store store_rest (held_on role held) served.follows.holds));
            sent_are = ap (λ (k : Kept). k.sent) same ∙ served.follows.sent_are;
            settings_are = settings-after;
            settings_are_sound = sound-after;
          }
