-- The settings that the rules keep are those that looking back finds.
-- Assumes nothing.
use Prim.Native.Nat.{ℕ, ◌≤◌}
use mathlib.Core.Bool.{Bool, true, false, not, true≢false}
use mathlib.Core.List.{List, [], ◌∷◌, ◌++◌, append_assoc}
use mathlib.Core.Path.{◌≡◌, refl, sym, ap, ◌∙◌}
use native.Mathlib.Omega.{arith}
use lib.Dec.{eqb, ltb}
use lib.ListN.{length, get_or, take, drop, length-append}
use lib.Seq.{take_at, drop_at}
use borrow.Author.Tests.{eqb-true, ne_eqb, le-ltb}
use Rattle.prelude.specs.Bits.{bits, is_set}
use Rattle.prelude.specs.Choice.{when◌then◌else◌, ◌and◌, ◌or◌}
use Rattle.prelude.proofs.Lists.{length_part, drop_past}
use Rattle.prelude.proofs.Tests.{if-false, if-cases, if-first, if-not-first}
use Rattle.record.specs.Transaction.{Transaction}
use Rattle.std.specs.Prelude.{Ok, Err}
use Rattle.settings.specs.declared.enable.Refusal.TheVariants as refusal
use Rattle.settings.specs.Layout as layout
use Rattle.settings.specs.Enable as enable
use Rattle.history.specs.Reading.{Entry, counted, Setup, is_code_bad, is_receive_enable}
use Rattle.history.specs.Settings.{is_short_form, is_long_form, control_of, has_cbdm, is_control_allowed, sets_mac, sets_address, is_kept, newest, settings_of, enable_answer, is_form, taken_forms, is_mac_kept, has_mac_form, MacIsKept}

-- what the forms leave, by name
abbrev as_settings : List (List ℕ) → layout.Settings
as_settings forms =
    record {
      control = control_of (newest (λ form. true) forms);
      mac_kept = is_kept sets_mac forms;
      address_kept = is_kept sets_address forms;
      mac = take 6 (drop 1 (newest sets_mac forms));
      ipv4 = take 4 (drop 7 (newest sets_address forms));
      unread = take 3 (drop 11 (newest is_long_form forms));
    }

-- the newest form that sets more than the control byte is a long one
newest-long : (sets : List ℕ → Bool) → ((form : List ℕ) → sets form ≡ true → is_long_form form ≡ true) → (forms : List (List ℕ)) → length (newest sets forms) ≡ 14
newest-long sets long [] = refl
newest-long sets long (form ∷ forms) =
    if-cases (λ (f : List ℕ). length f ≡ 14) _ _ _ (λ e. eqb-true (length form) 14 (long form e)) (λ _. newest-long sets long forms)

sets-mac-long : (form : List ℕ) → sets_mac form ≡ true → is_long_form form ≡ true
unfolding sets_mac
sets-mac-long form e = if-first _ _ e

sets-address-long : (form : List ℕ) → sets_address form ≡ true → is_long_form form ≡ true
unfolding sets_address
sets-address-long form e = if-first _ _ e

-- the byte of the kept bits
mac-of : (mac address : Bool) → is_set 0 (layout.kept_bits mac address) ≡ mac
unfolding when◌then◌else◌
mac-of true true = refl
mac-of true false = refl
mac-of false true = refl
mac-of false false = refl

address-of : (mac address : Bool) → is_set 1 (layout.kept_bits mac address) ≡ address
unfolding when◌then◌else◌
address-of true true = refl
address-of true false = refl
address-of false true = refl
address-of false false = refl

module _ (forms : List (List ℕ)) where
  mac-size : length (take 6 (drop 1 (newest sets_mac forms))) ≡ 6
  mac-size = length_part 1 6 (newest sets_mac forms) (omega (arith, newest-long sets_mac sets-mac-long forms))

  address-size : length (take 4 (drop 7 (newest sets_address forms))) ≡ 4
  address-size = length_part 7 4 (newest sets_address forms) (omega (arith, newest-long sets_address sets-address-long forms))

  unread-size : length (take 3 (drop 11 (newest is_long_form forms))) ≡ 3
  unread-size = length_part 11 3 (newest is_long_form forms) (omega (arith, newest-long is_long_form (λ form e. e) forms))

  pub settings-size : length (settings_of forms) ≡ 15
  settings-size = simp length-append (omega (arith, mac-size, address-size, unread-size))

  pub written : (bytes : List ℕ) → layout.with_settings (as_settings forms) bytes ≡ settings_of forms ++ drop 15 bytes
  unfolding layout.with_settings
  written bytes = simp append_assoc

  -- settings that are these, and whatever lies past them
  module _ (bytes rest : List ℕ) (e : bytes ≡ settings_of forms ++ rest) where
    pub rest-is : drop 15 bytes ≡ rest
    rest-is = ap (drop 15) e ∙ drop_at (settings_of forms) rest 15 settings-size

    settings-in : layout.settings_in (layout.with_settings (as_settings forms) bytes) ≡ as_settings forms
    unfolding layout.settings_in layout.with_settings
    settings-in =
        let mac : List ℕ = take 6 (drop 1 (newest sets_mac forms)) in
        let ipv4 : List ℕ = take 4 (drop 7 (newest sets_address forms)) in
        let unread : List ℕ = take 3 (drop 11 (newest is_long_form forms)) in
        rw (
          mac-of (is_kept sets_mac forms) (is_kept sets_address forms),
          address-of (is_kept sets_mac forms) (is_kept sets_address forms),
          take_at mac (ipv4 ++ (unread ++ drop 15 bytes)) 6 mac-size,
          drop_past 6 0 mac (ipv4 ++ (unread ++ drop 15 bytes)) mac-size,
          take_at ipv4 (unread ++ drop 15 bytes) 4 address-size,
          drop_past 6 4 mac (ipv4 ++ (unread ++ drop 15 bytes)) mac-size,
          drop_past 4 0 ipv4 (unread ++ drop 15 bytes) address-size,
          take_at unread (drop 15 bytes) 3 unread-size,
        )

    same_bytes : bytes ≡ layout.with_settings (as_settings forms) bytes
    same_bytes = e ∙ sym (written bytes ∙ ap (λ (r : List ℕ). settings_of forms ++ r) rest-is)

    pub settings_are : layout.settings_in bytes ≡ as_settings forms
    settings_are = ap layout.settings_in same_bytes ∙ settings-in

    pub mac-bit : is_set 0 (get_or bytes layout.kept_at 0) ≡ is_kept sets_mac forms
    mac-bit = ap (λ (b : List ℕ). is_set 0 (get_or b 1 0)) e ∙ mac-of (is_kept sets_mac forms) (is_kept sets_address forms)

  -- one form more
  short-read : (form : List ℕ) → is_long_form form ≡ false → enable.short_form (as_settings forms) (control_of form) ≡ as_settings (form ∷ forms)
  unfolding when◌then◌else◌ sets_mac sets_address
  short-read form e = rw e

  long-read : (form : List ℕ) → is_long_form form ≡ true → enable.long_form (as_settings forms) form ≡ as_settings (form ∷ forms)
  unfolding when◌then◌else◌ sets_mac sets_address
  long-read form e = rw e (by_tests (has_cbdm form) (is_set 3 (control_of form)))
    where
      Left : Bool → Bool → layout.Settings
      Left cbdm arp = record {
        control = control_of form;
        mac_kept = cbdm or is_kept sets_mac forms;
        address_kept = arp or is_kept sets_address forms;
        mac = when cbdm then take 6 (drop 1 form) else take 6 (drop 1 (newest sets_mac forms));
        ipv4 = when arp then take 4 (drop 7 form) else take 4 (drop 7 (newest sets_address forms));
        unread = take 3 (drop 11 form);
      }

      Right : Bool → Bool → layout.Settings
      Right cbdm arp = record {
        control = control_of form;
        mac_kept = when cbdm then true else is_kept sets_mac forms;
        address_kept = when arp then true else is_kept sets_address forms;
        mac = take 6 (drop 1 (when cbdm then form else newest sets_mac forms));
        ipv4 = take 4 (drop 7 (when arp then form else newest sets_address forms));
        unread = take 3 (drop 11 form);
      }

      by_tests : (cbdm arp : Bool) → Left cbdm arp ≡ Right cbdm arp
      by_tests true true = refl
      by_tests true false = refl
      by_tests false true = refl
      by_tests false false = refl

control-allowed : (control : ℕ) → layout.allowed control ≡ is_control_allowed control
unfolding layout.allowed is_control_allowed when◌then◌else◌
control-allowed control = by_tests (is_set 6 control) (eqb (bits 4 2 control) 3) (is_set 0 control) (is_set 7 control)
  where
    by_tests : (fixed both receives cbdm : Bool)
        → (when fixed then (when both then false else when receives then true else when cbdm then false else true) else false) ≡ (fixed and not both and (receives or not cbdm))
    by_tests false both receives cbdm = refl
    by_tests true true receives cbdm = refl
    by_tests true false true cbdm = refl
    by_tests true false false true = refl
    by_tests true false false false = refl

-- a form of one byte is not one of fourteen
short-not-long : (form : List ℕ) → is_short_form form ≡ true → is_long_form form ≡ false
short-not-long form e = ne_eqb (length form) 14 (λ q. omega (arith, eqb-true (length form) 1 e))

-- the answers of Receive Enable on sound settings, by their numbers
pub data AnswersAs : enable.Answer → ℕ → Type 0 where
  as-taken : AnswersAs (Ok tt) 11
  as-bad-form : AnswersAs (Err refusal.BadForm) 8
  as-bad-control : AnswersAs (Err refusal.BadControl) 9
  as-no-mac : AnswersAs (Err refusal.NoMac) 10

-- Receive Enable on settings that these forms left
module _ (forms : List (List ℕ)) (settings rest form : List ℕ) (is : settings ≡ settings_of forms ++ rest) (sound : layout.sound settings ≡ true) where
  pub record Reads (left : enable.Answered enable.Answer) (answer : ℕ) : Type 0 where
    pub answers : AnswersAs left.answer answer
    pub leaves : left.settings ≡ settings_of (when eqb answer 11 then form ∷ forms else forms) ++ rest

  unchanged : (e : enable.Answer) (answer : ℕ) → AnswersAs e answer → eqb answer 11 ≡ false → Reads (enable.answered e settings) answer
  unchanged e answer told n = record { answers = told; leaves = rw (if-false (eqb answer 11) (form ∷ forms) forms n) is }

  taken-with : (s : layout.Settings) → s ≡ as_settings (form ∷ forms) → Reads (enable.answered (Ok tt) (layout.with_settings s settings)) 11
  unfolding when◌then◌else◌
  taken-with s e = record {
    answers = as-taken;
    leaves = ap (λ (x : layout.Settings). layout.with_settings x settings) e ∙ (written (form ∷ forms) settings ∙ ap (λ (r : List ℕ). settings_of (form ∷ forms) ++ r) (rest-is forms settings rest is));
  }

  long-enough : ltb (length settings) layout.size ≡ false
  unfolding layout.sound
  long-enough = if-not-first _ _ sound

  pub enable-reads : Reads (enable.receive_enabled settings form) (enable_answer (is_kept sets_mac forms) form)
  unfolding enable.receive_enabled enable.short_form_answered enable.long_form_answered enable_answer layout.has_its_mac when◌then◌else◌
  enable-reads =
      rw (long-enough, sound, control-allowed (control_of form), mac-bit forms settings rest is)
      (by_tests (is_short_form form) (is_long_form form) (is_control_allowed (control_of form)) (has_cbdm form) (is_kept sets_mac forms) refl refl)
    where
      by_tests : (short long allowed cbdm mac : Bool) → is_short_form form ≡ short → is_long_form form ≡ long
          → Reads
          (when short then (when allowed then (when (when cbdm then mac else true) then enable.answered (Ok tt) (layout.with_settings (enable.short_form (layout.settings_in settings) (control_of form)) settings) else enable.answered (Err refusal.NoMac) settings) else enable.answered (Err refusal.BadControl) settings) else
          when long then (when allowed then enable.answered (Ok tt) (layout.with_settings (enable.long_form (layout.settings_in settings) form) settings) else enable.answered (Err refusal.BadControl) settings) else
          enable.answered (Err refusal.BadForm) settings)
          (when not (short or long) then 8 else when not allowed then 9 else when cbdm and short and not mac then 10 else 11)
      by_tests true true allowed cbdm mac s l = absurd (true≢false (sym l ∙ short-not-long form s))
      by_tests true false true true true s l = taken-with _ (ap (λ (x : layout.Settings). enable.short_form x (control_of form)) (settings_are forms settings rest is) ∙ short-read forms form l)
      by_tests true false true true false s l = unchanged _ 10 as-no-mac refl
      by_tests true false true false mac s l = taken-with _ (ap (λ (x : layout.Settings). enable.short_form x (control_of form)) (settings_are forms settings rest is) ∙ short-read forms form l)
      by_tests true false false cbdm mac s l = unchanged _ 9 as-bad-control refl
      by_tests false true true true mac s l = taken-with _ (ap (λ (x : layout.Settings). enable.long_form x form) (settings_are forms settings rest is) ∙ long-read forms form l)
      by_tests false true true false mac s l = taken-with _ (ap (λ (x : layout.Settings). enable.long_form x form) (settings_are forms settings rest is) ∙ long-read forms form l)
      by_tests false true false cbdm mac s l = unchanged _ 9 as-bad-control refl
      by_tests false false allowed cbdm mac s l = unchanged _ 8 as-bad-form refl

-- fresh settings are those that no form left
pub fresh-read : (settings : List ℕ) → 15 ≤ length settings → (enable.freshened settings).settings ≡ settings_of [] ++ drop 15 settings
unfolding enable.freshened layout.with_settings when◌then◌else◌
fresh-read settings room = rw (le-ltb (length settings) 15 room)

-- what has a bad code is no form
bad-code-is-none : (setup : Setup) (t : Transaction) → is_code_bad setup t ≡ true → is_form setup t ≡ false
unfolding is_form
bad-code-is-none setup t bad = if-cases (λ (b : Bool). b ≡ false) _ _ _ (λ _. ap not bad) (λ _. refl)

-- and what has none is one where it is a Receive Enable
pub right-code-forms : (setup : Setup) (t : Transaction) → is_code_bad setup t ≡ false → is_form setup t ≡ is_receive_enable t.command
unfolding is_form when◌then◌else◌
right-code-forms setup t right = rw right (by-test (is_receive_enable t.command))
  where
    by-test : (b : Bool) → (b and true) ≡ b
    by-test true = refl
    by-test false = refl

-- a transaction that is no form changes nothing
module _ (setup : Setup) (t : Transaction) (earlier : List Entry) where
  no-form : is_form setup t ≡ false → taken_forms setup (counted t ∷ earlier) ≡ taken_forms setup earlier
  unfolding when◌then◌else◌
  no-form n = rw n

  pub other-forms : (t.command ≡ 0xCA → ⊥) → taken_forms setup (counted t ∷ earlier) ≡ taken_forms setup earlier
  unfolding is_form
  other-forms n = no-form (if-false _ _ _ (ne_eqb t.command 0xCA n))

  pub bad-code-forms : is_code_bad setup t ≡ true → taken_forms setup (counted t ∷ earlier) ≡ taken_forms setup earlier
  bad-code-forms bad = no-form (bad-code-is-none setup t bad)

kept-in-choice : (sets : List ℕ → Bool) (t : Bool) (form : List ℕ) (forms : List (List ℕ))
    → is_kept sets (when t then form ∷ forms else forms) ≡ (when t then (when sets form then true else is_kept sets forms) else is_kept sets forms)
unfolding when◌then◌else◌
kept-in-choice sets true form forms = refl
kept-in-choice sets false form forms = refl

pub mac-is-kept : MacIsKept
unfolding sets_mac enable_answer when◌then◌else◌
mac-is-kept setup [] = refl
mac-is-kept setup (counted t ∷ earlier) =
    kept-in-choice sets_mac (is_form setup t and eqb (enable_answer (is_mac_kept setup earlier) t.bytes) 11) t.bytes (taken_forms setup earlier)
    ∙ rw (mac-is-kept setup earlier) (by_tests (is_form setup t) (is_short_form t.bytes) (is_long_form t.bytes) (is_control_allowed (control_of t.bytes)) (has_cbdm t.bytes) (has_mac_form setup earlier) (short-not-long t.bytes))
  where
    by_tests : (command short long allowed cbdm mac : Bool) → (short ≡ true → long ≡ false)
        → (when command and eqb (when not (short or long) then 8 else when not allowed then 9 else when cbdm and short and not mac then 10 else 11) 11 then (when long and cbdm then true else mac) else mac)
        ≡ ((command and long and cbdm and allowed) or mac)
    by_tests false short long allowed cbdm mac e = refl
    by_tests true true true allowed cbdm mac e = absurd (true≢false (e refl))
    by_tests true true false true true true e = refl
    by_tests true true false true true false e = refl
    by_tests true true false true false mac e = refl
    by_tests true true false false cbdm mac e = refl
    by_tests true false true true true mac e = refl
    by_tests true false true true false mac e = refl
    by_tests true false true false true mac e = refl
    by_tests true false true false false mac e = refl
    by_tests true false false allowed cbdm mac e = refl
