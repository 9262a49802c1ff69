-- What the operations on the settings keep.
-- Assumes nothing.
use Prim.Native.Nat.{ℕ, ◌≤◌}
use mathlib.Core.Bool.{Bool, true, false}
use mathlib.Core.List.{List}
use mathlib.Core.Path.{◌≡◌, refl, ap, ◌∙◌}
use native.Mathlib.Omega.{arith}
use native.Mathlib.Nat.{not-le_of_lt}
use lib.Dec.{eqb, ltb}
use lib.Seq.{drop-set-lt}
use lib.ListN.{set, length, get_or, drop, length-append, length-drop}
use borrow.Author.Tests.{le-ltb, ltb-true, ltb-false, eqb-true, eqb-false}
use Rattle.prelude.specs.Bits.{is_set}
use Rattle.std.specs.Prelude.{Ok, Err}
use Rattle.prelude.specs.Choice.{when◌then◌else◌, ◌or◌}
use Rattle.prelude.proofs.Lists.{length_part, drop_past}
use Rattle.prelude.proofs.Tests.{if-true, if-false, if-cases}
use Rattle.settings.specs.declared.enable.Refusal.TheVariants.{TooShort, NotSound, BadForm, BadControl, NoMac}
use Rattle.settings.specs.Layout.{Settings, size, allowed, has_its_mac, sound, settings_in, with_settings, fresh_settings, kept_bits, has_dedicated_mac}
use Rattle.settings.specs.Enable.{Answer, number_of, fresh_number, freshened_in_numbers, answered, short_form_size, long_form_size, short_form, long_form, short_form_answered, long_form_answered, receive_enabled, freshened}
use Rattle.settings.specs.Properties.{Recodes, KeepsTheRest, Enables, EveryEnable, Freshens, EveryFresh}
use Rattle.settings.proofs.Sound.{Sound, sound-tells}
use Rattle.settings.proofs.Writes.{kept-bits-recoded, settings-recoded, short-form-written, length-chosen}

-- the other way round: what the settings' bytes must be to be sound
pub sound-if : (bytes : List ℕ) → Sound bytes → sound bytes ≡ true
unfolding sound
sound-if bytes s =
    if-false _ _ _ (le-ltb _ _ s.has_room)
    ∙ (if-true _ _ _ s.control-is-allowed ∙ (if-false _ _ _ (le-ltb _ _ s.kept-is-bits) ∙ s.mac-is-kept))

kept-bits-max : (mac address : Bool) → kept_bits mac address ≤ 3
unfolding when◌then◌else◌
kept-bits-max true true = omega arith
kept-bits-max true false = omega arith
kept-bits-max false true = omega arith
kept-bits-max false false = omega arith

mac-bit : (mac address : Bool) → is_set 0 (kept_bits mac address) ≡ mac
unfolding when◌then◌else◌
mac-bit true true = refl
mac-bit true false = refl
mac-bit false true = refl
mac-bit false false = refl

-- a long form that asks for a MAC address gives it
given-mac-is-kept : (control : ℕ) (mac_kept address_kept : Bool) → has_its_mac control (kept_bits (has_dedicated_mac control or mac_kept) address_kept) ≡ true
unfolding has_its_mac
given-mac-is-kept control mac_kept address_kept =
    rw (mac-bit (has_dedicated_mac control or mac_kept) address_kept) (asked (has_dedicated_mac control))
  where
    asked : (d : Bool) → (when d then (d or mac_kept) else true) ≡ true
    asked true = if-true _ _ _ refl ∙ if-true _ _ _ refl
    asked false = if-false _ _ _ refl

-- settings whose addresses have their sizes
pub record Sized (s : Settings) : Type 0 where
  pub mac : length s.mac ≡ 6
  pub ipv4 : length s.ipv4 ≡ 4
  pub unread : length s.unread ≡ 3

module _ (s : Settings) (bytes : List ℕ) (sized : Sized s) (room : size ≤ length bytes) where
  settings-keep-the-rest : KeepsTheRest bytes (with_settings s bytes)
  unfolding with_settings
  settings-keep-the-rest =
      let m : length s.mac ≡ 6 = sized.mac in
      let i : length s.ipv4 ≡ 4 = sized.ipv4 in
      let u : length s.unread ≡ 3 = sized.unread in (
        simp (length-append, length-drop) (omega arith),
        drop_past 6 7 s.mac _ m ∙ (drop_past 4 3 s.ipv4 _ i ∙ drop_past 3 0 s.unread _ u),
      )

  settings-sound : allowed s.control ≡ true → has_its_mac s.control (kept_bits s.mac_kept s.address_kept) ≡ true → sound (with_settings s bytes) ≡ true
  unfolding with_settings
  settings-sound a m = sound-if (with_settings s bytes) (record {
    has_room = omega (arith, settings-keep-the-rest.0);
    control-is-allowed = a;
    kept-is-bits = kept-bits-max s.mac_kept s.address_kept;
    mac-is-kept = m;
  })

module _ (bytes : List ℕ) (room : size ≤ length bytes) where
  settings-in-sized : Sized (settings_in bytes)
  unfolding settings_in
  settings-in-sized = record {
    mac = length_part 2 6 bytes (omega arith);
    ipv4 = length_part 8 4 bytes (omega arith);
    unread = length_part 12 3 bytes (omega arith);
  }

  short-form-sized : (control : ℕ) → Sized (short_form (settings_in bytes) control)
  short-form-sized control = record { mac = settings-in-sized.mac; ipv4 = settings-in-sized.ipv4; unread = settings-in-sized.unread }

  pub long-form-sized : (form : List ℕ) → length form ≡ 14 → Sized (long_form (settings_in bytes) form)
  long-form-sized form long = record {
    mac = length-chosen _ _ _ 6 (length_part 1 6 form (omega arith)) settings-in-sized.mac;
    ipv4 = length-chosen _ _ _ 4 (length_part 7 4 form (omega arith)) settings-in-sized.ipv4;
    unread = length_part 11 3 form (omega arith);
  }

module _ (settings bytes : List ℕ) where
  unchanged : (answer : Answer) → eqb (number_of answer) (number_of (Ok tt)) ≡ false → Enables settings bytes (answered answer settings)
  unchanged answer other = record { the_rest = (refl, refl); refused = λ _. refl; taken = λ t. absurd (eqb-false _ _ other t); short_form = λ _. refl }

  changed : (after : List ℕ) → KeepsTheRest settings after → sound after ≡ true → (length bytes ≡ short_form_size → drop 1 after ≡ drop 1 settings)
      → Enables settings bytes (answered (Ok tt) after)
  changed after rest s short = record { the_rest = rest; refused = λ n. absurd (n refl); taken = λ _. s; short_form = short }

  module _ (s : Sound settings) where
    short-form-enables : (control : ℕ) → Enables settings bytes (short_form_answered settings control)
    unfolding short_form_answered settings_in
    short-form-enables control =
        let after : Settings = short_form (settings_in settings) control in
        let sized : Sized after = short-form-sized settings s.has_room control in
        let one_byte : set settings 0 control ≡ with_settings after settings = short-form-written settings s.has_room s.kept-is-bits control in
        if-cases (Enables settings bytes) _ _ _
        (λ a. if-cases (Enables settings bytes) _ _ _
        (λ m. changed _ (settings-keep-the-rest after settings sized s.has_room)
        (settings-sound after settings sized s.has_room a (rw (kept-bits-recoded (get_or settings 1 0) s.kept-is-bits) m))
        (λ _. rw (← one_byte) (drop-set-lt 1 settings 0 control (omega arith))))
        (λ _. unchanged (Err NoMac) refl))
        (λ _. unchanged (Err BadControl) refl)

    long-form-enables : length bytes ≡ long_form_size → Enables settings bytes (long_form_answered settings bytes)
    unfolding long_form_answered
    long-form-enables long =
        let after : Settings = long_form (settings_in settings) bytes in
        let sized : Sized after = long-form-sized settings s.has_room bytes long in
        if-cases (Enables settings bytes) _ _ _
        (λ a. changed _ (settings-keep-the-rest after settings sized s.has_room)
        (settings-sound after settings sized s.has_room a (given-mac-is-kept (get_or bytes 0 0) (settings_in settings).mac_kept after.address_kept))
        (λ short. absurd (omega arith)))
        (λ _. unchanged (Err BadControl) refl)

pub every-enable : EveryEnable
unfolding receive_enabled
every-enable settings bytes =
    if-cases (Enables settings bytes) _ _ _
    (λ _. unchanged settings bytes (Err TooShort) refl)
    (λ _. if-cases (Enables settings bytes) _ _ _
    (λ s. if-cases (Enables settings bytes) _ _ _
    (λ _. short-form-enables settings bytes (sound-tells settings s) (get_or bytes 0 0))
    (λ _. if-cases (Enables settings bytes) _ _ _
    (λ long. long-form-enables settings bytes (sound-tells settings s) (eqb-true _ _ long))
    (λ _. unchanged settings bytes (Err BadForm) refl)))
    (λ _. unchanged settings bytes (Err NotSound) refl))

pub recodes : Recodes
recodes settings s = settings-recoded settings (sound-tells settings s).has_room (sound-tells settings s).kept-is-bits

fresh-by-answer : (settings : List ℕ) → Freshens (Err TooShort) (Ok tt) settings (freshened settings)
unfolding freshened
fresh-by-answer settings =
    if-cases (Freshens (Err TooShort) (Ok tt) settings) (ltb (length settings) size) _ _
    (λ short. record {
      the_rest = (refl, refl);
      refused = λ _. (refl, refl);
      written = λ room. absurd (not-le_of_lt (ltb-true _ _ short) room);
    })
    (λ room. record {
      the_rest = settings-keep-the-rest fresh_settings settings fresh-sized (ltb-false _ _ room);
      refused = λ short. absurd (not-le_of_lt short (ltb-false _ _ room));
      written = λ _. (refl, settings-sound fresh_settings settings fresh-sized (ltb-false _ _ room) fresh-allowed fresh-has-its-mac);
    })
  where
    fresh-sized : Sized fresh_settings
    fresh-sized = record { mac = refl; ipv4 = refl; unread = refl }

    fresh-allowed : allowed 0x40 ≡ true
    fresh-allowed = unfold allowed when◌then◌else◌ in refl

    fresh-has-its-mac : has_its_mac 0x40 (kept_bits false false) ≡ true
    fresh-has-its-mac = unfold has_its_mac when◌then◌else◌ in refl

fresh-settings-are : (settings : List ℕ) → (freshened_in_numbers (freshened settings)).settings ≡ (freshened settings).settings
fresh-settings-are settings = refl

fresh-by-number : (settings : List ℕ) → Freshens 12 0 settings (freshened_in_numbers (freshened settings))
fresh-by-number settings =
    let f : Freshens (Err TooShort) (Ok tt) settings (freshened settings) = fresh-by-answer settings in
    record {
      the_rest = f.the_rest;
      refused = λ short. (ap fresh_number (f.refused short).0, (f.refused short).1);
      written = λ room. (ap fresh_number (f.written room).0, (f.written room).1);
    }

pub every-fresh : EveryFresh
every-fresh = record { by_answer = fresh-by-answer; by_number = fresh-by-number; settings_are = fresh-settings-are }
