-- What the operations on the settings keep and write, whatever the bytes (manual 5.4, 5.5, 5.6).
use Rattle.std.specs.Prelude.{ℕ, ◌+◌, ◌≤◌, ◌<◌, true, List, Ok, Err, ◌⊎◌, ◌≡◌, length, get_or, drop}
use Rattle.prelude.specs.Bits.{is_set}
use Rattle.prelude.specs.Choice.{when◌then◌else◌, ◌or◌}
use Rattle.settings.specs.declared.enable.Refusal.TheVariants.{TooShort}
use Rattle.settings.specs.Layout.{size, control_at, kept_at, mac_at, ipv4_at, unread_at, mac_size, ipv4_size, unread_size, kept_bits, has_dedicated_mac, responds_to_arp, settings_in, with_settings, sound}
use Rattle.settings.specs.Enable.{number_of, Answer, Answered, freshened, freshened_in_numbers, short_form_size, long_form_size, receive_enabled}

-- sound settings are what they hold written out, so that to set one part is to change its bytes alone (manual 5.3)
abbrev pub Recodes : Type 0
Recodes = (settings : List ℕ) → sound settings ≡ true → with_settings (settings_in settings) settings ≡ settings

-- as many bytes, and those behind the fifteenth as they were (manual 1.5)
abbrev pub KeepsTheRest : List ℕ → List ℕ → Type 0
KeepsTheRest before after = (length after ≡ length before) × (drop size after ≡ drop size before)

-- of Receive Enable: any number but 11 leaves the settings, and 11 sound ones (manual 5.6)
pub record Enables (before bytes : List ℕ) (after : Answered Answer) : Type 0 where
  pub the_rest : KeepsTheRest before after.settings
  pub refused : (number_of after.answer ≡ number_of (Ok tt) → ⊥) → after.settings ≡ before
  pub taken : number_of after.answer ≡ number_of (Ok tt) → sound after.settings ≡ true
  pub short_form : length bytes ≡ short_form_size → drop 1 after.settings ≡ drop 1 before

abbrev pub EveryEnable : Type 0
EveryEnable = (settings bytes : List ℕ) → Enables settings bytes (receive_enabled settings bytes)

-- byte for byte what the short form writes: the control byte, and no other (manual 5.5)
pub record WritesShort (before form after : List ℕ) : Type 0 where
  pub control : get_or after control_at 0 ≡ get_or form 0 0
  pub others : (k : ℕ) → 1 ≤ k → get_or after k 0 ≡ get_or before k 0

-- and the long form: the control byte, the kept bits, the addresses whose control bit is set, and the last three bytes (manual 5.5)
pub record WritesLong (before form after : List ℕ) : Type 0 where
  pub control : get_or after control_at 0 ≡ get_or form 0 0
  pub kept :
      get_or after kept_at 0
      ≡ kept_bits (has_dedicated_mac (get_or form 0 0) or is_set 0 (get_or before kept_at 0)) (responds_to_arp (get_or form 0 0) or is_set 1 (get_or before kept_at 0))
  pub mac :
      (k : ℕ) → k < mac_size
      → get_or after (mac_at + k) 0 ≡ (when has_dedicated_mac (get_or form 0 0) then get_or form (1 + k) 0 else get_or before (mac_at + k) 0)
  pub ipv4 :
      (k : ℕ) → k < ipv4_size
      → get_or after (ipv4_at + k) 0 ≡ (when responds_to_arp (get_or form 0 0) then get_or form (7 + k) 0 else get_or before (ipv4_at + k) 0)
  pub unread : (k : ℕ) → k < unread_size → get_or after (unread_at + k) 0 ≡ get_or form (11 + k) 0
  pub others : (k : ℕ) → size ≤ k → get_or after k 0 ≡ get_or before k 0

-- a Receive Enable that is taken is one of the two forms (manual 5.2)
pub record Writes (before form : List ℕ) (after : Answered Answer) : Type 0 where
  pub two_forms : number_of after.answer ≡ number_of (Ok tt) → (length form ≡ short_form_size) ⊎ (length form ≡ long_form_size)
  pub short_form : number_of after.answer ≡ number_of (Ok tt) → length form ≡ short_form_size → WritesShort before form after.settings
  pub long_form : number_of after.answer ≡ number_of (Ok tt) → length form ≡ long_form_size → WritesLong before form after.settings

abbrev pub EveryWriting : Type 0
EveryWriting = (settings bytes : List ℕ) → Writes settings bytes (receive_enabled settings bytes)

-- of fresh settings, by what answers that they are too short and that they are written (manual 5.4)
pub record Freshens {A : Type 0} (short done : A) (before : List ℕ) (after : Answered A) : Type 0 where
  pub the_rest : KeepsTheRest before after.settings
  pub refused : length before < size → (after.answer ≡ short) × (after.settings ≡ before)
  pub written : size ≤ length before → (after.answer ≡ done) × (sound after.settings ≡ true)

-- the answer, and its number, which is what C is told (manual 2.1, 2.5, 5.4)
pub record EveryFresh : Type 0 where
  pub by_answer : (settings : List ℕ) → Freshens (Err TooShort) (Ok tt) settings (freshened settings)
  pub by_number : (settings : List ℕ) → Freshens 12 0 settings (freshened_in_numbers (freshened settings))
  -- and the settings are the same with either
  pub settings_are : (settings : List ℕ) → (freshened_in_numbers (freshened settings)).settings ≡ (freshened settings).settings
