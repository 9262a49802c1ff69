-- Receive Enable: how it is judged, and the settings that it leaves (manual 5.2, 5.5, 5.6).
use Rattle.std.specs.Prelude.{ℕ, List, Result, Ok, Err, ⊤, eqb, ltb, length, get_or}
use Rattle.prelude.specs.Choice.{when◌then◌else◌, ◌or◌}
use Rattle.prelude.specs.Parts.{part}
use Rattle.settings.specs.declared.enable.Refusal.{Refusal}
use Rattle.settings.specs.declared.enable.Refusal.TheVariants.{TooShort, NotSound, BadForm, BadControl, NoMac}
use Rattle.settings.specs.Layout.{Settings, size, kept_at, mac_size, ipv4_size, unread_size, settings_in, with_settings, fresh_settings, sound, allowed, has_dedicated_mac, responds_to_arp, has_its_mac}

-- the answer numbers (manual 2.1)
abbrev pub refusal_number : Refusal → ℕ
refusal_number TooShort = 12
refusal_number NotSound = 13
refusal_number BadForm = 8
refusal_number BadControl = 9
refusal_number NoMac = 10

-- an operation on the settings is done, or refused (manual 5.4, 5.6)
abbrev pub Answer : Type 0
Answer = Result ⊤ Refusal

-- the answer number of a Receive Enable (manual 2.1)
abbrev pub number_of : Answer → ℕ
number_of (Ok taken) = 11
number_of (Err refusal) = refusal_number refusal

-- a call that is done and has no number of its own (manual 2.5)
abbrev pub success : ℕ
success = 0

-- the answer number of fresh settings (manual 2.5)
abbrev pub fresh_number : Answer → ℕ
fresh_number (Ok written) = success
fresh_number (Err refusal) = refusal_number refusal

-- an answer, and the settings afterwards (manual 5.5, 5.6)
pub record Answered (A : Type 0) : Type 0 where
  pub answer : A
  pub settings : List ℕ

abbrev pub answered : {A : Type 0} → A → List ℕ → Answered A
answered answer settings = record { answer = answer; settings = settings }

-- fresh settings with the answer number, as C is told it (manual 2.5)
abbrev pub freshened_in_numbers : Answered Answer → Answered ℕ
freshened_in_numbers f = answered (fresh_number f.answer) f.settings

-- fresh settings written over what stands there (manual 5.4)
unfoldable pub freshened : List ℕ → Answered Answer
freshened settings =
    when ltb (length settings) size then answered (Err TooShort) settings else
    answered (Ok tt) (with_settings fresh_settings settings)

-- the short form sets the control byte alone (manual 5.5)
abbrev pub short_form : Settings → ℕ → Settings
short_form s control =
    record {
      control = control;
      mac_kept = s.mac_kept;
      address_kept = s.address_kept;
      mac = s.mac;
      ipv4 = s.ipv4;
      unread = s.unread;
    }

-- the long form sets the last three bytes too, and an address with its bit where its control bit is set (manual 5.5)
abbrev pub long_form : Settings → List ℕ → Settings
long_form s bytes =
    let control : ℕ = get_or bytes 0 0 in
    record {
      control = control;
      mac_kept = has_dedicated_mac control or s.mac_kept;
      address_kept = responds_to_arp control or s.address_kept;
      mac = when has_dedicated_mac control then part 1 mac_size bytes else s.mac;
      ipv4 = when responds_to_arp control then part 7 ipv4_size bytes else s.ipv4;
      unread = part 11 unread_size bytes;
    }

-- 9 before 10, else 11 (manual 5.6)
unfoldable pub short_form_answered : List ℕ → ℕ → Answered Answer
short_form_answered settings control =
    when allowed control then
    (when has_its_mac control (get_or settings kept_at 0) then
    answered (Ok tt) (with_settings (short_form (settings_in settings) control) settings)
    else answered (Err NoMac) settings)
    else answered (Err BadControl) settings

unfoldable pub long_form_answered : List ℕ → List ℕ → Answered Answer
long_form_answered settings bytes =
    when allowed (get_or bytes 0 0) then answered (Ok tt) (with_settings (long_form (settings_in settings) bytes) settings) else
    answered (Err BadControl) settings

-- how many bytes each form has (manual 5.2)
abbrev pub short_form_size : ℕ
short_form_size = 1

abbrev pub long_form_size : ℕ
long_form_size = 14

-- 12 and 13 before 8 (manual 2.2, 5.6)
unfoldable pub receive_enabled : List ℕ → List ℕ → Answered Answer
receive_enabled settings bytes =
    when ltb (length settings) size then answered (Err TooShort) settings else
    when sound settings then
    (when eqb (length bytes) short_form_size then short_form_answered settings (get_or bytes 0 0) else
    when eqb (length bytes) long_form_size then long_form_answered settings bytes else
    answered (Err BadForm) settings)
    else answered (Err NotSound) settings
