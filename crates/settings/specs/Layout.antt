-- The receive settings: what each byte is, and when they are sound (manual 5.1, 5.3, 5.7).
use Rattle.std.specs.Prelude.{ℕ, ◌+◌, Bool, true, false, List, ◌∷◌, ◌++◌, eqb, ltb, length, get_or, drop, replicate}
use Rattle.prelude.specs.Bits.{bits, is_set}
use Rattle.prelude.specs.Choice.{when◌then◌else◌}
use Rattle.prelude.specs.Parts.{part}

-- bits of the control byte: RCV_EN, EN_ARP_RES and CBDM (manual 5.1)
abbrev pub receives : ℕ → Bool
receives control = is_set 0 control

abbrev pub responds_to_arp : ℕ → Bool
responds_to_arp control = is_set 3 control

abbrev pub has_dedicated_mac : ℕ → Bool
has_dedicated_mac control = is_set 7 control

-- a control byte that is allowed (manual 5.1)
unfoldable pub allowed : ℕ → Bool
allowed control =
    when is_set 6 control then
    (when eqb (bits 4 2 control) 3 then false else
    when receives control then true else
    when has_dedicated_mac control then false else
    true)
    else false

-- how many bytes they are (manual 1.5)
abbrev pub size : ℕ
size = 15

-- where each part lies (manual 5.3)
abbrev pub control_at : ℕ
control_at = 0

abbrev pub kept_at : ℕ
kept_at = 1

abbrev pub mac_at : ℕ
mac_at = 2

abbrev pub ipv4_at : ℕ
ipv4_at = 8

abbrev pub unread_at : ℕ
unread_at = 12

abbrev pub mac_size : ℕ
mac_size = 6

abbrev pub ipv4_size : ℕ
ipv4_size = 4

abbrev pub unread_size : ℕ
unread_size = 3

-- what the bytes hold, by name (manual 5.3)
pub record Settings : Type 0 where
  pub control : ℕ
  pub mac_kept : Bool
  pub address_kept : Bool
  pub mac : List ℕ
  pub ipv4 : List ℕ
  pub unread : List ℕ

unfoldable pub settings_in : List ℕ → Settings
settings_in bytes =
    record {
      control = get_or bytes control_at 0;
      mac_kept = is_set 0 (get_or bytes kept_at 0);
      address_kept = is_set 1 (get_or bytes kept_at 0);
      mac = part mac_at mac_size bytes;
      ipv4 = part ipv4_at ipv4_size bytes;
      unread = part unread_at unread_size bytes;
    }

-- the byte that tells which addresses are kept (manual 5.3)
abbrev pub kept_bits : Bool → Bool → ℕ
kept_bits mac address = (when mac then 1 else 0) + (when address then 2 else 0)

-- the bytes with these settings in their first fifteen (manual 5.3)
unfoldable pub with_settings : Settings → List ℕ → List ℕ
with_settings s bytes =
    s.control
    ∷ kept_bits s.mac_kept s.address_kept
    ∷ s.mac ++ (s.ipv4 ++ (s.unread ++ drop size bytes))

-- nothing is received, and no address is kept (manual 5.4)
abbrev pub fresh_settings : Settings
fresh_settings =
    record {
      control = 0x40;
      mac_kept = false;
      address_kept = false;
      mac = replicate mac_size 0;
      ipv4 = replicate ipv4_size 0;
      unread = replicate unread_size 0;
    }

-- a MAC is kept where the control byte asks for it (manual 5.7)
unfoldable pub has_its_mac : ℕ → ℕ → Bool
has_its_mac control kept = when has_dedicated_mac control then is_set 0 kept else true

-- sound settings; too few bytes are none (manual 5.7)
unfoldable pub sound : List ℕ → Bool
sound bytes =
    when ltb (length bytes) size then false else
    when allowed (get_or bytes control_at 0) then
    (when ltb 3 (get_or bytes kept_at 0) then false else
    has_its_mac (get_or bytes control_at 0) (get_or bytes kept_at 0))
    else false
