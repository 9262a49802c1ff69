-- The addresses in force: where each comes from, and the part that is shown (manual 5.8, 5.9).
use Rattle.std.specs.Prelude.{ℕ, Bool, List, Option, Some, None, ltb, length}
use Rattle.std.specs.Borrow.{Bor}
use Rattle.prelude.specs.Choice.{when◌then◌else◌}
use Rattle.prelude.specs.Parts.{Slice, part_of}
use Rattle.settings.specs.Layout as layout
use Rattle.settings.specs.Layout.{settings_in, sound, has_dedicated_mac, mac_at, ipv4_at, mac_size, ipv4_size}
use Rattle.address.specs.declared.Address.{Address}
use Rattle.address.specs.declared.Address.TheVariants.{Mac, Ipv4}
use Rattle.address.specs.declared.Source.{Source}
use Rattle.address.specs.declared.Source.TheVariants.{Settings, Flash}

-- whether the settings hold the address that is in force: a MAC where it is dedicated, an IPv4 where it was kept (manual 5.9)
unfoldable pub is_in_settings : Address → layout.Settings → Bool
is_in_settings Mac s = has_dedicated_mac s.control
is_in_settings Ipv4 s = s.address_kept

-- the size of a Flash block, which has a MAC in front and an IPv4 behind it (manual 5.8)
abbrev pub flash_size : ℕ
flash_size = 10

-- nowhere where the settings are not sound, which too short ones never are, or Flash is too short (manual 5.9)
unfoldable pub source_of : Address → List ℕ → List ℕ → Option Source
source_of address settings flash =
    when sound settings then
    (when ltb (length flash) flash_size then None else
    when is_in_settings address (settings_in settings) then Some Settings else
    Some Flash)
    else None

-- an address in the settings (manual 5.3), and in the Flash block (manual 5.8)
abbrev pub settings_part : Address → Bor (List ℕ) → Slice
settings_part Mac = part_of mac_at mac_size
settings_part Ipv4 = part_of ipv4_at ipv4_size

abbrev pub flash_part : Address → Bor (List ℕ) → Slice
flash_part Mac = part_of 0 mac_size
flash_part Ipv4 = part_of mac_size ipv4_size

-- the part of its source, and an empty part of the settings where there is none (manual 5.9)
abbrev pub shown_from : Option Source → Address → Bor (List ℕ) → Bor (List ℕ) → Slice
shown_from None address settings flash = part_of 0 0 settings
shown_from (Some Settings) address settings flash = settings_part address settings
shown_from (Some Flash) address settings flash = flash_part address flash

-- an address in force, whatever the bytes (manual 5.9)
unfoldable pub in_force : Address → Bor (List ℕ) → Bor (List ℕ) → Slice
in_force address settings flash = shown_from (source_of address settings.now flash.now) address settings flash
