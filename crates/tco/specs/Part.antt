-- Parts of lent buffers in numbers: the source, where in it the part starts and how long it is (manual 4.4, 5.9).
use Rattle.std.specs.Prelude.{ℕ, List, Option, Some, None, length}
use Rattle.std.specs.Borrow.{Bor}
use Rattle.address.specs.declared.Address.TheVariants.{Mac, Ipv4}
use Rattle.address.specs.declared.Source.{Source}
use Rattle.address.specs.declared.Source.TheVariants.{Settings, Flash}
use Rattle.address.specs.Address.{source_of}
use Rattle.packet.specs.Store.{shown}
use Rattle.settings.specs.Layout.{mac_at, ipv4_at, mac_size, ipv4_size}
use Rattle.tco.specs.declared.Part.{Part}

-- how many bytes of the store are shown where so many are asked for (manual 4.4)
abbrev pub shown_length : Bor (List ℕ) → ℕ → ℕ
shown_length store n = length (shown store n).bytes

-- how this interface numbers the sources (manual 5.9)
abbrev pub nowhere : ℕ
nowhere = 0

abbrev pub in_settings : ℕ
in_settings = 1

abbrev pub in_flash : ℕ
in_flash = 2

-- the part of its source, by where it would start in the settings and in Flash, and its size (manual 5.9)
unfoldable pub part_from : Option Source → ℕ → ℕ → ℕ → Part
part_from None settings_at flash_at size = record { source = nowhere; start = 0; length = 0 }
part_from (Some Settings) settings_at flash_at size = record { source = in_settings; start = settings_at; length = size }
part_from (Some Flash) settings_at flash_at size = record { source = in_flash; start = flash_at; length = size }

-- the addresses in force: in Flash the MAC stands in front (manual 5.8)
abbrev pub mac_in_force : List ℕ → List ℕ → Part
mac_in_force settings flash = part_from (source_of Mac settings flash) mac_at 0 mac_size

abbrev pub ipv4_in_force : List ℕ → List ℕ → Part
ipv4_in_force settings flash = part_from (source_of Ipv4 settings flash) ipv4_at mac_size ipv4_size
