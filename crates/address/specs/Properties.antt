-- How long a part is that is shown, whatever the bytes (manual 5.9).
use Rattle.std.specs.Prelude.{ℕ, ◌≤◌, ◌<◌, true, false, List, [], ◌≡◌, length}
use Rattle.std.specs.Borrow.{Bor}
use Rattle.settings.specs.Layout.{size, mac_size, ipv4_size, sound}
use Rattle.address.specs.declared.Address.{Address}
use Rattle.address.specs.declared.Address.TheVariants.{Mac, Ipv4}
use Rattle.address.specs.Address.{flash_size, in_force}

-- the sizes of the addresses (manual 5.3)
abbrev pub size_of : Address → ℕ
size_of Mac = mac_size
size_of Ipv4 = ipv4_size

-- a whole address, or nothing where settings or Flash are too short or the settings are not sound (manual 5.9)
pub record Shows (address : Address) (settings flash : Bor (List ℕ)) : Type 0 where
  pub whole : sound settings.now ≡ true → flash_size ≤ length flash.now → length (in_force address settings flash).bytes ≡ size_of address
  pub short_settings : length settings.now < size → (in_force address settings flash).bytes ≡ []
  pub not_sound : sound settings.now ≡ false → (in_force address settings flash).bytes ≡ []
  pub short_flash : length flash.now < flash_size → (in_force address settings flash).bytes ≡ []

abbrev pub EveryAddress : Type 0
EveryAddress = (address : Address) (settings flash : Bor (List ℕ)) → Shows address settings flash
