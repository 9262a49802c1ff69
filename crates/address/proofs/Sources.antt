-- Where an address comes from somewhere, the settings and Flash have room for it.
-- Assumes nothing.
use Prim.Native.Nat.{ℕ, ◌≤◌}
use mathlib.Core.Bool.{Bool, true, false}
use mathlib.Core.List.{List}
use mathlib.Core.Path.{◌≡◌, refl}
use native.Mathlib.Omega.{arith}
use lib.Dec.{ltb}
use lib.ListN.{length}
use borrow.Author.Tests.{ltb-false}
use Rattle.std.specs.Prelude.{Option, Some, None}
use Rattle.prelude.specs.Choice.{when◌then◌else◌}
use Rattle.settings.specs.Layout.{size, settings_in, sound}
use Rattle.settings.proofs.Sound.{sound-tells}
use Rattle.address.specs.declared.Address.{Address}
use Rattle.address.specs.declared.Source.{Source}
use Rattle.address.specs.declared.Source.TheVariants.{Settings, Flash}
use Rattle.address.specs.Address.{flash_size, is_in_settings, source_of}

-- the choice of a source by its three tests
abbrev chosen : Bool → Bool → Bool → Option Source
chosen is_sound is_short in_settings =
    when is_sound then (when is_short then None else (when in_settings then Some Settings else Some Flash)) else None

chosen-some : (s f r : Bool) (source : Source) → chosen s f r ≡ Some source → (s ≡ true) × (f ≡ false)
unfolding when◌then◌else◌
chosen-some true false r source h = (refl, refl)
chosen-some true true r source h = let z : ◌≡◌ {A = ℕ} 0 1 = cc in absurd (omega arith)
chosen-some false f r source h = let z : ◌≡◌ {A = ℕ} 0 1 = cc in absurd (omega arith)

pub sources-have-room : (address : Address) (settings flash : List ℕ) (source : Source) → source_of address settings flash ≡ Some source
    → (size ≤ length settings) × (flash_size ≤ length flash)
unfolding source_of
sources-have-room address settings flash source h =
    let tests : _ = chosen-some (sound settings) (ltb (length flash) flash_size) (is_in_settings address (settings_in settings)) source h in
    ((sound-tells settings tests.0).has_room, ltb-false _ _ tests.1)
