-- How long a part is that is shown.
-- Assumes nothing.
use Prim.Native.Nat.{ℕ, ◌≤◌}
use mathlib.Core.List.{List, []}
use mathlib.Core.Path.{◌≡◌, refl}
use native.Mathlib.Omega.{arith}
use lib.Dec.{ltb}
use lib.ListN.{length}
use denote.Ref.{Bor}
use borrow.Author.Tests.{lt-ltb, le-ltb}
use Rattle.std.specs.Prelude.{Option, Some, None}
use Rattle.prelude.proofs.Lists.{length_part}
use Rattle.prelude.proofs.Tests.{if-true, if-false, if-cases}
use Rattle.settings.specs.Layout.{size, settings_in, sound}
use Rattle.settings.proofs.Sound.{sound-tells, short-is-not-sound}
use Rattle.address.specs.declared.Address.{Address}
use Rattle.address.specs.declared.Address.TheVariants.{Mac, Ipv4}
use Rattle.address.specs.declared.Source.{Source}
use Rattle.address.specs.declared.Source.TheVariants.{Settings, Flash}
use Rattle.address.specs.Address.{flash_size, is_in_settings, source_of, settings_part, flash_part, shown_from, in_force}
use Rattle.address.specs.Properties.{size_of, EveryAddress}

settings-size : (address : Address) (settings : Bor (List ℕ)) → size ≤ length settings.now → length (settings_part address settings).bytes ≡ size_of address
settings-size Mac settings room = length_part 2 6 settings.now (omega arith)
settings-size Ipv4 settings room = length_part 8 4 settings.now (omega arith)

flash-size : (address : Address) (flash : Bor (List ℕ)) → flash_size ≤ length flash.now → length (flash_part address flash).bytes ≡ size_of address
flash-size Mac flash room = length_part 0 6 flash.now (omega arith)
flash-size Ipv4 flash room = length_part 6 4 flash.now (omega arith)

pub every-address : EveryAddress
unfolding in_force source_of
every-address address settings flash = record {
  whole = λ s room.
      rw (if-true (sound settings.now) _ _ s, if-false (ltb (length flash.now) flash_size) _ _ (le-ltb _ _ room))
      (if-cases (λ (source : Option Source). length (shown_from source address settings flash).bytes ≡ size_of address) (is_in_settings address (settings_in settings.now)) (Some Settings) (Some Flash)
      (λ _. settings-size address settings (sound-tells settings.now s).has_room)
      (λ _. flash-size address flash room));
  short_settings = λ short. rw (if-false (sound settings.now) _ _ (short-is-not-sound settings.now short));
  not_sound = λ n. rw (if-false (sound settings.now) _ _ n);
  short_flash = λ short.
      if-cases (λ (source : Option Source). (shown_from source address settings flash).bytes ≡ []) (sound settings.now) _ None
      (λ _. rw (if-true (ltb (length flash.now) flash_size) _ _ (lt-ltb _ _ short)))
      (λ _. refl);
}
