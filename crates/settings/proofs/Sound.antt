-- What soundness of the settings tells.
-- Assumes nothing.
use Prim.Native.Nat.{ℕ, ◌≤◌, ◌<◌}
use mathlib.Core.Bool.{true, false}
use mathlib.Core.List.{List}
use mathlib.Core.Path.{◌≡◌}
use lib.ListN.{length, get_or}
use borrow.Author.Tests.{lt-ltb, ltb-false}
use Rattle.prelude.proofs.Tests.{if-true, if-first, if-second, if-not-first, if-not-second}
use Rattle.settings.specs.Layout.{size, allowed, has_its_mac, sound}

-- its four tests
pub record Sound (bytes : List ℕ) : Type 0 where
  pub has_room : size ≤ length bytes
  pub control-is-allowed : allowed (get_or bytes 0 0) ≡ true
  pub kept-is-bits : get_or bytes 1 0 ≤ 3
  pub mac-is-kept : has_its_mac (get_or bytes 0 0) (get_or bytes 1 0) ≡ true

pub sound-tells : (bytes : List ℕ) → sound bytes ≡ true → Sound bytes
unfolding sound
sound-tells bytes h =
    let control : _ = if-not-second _ _ h in
    let kept : _ = if-second _ _ control in
    record {
      has_room = ltb-false _ _ (if-not-first _ _ h);
      control-is-allowed = if-first _ _ control;
      kept-is-bits = ltb-false _ _ (if-not-first _ _ kept);
      mac-is-kept = if-not-second _ _ kept;
    }

pub short-is-not-sound : (bytes : List ℕ) → length bytes < size → sound bytes ≡ false
unfolding sound
short-is-not-sound bytes short = if-true _ _ _ (lt-ltb _ _ short)
