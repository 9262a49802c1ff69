-- A bad link byte is told as soon as it is there, and each part of a transaction has its own name.
-- Assumes nothing.
use Prim.Native.Nat.{ℕ, ◌+◌, ◌<◌}
use mathlib.Core.Bool.{Bool, true, false}
use mathlib.Core.List.{List}
use mathlib.Core.Path.{◌≡◌, refl}
use native.Mathlib.Omega.{arith}
use lib.ListN.{length, get_or}
use Rattle.std.specs.Prelude.{Result, Err}
use Rattle.record.specs.Properties.{link_at, TellsBadLink, InItsPlace}
use Rattle.record.specs.Records.{check_size, found_at}
use Rattle.record.specs.declared.Record.{Record}
use Rattle.record.specs.declared.Stop.{Stop}
use Rattle.record.specs.declared.Stop.TheVariants as stop
use Rattle.record.specs.declared.transaction.Attributes.{Attributes}
use Rattle.record.proofs.Found.{bad-link-found, Tells, whole, bad-link, cut, found-tells}

-- where the link byte is
link-place : (check : Bool) (at : ℕ) → at + check_size check + 1 ≡ at + link_at check
link-place true at = omega arith
link-place false at = omega arith

module _ (check : Bool) (bytes : List ℕ) (at : ℕ) where
  as-soon-as-there : at + link_at check < length bytes → 1 < get_or bytes (at + link_at check) 0 → found_at check bytes at ≡ Err stop.BadLink
  as-soon-as-there inside high =
      let place : at + check_size check + 1 ≡ at + link_at check = link-place check at in
      bad-link-found check bytes at (record { is-there = omega arith; link-high = rw place high })

  never-else : found_at check bytes at ≡ Err stop.BadLink → (at + link_at check < length bytes) × (1 < get_or bytes (at + link_at check) 0)
  never-else e = by-found (found_at check bytes at) (found-tells check bytes at) e
    where
      by-found : (f : Result Record Stop) → Tells check bytes at f → f ≡ Err stop.BadLink → (at + link_at check < length bytes) × (1 < get_or bytes (at + link_at check) 0)
      by-found _ (whole size w) e = absurd (cc)
      by-found _ (cut _) e = absurd (cc)
      by-found _ (bad-link b) e =
          let place : at + check_size check + 1 ≡ at + link_at check = link-place check at in
          (omega (arith, b.is-there), rw place at b.link-high)

pub tells-bad-link : (check : Bool) → TellsBadLink check
tells-bad-link check = record { as_soon_as_there = as-soon-as-there check; never_else = never-else check }

pub in-its-place : (a : Attributes) (bytes : List ℕ) → InItsPlace a bytes
in-its-place a bytes = record { address_is = refl; command_is = refl; bytes_are = refl; code_is = refl; link_up_is = refl; attributes_are = refl }
