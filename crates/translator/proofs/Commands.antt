-- The class of a command is that of the first entry with its byte, and a flag is tested by its mask.
-- Assumes nothing.
use Prim.Native.Nat.{ℕ, zero, suc, ◌*◌, ◌<◌, ◌/◌, ◌%◌, ◌^◌}
use mathlib.Core.Bool.{Bool, true, false, cond, not}
use native.Mathlib.Omega.{arith}
use Rattle.std.specs.Int.Bits.{bit_and}
use Rattle.std.proofs.lemmas.Nat.{pow_pos}
use Rattle.std.proofs.lemmas.Nat.Bits.{and_pow}
use borrow.Author.Tests.{eq-eqb, ne_eqb}
use Rattle.prelude.specs.Bits.{is_set}
use mathlib.Core.List.{List, [], ◌∷◌}
use mathlib.Core.Path.{◌≡◌, refl, ap}
use lib.Dec.{eqb}
use Rattle.prelude.specs.Choice.{when◌then◌else◌}
use Rattle.std.specs.List.{find}
use Rattle.std.specs.Prelude.{Option, None, Some}
use Rattle.translator.specs.declared.command.Class.{Class}
use Rattle.translator.specs.declared.command.Class.TheVariants.{Unknown}
use Rattle.translator.specs.declared.command.Command.{Command}
use Rattle.translator.specs.Command.{class_in}

abbrev pub has_byte : ℕ → Command → Bool
has_byte command entry = eqb command entry.byte

abbrev pub class_or_unknown : Option Command → Class
class_or_unknown None = Unknown
class_or_unknown (Some entry) = entry.class

pub class-found : (entries : List Command) (command : ℕ) → class_in entries command ≡ class_or_unknown (find (has_byte command) entries)
unfolding class_in when◌then◌else◌
class-found [] command = refl
class-found (entry ∷ rest) command = by-test (eqb command entry.byte) (class-found rest command)
  where
    by-test : (t : Bool) → class_in rest command ≡ class_or_unknown (find (has_byte command) rest)
        → (when t then entry.class else class_in rest command) ≡ class_or_unknown (cond t (Some entry) (find (has_byte command) rest))
    by-test true e = refl
    by-test false e = e

-- a test of a flag by its mask is a test of its bit
pub flag-set : (word n : ℕ) → not (eqb (bit_and word (2 ^ n)) 0) ≡ is_set n word
flag-set word n = rw (and_pow word n) (by-bit (word / 2 ^ n % 2) (omega arith))
  where
    by-bit : (b : ℕ) → b < 2 → not (eqb (b * 2 ^ n) 0) ≡ eqb b 1
    by-bit zero l = ap not (eq-eqb (0 * 2 ^ n) 0 (omega arith))
    by-bit (suc zero) l = ap not (ne_eqb (1 * 2 ^ n) 0 (λ e. omega (arith, pow_pos n, e)))
    by-bit (suc (suc b)) l = absurd (omega arith)
