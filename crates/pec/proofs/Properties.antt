-- What follows from the definitions: one code, its check value, and what it notices.
-- Assumes nothing.
use Prim.Native.Nat.{ℕ}
use mathlib.Core.List.{List}
use mathlib.Core.Path.{◌≡◌, refl, sym, ◌∙◌}
use native.Mathlib.Omega.{arith}
use lib.Dec.{lit<}
use lib.ListN.{length, length-append}
use Rattle.prelude.specs.Choice.{when◌then◌else◌}
use Rattle.pec.specs.Code.{bit_step, bit_steps, byte_step, after_bytes}
use Rattle.pec.specs.Division.{brought_down, divided, bits_of, all_bits, remainder}
use Rattle.pec.specs.Properties.{OneCode, CheckValue, Tells, NotBoth, Noticed}
use Rattle.pec.specs.Table.{table_step, code_by_table}
use Rattle.pec.specs.Transaction.{framed}
use Rattle.pec.proofs.Division.{code-by-division}
use Rattle.pec.proofs.EightBits.{eight-bits-tell}
use Rattle.pec.proofs.Entries.{entries, code-by-table}
use Rattle.pec.proofs.Framed.{after-bytes-append, code-of-framed}
use Rattle.pec.proofs.Telling.{one-byte-tells}

pub one-code : OneCode
one-code = record { entries = entries; by_table = code-by-table; by_division = code-by-division; continues = after-bytes-append byte_step }

pub check-value : CheckValue
unfolding bit_step bit_steps byte_step table_step after_bytes brought_down divided bits_of all_bits remainder when◌then◌else◌
check-value = record { by_bits = refl; by_table = refl; by_division = refl }

-- equal codes come from equal remainders
by-remainders : (xs ys : List ℕ) → code_by_table 0 xs ≡ code_by_table 0 ys → remainder xs ≡ remainder ys
by-remainders xs ys e = sym (as-remainder xs) ∙ (e ∙ as-remainder ys)
  where
    as-remainder : (bytes : List ℕ) → code_by_table 0 bytes ≡ remainder bytes
    as-remainder bytes = code-by-table 0 bytes ∙ code-by-division bytes

pub tells : Tells
unfolding remainder
tells =
    record {
      one_byte = λ xs ys place hx hy long d e. one-byte-tells 0 xs ys place (lit< tt) hx hy long d (by-remainders xs ys e);
      eight_bits = λ xs ys place long d e. eight-bits-tell xs ys place long d (by-remainders xs ys e);
    }

module _ (address command : ℕ) (bytes : List ℕ) (code : ℕ) (address' command' : ℕ) (bytes' : List ℕ) (code' : ℕ) (long : length bytes ≡ length bytes') where
  as-long : length (framed address command bytes code) ≡ length (framed address' command' bytes' code')
  as-long = simp length-append (omega arith)

  -- both have the code 0
  not-both : (code_by_table 0 (framed address command bytes code) ≡ code_by_table 0 (framed address' command' bytes' code') → ⊥)
      → NotBoth address command bytes code address' command' bytes' code'
  not-both differ e e' = differ (code-of-framed address command bytes code e ∙ sym (code-of-framed address' command' bytes' code' e'))

pub noticed : Noticed
noticed =
    record {
      one_byte = λ a c bs k a' c' bs' k' place hx hy long d.
          not-both a c bs k a' c' bs' k' long (tells.one_byte (framed a c bs k) (framed a' c' bs' k') place hx hy (as-long a c bs k a' c' bs' k' long) d);
      eight_bits = λ a c bs k a' c' bs' k' place long d.
          not-both a c bs k a' c' bs' k' long (tells.eight_bits (framed a c bs k) (framed a' c' bs' k') place (as-long a c bs k a' c' bs' k' long) d);
    }
