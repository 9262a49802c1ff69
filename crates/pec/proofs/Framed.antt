-- A transaction as it stands on the bus, with its code behind it, has the code 0.
-- Assumes nothing.
use Prim.Native.Nat.{ℕ, ◌%◌}
use mathlib.Core.List.{List, [], ◌∷◌, ◌++◌}
use mathlib.Core.Path.{◌≡◌, refl, ap, ◌∙◌}
use lib.Bits.{xor_self}
use lib.ListN.{get_or}
use Rattle.std.specs.Prelude.{Option, Some}
use Rattle.prelude.proofs.Tests.{if-cases}
use Rattle.pec.specs.Code.{after_bytes}
use Rattle.pec.specs.Table.{table, table_step, code_by_table}
use Rattle.pec.specs.Transaction.{coded, transaction_code, framed}

pub after-bytes-append : (step : ℕ → ℕ → ℕ) (crc : ℕ) (first later : List ℕ) → after_bytes step crc (first ++ later) ≡ after_bytes step (after_bytes step crc first) later
unfolding after_bytes
after-bytes-append step crc [] later = refl
after-bytes-append step crc (byte ∷ first) later = after-bytes-append step (step crc byte) first later

step-of-itself : (crc : ℕ) → table_step crc crc ≡ 0
unfolding table_step
step-of-itself crc = ap (λ (place : ℕ). get_or table (place % 256) 0) (xor_self crc)

module _ (address command : ℕ) (bytes : List ℕ) (code : ℕ) where
  pub code-of : transaction_code address command bytes ≡ Some code → code_by_table 0 (coded address command bytes) ≡ code
  unfolding transaction_code
  code-of = if-cases P _ _ _ (λ _ e. absurd (cc)) (λ _ e. cc)
    where
      P : Option ℕ → Type 0
      P given = given ≡ Some code → code_by_table 0 (coded address command bytes) ≡ code

  pub code-of-framed : transaction_code address command bytes ≡ Some code → code_by_table 0 (framed address command bytes code) ≡ 0
  unfolding after_bytes
  code-of-framed e =
      after-bytes-append table_step 0 (coded address command bytes) (code ∷ [])
      ∙ (ap (λ (crc : ℕ). table_step crc code) (code-of e) ∙ step-of-itself code)
