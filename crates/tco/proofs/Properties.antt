-- A part in numbers is the part that the other crates show, of status data the first bad field is told, and a transaction passes the check with the code that is told.
-- Assumes nothing.
use Prim.Native.Nat.{ℕ, ◌≤◌, ◌<◌}
use mathlib.Core.Bool.{Bool, true, false, true≢false}
use mathlib.Core.List.{List}
use mathlib.Core.Path.{◌≡◌, refl, sym, ap, ◌∙◌}
use native.Mathlib.Omega.{arith}
use lib.Dec.{ltb}
use lib.ListN.{length}
use denote.Ref.{Bor}
use borrow.Author.Tests.{ltb-false, lt-ltb, le-ltb, eqb-true, eq-eqb}
use Rattle.std.specs.Prelude.{Option, Some, None}
use Rattle.prelude.specs.Choice.{when◌then◌else◌}
use Rattle.prelude.specs.Parts.{Slice, part_of}
use Rattle.prelude.proofs.Lists.{length_part}
use Rattle.prelude.proofs.Tests.{if-true, if-false, if-cases}
use Rattle.address.specs.declared.Address.TheVariants.{Mac, Ipv4}
use Rattle.address.specs.declared.Source.{Source}
use Rattle.address.specs.declared.Source.TheVariants.{Settings, Flash}
use Rattle.address.specs.Address.{source_of, shown_from, in_force}
use Rattle.packet.specs.Store.{max_packet, shown}
use Rattle.pec.specs.Division.{remainder}
use Rattle.pec.specs.Properties.{NotBoth}
use Rattle.pec.specs.Transaction.{coded, transaction_code}
use Rattle.pec.proofs.Properties.{one-code, noticed}
use Rattle.record.specs.declared.transaction.Attributes.{Attributes}
use Rattle.record.specs.Transaction.{transaction}
use Rattle.state.specs.State.{check_on}
use Rattle.settings.specs.Layout.{mac_at, ipv4_at, mac_size, ipv4_size}
use Rattle.status.proofs.FirstBad.{first-bad-told}
use Rattle.translator.specs.Check.{is_code, passes_check}
use Rattle.tco.specs.declared.CheckCode.{CheckCode}
use Rattle.tco.specs.Code.{code_in_numbers}
use Rattle.tco.specs.Part.{shown_length, part_from}
use Rattle.tco.specs.Properties.{part_at, EveryPart, EveryStatus, EveryCode, EveryFault}

packet : (store : Bor (List ℕ)) (n : ℕ) → part_of 0 (shown_length store n) store ≡ shown store n
unfolding shown
packet store n =
    if-cases P (ltb (length store.now) n) (part_of 0 0 store) _ (λ _. refl)
    (λ room. if-cases P (ltb max_packet n) (part_of 0 0 store) (part_of 0 n store) (λ _. refl) (λ _.
    let enough : n ≤ length store.now = ltb-false (length store.now) n room in
    ap (λ (size : ℕ). part_of 0 size store) (length_part 0 n store.now (omega arith))))
  where
    P : Slice → Type 0
    P s = part_of 0 (length s.bytes) store ≡ s

module _ (settings flash : Bor (List ℕ)) where
  mac : (source : Option Source) → part_at (part_from source mac_at 0 mac_size) settings flash ≡ shown_from source Mac settings flash
  unfolding when◌then◌else◌ part_from
  mac None = refl
  mac (Some Settings) = refl
  mac (Some Flash) = refl

  ipv4 : (source : Option Source) → part_at (part_from source ipv4_at mac_size ipv4_size) settings flash ≡ shown_from source Ipv4 settings flash
  unfolding when◌then◌else◌ part_from
  ipv4 None = refl
  ipv4 (Some Settings) = refl
  ipv4 (Some Flash) = refl

pub every-part : EveryPart
unfolding in_force
every-part = record {
  packet = packet;
  mac = λ settings flash. mac settings flash (source_of Mac settings.now flash.now);
  ipv4 = λ settings flash. ipv4 settings flash (source_of Ipv4 settings.now flash.now);
}

pub every-status : EveryStatus
every-status = record { writing = first-bad-told.writing; reading = first-bad-told.reading; block_is = λ f. refl; fields_are = λ b. refl }

-- by the code that there is, if there is one
with-it : (found : Option ℕ) (code : ℕ) → code_in_numbers found ≡ record { answer = 0; code = code } → is_code found code ≡ true
with-it None code e = absurd (omega (arith, ap (λ (told : CheckCode). told.answer) e))
with-it (Some right) code e = eq-eqb right code (ap (λ (told : CheckCode). told.code) e)

no-other : (found : Option ℕ) (code : ℕ) → is_code found code ≡ true → code_in_numbers found ≡ record { answer = 0; code = code }
no-other None code e = absurd (true≢false (sym e))
no-other (Some right) code e = ap (λ (n : ℕ). record { answer = 0; code = n }) (eqb-true right code e)

module _ (address command : ℕ) (bytes : List ℕ) where
  none-of-many : 255 < length bytes → transaction_code address command bytes ≡ None
  unfolding transaction_code
  none-of-many many = if-true _ _ _ (lt-ltb 255 (length bytes) many)

  code-of-few : length bytes ≤ 255 → transaction_code address command bytes ≡ Some (remainder (coded address command bytes))
  unfolding transaction_code
  code-of-few few =
      if-false _ _ _ (le-ltb 255 (length bytes) few)
      ∙ ap Some (one-code.by_table 0 (coded address command bytes) ∙ one-code.by_division (coded address command bytes))

pub every-code : EveryCode
unfolding passes_check when◌then◌else◌
every-code = record {
  too_many = λ address command bytes many. ap code_in_numbers (none-of-many address command bytes many);
  else_told = λ address command bytes few. ap code_in_numbers (code-of-few address command bytes few);
  passes_with_it = λ a bytes. with-it (transaction_code a.address a.command bytes) a.code;
  with_no_other = λ a bytes. no-other (transaction_code a.address a.command bytes) a.code;
  with_none = λ a bytes many. ap (λ (found : Option ℕ). is_code found a.code) (none-of-many a.address a.command bytes many);
}

-- what passes has the code that it came with
passed-has-code : (a : Attributes) (bytes : List ℕ) → passes_check check_on (transaction a bytes) ≡ true → transaction_code a.address a.command bytes ≡ Some a.code
unfolding passes_check when◌then◌else◌
passed-has-code a bytes = by-code (transaction_code a.address a.command bytes)
  where
    by-code : (found : Option ℕ) → is_code found a.code ≡ true → found ≡ Some a.code
    by-code None e = absurd (true≢false (sym e))
    by-code (Some right) e = ap Some (eqb-true right a.code e)

refuted : (b : Bool) → (b ≡ true → ⊥) → b ≡ false
refuted true n = absurd (n refl)
refuted false n = refl

module _ (a a' : Attributes) (bytes bytes' : List ℕ) where
  one-fails : NotBoth a.address a.command bytes a.code a'.address a'.command bytes' a'.code
      → passes_check check_on (transaction a bytes) ≡ true → passes_check check_on (transaction a' bytes') ≡ false
  one-fails not-both passed = refuted _ (λ too. not-both (passed-has-code a bytes passed) (passed-has-code a' bytes' too))

pub every-fault : EveryFault
every-fault = record {
  one_byte = λ a a' bytes bytes' place are are' long d.
      one-fails a a' bytes bytes' (noticed.one_byte a.address a.command bytes a.code a'.address a'.command bytes' a'.code place are are' long d);
  eight_bits = λ a a' bytes bytes' place long d.
      one-fails a a' bytes bytes' (noticed.eight_bits a.address a.command bytes a.code a'.address a'.command bytes' a'.code place long d);
}
