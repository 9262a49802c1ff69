-- What is written is read back, what is read was written, and what comes back with each answer.
-- Assumes nothing.
use Prim.Native.Nat.{ℕ, zero, suc, ◌+◌, ◌*◌, ◌/◌, ◌%◌, ◌<◌, ◌≤◌}
use mathlib.Core.Bool.{Bool, true, false}
use mathlib.Core.List.{List, [], ◌∷◌}
use mathlib.Core.Path.{◌≡◌, refl, sym, ap, ◌∙◌, subst}
use native.Mathlib.Omega.{arith}
use lib.Dec.{eqb}
use lib.ListN.{get_or, replicate}
use Rattle.std.specs.Prelude.{Result, Ok, Err, IsOk}
use Rattle.std.specs.Result.{ResultUnwrapsOrElse}
use Rattle.prelude.specs.Parts.{AreBytes}
use Rattle.prelude.specs.Choice.{when◌then◌else◌}
use Rattle.prelude.proofs.Lists.{all-elements}
use Rattle.status.specs.declared.Fields.{Fields}
use Rattle.status.specs.declared.judge.Field.{Field}
use Rattle.status.specs.declared.judge.Field.TheVariants.{BlockSize, Length, PacketStatus, MngReserved, DecisionIndex, VlanIndex}
use Rattle.status.specs.Block.{match_bit, mng_status, block, told, if_done, written, block_back, word_at, no_fields, parsed, fields_back}
use Rattle.status.specs.Properties.{HasTag, RoundTrip, fields_in, ComesBack, GoodToWrite, GoodToRead}
use Rattle.status.proofs.FirstBad.{words-are-bytes, first-bad-told, good-where-done, done-where-good}

-- what is told, and what comes back with it
module _ {A : Type 0} (zeros : A) where
  told-done : (answer : Result Unit Field) (a b : A) → told answer a ≡ Ok b → (a ≡ b) × (if_done answer a zeros ≡ b)
  unfolding told if_done
  told-done (Ok _) a b e = (cc, cc)
  told-done (Err field) a b e = absurd (cc)

  told-refused : (answer : Result Unit Field) (a : A) (field : Field) → told answer a ≡ Err field → if_done answer a zeros ≡ zeros
  unfolding told if_done
  told-refused (Ok _) a field e = absurd (cc)
  told-refused (Err _) a field e = refl

done-is-told : {A : Type 0} (answer : Result A Field) → IsOk answer → (a : A) × (answer ≡ Ok a)
done-is-told (Ok a) done = (a, refl)
done-is-told (Err field) done = absurd (cc)

pub comes_back : ComesBack
unfolding written block_back parsed fields_back
comes_back = record {
  read = λ b f bytes e. (sym (told-done no_fields _ _ f e).0 ∙ words-are-bytes b bytes, (told-done no_fields _ _ f e).1);
  written_back = λ f b e. (told-done (replicate 8 0) _ _ b e).1;
  not_read = λ b field e. told-refused no_fields _ _ field e;
  not_written = λ f field e. told-refused (replicate 8 0) _ _ field e;
}

-- zeros taken where nothing is told are what comes back
zeros-come-back : {A : Type 0} (zeros : A) (IsZeros : A → Type 0) (answer : Result Unit Field) (a x : A) → ((z : A) → IsZeros z → z ≡ zeros)
    → ResultUnwrapsOrElse (told answer a) IsZeros x
    → x ≡ if_done answer a zeros
unfolding told if_done
zeros-come-back zeros IsZeros (Ok _) a x only taken = taken
zeros-come-back zeros IsZeros (Err field) a x only taken = only x taken

pub block-taken : (IsZeros : List ℕ → Type 0) (f : Fields) (x : List ℕ) → ((z : List ℕ) → IsZeros z → z ≡ replicate 8 0) → ResultUnwrapsOrElse (written f) IsZeros x → x ≡ block_back f
unfolding written block_back
block-taken IsZeros f x = zeros-come-back (replicate 8 0) IsZeros _ _ x

pub fields-taken : (IsZeros : Fields → Type 0) (b : List ℕ) (x : Fields) → ((z : Fields) → IsZeros z → z ≡ no_fields) → ResultUnwrapsOrElse (parsed b) IsZeros x → x ≡ fields_back b
unfolding parsed fields_back
fields-taken IsZeros b x = zeros-come-back no_fields IsZeros _ _ x

-- a match bit as the number that it is
record MatchBit (matched : Bool) : Type 0 where
  bit : ℕ
  small : bit ≤ 1
  weighed : (weight : ℕ) → match_bit matched weight ≡ bit * weight
  told : eqb bit 1 ≡ matched

match-bit : (matched : Bool) → MatchBit matched
unfolding when◌then◌else◌
match-bit true = record { bit = 1; small = omega arith; weighed = λ w. omega arith; told = refl }
match-bit false = record { bit = 0; small = omega arith; weighed = λ w. omega arith; told = refl }

-- an MNG status in bytes: put together, and taken apart
record Unpacked (x di y vi low high : ℕ) : Type 0 where
  decision-match : high ≡ x
  decision-index : low / 16 ≡ di
  vlan-match : low / 8 % 2 ≡ y
  vlan-index : low % 8 ≡ vi

mng-unpacked : (x di y vi mng : ℕ) → mng ≡ x * 256 + di * 16 + y * 8 + vi → di < 8 → y ≤ 1 → vi < 8 → Unpacked x di y vi (mng % 256) (mng / 256)
mng-unpacked x di y vi mng e d8 y1 v8 =
    let low : mng % 256 ≡ di * 16 + y * 8 + vi = omega arith in
    record { decision-match = omega arith; decision-index = omega arith; vlan-match = omega arith; vlan-index = omega arith }

mng-packed : (low high : ℕ) → high ≤ 1 → low + 256 * high ≡ high % 2 * 256 + low / 16 * 16 + low / 8 % 2 * 8 + low % 8
mng-packed low high h =
    let few : low % 16 ≡ low / 8 % 2 * 8 + low % 8 = omega arith in
    let one : high % 2 ≡ high = omega arith in
    omega arith

-- bytes, one by one
abbrev EachByte : List ℕ → Type 0
EachByte [] = Unit
EachByte (byte ∷ rest) = (byte < 256) × EachByte rest

each-byte : (b : List ℕ) → EachByte b → AreBytes b
each-byte [] _ i = omega arith
each-byte (byte ∷ rest) (small, _) zero = small
each-byte (byte ∷ rest) (_, smalls) (suc i) = each-byte rest smalls i

word-recovered : (word : ℕ) → word % 256 + 256 * (word / 256) ≡ word
word-recovered word = omega arith

module _ (f : Fields) (good : (field : Field) → GoodToWrite f field) where
  mng-of-fields :
      Unpacked (match-bit f.decision_match).bit f.decision_index (match-bit f.vlan_match).bit f.vlan_index
      (mng_status f % 256) (mng_status f / 256)
  unfolding mng_status
  mng-of-fields =
      let dm : MatchBit f.decision_match = match-bit f.decision_match in
      let vm : MatchBit f.vlan_match = match-bit f.vlan_match in
      mng-unpacked dm.bit f.decision_index vm.bit f.vlan_index (mng_status f) (rw (dm.weighed 256, vm.weighed 8))
      (good DecisionIndex).0 vm.small (good VlanIndex).0

  fields-recovered : fields_in (block f) ≡ f
  unfolding block
  fields-recovered =
      let u : _ = mng-of-fields in
      let dm : MatchBit f.decision_match = match-bit f.decision_match in
      let vm : MatchBit f.vlan_match = match-bit f.vlan_match in
      let odd : mng_status f / 256 % 2 ≡ dm.bit = omega (arith, dm.small, u.decision-match) in
      λ i. record {
        length = word-recovered f.length i;
        vlan = word-recovered f.vlan i;
        decision_match = (ap (λ (n : ℕ). eqb n 1) odd ∙ dm.told) i;
        decision_index = u.decision-index i;
        vlan_match = (ap (λ (n : ℕ). eqb n 1) u.vlan-match ∙ vm.told) i;
        vlan_index = u.vlan-index i;
      }

  mng-high : mng_status f / 256 ≤ 1
  mng-high = omega (arith, mng-of-fields.decision-match, (match-bit f.decision_match).small)

  block-bytes : HasTag f → AreBytes (block f)
  unfolding block
  block-bytes tag =
      each-byte (block f)
      (omega arith, (omega (arith, (good Length).1), (omega arith, (omega arith, (omega arith, (omega arith, (omega arith, (omega (arith, mng-high), tt))))))))

  block-good : (field : Field) → GoodToRead (block f) field
  unfolding block
  block-good BlockSize = refl
  block-good Length = subst (λ (g : Fields). GoodToWrite g Length) (sym fields-recovered) (good Length)
  block-good PacketStatus = (refl, refl)
  block-good MngReserved = mng-high
  block-good DecisionIndex = subst (λ (g : Fields). GoodToWrite g DecisionIndex) (sym fields-recovered) (good DecisionIndex)
  block-good VlanIndex = subst (λ (g : Fields). GoodToWrite g VlanIndex) (sym fields-recovered) (good VlanIndex)

done-where-told : {A : Type 0} (answer : Result A Field) (a : A) → answer ≡ Ok a → IsOk answer
done-where-told (Ok _) a e = refl
done-where-told (Err _) a e = absurd (cc)

written_is_block : (f : Fields) (b : List ℕ) → written f ≡ Ok b → block f ≡ b
unfolding written
written_is_block f b e = (told-done [] _ _ b e).0

written_is_read : (f : Fields) (b : List ℕ) → HasTag f → written f ≡ Ok b → parsed b ≡ Ok f
written_is_read f b tag e =
    let good : (field : Field) → GoodToWrite f field = good-where-done (GoodToWrite f) _ (first-bad-told.writing f) (done-where-told _ b e) in
    let bytes : AreBytes (block f) = block-bytes f good tag in
    let read-back : _ = done-is-told (parsed (block f)) (done-where-good (GoodToRead (block f)) _ (first-bad-told.reading (block f) bytes) (block-good f good)) in
    subst (λ (l : List ℕ). parsed l ≡ Ok f) (written_is_block f b e)
    (read-back.1 ∙ ap Ok ((comes_back.read (block f) read-back.0 bytes read-back.1).0 ∙ fields-recovered f good))

bit-weighed : (bit weight : ℕ) → bit ≤ 1 → match_bit (eqb bit 1) weight ≡ bit * weight
unfolding when◌then◌else◌
bit-weighed zero weight h = omega arith
bit-weighed (suc zero) weight h = omega arith
bit-weighed (suc (suc bit)) weight h = absurd (omega arith)

low-of-word : (low high : ℕ) → low < 256 → (low + 256 * high) % 256 ≡ low
low-of-word low high h = omega arith

high-of-word : (low high : ℕ) → low < 256 → (low + 256 * high) / 256 ≡ high
high-of-word low high h = omega arith

module _ (b : List ℕ) (bytes : AreBytes b) (good : (field : Field) → GoodToRead b field) where
  mng-recovered : mng_status (fields_in b) ≡ word_at b 6
  unfolding mng_status
  mng-recovered =
      let decision : _ = bit-weighed (get_or b 7 0 % 2) 256 (omega arith) in
      let vlan : _ = bit-weighed (get_or b 6 0 / 8 % 2) 8 (omega arith) in
      rw (decision, vlan) (sym (mng-packed (get_or b 6 0) (get_or b 7 0) (good MngReserved)))

  block-recovered : block (fields_in b) ≡ b
  unfolding block
  block-recovered =
      rw (
        mng-recovered,
        low-of-word (get_or b 0 0) (get_or b 1 0) (bytes 0),
        high-of-word (get_or b 0 0) (get_or b 1 0) (bytes 0),
        low-of-word (get_or b 4 0) (get_or b 5 0) (bytes 4),
        high-of-word (get_or b 4 0) (get_or b 5 0) (bytes 4),
        low-of-word (get_or b 6 0) (get_or b 7 0) (bytes 6),
        high-of-word (get_or b 6 0) (get_or b 7 0) (bytes 6),
      )
      (rw ((good PacketStatus).0, (good PacketStatus).1) at (all-elements 8 b (good BlockSize)))

  fields-good : (field : Field) → GoodToWrite (fields_in b) field
  fields-good BlockSize = tt
  fields-good Length = good Length
  fields-good PacketStatus = tt
  fields-good MngReserved = tt
  fields-good DecisionIndex = good DecisionIndex
  fields-good VlanIndex = good VlanIndex

read_is_written : (b : List ℕ) (f : Fields) → AreBytes b → parsed b ≡ Ok f → written f ≡ Ok b
read_is_written b f bytes e =
    let good : (field : Field) → GoodToRead b field = good-where-done (GoodToRead b) _ (first-bad-told.reading b bytes) (done-where-told _ f e) in
    let g : Fields = fields_in b in
    let written-back : _ = done-is-told (written g) (done-where-good (GoodToWrite g) _ (first-bad-told.writing g) (fields-good b bytes good)) in
    subst (λ (h : Fields). written h ≡ Ok b) (sym (comes_back.read b f bytes e).0)
    (written-back.1 ∙ ap Ok (sym (written_is_block g written-back.0 written-back.1) ∙ block-recovered b bytes good))

has-tag : (b : List ℕ) → AreBytes b → HasTag (fields_in b)
has-tag b bytes = omega (arith, bytes 4, bytes 5)

pub round_trip : RoundTrip
round_trip = record {
  written_is_read = written_is_read;
  read_is_written = read_is_written;
  read_iff_written = λ b bytes. (
    (λ done. let read-back : _ = done-is-told (parsed b) done in
        (read-back.0, subst HasTag (sym (comes_back.read b read-back.0 bytes read-back.1).0) (has-tag b bytes), read_is_written b read-back.0 bytes read-back.1)),
    (λ (f, tag, e). done-where-told _ f (written_is_read f b tag e)),
  );
}
