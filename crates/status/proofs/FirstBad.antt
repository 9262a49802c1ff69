-- The field told is the first that is bad.
-- Assumes nothing.
use Prim.Native.Nat.{ℕ, zero, suc, ◌+◌, ◌*◌, ◌/◌, ◌%◌, ◌<◌, ◌≤◌}
use mathlib.Core.Bool.{Bool, true, false, not, true≢false, false≢true}
use mathlib.Core.List.{List}
use mathlib.Core.Path.{◌≡◌, refl, sym, subst}
use native.Mathlib.Omega.{arith}
use lib.Dec.{eqb, ltb}
use lib.ListN.{length, get_or}
use borrow.Author.Count.{below_none, below_more}
use borrow.Author.Tests.{ltb-true, ltb-false, eqb-true, eqb-false, not-true, not-false}
use Rattle.std.specs.Prelude.{Result, Ok, Err, IsOk}
use Rattle.prelude.specs.Parts.{AreBytes}
use Rattle.prelude.specs.Choice.{when◌then◌else◌}
use Rattle.prelude.proofs.Tests.{if-cases}
use Rattle.status.specs.declared.Fields.{Fields}
use Rattle.status.specs.declared.judge.Field.{Field}
use Rattle.status.specs.declared.judge.Field.TheVariants.{BlockSize, Length, PacketStatus, MngReserved, DecisionIndex, VlanIndex}
use Rattle.status.specs.Judged.{field_number, number_of, bad_field_number, max_length, packet_status, max_decision_index, max_vlan_index, bad_length, bad_index, judged}
use Rattle.status.specs.Block.{told, block, word_at, mng_reserved, fields_at, judged_block, parsed, written}
use Rattle.status.specs.Properties.{fields_in, GoodIndex, GoodToWrite, GoodToRead, in_order, field_at, TellsFirstBad, FirstBadTold}

-- the statement, of an answer
abbrev Tells : (Field → Type 0) → {A : Type 0} → Result A Field → Type 0
Tells Good answer = TellsFirstBad Good (number_of answer) (bad_field_number answer)

-- a test that says whether something is bad
record Tests (bad : Bool) (Good : Type 0) : Type 0 where
  refuses : bad ≡ true → Good → ⊥
  passes : bad ≡ false → Good

module _ (Good : Field → Type 0) where
  abbrev UpTo : ℕ → Type 0
  UpTo place = (earlier : ℕ) → earlier < place → Good (field_at earlier)

  first-bad : (field : Field) (place : ℕ) → field_number field ≡ suc place → place < length in_order → (Good (field_at place) → ⊥) → UpTo place → Tells Good {A = Unit} (Err field)
  first-bad field place number within bad before =
      let fifteen : number_of {A = Unit} (Err field) ≡ 15 = omega arith in
      subst (TellsFirstBad Good (number_of {A = Unit} (Err field))) (sym number) (fifteen, within, bad, before)

  -- a test in its place, before others
  at_place : (field : Field) (place : ℕ) (bad : Bool) (rest : Result Unit Field) → field_number field ≡ suc place → place < length in_order → Tests bad (Good (field_at place)) → UpTo place
      → (UpTo (place + 1) → Tells Good rest)
      → Tells Good (when bad then Err field else rest)
  at_place field place bad rest number within tests before after =
      if-cases (Tells Good) bad (Err field) rest
      (λ e. first-bad field place number within (tests.refuses e) before)
      (λ e. after (below_more (λ (p : ℕ). Good (field_at p)) place before (tests.passes e)))

  -- a chain of tests, each for its own field
  judged-tells : (f : Fields) (status reserved : ℕ) → Good BlockSize
      → Tests (bad_length f.length) (Good Length)
      → Tests (not (eqb status packet_status)) (Good PacketStatus)
      → Tests (ltb 0 reserved) (Good MngReserved)
      → Tests (bad_index f.decision_match f.decision_index max_decision_index) (Good DecisionIndex)
      → Tests (bad_index f.vlan_match f.vlan_index max_vlan_index) (Good VlanIndex)
      → Tells Good (judged f status reserved)
  unfolding judged
  judged-tells f status reserved size length packet-status mng-reserved decision vlan =
      at_place Length 1 _ _ (omega arith) (omega arith) length (below_more (λ (p : ℕ). Good (field_at p)) 0 (below_none _) size)
      (λ a. at_place PacketStatus 2 _ _ (omega arith) (omega arith) packet-status a
      (λ b. at_place MngReserved 3 _ _ (omega arith) (omega arith) mng-reserved b
      (λ c. at_place DecisionIndex 4 _ _ (omega arith) (omega arith) decision c
      (λ d. at_place VlanIndex 5 _ _ (omega arith) (omega arith) vlan d
      (λ e. (refl, e))))))

  -- with what was asked for, where no field is bad
  told-tells : {A : Type 0} (answer : Result Unit Field) (a : A) → Tells Good answer → Tells Good (told answer a)
  unfolding told
  told-tells (Ok _) a tells = tells
  told-tells (Err field) a tells = tells

length-tested : (length : ℕ) → Tests (bad_length length) ((1 ≤ length) × (length ≤ 1536))
unfolding bad_length
length-tested length =
    if-cases (λ (t : Bool). Tests t ((1 ≤ length) × (length ≤ 1536))) (ltb length 1) true (ltb max_length length)
    (λ e. record { refuses = λ _ good. omega (arith, ltb-true length 1 e); passes = λ n. absurd (true≢false n) })
    (λ e. record { refuses = λ d good. omega (arith, ltb-true max_length length d); passes = λ d. (ltb-false length 1 e, omega (arith, ltb-false max_length length d)) })

index-tested : (matched : Bool) (index max : ℕ) → max ≡ 7 → Tests (bad_index matched index max) (GoodIndex matched index)
unfolding bad_index when◌then◌else◌
index-tested true index max seven =
    record { refuses = λ e good. omega (arith, ltb-true max index e, good.0); passes = λ e. (omega (arith, ltb-false max index e), λ n. absurd (true≢false n)) }
index-tested false index max seven =
    record { refuses = λ e good. omega (arith, ltb-true 0 index e, good.1 refl); passes = λ e. (omega (arith, ltb-false 0 index e), λ _. omega (arith, ltb-false 0 index e)) }

packet-status-tested : (low high : ℕ) → low < 256 → Tests (not (eqb (low + 256 * high) packet_status)) ((low ≡ 0x01) × (high ≡ 0x00))
packet-status-tested low high small =
    record {
      refuses = λ e good. eqb-false (low + 256 * high) packet_status (not-true _ e) (omega (arith, good.0, good.1));
      passes = λ e. let one : low + 256 * high ≡ packet_status = eqb-true (low + 256 * high) packet_status (not-false _ e) in (omega arith, omega arith);
    }

reserved-tested : (low high : ℕ) → low < 256 → Tests (ltb 0 (mng_reserved (low + 256 * high))) (high ≤ 1)
reserved-tested low high small =
    record {
      refuses = λ e good. omega (arith, ltb-true 0 (mng_reserved (low + 256 * high)) e);
      passes = λ e. omega (arith, ltb-false 0 (mng_reserved (low + 256 * high)) e);
    }

-- what is always good
never-bad : {Good : Type 0} → Good → Tests false Good
never-bad good = record { refuses = λ e. absurd (false≢true e); passes = λ _. good }

writing : (f : Fields) → Tells (GoodToWrite f) (written f)
unfolding written
writing f =
    told-tells (GoodToWrite f) _ (block f) (judged-tells (GoodToWrite f) f packet_status 0 tt (length-tested f.length) (never-bad tt) (never-bad tt)
    (index-tested f.decision_match f.decision_index max_decision_index (omega arith))
    (index-tested f.vlan_match f.vlan_index max_vlan_index (omega arith)))

-- the fields of a block in words are those in its bytes
pub words-are-bytes : (b : List ℕ) → AreBytes b → fields_at b ≡ fields_in b
words-are-bytes b bytes =
    let low : get_or b 6 0 < 256 = bytes 6 in
    let high : get_or b 7 0 < 256 = bytes 7 in
    let vlan : word_at b 4 ≡ get_or b 4 0 + 256 * get_or b 5 0 = omega arith in
    let decision-match : (get_or b 6 0 + 256 * get_or b 7 0) / 256 % 2 ≡ get_or b 7 0 % 2 = omega arith in
    let decision-index : (get_or b 6 0 + 256 * get_or b 7 0) / 16 % 16 ≡ get_or b 6 0 / 16 = omega arith in
    let vlan-match : (get_or b 6 0 + 256 * get_or b 7 0) / 8 % 2 ≡ get_or b 6 0 / 8 % 2 = omega arith in
    let vlan-index : (get_or b 6 0 + 256 * get_or b 7 0) % 8 ≡ get_or b 6 0 % 8 = omega arith in
    λ i. record {
      length = word_at b 0;
      vlan = vlan i;
      decision_match = eqb (decision-match i) 1;
      decision_index = decision-index i;
      vlan_match = eqb (vlan-match i) 1;
      vlan_index = vlan-index i;
    }

reading : (b : List ℕ) → AreBytes b → Tells (GoodToRead b) (parsed b)
unfolding parsed judged_block
reading b bytes =
    told-tells (GoodToRead b) _ (fields_at b)
    (if-cases (Tells (GoodToRead b)) (eqb (length b) 8) _ _
    (λ e. subst (λ (f : Fields). Tells (GoodToRead b) (judged f (word_at b 2) (mng_reserved (word_at b 6)))) (sym (words-are-bytes b bytes))
    (judged-tells (GoodToRead b) (fields_in b) (word_at b 2) (mng_reserved (word_at b 6)) (eqb-true (length b) 8 e)
    (length-tested (fields_in b).length)
    (packet-status-tested (get_or b 2 0) (get_or b 3 0) (bytes 2))
    (reserved-tested (get_or b 6 0) (get_or b 7 0) (bytes 6))
    (index-tested (fields_in b).decision_match (fields_in b).decision_index max_decision_index (omega arith))
    (index-tested (fields_in b).vlan_match (fields_in b).vlan_index max_vlan_index (omega arith))))
    (λ e. first-bad (GoodToRead b) BlockSize 0 (omega arith) (omega arith) (eqb-false (length b) 8 e) (below_none _)))

pub first-bad-told : FirstBadTold
first-bad-told = record { numbered = refl; writing = writing; reading = reading }

-- every field has its place
every-field : (Good : Field → Type 0) → ((place : ℕ) → place < length in_order → Good (field_at place)) → (field : Field) → Good field
every-field Good good BlockSize = good 0 (omega arith)
every-field Good good Length = good 1 (omega arith)
every-field Good good PacketStatus = good 2 (omega arith)
every-field Good good MngReserved = good 3 (omega arith)
every-field Good good DecisionIndex = good 4 (omega arith)
every-field Good good VlanIndex = good 5 (omega arith)

-- nothing is refused exactly where every field is good
pub good-where-done : (Good : Field → Type 0) {A : Type 0} (answer : Result A Field) → Tells Good answer → IsOk answer → (field : Field) → Good field
good-where-done Good (Ok _) tells done = every-field Good tells.1
good-where-done Good (Err field) tells done = absurd (false≢true done)

pub done-where-good : (Good : Field → Type 0) {A : Type 0} (answer : Result A Field) → Tells Good answer → ((field : Field) → Good field) → IsOk answer
done-where-good Good (Ok _) tells good = refl
done-where-good Good (Err field) tells good = absurd (by_number (field_number field) tells)
  where
    by_number : (number : ℕ) → TellsFirstBad Good 15 number → ⊥
    by_number zero (answer, _) = absurd (omega arith)
    by_number (suc place) (_, _, bad, _) = bad (good (field_at place))
