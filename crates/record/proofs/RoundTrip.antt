-- What is written is read as it was written, and what is read is what was written.
-- Assumes nothing.
use Prim.Native.Nat.{ℕ, zero, suc, ◌+◌, ◌-◌, ◌≤◌, zero-le}
use mathlib.Core.Bool.{Bool, true, false}
use mathlib.Core.List.{List, [], ◌∷◌, ◌++◌, append_assoc}
use mathlib.Core.Path.{◌≡◌, refl, sym, ap, subst, ◌∙◌}
use native.Mathlib.Nat.{le_of_suc-le-suc, not-suc-le-zero}
use native.Mathlib.Omega.{arith}
use lib.Dec.{eqb}
use lib.ListN.{length, take, drop, length-append}
use lib.Seq.{length-take-le, take-add, take-append_seam, drop-append_seam, drop-append-add, get_or-append_seam}
use Rattle.std.specs.Prelude.{Result, Ok, All}
use Rattle.std.proofs.Math.Seq.{take-suc}
use Rattle.std.proofs.lemmas.List.Elements.{All-nil, All-cons}
use Rattle.record.specs.Properties.{Writable, RoundTrip}
use Rattle.record.specs.Records.{link_byte, record_of, records_of, Records, none, record_at, found_at, transaction_in, found_then, skipped_by, records_after, records_in}
use Rattle.record.specs.Transaction.{Transaction}
use Rattle.record.specs.declared.Record.{Record}
use Rattle.record.specs.declared.Stop.{Stop}
use Rattle.record.proofs.Found.{Whole, whole-found, Tells, whole, bad-link, cut, found-tells}
use Rattle.record.proofs.Records.{by_front, records-by-front}

link-low : (b : Bool) → link_byte b ≤ 1
link-low true = omega arith
link-low false = omega arith

link-read : (b : Bool) → eqb (link_byte b) 1 ≡ b
link-read true = refl
link-read false = refl

-- a record that was written, whatever stands behind it
module _ (t : Transaction) (more : List ℕ) where
  written-whole : (check : Bool) → Whole check (record_of check t ++ more) 0 (length t.bytes)
  written-whole false = record { link-low = link-low t.link_up; size-is = refl; inside = omega (arith, length-append t.bytes more) }
  written-whole true =
      record { link-low = link-low t.link_up; size-is = refl; inside = simp length-append (omega arith) }

  -- the transaction that it is read as
  abbrev read_as : (check : Bool) → Transaction
  read_as check = transaction_in (record_of check t ++ more) (record_at check (record_of check t ++ more) 0 (length t.bytes))

  -- the same but for address and code
  abbrev with_codes : (address code : ℕ) → Transaction
  with_codes address code = record { address = address; command = t.command; bytes = t.bytes; code = code; link_up = t.link_up }

  behind : (t.bytes ++ t.code ∷ []) ++ more ≡ t.bytes ++ t.code ∷ more
  behind = append_assoc t.bytes (t.code ∷ []) more

  written-read : (check : Bool) → Writable check t → read_as check ≡ t
  written-read false (no-address, no-code) =
      let size : 0 + 3 + length t.bytes - (0 + 3) ≡ length t.bytes = omega arith in
      rw (size, take-append_seam t.bytes more, link-read t.link_up)
      (ap (λ (n : ℕ). with_codes n 0) (sym no-address) ∙ ap (with_codes t.address) (sym no-code))
  written-read true w =
      let size : 0 + 4 + length t.bytes - (0 + 4) ≡ length t.bytes = omega arith in
      let code : 0 + 4 + length t.bytes ≡ suc (suc (suc (suc (length t.bytes)))) = omega arith in
      rw (size, behind, take-append_seam t.bytes (t.code ∷ more), link-read t.link_up, code, get_or-append_seam t.bytes t.code more 0) refl

  written-next : (check : Bool) → drop (record_at check (record_of check t ++ more) 0 (length t.bytes)).next (record_of check t ++ more) ≡ more
  written-next false =
      let next : 0 + 3 + length t.bytes + 0 ≡ suc (suc (suc (length t.bytes))) = omega arith in
      rw next (drop-append_seam t.bytes more)
  written-next true =
      let next : 0 + 4 + length t.bytes + 1 ≡ suc (suc (suc (suc (length t.bytes + 1)))) = omega arith in
      rw (next, behind) (drop-append-add t.bytes (t.code ∷ more) 1)

  written-size : (check : Bool) → (record_at check (record_of check t ++ more) 0 (length t.bytes)).next + length more ≡ length (record_of check t ++ more)
  written-size false = omega (arith, length-append t.bytes more)
  written-size true = rw behind (omega (arith, length-append t.bytes (t.code ∷ more)))

-- all that is read of records that were written
abbrev all_of : (check : Bool) → List Transaction → Records
all_of check transactions = record { transactions = transactions; used = length (records_of check transactions); bad_link = false }

records-written : (check : Bool) (transactions : List Transaction) → All (Writable check) transactions → records_in check (records_of check transactions) ≡ all_of check transactions
unfolding records_after
records-written check [] each = refl
records-written check (t ∷ rest) each =
    let more : List ℕ = records_of check rest in
    let bytes : List ℕ = record_of check t ++ more in
    let r : Record = record_at check bytes 0 (length t.bytes) in
    records-by-front check bytes
    ∙ (ap (by_front check bytes) (whole-found check bytes 0 (length t.bytes) (written-whole t more check))
    ∙ (ap (found_then bytes (Ok r)) (ap (records_in check) (written-next t more check) ∙ records-written check rest (λ k d l. each (suc k) d (omega arith)))
    ∙ (ap (λ (u : Transaction). record { transactions = u ∷ rest; used = r.next + length more; bad_link = false }) (written-read t more check (each 0 t (omega arith)))
    ∙ ap (λ (n : ℕ). record { transactions = t ∷ rest; used = n; bad_link = false }) (written-size t more check))))

-- a link byte that was read is what is written for it
link-written : (link : ℕ) → link ≤ 1 → link_byte (eqb link 1) ≡ link
link-written zero low = refl
link-written (suc zero) low = refl
link-written (suc (suc link)) low = absurd (omega arith)

-- a record that was read, written again
record-rewritten : (check : Bool) (bytes : List ℕ) (size : ℕ) → Whole check bytes 0 size
    → record_of check (transaction_in bytes (record_at check bytes 0 size)) ≡ take (record_at check bytes 0 size).next bytes
record-rewritten false (command ∷ link ∷ count ∷ rest) size w =
    let data-size : 0 + 3 + size - (0 + 3) ≡ size = omega arith in
    let next : 0 + 3 + size + 0 ≡ suc (suc (suc size)) = omega arith in
    let long : length (take size rest) ≡ count = length-take-le size rest (omega (arith, w.inside)) ∙ sym w.size-is in
    rw (data-size, next, link-written link w.link-low, long) refl
record-rewritten true (address ∷ command ∷ link ∷ count ∷ rest) size w =
    let data-size : 0 + 4 + size - (0 + 4) ≡ size = omega arith in
    let code : 0 + 4 + size ≡ suc (suc (suc (suc size))) = omega arith in
    let next : 0 + 4 + size + 1 ≡ suc (suc (suc (suc (suc size)))) = omega arith in
    let long : length (take size rest) ≡ count = length-take-le size rest (omega (arith, w.inside)) ∙ sym w.size-is in
    rw (data-size, next, code, link-written link w.link-low, long)
    (ap (λ (l : List ℕ). address ∷ command ∷ link ∷ count ∷ l) (sym (take-suc rest size 0 (omega (arith, w.inside)))))
record-rewritten false [] size w = absurd (omega (arith, w.inside))
record-rewritten false (command ∷ []) size w = absurd (omega (arith, w.inside))
record-rewritten false (command ∷ link ∷ []) size w = absurd (omega (arith, w.inside))
record-rewritten true [] size w = absurd (omega (arith, w.inside))
record-rewritten true (address ∷ []) size w = absurd (omega (arith, w.inside))
record-rewritten true (address ∷ command ∷ []) size w = absurd (omega (arith, w.inside))
record-rewritten true (address ∷ command ∷ link ∷ []) size w = absurd (omega (arith, w.inside))

-- and it can be written
read-writable : (check : Bool) (bytes : List ℕ) (size : ℕ) → Writable check (transaction_in bytes (record_at check bytes 0 size))
read-writable false bytes size = (refl, refl)
read-writable true bytes size = tt

-- records of some bytes are those bytes, and can be written
record Rewritten (check : Bool) (bytes : List ℕ) (records : Records) : Type 0 where
  same_bytes : records_of check records.transactions ≡ take records.used bytes
  writable : All (Writable check) records.transactions

none-rewritten : (check : Bool) (bytes : List ℕ) (bad : Bool) → Rewritten check bytes (none bad)
none-rewritten check bytes bad = record { same_bytes = refl; writable = All-nil (Writable check) }

-- a record, and those behind it
one-rewritten : (check : Bool) (bytes : List ℕ) (size : ℕ) → Whole check bytes 0 size → (later : Records)
    → Rewritten check (drop (record_at check bytes 0 size).next bytes) later → Rewritten check bytes (found_then bytes (Ok (record_at check bytes 0 size)) later)
one-rewritten check bytes size w later rest =
    let r : Record = record_at check bytes 0 size in
    record {
      same_bytes =
          ap (λ (front : List ℕ). front ++ records_of check later.transactions) (record-rewritten check bytes size w)
          ∙ (ap (λ (behind : List ℕ). take r.next bytes ++ behind) rest.same_bytes ∙ sym (take-add r.next later.used bytes));
      writable = All-cons (Writable check) (transaction_in bytes r) later.transactions (read-writable check bytes size) rest.writable;
    }

records-rewritten : (check : Bool) (skipped : ℕ) (bytes : List ℕ) → skipped ≤ length bytes → Rewritten check (drop skipped bytes) (records_after check skipped bytes)
unfolding records_after
records-rewritten check (suc skipped) [] h = absurd (not-suc-le-zero h)
records-rewritten check (suc skipped) (byte ∷ rest) h = records-rewritten check skipped rest (le_of_suc-le-suc h)
records-rewritten check zero [] h = none-rewritten check [] false
records-rewritten check zero (byte ∷ rest) h =
    by-found (found_at check bytes 0) (found-tells check bytes 0) (records-rewritten check (skipped_by (found_at check bytes 0)) rest)
  where
    bytes : List ℕ
    bytes = byte ∷ rest

    by-found : (f : Result Record Stop) → Tells check bytes 0 f
        → (skipped_by f ≤ length rest → Rewritten check (drop (skipped_by f) rest) (records_after check (skipped_by f) rest))
        → Rewritten check bytes (found_then bytes f (records_after check (skipped_by f) rest))
    by-found _ (whole size w) later =
        let r : Record = record_at check bytes 0 size in
        let behind : Records = records_after check (r.next - 1) rest in
        let next : suc (r.next - 1) ≡ r.next = omega arith in
        one-rewritten check bytes size w behind (subst (λ (n : ℕ). Rewritten check (drop n bytes) behind) next (later (omega (arith, w.inside))))
    by-found _ (bad-link b) later = none-rewritten check bytes true
    by-found _ (cut _) later = none-rewritten check bytes false

pub round-trip : (check : Bool) → RoundTrip check
round-trip check =
    record {
      written_is_read = records-written check;
      read_was_written = λ bytes. (records-rewritten check 0 bytes zero-le).same_bytes;
      read_is_writable = λ bytes. (records-rewritten check 0 bytes zero-le).writable;
    }
