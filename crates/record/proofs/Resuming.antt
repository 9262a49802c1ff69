-- Records of bytes that come in two parts.
-- Assumes nothing.
use Prim.Native.Nat.{ℕ, zero, suc, ◌+◌, ◌-◌, ◌≤◌}
use mathlib.Core.Bool.{Bool, true, false}
use mathlib.Core.List.{List, [], ◌∷◌, ◌++◌}
use mathlib.Core.Path.{◌≡◌, refl, sym, ap, ◌∙◌}
use native.Mathlib.Nat.{le_of_suc-le-suc, not-suc-le-zero, zero-add, suc-add, add_assoc}
use native.Mathlib.Omega.{arith}
use lib.ListN.{length, drop, length-drop}
use lib.Seq.{drop-append-le, take-append-le}
use Rattle.std.specs.Prelude.{Result, Ok}
use Rattle.prelude.specs.Choice.{when◌then◌else◌}
use Rattle.prelude.proofs.Tests.{if-true, if-false}
use Rattle.record.specs.Records.{Records, none, record_at, found_at, transaction_in, found_then, skipped_by, records_after, records_in}
use Rattle.record.specs.Transaction.{Transaction}
use Rattle.record.specs.declared.Record.{Record}
use Rattle.record.specs.declared.Stop.{Stop}
use Rattle.record.proofs.Found.{Whole, whole-found, bad-link-found, record-append, whole-append, bad-link-append, Tells, whole, bad-link, cut, found-tells}

-- records and then more, unless a bad link byte ends them
abbrev pub and_then : Records → Records → Records
and_then s t =
    when s.bad_link then s else
    record { transactions = s.transactions ++ t.transactions; used = s.used + t.used; bad_link = t.bad_link }

nothing_then : (t : Records) → and_then (none false) t ≡ t
unfolding when◌then◌else◌
nothing_then t = ap (λ (n : ℕ). record { transactions = t.transactions; used = n; bad_link = t.bad_link }) (zero-add t.used)

-- a record, and those behind it
abbrev one : List ℕ → Record → Records → Records
one bytes r later = found_then bytes (Ok r) later

one_then : (bytes : List ℕ) (r : Record) (s t : Records) → and_then (one bytes r s) t ≡ one bytes r (and_then s t)
one_then bytes r s t = by-test s.bad_link refl
  where
    by-test : (b : Bool) → s.bad_link ≡ b → and_then (one bytes r s) t ≡ one bytes r (and_then s t)
    by-test true e = if-true _ _ _ e ∙ ap (one bytes r) (sym (if-true _ _ _ e))
    by-test false e =
        if-false _ _ _ e
        ∙ (ap (λ (n : ℕ). record { transactions = transaction_in bytes r ∷ s.transactions ++ t.transactions; used = n; bad_link = t.bad_link }) (add_assoc r.next s.used t.used)
        ∙ ap (one bytes r) (sym (if-false _ _ _ e)))

-- the records of a part, and then those of what it leaves with more bytes behind it
abbrev resumed : (check : Bool) → ℕ → List ℕ → List ℕ → Records → Records
resumed check skipped part more s = and_then s (records_in check (drop (skipped + s.used) part ++ more))

-- a record that is whole already holds the same data where more bytes come
transaction-stays : (check : Bool) (part more : List ℕ) (size : ℕ) → Whole check part 0 size
    → transaction_in (part ++ more) (record_at check part 0 size) ≡ transaction_in part (record_at check part 0 size)
transaction-stays check part more size w =
    let r : Record = record_at check part 0 size in
    let room : r.end - r.start ≤ length (drop r.start part) = rw length-drop (omega (arith, w.inside)) in
    rw (drop-append-le r.start part more (omega (arith, w.inside)), take-append-le (r.end - r.start) (drop r.start part) more room) refl

pub records-append : (check : Bool) (skipped : ℕ) (part more : List ℕ) → skipped ≤ length part → records_after check skipped (part ++ more) ≡ resumed check skipped part more (records_after check skipped part)
unfolding records_after
records-append check (suc skipped) [] more h = absurd (not-suc-le-zero h)
records-append check (suc skipped) (byte ∷ rest) more h = rw (suc-add skipped) (records-append check skipped rest more (le_of_suc-le-suc h))
records-append check zero [] more h = sym (nothing_then (records_in check more))
records-append check zero (byte ∷ rest) more h = by-found (found_at check part 0) (found-tells check part 0) (records-append check (skipped_by (found_at check part 0)) rest more)
  where
    part : List ℕ
    part = byte ∷ rest

    Later : Result Record Stop → Type 0
    Later f = skipped_by f ≤ length rest → records_after check (skipped_by f) (rest ++ more) ≡ resumed check (skipped_by f) rest more (records_after check (skipped_by f) rest)

    by-found : (f : Result Record Stop) → Tells check part 0 f → Later f
        → records_in check (part ++ more) ≡ resumed check 0 part more (found_then part f (records_after check (skipped_by f) rest))
    by-found _ (whole size w) later =
        let r : Record = record_at check part 0 size in
        let more-records : Records = records_after check (r.next - 1) (rest ++ more) in
        let these : Records = records_after check (r.next - 1) rest in
        let place : suc (r.next - 1 + these.used) ≡ 0 + (r.next + these.used) = omega arith in
        ap (λ (f : Result Record Stop). found_then (part ++ more) f (records_after check (skipped_by f) (rest ++ more)))
        (whole-found check (part ++ more) 0 size (whole-append check part more 0 size w) ∙ ap (λ (q : Record). Ok q) (record-append check part more 0 size w.inside))
        ∙ (ap (λ (t : Transaction). record { transactions = t ∷ more-records.transactions; used = r.next + more-records.used; bad_link = more-records.bad_link }) (transaction-stays check part more size w)
        ∙ (ap (one part r) (later (omega (arith, w.inside)))
        ∙ (sym (one_then part r these (records_in check (drop (r.next - 1 + these.used) rest ++ more)))
        ∙ ap (λ (n : ℕ). and_then (one part r these) (records_in check (drop n part ++ more))) place)))
    by-found _ (bad-link b) later =
        ap (λ (f : Result Record Stop). found_then (part ++ more) f (records_after check (skipped_by f) (rest ++ more)))
        (bad-link-found check (part ++ more) 0 (bad-link-append check part more 0 b))
        ∙ sym (if-true _ _ _ refl)
    by-found _ (cut _) later = sym (nothing_then (records_in check (part ++ more)))
