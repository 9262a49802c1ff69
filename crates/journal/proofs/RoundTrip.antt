-- What is written is read as it was written, and nothing else is read.
-- Assumes nothing.
use Prim.Native.Nat.{ℕ, ◌≤◌}
use mathlib.Core.Bool.{Bool, true, false}
use mathlib.Core.List.{List, ◌++◌}
use mathlib.Core.Path.{◌≡◌, refl, sym, ap, subst, ◌∙◌}
use native.Mathlib.Omega.{arith}
use lib.Dec.{eqb}
use lib.ListN.{length, get_or, drop}
use lib.Seq.{take_all}
use borrow.Author.Tests.{eqb-true, le-ltb, eq-eqb}
use Rattle.std.specs.Prelude.{Option, Some, Result, Ok, Err, All}
use Rattle.prelude.specs.Choice.{when◌then◌else◌}
use Rattle.prelude.proofs.Lists.{by-elements}
use Rattle.prelude.proofs.Tests.{if-true, if-false, if-cases, if-first, if-second}
use Rattle.record.specs.Properties.{Writable}
use Rattle.record.specs.Records.{records_of, Records, records_in}
use Rattle.record.specs.Transaction.{Transaction}
use Rattle.record.proofs.RoundTrip.{round-trip}
use Rattle.state.specs.State.{max_maximum}
use Rattle.journal.specs.Format.{version_of, version_in, header_of, header_size, journal_of, is_named, check_for, header_for, header_in, Journal, bad, good, with_header, parsed}
use Rattle.journal.specs.Properties.{RoundTrip}
use Rattle.journal.specs.declared.header.Header.{Header}
use Rattle.journal.specs.declared.header.HeaderError.{HeaderError}
use Rattle.journal.proofs.Headers.{Good}
use Rattle.journal.proofs.Headers.{good as good-header}

-- the version that is written is read
written-version : (check : Bool) → check_for (version_of check) ≡ Some check
unfolding check_for when◌then◌else◌
written-version true = refl
written-version false = refl

written_is_read : (h : Header) (transactions : List Transaction) → 1 ≤ h.maximum → h.maximum ≤ max_maximum → All (Writable h.check) transactions → parsed (journal_of h transactions) ≡ good h transactions
unfolding parsed header_in is_named header_for when◌then◌else◌
written_is_read h transactions least most each =
    ap (λ (r : Result Header HeaderError). with_header r (records_of h.check transactions)) read
    ∙ (ap (λ (r : Records). when eqb r.used (length (records_of h.check transactions)) then good h r.transactions else bad) ((round-trip h.check).written_is_read transactions each)
    ∙ if-true (eqb size size) (good h transactions) bad (eq-eqb size size refl))
  where
    size : ℕ
    size = length (records_of h.check transactions)

    long : header_size ≤ length (journal_of h transactions)
    long = omega arith

    version : version_in (journal_of h transactions) ≡ version_of h.check
    version = omega arith

    read : header_in (journal_of h transactions) ≡ Ok h
    read =
        if-false _ _ _ (le-ltb _ _ long)
        ∙ (ap (λ (n : ℕ). header_for (check_for n) h.maximum) version
        ∙ (ap (λ (check : Option Bool). header_for check h.maximum) (written-version h.check)
        ∙ (if-false _ _ _ (le-ltb h.maximum 1 least) ∙ if-false _ _ _ (le-ltb max_maximum h.maximum most))))

-- a good header, written again
header-rewritten : (bytes : List ℕ) (h : Header) → Good bytes h → bytes ≡ header_of h ++ drop header_size bytes
unfolding is_named
header-rewritten bytes h g =
    let t : is_named bytes ≡ true = g.named in
    let t1 : _ = if-second _ _ t in
    by-elements header_size bytes g.long
    ∙ rw (eqb-true (get_or bytes 0 0) 0x54 (if-first _ _ t), eqb-true (get_or bytes 1 0) 0x43 (if-first _ _ t1), eqb-true (get_or bytes 2 0) 0x4F (if-second _ _ t1), low h.check g.version, high h.check g.version, g.has) refl
  where
    low : (check : Bool) → version_in bytes ≡ version_of check → get_or bytes 3 0 ≡ version_of check
    low true e = omega arith
    low false e = omega arith

    high : (check : Bool) → version_in bytes ≡ version_of check → get_or bytes 4 0 ≡ 0
    high true e = omega arith
    high false e = omega arith

read_was_written : (bytes : List ℕ) (h : Header) (transactions : List Transaction) → parsed bytes ≡ good h transactions
    → (bytes ≡ journal_of h transactions) × (1 ≤ h.maximum) × (h.maximum ≤ max_maximum) × All (Writable h.check) transactions
unfolding parsed
read_was_written bytes h transactions = by-header (header_in bytes) refl
  where
    Told : Type 0
    Told = (bytes ≡ journal_of h transactions) × (1 ≤ h.maximum) × (h.maximum ≤ max_maximum) × All (Writable h.check) transactions

    rest : List ℕ
    rest = drop header_size bytes

    -- of the header that was found
    told-of : (found : Header) → Good bytes found → (records_in found.check rest).used ≡ length rest → found ≡ h → (records_in found.check rest).transactions ≡ transactions → Told
    told-of found g used same ts =
        let records : Records = records_in found.check rest in
        let least : 1 ≤ h.maximum = subst (λ (k : Header). 1 ≤ k.maximum) same g.least in
        let most : h.maximum ≤ max_maximum = subst (λ (k : Header). k.maximum ≤ max_maximum) same g.most in
        let all : records_of found.check records.transactions ≡ rest = (round-trip found.check).read_was_written rest ∙ take_all records.used rest (omega arith) in (
          header-rewritten bytes found g
              ∙ (ap (λ (l : List ℕ). header_of found ++ l) (sym all)
              ∙ (ap (λ (k : Header). journal_of k records.transactions) same ∙ ap (journal_of h) ts)),
          least,
          most,
          subst (λ (k : Header). All (Writable k.check) transactions) same (subst (All (Writable found.check)) ts ((round-trip found.check).read_is_writable rest)),
        )

    by-header : (r : Result Header HeaderError) → header_in bytes ≡ r → with_header r rest ≡ good h transactions → Told
    by-header (Err why) e = λ same. cc
    by-header (Ok found) e =
        if-cases (λ (j : Journal). j ≡ good h transactions → Told) _ _ _
        (λ all same.
        let h-is : found ≡ h = cc in
        let ts : (records_in found.check rest).transactions ≡ transactions = cc in
        told-of found (good-header bytes found e) (eqb-true _ _ all) h-is ts)
        (λ _ same. cc)

pub round_trip : RoundTrip
round_trip = record { written_is_read = written_is_read; read_was_written = read_was_written }
