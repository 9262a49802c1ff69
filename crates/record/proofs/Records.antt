-- The records of some bytes, by what stands at their front or at a place of them.
-- Assumes nothing.
use Prim.Native.Nat.{ℕ, zero, suc, ◌+◌, ◌-◌, ◌≤◌, ◌<◌}
use mathlib.Core.Bool.{Bool, true, false}
use mathlib.Core.List.{List, [], ◌∷◌}
use mathlib.Core.Path.{◌≡◌, refl, ap, ◌∙◌}
use native.Mathlib.Nat.{le_of_suc-le-suc, not-suc-le-zero}
use native.Mathlib.Omega.{arith}
use lib.ListN.{length, drop}
use lib.Seq.{drop-drop}
use Rattle.std.specs.Prelude.{Result, Ok, Err, IfOk}
use Rattle.record.specs.Records.{Records, none, record_at, found_at, transaction_in, found_then, skipped_by, records_after, records_in}
use Rattle.record.specs.declared.Record.{Record}
use Rattle.record.specs.declared.Stop.{Stop}
use Rattle.record.specs.declared.Stop.TheVariants as stop
use Rattle.record.proofs.Found.{Tells, whole, bad-link, cut, found-tells, placed_if, found-placed}

-- what is skipped may as well be dropped
pub after-skip : (check : Bool) (n : ℕ) (bytes : List ℕ) → n ≤ length bytes → records_after check n bytes ≡ records_in check (drop n bytes)
unfolding records_after
after-skip check zero bytes h = refl
after-skip check (suc n) [] h = refl
after-skip check (suc n) (x ∷ rest) h = after-skip check n rest (le_of_suc-le-suc h)

-- the records of some bytes, by what stands at their front
abbrev pub by_front : (check : Bool) → List ℕ → Result Record Stop → Records
by_front check bytes (Err stop.Cut) = none false
by_front check bytes (Err stop.BadLink) = none true
by_front check bytes (Ok r) = found_then bytes (Ok r) (records_in check (drop r.next bytes))

pub records-by-front : (check : Bool) (bytes : List ℕ) → records_in check bytes ≡ by_front check bytes (found_at check bytes 0)
unfolding records_after
records-by-front check [] = by-found (found_at check [] 0) (found-tells check [] 0)
  where
    by-found : (f : Result Record Stop) → Tells check [] 0 f → none false ≡ by_front check [] f
    by-found _ (whole size w) = absurd (omega (arith, w.inside))
    by-found _ (bad-link b) = absurd (omega (arith, b.is-there))
    by-found _ (cut _) = refl
records-by-front check (byte ∷ rest) = by-found (found_at check (byte ∷ rest) 0) (found-tells check (byte ∷ rest) 0)
  where
    by-found : (f : Result Record Stop) → Tells check (byte ∷ rest) 0 f → found_then (byte ∷ rest) f (records_after check (skipped_by f) rest) ≡ by_front check (byte ∷ rest) f
    by-found _ (whole size w) =
        let r : Record = record_at check (byte ∷ rest) 0 size in
        let next : suc (r.next - 1) ≡ r.next = omega arith in
        ap (found_then (byte ∷ rest) (Ok r))
        (after-skip check (r.next - 1) rest (omega (arith, w.inside)) ∙ ap (λ (n : ℕ). records_in check (drop n (byte ∷ rest))) next)
    by-found _ (bad-link b) = refl
    by-found _ (cut _) = refl

-- the records from a place on, by what stands there
abbrev pub by_found : (check : Bool) → List ℕ → (at : ℕ) → Result Record Stop → Records
by_found check bytes at (Err stop.Cut) = none false
by_found check bytes at (Err stop.BadLink) = none true
by_found check bytes at (Ok r) =
    let later : Records = records_in check (drop r.next bytes) in
    record { transactions = transaction_in bytes r ∷ later.transactions; used = r.next - at + later.used; bad_link = later.bad_link }

pub records-by-found : (check : Bool) (bytes : List ℕ) (at : ℕ) → records_in check (drop at bytes) ≡ by_found check bytes at (found_at check bytes at)
records-by-found check bytes at =
    records-by-front check (drop at bytes) ∙ (by-placed (found_at check (drop at bytes) 0) ∙ ap (by_found check bytes at) (found-placed check bytes at))
  where
    by-placed : (f : Result Record Stop) → by_front check (drop at bytes) f ≡ by_found check bytes at (placed_if at f)
    by-placed (Ok r) =
        let size : at + r.end - (at + r.start) ≡ r.end - r.start = omega arith in
        let used : at + r.next - at ≡ r.next = omega arith in
        rw (size, used, ← drop-drop r.start at bytes, ← drop-drop r.next at bytes) refl
    by-placed (Err stop.Cut) = refl
    by-placed (Err stop.BadLink) = refl

-- where the parts of a whole record lie
pub record WholeAt (bytes : List ℕ) (at start end next : ℕ) : Type 0 where
  pub from : at < start
  pub forward : start ≤ end
  pub before-next : end ≤ next
  pub inside : next ≤ length bytes

pub whole-at : (check : Bool) (bytes : List ℕ) (at : ℕ) → IfOk (found_at check bytes at) (λ r. WholeAt bytes at r.start r.end r.next)
whole-at check bytes at = by-found (found_at check bytes at) (found-tells check bytes at)
  where
    by-found : (f : Result Record Stop) → Tells check bytes at f → IfOk f (λ r. WholeAt bytes at r.start r.end r.next)
    by-found _ (whole size w) = record { from = omega arith; forward = omega arith; before-next = omega arith; inside = omega (arith, w.inside) }
    by-found _ (bad-link b) = tt
    by-found _ (cut _) = tt

-- what is used is there, and more where a bad link byte comes next
pub record Within (skipped : ℕ) (bytes : List ℕ) (records : Records) : Type 0 where
  pub within : skipped + records.used ≤ length bytes
  pub left : records.bad_link ≡ true → skipped + records.used < length bytes

pub used-within : (check : Bool) (skipped : ℕ) (bytes : List ℕ) → skipped ≤ length bytes → Within skipped bytes (records_after check skipped bytes)
unfolding records_after
used-within check (suc skipped) [] h = absurd (not-suc-le-zero h)
used-within check (suc skipped) (byte ∷ rest) h =
    let w : Within skipped rest (records_after check skipped rest) = used-within check skipped rest (le_of_suc-le-suc h) in
    record { within = omega arith; left = λ e. omega (arith, w.left e) }
used-within check zero [] h = record { within = omega arith; left = λ e. absurd (cc) }
used-within check zero (byte ∷ rest) h = by-found (found_at check (byte ∷ rest) 0) (found-tells check (byte ∷ rest) 0) (used-within check (skipped_by (found_at check (byte ∷ rest) 0)) rest)
  where
    by-found : (f : Result Record Stop) → Tells check (byte ∷ rest) 0 f
        → (skipped_by f ≤ length rest → Within (skipped_by f) rest (records_after check (skipped_by f) rest))
        → Within zero (byte ∷ rest) (found_then (byte ∷ rest) f (records_after check (skipped_by f) rest))
    by-found _ (whole size w) later =
        let l : _ = later (omega (arith, w.inside)) in
        record { within = omega (arith, l.within); left = λ e. omega (arith, l.left e) }
    by-found _ (bad-link b) later = record { within = omega arith; left = λ _. omega (arith, b.is-there) }
    by-found _ (cut _) later = record { within = omega arith; left = λ e. absurd (cc) }
