-- Laws on a choice by a test, and `tests`, which closes a return of a chain of tests against a definition that tests in the same order.
-- Where a test is a call, its `ensures` goes into the list, turned round: `search (tests, sym c.is_allowed.ensures)`.
-- Assumes nothing.
use Prim.Native.Nat.{ℕ}
use mathlib.Core.Bool.{Bool, true, false}
use mathlib.Core.Path.{◌≡◌, refl, sym}
use lib.Dec.{eqb}
use borrow.Author.Rules.{rules}
use borrow.Author.Tests.{lt-ltb, le-ltb, le-leb, lt-leb, eq-eqb, ne_eqb, eqb-true, eqb-false, not-true, not-false}
use Rattle.prelude.specs.Choice.{when◌then◌else◌}

pub if-true : {A : Type 0} (t : Bool) (a b : A) → t ≡ true → (when t then a else b) ≡ a
unfolding when◌then◌else◌
if-true t a b h = rw h

pub if-false : {A : Type 0} (t : Bool) (a b : A) → t ≡ false → (when t then a else b) ≡ b
unfolding when◌then◌else◌
if-false t a b h = rw h

-- two choices by one test are equal where each is, as far as its test says so
pub if-congruence : {A : Type 0} (t : Bool) (a b c d : A) → (t ≡ true → a ≡ c) → (t ≡ false → b ≡ d) → (when t then a else b) ≡ (when t then c else d)
unfolding when◌then◌else◌
if-congruence true a b c d p q = p refl
if-congruence false a b c d p q = q refl

-- what ties the choices of two by one test ties the two
pub if-both : {A B : Type 0} (P : A → B → Type 0) (t : Bool) (a b : A) (c d : B) → (t ≡ true → P a c) → (t ≡ false → P b d) → P (when t then a else b) (when t then c else d)
unfolding when◌then◌else◌
if-both P true a b c d p q = p refl
if-both P false a b c d p q = q refl

-- what holds of both choices, each where its test says so, holds of the choice
pub if-cases : {A : Type 0} (P : A → Type 0) (t : Bool) (a b : A) → (t ≡ true → P a) → (t ≡ false → P b) → P (when t then a else b)
unfolding when◌then◌else◌
if-cases P true a b p q = p refl
if-cases P false a b p q = q refl

-- the parts of a test, where the whole holds
pub if-not-first : (t u : Bool) → (when t then false else u) ≡ true → t ≡ false
unfolding when◌then◌else◌
if-not-first true u h = sym h
if-not-first false u h = refl

pub if-not-second : (t u : Bool) → (when t then false else u) ≡ true → u ≡ true
unfolding when◌then◌else◌
if-not-second true true h = refl
if-not-second true false h = h
if-not-second false u h = h

pub if-first : (t u : Bool) → (when t then u else false) ≡ true → t ≡ true
unfolding when◌then◌else◌
if-first true u h = refl
if-first false u h = h

pub if-second : (t u : Bool) → (when t then u else false) ≡ true → u ≡ true
unfolding when◌then◌else◌
if-second true u h = h
if-second false true h = refl
if-second false false h = h

-- n is k, and k is not m
pub eqb-other : (n m k : ℕ) → n ≡ k → eqb k m ≡ false → eqb n m ≡ false
eqb-other n m k h e = rw h e

-- two tests of equality that hold together
pub eqb-iff : (a b c d : ℕ) → (a ≡ b → c ≡ d) → (c ≡ d → a ≡ b) → eqb a b ≡ eqb c d
eqb-iff a b c d to from = by-test (eqb a b) refl
  where
    by-test : (t : Bool) → eqb a b ≡ t → t ≡ eqb c d
    by-test true e = sym (eq-eqb c d (to (eqb-true a b e)))
    by-test false e = sym (ne_eqb c d (λ q. eqb-false a b e (from q)))

pub ruleset tests = (rules, if-true, if-false, lt-ltb, le-ltb, le-leb, lt-leb, eq-eqb, ne_eqb, eqb-other, not-true, not-false)
