-- What a header says, good, bad or cut.
-- Assumes nothing.
use Prim.Native.Nat.{ℕ, ◌≤◌, ◌<◌}
use mathlib.Core.Bool.{Bool, true, false}
use mathlib.Core.List.{List}
use mathlib.Core.Path.{◌≡◌, refl, ap, ◌∙◌}
use native.Mathlib.Omega.{arith}
use lib.ListN.{length, get_or}
use borrow.Author.Tests.{ltb-true, ltb-false, eqb-true}
use Rattle.std.specs.Prelude.{Option, None, Some, Result, Ok, Err}
use Rattle.prelude.proofs.Tests.{if-cases}
use Rattle.state.specs.State.{max_maximum}
use Rattle.journal.specs.Format.{version_of, maximum_at, header_size, is_named, version_in, check_for, header_for, header_in}
use Rattle.journal.specs.declared.header.Header.{Header}
use Rattle.journal.specs.declared.header.HeaderError.{HeaderError}
use Rattle.journal.specs.declared.header.HeaderError.TheVariants as error

-- the version is that of the check
version-is : (version : ℕ) (check : Bool) → check_for version ≡ Some check → version ≡ version_of check
unfolding check_for
version-is version check =
    if-cases P _ _ _ (λ one e. let off : false ≡ check = cc in eqb-true _ _ one ∙ ap version_of off)
    (λ _. if-cases P _ _ _ (λ two e. let on : true ≡ check = cc in eqb-true _ _ two ∙ ap version_of on) (λ _ e. cc))
  where
    P : Option Bool → Type 0
    P found = found ≡ Some check → version ≡ version_of check

pub record Good (bytes : List ℕ) (h : Header) : Type 0 where
  pub long : header_size ≤ length bytes
  pub named : is_named bytes ≡ true
  pub version : version_in bytes ≡ version_of h.check
  pub has : get_or bytes maximum_at 0 ≡ h.maximum
  pub least : 1 ≤ h.maximum
  pub most : h.maximum ≤ max_maximum

-- of a version and a maximum
record GoodFor (version maximum : ℕ) (h : Header) : Type 0 where
  is-version : version ≡ version_of h.check
  is-maximum : maximum ≡ h.maximum
  is-least : 1 ≤ maximum
  is-most : maximum ≤ max_maximum

good-for : (version maximum : ℕ) (h : Header) → header_for (check_for version) maximum ≡ Ok h → GoodFor version maximum h
unfolding header_for
good-for version maximum h = by-check (check_for version) refl
  where
    P : Result Header HeaderError → Type 0
    P read = read ≡ Ok h → GoodFor version maximum h

    by-maximum : (check : Bool) → check_for version ≡ Some check → header_for (Some check) maximum ≡ Ok h → GoodFor version maximum h
    by-maximum check c =
        if-cases P _ _ _ (λ _ e. cc)
        (λ least. if-cases P _ _ _ (λ _ e. cc)
        (λ most e.
        let same : record { maximum = maximum; check = check } ≡ h = cc in
        record {
          is-version = version-is version check c ∙ ap (λ (g : Header). version_of g.check) same;
          is-maximum = ap (λ (g : Header). g.maximum) same;
          is-least = ltb-false _ _ least;
          is-most = ltb-false _ _ most;
        }))

    by-check : (found : Option Bool) → check_for version ≡ found → header_for found maximum ≡ Ok h → GoodFor version maximum h
    by-check None c e = cc
    by-check (Some check) c e = by-maximum check c e

pub good : (bytes : List ℕ) (h : Header) → header_in bytes ≡ Ok h → Good bytes h
unfolding header_in
good bytes h =
    if-cases P _ _ _ (λ _ e. cc)
    (λ long. if-cases P _ _ _
    (λ named e.
    let g : GoodFor (version_in bytes) (get_or bytes maximum_at 0) h = good-for _ _ h e in
    record {
      long = ltb-false _ _ long;
      named = named;
      version = g.is-version;
      has = g.is-maximum;
      least = omega (arith, g.is-least, g.is-maximum);
      most = omega (arith, g.is-most, g.is-maximum);
    })
    (λ _ e. cc))
  where
    P : Result Header HeaderError → Type 0
    P found = found ≡ Ok h → Good bytes h

-- a bad header is all there
pub bad-long : (bytes : List ℕ) → header_in bytes ≡ Err error.Bad → header_size ≤ length bytes
unfolding header_in
bad-long bytes = if-cases P _ _ _ (λ _ e. cc) (λ long _. ltb-false _ _ long)
  where
    P : Result Header HeaderError → Type 0
    P found = found ≡ Err error.Bad → header_size ≤ length bytes

-- one that is cut is not
never-cut : (found : Option Bool) (maximum : ℕ) → header_for found maximum ≡ Err error.Cut → ⊥
unfolding header_for
never-cut None maximum e = cc
never-cut (Some check) maximum e = if-cases P _ _ _ (λ _ e. cc) (λ _. if-cases P _ _ _ (λ _ e. cc) (λ _ e. cc)) e
  where
    P : Result Header HeaderError → Type 0
    P read = read ≡ Err error.Cut → ⊥

pub cut_short : (bytes : List ℕ) → header_in bytes ≡ Err error.Cut → length bytes < header_size
unfolding header_in
cut_short bytes =
    if-cases P _ _ _ (λ short _. ltb-true _ _ short)
    (λ _. if-cases P _ _ _ (λ _ e. absurd (never-cut _ _ e)) (λ _ e. cc))
  where
    P : Result Header HeaderError → Type 0
    P found = found ≡ Err error.Cut → length bytes < header_size
