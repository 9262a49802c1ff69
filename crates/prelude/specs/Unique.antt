-- That a contract settles its call: `allows` is the contract as a caller learns it, of the arguments, a result and the last bytes of what was lent to be changed.
use Rattle.std.specs.Prelude.{ℕ, List, ◌≡◌}
use borrow.Fn.Kinds.{ParamKind, ResultKind, Out, Dens, res_t, ended_of}
use contract.Lifetimes.{Lfts}
use Rattle.std.specs.Borrow.{Bor}
use denote.Triple.Clauses.{Lasts, at_exit}
use Rattle.prelude.specs.Parts.{slice_of}

module _ (n : ℕ) (ps : List (ParamKind n)) (r : ResultKind n) where
  -- two results that it allows for the same arguments are equal, and so are the bytes that they leave
  abbrev pub OneResult : Out n ps r → Type 0
  OneResult allows =
      (κs : Lfts n) (a : Dens κs ps) (r₁ r₂ : (res_t r κs).Denot) (w₁ w₂ : Lasts (ended_of n ps r) κs a)
      → allows κs a r₁ (at_exit (ended_of n ps r) κs a w₁)
      → allows κs a r₂ (at_exit (ended_of n ps r) κs a w₂)
      → (r₁ ≡ r₂) × (w₁ ≡ w₂)

  -- where a slice is returned, the two start at one place and have the same bytes
  abbrev pub OneSlice : ((κs : Lfts n) → (res_t r κs).Denot → Bor (List ℕ)) → Out n ps r → Type 0
  OneSlice slice allows =
      (κs : Lfts n) (a : Dens κs ps) (r₁ r₂ : (res_t r κs).Denot) (w₁ w₂ : Lasts (ended_of n ps r) κs a)
      → allows κs a r₁ (at_exit (ended_of n ps r) κs a w₁)
      → allows κs a r₂ (at_exit (ended_of n ps r) κs a w₂)
      → (slice_of (slice κs r₁) ≡ slice_of (slice κs r₂)) × (w₁ ≡ w₂)
