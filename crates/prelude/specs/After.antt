-- What a call leaves: its result, and the bytes of the store and of the settings that it was lent.
use Rattle.std.specs.Prelude.{ℕ, List}

pub record After (A : Type 0) : Type 0 where
  pub result : A
  pub store : List ℕ
  pub settings : List ℕ

abbrev pub after : {A : Type 0} → A → List ℕ → List ℕ → After A
after result store settings = record { result = result; store = store; settings = settings }
