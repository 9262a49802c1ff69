-- The choice by a test, in which the rules are written: `when ltb total 17 then Short else ..`. Tests on numbers are the library's `ltb`, `leb` and `eqb`.
use Rattle.std.specs.Prelude.{Bool, true, false}

-- the library's `if`, but shut until a proof opens it
infixr 5 when◌then◌else◌
unfoldable pub when◌then◌else◌ : {A : Type 0} → Bool → A → A → A
when true then a else b = a
when false then a else b = b

infixr 8 ◌and◌
infixr 7 ◌or◌
-- both hold; the second is read only where the first holds
abbrev pub ◌and◌ : Bool → Bool → Bool
a and b = when a then b else false

-- one of them holds
abbrev pub ◌or◌ : Bool → Bool → Bool
a or b = when a then true else b
