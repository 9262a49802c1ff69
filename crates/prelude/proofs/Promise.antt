-- Why a promise settles its result. Every public operation promises one equation: its result, together with what it leaves in the buffers
-- that it changes, is what a definition gives for the values at entry.
-- Assumes nothing.
use mathlib.Core.Path.{◌≡◌, sym, ◌∙◌}

pub one-result : {A : Type 0} {defined first second : A} → first ≡ defined → second ≡ defined → first ≡ second
one-result p q = p ∙ sym q
