-- What closes a return of a chain of tests, of bits too: the lowest bit of a byte is written without a division.
-- Assumes nothing.
use native.Mathlib.Nat.{div-one}
use Rattle.prelude.proofs.Tests.{tests}

pub ruleset bit_tests = (tests, div-one)
