-- The code of a refusal is not the code for no reason.
-- Assumes nothing.
use Prim.Native.Nat.{◌<◌}
use native.Mathlib.Omega.{arith}
use Rattle.prelude.proofs.Tests.{tests}
use Rattle.setlink.specs.declared.Reason.{Reason}
use Rattle.setlink.specs.declared.Reason.TheVariants.{InvalidParameter, HostConflict, MediaConflict, ParameterConflict, SpeedConflict}
use Rattle.setlink.specs.Decide.{no_reason, code_of}

pub refusal-has-code : (why : Reason) → no_reason < code_of why
refusal-has-code InvalidParameter = omega arith
refusal-has-code HostConflict = omega arith
refusal-has-code MediaConflict = omega arith
refusal-has-code ParameterConflict = omega arith
refusal-has-code SpeedConflict = omega arith

-- what closes a return where a check may have refused
pub ruleset codes = (tests, refusal-has-code)
