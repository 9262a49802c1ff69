-- The steps that are left give what all of them give.
use Rattle.std.proofs.Common.{◌≡◌, ◌-◌}
use Rattle.pec.specs.Code.{bit_steps, byte_step}
use Rattle.pec.proofs.byte_step.Given as goal

abbrev pub invariant-loop : goal.invariant-loop
invariant-loop l = bit_steps (8 - l.counter) l.left ≡ byte_step l.crc l.byte
