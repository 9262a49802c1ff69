use Rattle.std.proofs.Common.{◌≡◌, ℕ, sym, ap, ◌∙◌, rules, arith}
use Rattle.std.proofs.Math.Nat.{mod-eq_of_lt}
use Rattle.std.proofs.lemmas.Nat.{xor_of_8}
use Rattle.pec.specs.Code.{bit_steps, byte_step}
use Rattle.pec.proofs.Runs.{bit-steps-more}
use Rattle.pec.proofs.byte_step.Goals as goal

pub loop-init : goal.loop-init
unfolding byte_step
loop-init c = ap (λ (crc : ℕ). bit_steps 8 crc) (sym (mod-eq_of_lt (xor_of_8 c.args.crc c.args.byte (search rules) (search rules))))

pub loop-preserved : goal.loop-preserved
loop-preserved c =
    let step : _ = bit-steps-more 8 c.loop.counter c.loop.left (search rules) in
    rw c.bit_step-left.ensures (sym step ∙ c.loop.invariant)

pub returns : goal.returns
unfolding bit_steps
returns c =
    let all : c.loop.counter ≡ 8 = omega arith in
    rw all at c.loop.invariant
