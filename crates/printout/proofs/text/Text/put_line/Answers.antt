use Rattle.std.proofs.Common.{◌∙◌, ◌++◌, ap, sym, refl, arith, List, ℕ}
use Rattle.printout.specs.Lines.{cut}
use Rattle.printout.proofs.Lines.{then-put, fields-more, fields-done}
use Rattle.printout.proofs.text.Text.put_line.Goals as goal

pub loop-number-init : goal.loop-number-init
loop-number-init g c = sym (then-put _ _ _ c.put.ensures refl)

pub loop-number-preserved : goal.loop-number-preserved
loop-number-preserved g c =
    c.loop-number.invariant
    ∙ (ap (λ (rest : List ℕ). cut (c.loop-number.self ++ rest)) (fields-more c.args.numbers.now c.loop-number.number-index (omega arith)) ∙ sym (then-put _ _ _ c.put_field.ensures refl))

pub returns : goal.returns
returns g c =
    c.put-2.ensures
    ∙ (ap (λ (rest : List ℕ). cut (c.loop-number.self ++ rest)) (sym (fields-done c.args.numbers.now c.loop-number.number-index (omega arith))) ∙ sym c.loop-number.invariant)
