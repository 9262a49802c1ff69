use Rattle.std.proofs.Common.{◌≤◌, ◌∙◌, ap, List, ℕ, ◌++◌, rules}
use Rattle.printout.specs.Lines.{cut}
use Rattle.printout.specs.Printout.{field}
use Rattle.printout.proofs.Decimal.{decimal-is, few-digits}
use Rattle.printout.proofs.Lines.{then-put}
use Rattle.printout.proofs.text.Text.put_field.Goals as goal

pub returns : goal.returns
unfolding field
returns c =
    let f = c.decimal-count.ensures in
    let few : c.decimal-count.result ≤ 20 = few-digits c.args.number _ (search rules) f.len in
    then-put _ _ _ c.put.ensures (c.put_bytes.ensures ∙ ap (λ (digits : List ℕ). cut (c.put.new.self ++ digits)) (f.digits ∙ decimal-is 20 _ _ few f.len))
