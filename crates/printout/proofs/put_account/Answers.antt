use Rattle.std.proofs.Common.{◌++◌, ◌∙◌, ap, List, ℕ}
use Rattle.printout.specs.Lines.{cut}
use Rattle.printout.specs.Printout.{heading, fates, fate_lines, count_lines, printout}
use Rattle.printout.proofs.Lengths.{every-printout}
use Rattle.printout.proofs.Lines.{then-put, cut-short}
use Rattle.printout.proofs.put_account.Goals as goal

pub returns : goal.returns
unfolding printout
returns c =
    let a = c.args.account in
    then-put c.args.text.now (heading ++ fate_lines fates a.grid) (count_lines a.beside) c.put_fates.ensures c.put_counts.ensures
    ∙ (ap (λ (text : List ℕ). cut (text ++ printout a)) c.requires ∙ cut-short (printout a) (every-printout a))
