use Rattle.std.proofs.Common.{ℕ, ◌∙◌, ap, sym}
use mathlib.Core.Bool.{not}
use lib.Dec.{eqb}
use borrow.Author.Tests.{ne_eqb}
use Rattle.prelude.proofs.Tests.{if-true, if-false}
use Rattle.translator.specs.Command.{has_both_flags}
use Rattle.translator.proofs.Commands.{flag-set}
use Rattle.translator.proofs.command.has_both_flags.Goals as goal

pub returns-then-command-ne0 : goal.returns-then-command-ne0
unfolding has_both_flags
returns-then-command-ne0 c =
    flag-set c.args.command 6 ∙ sym (if-true _ _ _ (sym (flag-set c.args.command 7) ∙ ap not (ne_eqb _ _ c.if-command-ne0.true)))

pub returns-else-command-ne0 : goal.returns-else-command-ne0
unfolding has_both_flags
returns-else-command-ne0 c =
    let none : _ = ap (λ (n : ℕ). not (eqb n 0)) c.if-command-ne0.false in
    none ∙ sym (if-false _ _ _ (sym (flag-set c.args.command 7) ∙ none))
