use Rattle.std.proofs.Common.{◌∙◌, ap, arith}
use Rattle.outcome.specs.declared.Outcome.TheVariants as outcome
use Rattle.prelude.proofs.Lists.{put-in-tail}
use Rattle.prelude.proofs.Tests.{tests}
use Rattle.translator.specs.Joining.{stored, completed, joined}
use Rattle.translator.proofs.joining.join.Goals as goal

pub returns : goal.returns
unfolding joined
returns c = ap (stored outcome.Joined) (put-in-tail c.args.store.now c.args.fragment.now _ c.args.at (omega arith) c.copy_to_front.ensures) ∙ search tests

pub returns-then-last-2 : goal.returns-then-last-2
unfolding joined
returns-then-last-2 c =
    c.complete.ensures
    ∙ (ap (completed _ c.args.link_up) (put-in-tail c.args.store.now c.args.fragment.now _ c.args.at (omega arith) c.copy_to_front.ensures) ∙ search tests)
