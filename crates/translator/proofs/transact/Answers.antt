use Rattle.std.proofs.Common.{sym, ap, ◌∙◌}
use borrow.Author.Rules.{rules}
use Rattle.state.specs.Account.{Formed}
use Rattle.state.specs.Grid.{flat_of}
use Rattle.state.proofs.Rows.{flat_rows}
use Rattle.translator.proofs.Grids.{flat_after}
use Rattle.translator.proofs.Readied.{ready-fits}
use Rattle.translator.proofs.transact.Goals as goal

pub count-requires : goal.count-requires
count-requires c =
    let formed : Formed c.args.state.account = search rules in
    let same : _ = ap flat_of c.rows_of-rows.ensures ∙ flat_rows _ formed in
    rw c.rows_of-rows.ensures
    (c.step_of-step.ensures.fits _ (λ ready. (ready-fits c.args.state _ _ (sym (rw (same, c.setup-setup.ensures) at c.readiness_of-readiness.ensures) ∙ ready) formed).rows))

pub returns : goal.returns
returns c =
    let formed : Formed c.args.state.account = search rules in
    let same : _ = ap flat_of c.rows_of-rows.ensures ∙ flat_rows _ formed in
    rw (c.flat_of.ensures, c.count.ensures, c.rows_of-rows.ensures, flat_after _ _ _ _ formed, c.setup-setup.ensures)
    (rw c.setup-setup.ensures at (c.step_of-step.ensures.steps _ (rw same at c.readiness_of-readiness.ensures)))
