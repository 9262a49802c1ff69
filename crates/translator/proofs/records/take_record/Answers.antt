use Rattle.std.proofs.Common.{refl, sym, ◌∙◌}
use Rattle.state.specs.Grid.{flat_of}
use Rattle.translator.proofs.HeldRows.{step-takes}
use Rattle.translator.proofs.Readied.{ready-fits}
use Rattle.translator.proofs.records.take_record.Goals as goal

pub step_of-step-requires : goal.step_of-step-requires
step_of-step-requires c = record { grid = flat_of c.args.rows.now; formed = refl; known = c.requires.readiness_value }

pub count-requires : goal.count-requires
count-requires c =
    c.step_of-step.ensures.fits _ (λ ready. rw c.requires.placed (ready-fits _ _ _ (sym c.requires.readiness_value ∙ ready) refl).rows)

pub returns : goal.returns
returns c =
    step-takes _ _ _ _ _ _ c.requires.placed _ _ _ _ _ c.requires.readiness_value c.step_of-step.ensures c.count.ensures
