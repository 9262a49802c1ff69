use Rattle.std.proofs.Common.{◌∙◌, refl, sym, ap}
use Rattle.prelude.specs.After.{After}
use Rattle.state.specs.declared.State.{State}
use Rattle.translator.specs.Held.{held}
use Rattle.translator.specs.Transact.{readiness_of}
use Rattle.translator.proofs.Taken.{records-stop, records-go-on}
use Rattle.translator.proofs.Usable.{readiness-stays}
use Rattle.translator.proofs.records.Replay.take.Goals as goal

pub loop-record-init : goal.loop-record-init
loop-record-init c =
    let holds : _ = c.rows_of-rows.ensures in
    (holds.placed, c.readiness_of-readiness.ensures, rw (holds.same, c.setup-setup.ensures) refl)

pub loop-record-preserved : goal.loop-record-preserved
loop-record-preserved c =
    let left : _ = c.take_record-beside.ensures in (
      left.placed,
      c.loop-record.invariant.1
          ∙ sym (ap (λ (x : After State). readiness_of x.result x.store x.settings) left.taken ∙ readiness-stays (held c.loop-record.rows c.loop-record.beside _) _ _ _ refl),
      records-go-on _ _ _ _ _ _ _ _ _ refl (sym c.in-Ok.ensures) left.taken ∙ c.loop-record.invariant.2,
    )

pub returns : goal.returns
returns c = rw c.flat_of.ensures (records-stop _ _ _ _ _ _ (sym c.in-Err.ensures) ∙ c.loop-record.invariant.2)
