use Rattle.std.proofs.Common.{ℕ, List, ◌≡◌, ◌≤◌, ◌∙◌, ap, sym}
use Rattle.std.specs.Prelude.{Ok}
use Rattle.prelude.specs.After.{After, after}
use Rattle.record.specs.Transaction.{Transaction}
use Rattle.state.specs.declared.State.{State}
use Rattle.state.specs.State.{max_maximum, state_of}
use Rattle.translator.specs.declared.judged.Judged.{Judged}
use Rattle.translator.specs.Transact.{readiness_of, judged_on}
use Rattle.translator.proofs.Fits.{tally-fits}
use Rattle.translator.proofs.HeldRows.{rejected-steps, counted-steps}
use Rattle.translator.proofs.Readied.{rejected-is, full_is, ready-maximum, ready-fits, judged-few}
use Rattle.translator.proofs.step.step_of.Goals as goal

-- what is judged counts few bytes
few : (s : State) (store settings : List ℕ) (t : Transaction) (j : Judged) (store' settings' : List ℕ) → readiness_of s store settings ≡ Ok tt
    → after j store' settings' ≡ judged_on s store settings t → j.bytes ≤ max_maximum
few s store settings t j store' settings' ready e = rw (ap (λ (d : After Judged). d.result) e) (judged-few s store settings t ready)

pub returns-in-Err : goal.returns-in-Err
returns-in-Err c = rw c.rejected.ensures (rejected-steps _ _ _ _ _ _ _ (λ grid e. rejected-is _ _ _ _ _ (sym e ∙ c.in-Err.is)))

pub returns-then-beside-eq-LIMIT : goal.returns-then-beside-eq-LIMIT
returns-then-beside-eq-LIMIT c =
    rw c.rejected-then-beside-eq-LIMIT.ensures
    (rejected-steps _ _ _ _ _ _ _ (λ grid e. full_is _ _ _ _ (sym e ∙ c.in_default.is) c.if-beside-eq-LIMIT.true))

pub invariant_of-open_packet : goal.invariant_of-open_packet
invariant_of-open_packet c =
    let ready : _ = sym c.requires.known ∙ c.in_default.is in
    record { maximum_le_max_maximum = ready-maximum _ _ _ ready; bytes_le_most = (ready-fits _ _ _ ready c.requires.formed).beside.held_bytes }

pub tally_of-tally-requires : goal.tally_of-tally-requires
tally_of-tally-requires c =
    let ready : _ = sym c.requires.known ∙ c.in_default.is in
    let t : Transaction = c.args.transaction in
    record {
      beside_fits = (ready-fits _ _ _ ready c.requires.formed).beside;
      bytes_le_max_maximum = few (state_of c.requires.grid c.args.beside c.args.setup) _ _ t _ _ _ ready c.judge-judged.ensures;
    }

pub beside_after-requires : goal.beside_after-requires
beside_after-requires c =
    let ready : _ = sym c.requires.known ∙ c.in_default.is in
    let t : Transaction = c.args.transaction in
    let fits : _ = ready-fits _ _ _ ready c.requires.formed in
    record {
      beside_fits = fits.beside;
      tally_fits =
          rw c.tally_of-tally.ensures
          (tally-fits c.judge-judged.result _ fits.beside (few (state_of c.requires.grid c.args.beside c.args.setup) _ _ t _ _ _ ready c.judge-judged.ensures));
    }

pub returns : goal.returns
returns c =
    let ready : _ = sym c.requires.known ∙ c.in_default.is in
    let t : Transaction = c.args.transaction in
    let fits : _ = ready-fits _ _ _ ready c.requires.formed in
    counted-steps _ _ _ _ _ _ c.judge-judged.result _ _ _ _ c.in_default.is c.if-beside-eq-LIMIT.false
    c.judge-judged.ensures c.tally_of-tally.ensures c.beside_after.ensures fits.beside
    (rw c.tally_of-tally.ensures
    (tally-fits c.judge-judged.result _ fits.beside (few (state_of c.requires.grid c.args.beside c.args.setup) _ _ t _ _ _ ready c.judge-judged.ensures)))
