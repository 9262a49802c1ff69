use Rattle.std.proofs.Common.{◌<◌, arith, sym, ◌∙◌, replicate}
use Rattle.std.proofs.lemmas.Grind.{same_number_lists}
use Rattle.std.proofs.lemmas.List.{get_or-replicate}
use Rattle.status.proofs.RoundTrip.{block-taken}
use Rattle.tco.proofs.tco_write_status.Goals as goal

pub returns : goal.returns
returns c =
    let block : _ = block-taken _ c.args.fields c.unwrap_or_default.result
    (λ z zero. same_number_lists z (replicate 8 0) zero.long (λ k h. let within : k < 8 = omega (arith, zero.long) in zero.at k 0 within ∙ sym (get_or-replicate 8 k 0 0 within)))
    (rw c.write-written.ensures at c.unwrap_or_default.ensures) in
    λ i. record { answer = (rw c.write-written.ensures at c.number.ensures) i; field = (rw c.write-written.ensures at c.bad_field_number.ensures) i; block = block i }
