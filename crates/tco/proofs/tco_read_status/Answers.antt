use Rattle.status.proofs.RoundTrip.{fields-taken}
use Rattle.tco.proofs.tco_read_status.Goals as goal

pub returns : goal.returns
returns c =
    let fields : _ = fields-taken _ c.args.block.now c.unwrap_or_default.result
    (λ z (length, (vlan, (decision_match, (decision_index, (vlan_match, vlan_index))))). λ i. record {
      length = length i;
      vlan = vlan i;
      decision_match = decision_match i;
      decision_index = decision_index i;
      vlan_match = vlan_match i;
      vlan_index = vlan_index i;
    })
    (rw c.read-read.ensures at c.unwrap_or_default.ensures) in
    λ i. record { answer = (rw c.read-read.ensures at c.number.ensures) i; field = (rw c.read-read.ensures at c.bad_field_number.ensures) i; fields = fields i }
