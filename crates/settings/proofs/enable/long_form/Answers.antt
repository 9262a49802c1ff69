use Rattle.std.proofs.Common.{◌≡◌, ◌∙◌, ℕ, sym, arith, get_or, length}
use Rattle.prelude.specs.Bits.{is_set}
use Rattle.prelude.specs.Choice.{◌or◌}
use Rattle.prelude.specs.Parts.{part}
use Rattle.prelude.proofs.Lists.{copied-over-part, length_part}
use Rattle.prelude.proofs.Tests.{tests}
use Rattle.settings.specs.Layout.{has_dedicated_mac, responds_to_arp}
use Rattle.settings.specs.Enable.{long_form_answered}
use Rattle.settings.proofs.Tests.{bit_tests}
use Rattle.settings.proofs.Writes.{long-form-written}
use Rattle.settings.proofs.enable.long_form.Goals as goal
use Rattle.settings.proofs.enable.long_form.Goals.{then-gives_mac, else-gives_mac, then-gives_ipv4, else-gives_ipv4}

pub returns : goal.returns
unfolding long_form_answered
returns c =
    let control : ℕ = get_or c.args.bytes.now 0 0 in
    let kept : ℕ = get_or c.args.settings.now 1 0 in
    let mac : c.if-gives_mac.kept_bits ≡ (has_dedicated_mac control or is_set 0 kept) =
    elim c.if-gives_mac.branch [ then-gives_mac w ↦ w.kept_bits-is ∙ search (bit_tests, w.if-gives_mac.true) | else-gives_mac w ↦ w.kept_bits-is ∙ search (bit_tests, w.if-gives_mac.false) ] in
    let ipv4 : c.if-gives_ipv4.kept_bits ≡ (responds_to_arp control or is_set 1 kept) =
    elim c.if-gives_ipv4.branch [ then-gives_ipv4 w ↦ w.kept_bits-is ∙ search (bit_tests, w.if-gives_ipv4.true) | else-gives_ipv4 w ↦ w.kept_bits-is ∙ search (bit_tests, w.if-gives_ipv4.false) ] in
    let unread-is : length (part 11 3 c.args.bytes.now) ≡ 3 = length_part 11 3 c.args.bytes.now (omega (arith, c.requires.bytes_len)) in
    rw (
      copied-over-part c.put_if-2.new.settings (part 11 3 c.args.bytes.now) c.copy_from_slice.new.self 12 3 (sym unread-is) c.copy_from_slice.ensures.after,
      c.put_if-2.ensures,
      c.put_if.ensures,
      c.kept_bits.ensures,
      mac,
      ipv4,
      long-form-written c.args.settings.now c.args.bytes.now c.requires.size_in_bounds c.requires.bytes_len,
    )
    (search (tests, sym c.is_allowed.ensures))
