use Rattle.packet.proofs.Filled.{zeros-behind}
use Rattle.packet.proofs.fill.Goals as goal

pub returns : goal.returns
returns c = zeros-behind _ _ _ c.if-total-ge-MIN_SENT.false c.if-store-lt-MIN_SENT.false (c.fill.ensures.after (λ _ zero. zero))
