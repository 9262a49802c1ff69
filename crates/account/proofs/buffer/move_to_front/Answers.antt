use Rattle.std.proofs.Common.{sym, ◌-◌, ap, ◌∙◌}
use Rattle.account.specs.Buffer.{moved}
use Rattle.account.proofs.Moving.{is-moved, copied-to-front}
use Rattle.account.proofs.buffer.move_to_front.Goals as goal

pub returns : goal.returns
returns c =
    let args : _ = c.args in
    ap (moved (args.to - args.from)) (c.copy_within.ensures.after ∙ copied-to-front args.from args.to args.buffer.now c.if-to-from.false c.if-buffer-to.false)
    ∙ sym (is-moved args.from args.to args.buffer.now c.if-to-from.false c.if-buffer-to.false)
