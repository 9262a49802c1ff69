use Rattle.std.proofs.Common.{List, ℕ, ◌++◌, ◌∙◌, ap, sym, take_all, arith}
use Rattle.printout.specs.Lines.{cut}
use Rattle.printout.proofs.Lines.{fitting-put}
use Rattle.printout.proofs.text.Text.put_bytes.Goals as goal

pub returns-then-piece-room : goal.returns-then-piece-room
returns-then-piece-room c =
    fitting-put _ _ _ _ _ c.self.invariant c.self.told (omega arith) (c.copy_from_slice.ensures.after ∙ sym (take_all _ _ (omega arith)))
    ∙ ap (λ (text : List ℕ). cut (text ++ c.args.piece.now)) c.self.view_is

pub returns-else-piece-room : goal.returns-else-piece-room
returns-else-piece-room c =
    fitting-put _ _ _ _ _ c.self.invariant c.self.told (omega arith) c.copy_from_slice-else-piece-room.ensures.after
    ∙ ap (λ (text : List ℕ). cut (text ++ c.args.piece.now)) c.self.view_is
