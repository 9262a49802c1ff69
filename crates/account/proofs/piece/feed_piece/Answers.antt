use Rattle.std.proofs.Common.{◌≡◌, ℕ, Bool, ap, ◌∙◌}
use Rattle.prelude.specs.Parts.{Slice}
use Rattle.journal.specs.Feeding.{Fed, fed_to, fed}
use Rattle.account.specs.Buffer.{moved_to_front}
use Rattle.account.specs.Piece.{after_piece, unused_moved, used_of, first_of, piece_fed}
use Rattle.account.proofs.Fronts.{front_bytes}
use Rattle.account.proofs.piece.feed_piece.Goals as goal

pub returns : goal.returns
unfolding piece_fed
returns c =
    let args : _ = c.args in
    let f : Fed = fed_to c.feed-fed.new.self c.feed-fed.result in
    let fed-is : f ≡ fed args.reading (first_of args.end args.buffer.now) =
    c.feed-fed.ensures ∙ ap (fed args.reading) (ap (λ (s : Slice). s.bytes) c.front.ensures ∙ front_bytes _ args.end) in
    let used-is : _ = c.used_of-used.ensures ∙ ap (λ (b : Bool). used_of b f.used args.end) c.is_bad.ensures in
    ap (after_piece f) (c.move_to_front.ensures ∙ ap (λ (n : ℕ). moved_to_front n args.end args.buffer.now) used-is)
    ∙ ap (λ (f : Fed). unused_moved f args.end args.buffer.now) fed-is
