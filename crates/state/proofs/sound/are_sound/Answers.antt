use Rattle.std.proofs.Common.{◌≡◌, ◌∙◌, true, sym, arith}
use Rattle.state.proofs.Soundness.{sound-bounds, most_bytes}
use Rattle.state.specs.Account.{account_of}
use Rattle.state.specs.Grid.{flat_of}
use Rattle.state.specs.Sound.{account_sound}
use Rattle.state.proofs.sound.are_sound.Goals as goal

pub overflow_mul-setup : goal.overflow_mul-setup
overflow_mul-setup c =
    let account-is-sound : account_sound (account_of (flat_of c.args.rows.now) c.args.beside) ≡ true = sym c.is_sound_account.ensures ∙ c.if-not-is_sound_account.false in
    let bounds : _ = sound-bounds _ account-is-sound in
    omega (arith, most_bytes _ c.args.beside.open_fragments c.if-setup-gt-MAX_MAXIMUM.false (omega (arith, bounds.held_fragments, bounds.within)))
