use Rattle.std.proofs.Common.{rules, ◌∙◌, ap, refl}
use Rattle.state.specs.Account.{Formed}
use Rattle.state.specs.Grid.{flat_of}
use Rattle.state.proofs.Rows.{flat_rows}
use Rattle.state.proofs.sound.is_sound.Goals as goal

pub returns : goal.returns
returns c =
    let formed : Formed c.args.state.account = search rules in
    rw (c.are_sound.ensures, ap flat_of c.rows_of.ensures ∙ flat_rows _ formed, c.setup.ensures) refl
