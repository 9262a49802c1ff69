use Rattle.std.proofs.Common.{rules, ℕ, List, ◌∙◌, ap}
use Rattle.state.specs.Account.{Formed, account_of}
use Rattle.state.specs.Grid.{flat_of}
use Rattle.state.specs.Sound.{account_sound}
use Rattle.state.proofs.Rows.{flat_rows}
use Rattle.state.proofs.sound.is_account_sound.Goals as goal

pub returns : goal.returns
returns c =
    let formed : Formed c.args.account = search rules in
    c.is_sound_account.ensures
    ∙ ap (λ (grid : List ℕ). account_sound (account_of grid c.args.account.beside)) (ap flat_of c.rows_of.ensures ∙ flat_rows _ formed)
