use Rattle.std.proofs.Common.{◌≡◌, ◌∙◌, ap, refl}
use Rattle.std.specs.Prelude.{Ok}
use lib.ListN.{replicate}
use Rattle.prelude.specs.Choice.{when◌then◌else◌}
use Rattle.settings.specs.Enable.{Answer, Answered, freshened}
use Rattle.settings.specs.Layout.{size, with_settings}
use Rattle.translator.specs.Replay.{fresh_replay, settings_at_start}
use Rattle.translator.proofs.records.Replay.start.Goals as goal

freshened-done : (freshened (replicate size 0)).answer ≡ Ok tt
unfolding freshened when◌then◌else◌
freshened-done = refl

freshened-zeros : (freshened (replicate size 0)).settings ≡ settings_at_start
unfolding freshened with_settings when◌then◌else◌
freshened-zeros = refl

pub returns : goal.returns
unfolding fresh_replay
returns c = rw (c.fresh-made.ensures, ap (λ (a : Answered Answer). a.settings) c.fresh.ensures ∙ freshened-zeros)

pub unwrap-requires : goal.unwrap-requires
unwrap-requires c = rw (ap (λ (a : Answered Answer). a.answer) c.fresh.ensures ∙ freshened-done) refl
