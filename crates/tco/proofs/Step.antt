-- What the contract of the operation on a state where it lies allows is a step of demand 3.
-- Assumes nothing.
use mathlib.Core.List.{◌++◌}
use mathlib.Core.Path.{ap}
use lib.ListN.{drop}
use Rattle.prelude.specs.After.{After}
use Rattle.history.specs.Calls.{packets_of}
use Rattle.tco.specs.Step.{EveryStep}
use Rattle.tco.specs.Reply.{Replied}

pub every-step : EveryStep
every-step kept store_lent settings_lent t state reply store settings e = record {
  state_is = ap (λ (x : After Replied). x.result.state) e;
  store_is = ap (λ (x : After Replied). x.store ++ drop store_lent kept.store) e;
  settings_are = ap (λ (x : After Replied). x.settings ++ drop settings_lent kept.settings) e;
  sent_are = ap (λ (x : After Replied). kept.sent ++ packets_of x.result.reply (x.store ++ drop store_lent kept.store)) e;
  reply_is = ap (λ (x : After Replied). x.result.reply) e;
}
