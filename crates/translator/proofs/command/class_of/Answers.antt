use Rattle.std.proofs.Common.{rules}
use Rattle.std.proofs.lemmas.Iterator.{YieldsList-from_slice}
use Rattle.std.proofs.lemmas.Iterator.Search.{find_from_yields_List}
use Rattle.prelude.proofs.Tests.{tests}
use Rattle.translator.specs.Command.{commands}
use Rattle.translator.proofs.Commands.{has_byte, class-found}
use Rattle.translator.proofs.command.class_of.Goals as goal

pub returns-in-Some : goal.returns-in-Some
returns-in-Some c =
    let e : _ = find_from_yields_List (has_byte c.args.command) _ _ c.find.result c.find.ensures.ran (YieldsList-from_slice commands cc) (λ x b q k. search (rules, tests)) in
    rw (class-found commands c.args.command, ← e, c.in-Some.is)

pub returns-in-None : goal.returns-in-None
returns-in-None c =
    let e : _ = find_from_yields_List (has_byte c.args.command) _ _ c.find.result c.find.ensures.ran (YieldsList-from_slice commands cc) (λ x b q k. search (rules, tests)) in
    rw (class-found commands c.args.command, ← e, c.in-None.is)
