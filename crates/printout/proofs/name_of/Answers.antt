use Rattle.printout.proofs.name_of.Goals as goal

pub returns-in-Sent : goal.returns-in-Sent
returns-in-Sent c = cc

pub returns-in-Superseded : goal.returns-in-Superseded
returns-in-Superseded c = cc

pub returns-in-Flushed : goal.returns-in-Flushed
returns-in-Flushed c = cc

pub returns-in-Broken : goal.returns-in-Broken
returns-in-Broken c = cc

pub returns-in-Over : goal.returns-in-Over
returns-in-Over c = cc

pub returns-in-Short : goal.returns-in-Short
returns-in-Short c = cc

pub returns-in-LinkDown : goal.returns-in-LinkDown
returns-in-LinkDown c = cc

pub returns-in-Aborted : goal.returns-in-Aborted
returns-in-Aborted c = cc

pub returns-in-BadLength : goal.returns-in-BadLength
returns-in-BadLength c = cc

pub returns-in-BadCheck : goal.returns-in-BadCheck
returns-in-BadCheck c = cc
