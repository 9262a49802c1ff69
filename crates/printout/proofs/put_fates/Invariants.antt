use Rattle.std.proofs.Common.{◌≡◌, ◌++◌, take, flat_map}
use Rattle.printout.specs.Lines.{cut, row_line}
use Rattle.printout.specs.Printout.{heading}
use Rattle.printout.proofs.put_fates.Given as goal

abbrev pub invariant-loop-row : goal.invariant-loop-row
invariant-loop-row l = l.text ≡ cut (l.fn.text ++ (heading ++ flat_map (row_line l.grid) (take l.row-index l.row-items)))
