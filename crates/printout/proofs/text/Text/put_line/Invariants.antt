use Rattle.std.proofs.Common.{◌≡◌, ◌++◌, drop}
use Rattle.printout.specs.Lines.{cut}
use Rattle.printout.specs.Printout.{fields, line_of}
use Rattle.printout.proofs.text.Text.put_line.Given as goal

abbrev pub invariant-loop-number : goal.invariant-loop-number
invariant-loop-number g l = cut (l.fn.self ++ line_of l.name l.numbers) ≡ cut (l.self ++ fields (drop l.number-index l.numbers))
