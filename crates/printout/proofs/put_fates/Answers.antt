use Rattle.std.proofs.Common.{◌≡◌, ◌++◌, ◌∙◌, ℕ, ap, take, arith, flat_map}
use Rattle.state.specs.declared.TheConstants.{ROWS}
use Rattle.state.specs.Account.{row_count}
use Rattle.printout.specs.Lines.{cut, row_line}
use Rattle.printout.specs.Printout.{heading, fate_lines}
use Rattle.printout.proofs.Lines.{row-put}
use Rattle.printout.proofs.put_fates.Goals as goal

pub loop-row-preserved : goal.loop-row-preserved
loop-row-preserved c = row-put c.args.text.now c.args.grid.now c.loop-row.row-index c.loop-row-test.true c.loop-row.invariant c.name_of.ensures c.cells_of.ensures c.put_line.ensures

pub returns : goal.returns
unfolding fate_lines
returns c =
    let all : c.loop-row.row-index ≡ row_count = omega arith in
    c.loop-row.invariant ∙ ap (λ (n : ℕ). cut (c.args.text.now ++ (heading ++ flat_map (row_line c.args.grid.now) (take n ROWS)))) all
