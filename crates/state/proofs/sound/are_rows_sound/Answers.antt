use Rattle.std.proofs.Common.{◌≡◌, ◌∙◌, ◌<◌, true, refl, sym, arith}
use Rattle.prelude.proofs.Tests.{if-true, if-false}
use Rattle.state.proofs.AllRows.{row_sound_at, row-flat, and-false, row-unsound, rows-sound-next, all-fragments-next, badcheck-sound, too_many, last-is-left}
use Rattle.state.proofs.Rows.{cell-flat}
use Rattle.state.specs.Account.{row_count, badcheck, fragments_in, all_fragments}
use Rattle.state.specs.Grid.{flat_of}
use Rattle.state.specs.Sound.{rows_sound, singles_sound}
use Rattle.state.proofs.sound.are_rows_sound.Goals as goal

pub loop-row-init : goal.loop-row-init
unfolding rows_sound all_fragments
loop-row-init c = (refl, omega arith)

pub returns-then-left-fragments : goal.returns-then-left-fragments
returns-then-left-fragments c =
    let row : _ = c.loop-row.row in
    let in-row : row < row_count = omega arith in
    let more : c.loop-row.left < fragments_in row (flat_of c.args.rows.now) = rw ((cell-flat c.args.rows.now row in-row).1) c.if-left-fragments.true in
    sym (and-false _ _ (and-false _ _ (too_many _ _ row c.loop-row.left c.loop-row.invariant.1 in-row more)))

-- the call tests the row that the loop is at
pub returns-then-not-is_row_sound : goal.returns-then-not-is_row_sound
returns-then-not-is_row_sound c =
    let row : _ = c.loop-row.row in
    let tests-row : row_sound_at row (flat_of c.args.rows.now) ≡ c.is_row_sound.result = row-flat c.args.rows.now row (omega arith) ∙ sym c.is_row_sound.ensures in
    sym (if-false _ _ _ (row-unsound row_count row _ (omega arith) (tests-row ∙ c.if-not-is_row_sound.true)))

pub loop-row-preserved : goal.loop-row-preserved
loop-row-preserved c =
    let row : _ = c.loop-row.row in
    let tests-row : row_sound_at row (flat_of c.args.rows.now) ≡ c.is_row_sound.result = row-flat c.args.rows.now row (omega arith) ∙ sym c.is_row_sound.ensures in
    (rows-sound-next row _ c.loop-row.invariant.0 (tests-row ∙ c.if-not-is_row_sound.false), omega (arith, all-fragments-next row (flat_of c.args.rows.now), (cell-flat c.args.rows.now row (omega arith)).1))

pub returns-then-not-are_singles_sound : goal.returns-then-not-are_singles_sound
returns-then-not-are_singles_sound c = sym (and-false _ _ (if-false _ _ _ (sym c.are_singles_sound.ensures ∙ c.if-not-are_singles_sound.true)))

pub returns : goal.returns
returns c =
    let e : c.loop-row.row ≡ badcheck = omega arith in
    let singles-are-sound : singles_sound (flat_of c.args.rows.now) ≡ true = sym c.are_singles_sound.ensures ∙ c.if-not-are_singles_sound.false in
    let all-are-sound : rows_sound row_count (flat_of c.args.rows.now) ≡ true =
    rows-sound-next badcheck _ (rw e at c.loop-row.invariant.0) (badcheck-sound (flat_of c.args.rows.now) singles-are-sound) in
    last-is-left _ _ c.loop-row.row c.loop-row.left c.loop-row.invariant.1 e
    ∙ sym (if-true _ _ _ all-are-sound ∙ if-true _ _ _ singles-are-sound)
