use Rattle.std.proofs.Common.{◌∙◌, sym}
use borrow.Author.Tests.{le-leb}
use Rattle.prelude.proofs.Tests.{tests, if-true}
use Rattle.state.proofs.Soundness.{sound-in-order}
use Rattle.state.proofs.sound.is_sound_account.Goals as goal

pub returns-then-beside-gt-LIMIT : goal.returns-then-beside-gt-LIMIT
returns-then-beside-gt-LIMIT c = sym (sound-in-order _ ∙ search tests)

pub returns-then-beside : goal.returns-then-beside
returns-then-beside c = sym (sound-in-order _ ∙ search tests)

pub returns-then-not-is_open_sound : goal.returns-then-not-is_open_sound
returns-then-not-is_open_sound c = sym (sound-in-order _ ∙ search (tests, sym c.is_open_sound.ensures))

pub returns-then-left-beside : goal.returns-then-left-beside
returns-then-left-beside c = sym (sound-in-order _ ∙ search (tests, sym c.is_open_sound.ensures))

pub returns-then-left-beside-2 : goal.returns-then-left-beside-2
returns-then-left-beside-2 c = sym (sound-in-order _ ∙ search (tests, sym c.is_open_sound.ensures))

pub returns : goal.returns
returns c =
    c.are_rows_sound.ensures
    ∙ sym (sound-in-order _
    ∙ (if-true _ _ _ (le-leb _ _ c.if-beside-gt-LIMIT.false)
    ∙ (if-true _ _ _ (le-leb _ _ c.if-beside.false)
    ∙ (if-true _ _ _ (sym c.is_open_sound.ensures ∙ c.if-not-is_open_sound.false)
    ∙ (if-true _ _ _ (le-leb _ _ c.if-left-beside.false) ∙ if-true _ _ _ (le-leb _ _ c.if-left-beside-2.false))))))
