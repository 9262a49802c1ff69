-- The example of a journal and its printout, and one with codes that are checked, worked out from the list alone (manual 9.4, W.1).
use Rattle.std.specs.Prelude.{ℕ, true, false, List, [], ◌∷◌, reverse, ◌≡◌, replicate}
use Rattle.record.specs.Transaction.{Transaction, attributes, transaction, unchecked}
use Rattle.history.specs.Lines.{Line, row, lines, taken, superseded, broken, short, sent, aborted, badcheck, packets, fragments, bytes}
use Rattle.history.specs.Reading.{Entry, counted, Setup, total, setup_for}
use Rattle.history.specs.Settings.{settings_of, taken_forms}
use Rattle.history.specs.Runs.{Item, count_in, items_of}
use Rattle.history.specs.Replies.{reply_at}
use Rattle.history.specs.Partition.{lines_of}

-- six transactions while the link is up (manual 9.4)
abbrev pub entries : List Entry
entries =
    counted (unchecked 0xC4 (replicate 20 7) true)
    ∷ counted (unchecked 0x84 (replicate 32 7) true)
    ∷ counted (unchecked 0x84 (replicate 10 7) true)
    ∷ counted (unchecked 0x44 (replicate 5 7) true)
    ∷ counted (unchecked 0x04 (replicate 3 7) true)
    ∷ counted (unchecked 0xCA (0x41 ∷ []) true)
    ∷ []

-- the answer and the sent length of each place; what stands earlier is given newest first (manual 2.1)
abbrev pub replies_after : Setup → (earlier later : List Entry) → List (ℕ × ℕ)
replies_after setup earlier [] = []
replies_after setup earlier (counted t ∷ later) = ((reply_at setup earlier t).answer, (reply_at setup earlier t).sent) ∷ replies_after setup (counted t ∷ earlier) later

-- packets, fragments and bytes of each line (manual 8.2)
abbrev pub cells : List Item → List Line → List (ℕ × ℕ × ℕ)
cells list [] = []
cells list (line ∷ rest) = (count_in list line packets, count_in list line fragments, count_in list line bytes) ∷ cells list rest

pub record AsPrinted : Type 0 where
  -- in the order of the printout: sent, superseded, flushed, broken, over, short, linkdown, aborted, badlength, badcheck, open, taken, refused; a command is one fragment of its line
  pub cells_are :
      cells (items_of (setup_for 32 false) entries) lines
      ≡ (1, 1, 20) ∷ (1, 1, 32) ∷ (0, 0, 0) ∷ (0, 0, 0) ∷ (0, 0, 0) ∷ (1, 2, 15) ∷ (0, 0, 0) ∷ (0, 1, 3) ∷ (0, 0, 0) ∷ (0, 0, 0) ∷ (0, 0, 0) ∷ (0, 1, 0) ∷ (0, 0, 0) ∷ []
  pub lines_are : lines_of (setup_for 32 false) entries ≡ row sent ∷ row superseded ∷ row short ∷ row short ∷ row aborted ∷ taken ∷ []
  pub replies_are : replies_after (setup_for 32 false) [] entries ≡ (1, 60) ∷ (0, 0) ∷ (0, 0) ∷ (5, 0) ∷ (2, 0) ∷ (11, 0) ∷ []
  pub settings_are : settings_of (taken_forms (setup_for 32 false) (reverse entries)) ≡ 0x41 ∷ replicate 14 0
  pub total_is : total entries ≡ 6

-- from one address, while the link is up (manual 10.2)
abbrev pub coded : (command : ℕ) → List ℕ → (code : ℕ) → Transaction
coded command form code = transaction (attributes 0x92 command code true) form

-- a First; a Middle of which the code came with one bit turned; a Last; a Receive Enable with the code of another, and one with its own (manual W.1)
abbrev pub checked_entries : List Entry
checked_entries =
    counted (coded 0x84 (replicate 20 7) 0x4A)
    ∷ counted (coded 0x04 (replicate 20 7) 0x94)
    ∷ counted (coded 0x44 (replicate 20 7) 0x79)
    ∷ counted (coded 0xCA (0x51 ∷ []) 0xA5)
    ∷ counted (coded 0xCA (0x41 ∷ []) 0xA5)
    ∷ []

pub record AsChecked : Type 0 where
  pub lines_are : lines_of (setup_for 240 true) checked_entries ≡ row broken ∷ row badcheck ∷ row aborted ∷ row badcheck ∷ taken ∷ []
  pub replies_are : replies_after (setup_for 240 true) [] checked_entries ≡ (0, 0) ∷ (17, 0) ∷ (2, 0) ∷ (17, 0) ∷ (11, 0) ∷ []
  pub settings_are : settings_of (taken_forms (setup_for 240 true) (reverse checked_entries)) ≡ 0x41 ∷ replicate 14 0
  pub total_is : total checked_entries ≡ 5
