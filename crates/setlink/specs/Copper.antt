-- Check 5 on copper: the decision by the whole list of checks, and why the check can be left out there (manual 7.5).
use Rattle.std.specs.Prelude.{ℕ, Bool, true, ◌≡◌, ltb}
use Rattle.prelude.specs.Bits.{is_set}
use Rattle.prelude.specs.Choice.{when◌then◌else◌, ◌and◌}
use Rattle.setlink.specs.declared.Decision.{Decision}
use Rattle.setlink.specs.declared.Media.{Media}
use Rattle.setlink.specs.declared.Media.TheVariants.{Copper, Fibre}
use Rattle.setlink.specs.Word.{speed1000, full_duplex, pairs, any_fits}
use Rattle.setlink.specs.Decide.{no_reason, media_conflict, reason_before_media, media_reason, settled, decided}

-- as `reason`, but with check 5 made on both media, as the list of checks has it (manual 7.3)
unfoldable pub reason_by_all_checks : ℕ → Bool → Media → ℕ
reason_by_all_checks word host_present media =
    when ltb 0 (reason_before_media word host_present) then reason_before_media word host_present else
    media_reason media word

-- the decision by them (manual 7.3, 7.4)
unfoldable pub decided_by_all_checks : ℕ → ℕ → Bool → Media → Decision
decided_by_all_checks in_force word host_present media = settled in_force word (reason_by_all_checks word host_present media)

-- whatever the word, the word in force and the host (manual 7.5)
pub record LeftOutOnCopper : Type 0 where
  -- a word that passes checks 1 to 4 selects a pair that copper takes
  pub pair_selected : (word : ℕ) (host_present : Bool) → reason_before_media word host_present ≡ no_reason → any_fits Copper word pairs ≡ true
  -- so by all checks no word is answered 0x0902 on copper
  pub no_media_conflict : (in_force word : ℕ) (host_present : Bool) → (decided_by_all_checks in_force word host_present Copper).reason ≡ media_conflict → ⊥
  -- and each decision is the same where check 5 is left out there
  pub nothing_changes : (in_force word : ℕ) (host_present : Bool) (media : Media) → decided in_force word host_present media ≡ decided_by_all_checks in_force word host_present media
  -- fibre keeps it: of the words that pass checks 1 to 4 it takes those with 1000 and full duplex among what they select, and no other
  pub kept_on_fibre : (in_force word : ℕ) (host_present : Bool) → reason_before_media word host_present ≡ no_reason
      → (decided in_force word host_present Fibre).reason ≡ (when is_set speed1000 word and is_set full_duplex word then no_reason else media_conflict)
