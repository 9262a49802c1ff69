-- Check 5 can be left out on copper: a word that passes the earlier checks selects a pair that copper takes. Fibre keeps it.
-- Assumes nothing.
use Prim.Native.Nat.{ℕ, ◌+◌, ◌≤◌, ◌<◌}
use Rattle.std.proofs.Math.Bool.{or-false}
use Rattle.std.proofs.lemmas.Bool.{false_from_ne_true, true_from_ne_false}
use Rattle.std.proofs.lemmas.List.Folds.{list_any_at}
use mathlib.Core.Bool.{Bool, true, false, true≢false}
use mathlib.Core.Path.{◌≡◌, refl, sym, ap, ◌∙◌}
use native.Mathlib.Omega.{arith}
use lib.Dec.{eqb, ltb}
use lib.ListN.{length, get_or}
use borrow.Author.Tests.{ltb-false, eqb-true, eqb-false}
use Rattle.prelude.specs.Bits.{bits, is_set}
use Rattle.prelude.specs.Choice.{when◌then◌else◌, ◌and◌}
use Rattle.prelude.proofs.Bits.{bits-add}
use Rattle.prelude.proofs.Tests.{if-true, if-congruence, if-cases}
use Rattle.setlink.specs.declared.Decision.{Decision}
use Rattle.setlink.specs.declared.Media.{Media}
use Rattle.setlink.specs.declared.Media.TheVariants.{Copper, Fibre}
use Rattle.setlink.specs.declared.Pair.{Pair}
use Rattle.setlink.specs.Word.{speed10, speed100, speed1000, speed10g, half_duplex, full_duplex, no_speed, speeds, pairs, takes, fits, any_fits}
use Rattle.setlink.specs.Decide.{no_reason, invalid_parameter, host_conflict, media_conflict, parameter_conflict, speed_conflict, negotiated_reason, forced_reason, parameter_reason, reason_before_media, media_reason, media_reason_on_fibre, reason, settled, decided}
use Rattle.setlink.specs.Copper.{reason_by_all_checks, decided_by_all_checks, LeftOutOnCopper}

-- what is read past the end of the table
abbrev no_pair : Pair
no_pair = record { speed = 0; duplex = 0; fibre = false }

-- the bits of three speeds and of a duplex that is selected, where none of the speeds goes with it
no-speed-left : (a b c : ℕ) {duplex : ℕ} → 0 < a + b + c → duplex ≡ 1 → a + duplex ≤ 1 → b + duplex ≤ 1 → c + duplex ≤ 1 → ⊥
no-speed-left a b c some selected p q r = omega arith

module _ (word : ℕ) where
  speed-selected : no_speed word ≡ false → 0 < speeds word
  speed-selected e = omega (arith, eqb-false, bits-add speed10 3 1 word, bits-add speed100 2 1 word, bits-add speed1000 1 1 word)

  -- of a pair that does not fit, the word lacks the speed or the duplex, since copper takes every pair
  lacks-one : (pair : Pair) → fits Copper word pair ≡ false → bits pair.speed 1 word + bits pair.duplex 1 word ≤ 1
  unfolding fits takes when◌then◌else◌
  lacks-one pair =
      if-cases (λ (t : Bool). t ≡ false → bits pair.speed 1 word + bits pair.duplex 1 word ≤ 1) (is_set pair.speed word) _ _
      (λ _ e. omega (arith, eqb-false))
      (λ e _. omega (arith, eqb-false))

  -- where none fits, the one at any place does not
  none-fits-at : (i : ℕ) → i < length pairs → any_fits Copper word pairs ≡ false → fits Copper word (get_or pairs i no_pair) ≡ false
  unfolding any_fits
  none-fits-at i h none =
      false_from_ne_true _ (λ fit. true≢false (sym (list_any_at (fits Copper word) pairs i no_pair h fit) ∙ none))

  lacks-one-at : (i : ℕ) → i < 5 → any_fits Copper word pairs ≡ false → bits (get_or pairs i no_pair).speed 1 word + bits (get_or pairs i no_pair).duplex 1 word ≤ 1
  lacks-one-at i h none = lacks-one (get_or pairs i no_pair) (none-fits-at i h none)

  -- half duplex fits with a speed below 1000, which are the pairs 0 and 2
  half-fits : 0 < speeds word → bits half_duplex 1 word ≡ 1 → bits speed1000 1 word ≡ 0 → bits speed10g 1 word ≡ 0 → any_fits Copper word pairs ≡ true
  half-fits speed half not-1000 not-10G =
      true_from_ne_false _ (λ none.
      no-speed-left (bits speed10 1 word) (bits speed100 1 word) 0 (omega arith) half (lacks-one-at 0 (omega arith) none) (lacks-one-at 2 (omega arith) none) (omega arith))

  -- full duplex fits with a speed below 10G, which are the pairs 1, 3 and 4
  full-fits : 0 < speeds word → bits full_duplex 1 word ≡ 1 → bits speed10g 1 word ≡ 0 → any_fits Copper word pairs ≡ true
  full-fits speed full not-10G =
      true_from_ne_false _ (λ none.
      no-speed-left (bits speed10 1 word) (bits speed100 1 word) (bits speed1000 1 word) (omega arith) full (lacks-one-at 1 (omega arith) none) (lacks-one-at 3 (omega arith) none) (lacks-one-at 4 (omega arith) none))

  -- a reason that leaves check 5 nothing to refuse on copper: it is not check 5's own, and where there is none, a pair fits
  record LeavesNothing (why : ℕ) : Type 0 where
    no-conflict : why ≡ media_conflict → ⊥
    pair_fits : why ≡ no_reason → any_fits Copper word pairs ≡ true

  refused : (why : ℕ) → eqb why media_conflict ≡ false → eqb why no_reason ≡ false → LeavesNothing why
  refused why other some = record { no-conflict = eqb-false why media_conflict other; pair_fits = λ none. absurd (eqb-false why no_reason some none) }

  passed : any_fits Copper word pairs ≡ true → LeavesNothing no_reason
  passed fit = record { no-conflict = eqb-false no_reason media_conflict refl; pair_fits = λ _. fit }

  negotiated-leaves-nothing : LeavesNothing (negotiated_reason word)
  unfolding negotiated_reason
  negotiated-leaves-nothing = if-cases LeavesNothing _ _ _ passed (λ _. refused invalid_parameter refl refl)

  forced-leaves-nothing : no_speed word ≡ false → LeavesNothing (forced_reason word)
  unfolding forced_reason
  forced-leaves-nothing some =
      let speed : 0 < speeds word = speed-selected some in
      if-cases LeavesNothing _ _ _ (λ _. refused speed_conflict refl refl)
      (λ _. if-cases LeavesNothing _ _ _ (λ _. refused invalid_parameter refl refl)
      (λ duplex. if-cases LeavesNothing _ _ _ (λ _. refused invalid_parameter refl refl)
      (λ _. if-cases LeavesNothing _ _ _
      (λ half. if-cases LeavesNothing _ _ _ (λ _. refused parameter_conflict refl refl)
      (λ not-1000. if-cases LeavesNothing _ _ _ (λ _. refused parameter_conflict refl refl)
      (λ not-10G. passed (half-fits speed (eqb-true _ _ half) (omega (arith, eqb-false)) (omega (arith, eqb-false))))))
      (λ not-half. if-cases LeavesNothing _ _ _ (λ _. refused invalid_parameter refl refl)
      (λ not-10G. passed (full-fits speed (omega (arith, eqb-false)) (omega (arith, eqb-false))))))))

  module _ (host_present : Bool) where
    checks-leave-nothing : LeavesNothing (reason_before_media word host_present)
    unfolding reason_before_media parameter_reason
    checks-leave-nothing =
        if-cases LeavesNothing _ _ _ (λ _. refused host_conflict refl refl)
        (λ _. if-cases LeavesNothing _ _ _ (λ _. refused invalid_parameter refl refl)
        (λ _. if-cases LeavesNothing _ _ _ (λ _. refused invalid_parameter refl refl)
        (λ _. if-cases LeavesNothing _ _ _ (λ _. refused invalid_parameter refl refl)
        (λ some. if-cases LeavesNothing _ _ _ (λ _. negotiated-leaves-nothing) (λ _. forced-leaves-nothing some)))))

    fits-when-passed : ltb 0 (reason_before_media word host_present) ≡ false → any_fits Copper word pairs ≡ true
    fits-when-passed none = checks-leave-nothing.pair_fits (omega (arith, ltb-false 0 _ none))

    no-conflict-on-copper : reason_by_all_checks word host_present Copper ≡ media_conflict → ⊥
    unfolding reason_by_all_checks media_reason
    no-conflict-on-copper =
        if-cases (λ (why : ℕ). why ≡ media_conflict → ⊥) _ _ _
        (λ _. checks-leave-nothing.no-conflict)
        (λ none conflict. eqb-false no_reason media_conflict refl (sym (if-true _ _ _ (fits-when-passed none)) ∙ conflict))

    reason-unchanged : (media : Media) → reason word host_present media ≡ reason_by_all_checks word host_present media
    unfolding reason reason_by_all_checks media_reason_on_fibre media_reason
    reason-unchanged Copper = if-congruence _ _ _ _ _ (λ _. refl) (λ none. sym (if-true _ _ _ (fits-when-passed none)))
    reason-unchanged Fibre = refl

    fibre-takes : any_fits Fibre word pairs ≡ (is_set speed1000 word and is_set full_duplex word)
    unfolding any_fits fits takes when◌then◌else◌
    fibre-takes = or-false (is_set speed1000 word and is_set full_duplex word)

    kept-on-fibre : reason_before_media word host_present ≡ no_reason → reason word host_present Fibre ≡ (when is_set speed1000 word and is_set full_duplex word then no_reason else media_conflict)
    unfolding reason media_reason_on_fibre media_reason when◌then◌else◌
    kept-on-fibre none = rw none (ap (λ (t : Bool). when t then no_reason else media_conflict) fibre-takes)

reason-settled : (in_force word why : ℕ) → (settled in_force word why).reason ≡ why
unfolding settled
reason-settled in_force word why = if-cases (λ (d : Decision). d.reason ≡ why) _ _ _ (λ none. sym (eqb-true why no_reason none)) (λ _. refl)

pub left-out-on-copper : LeftOutOnCopper
unfolding decided decided_by_all_checks
left-out-on-copper =
    record {
      pair_selected = λ word host_present. (checks-leave-nothing word host_present).pair_fits;
      no_media_conflict = λ in_force word host_present e. no-conflict-on-copper word host_present (sym (reason-settled in_force word _) ∙ e);
      nothing_changes = λ in_force word host_present media. rw (reason-unchanged word host_present media) refl;
      kept_on_fibre = λ in_force word host_present none. reason-settled in_force word _ ∙ kept-on-fibre word host_present none;
    }
