-- The two ways of a transaction: it is rejected, or it is counted.
-- Assumes nothing.
use Prim.Native.Nat.{ℕ, ◌≤◌, ◌<◌}
use mathlib.Core.Bool.{Bool, true, false, not, true≢false}
use mathlib.Core.List.{List}
use mathlib.Core.Logic.{◌⊎◌, inl, inr, ⊎_elim}
use mathlib.Core.Path.{◌≡◌, refl, sym, ap, ◌∙◌}
use native.Mathlib.Nat.{not-le_of_lt}
use native.Mathlib.Omega.{arith}
use lib.Arith.{lt_of_le-ne}
use lib.ListN.{length}
use borrow.Author.Tests.{eqb-true, eqb-false, eq-eqb, ltb-true, ltb-false, le-ltb}
use Rattle.std.specs.Prelude.{Ok, Err}
use Rattle.prelude.specs.After.{After, after}
use Rattle.prelude.specs.Choice.{when◌then◌else◌}
use Rattle.prelude.proofs.Tests.{if-true, if-false, if-cases}
use Rattle.packet.specs.Store.{max_packet}
use Rattle.record.specs.Transaction.{Transaction, attributes}
use Rattle.settings.specs.Layout as settings_layout
use Rattle.settings.proofs.Sound as settings-sound
use Rattle.state.specs.declared.State.{State}
use Rattle.state.specs.Account.{Formed, limit}
use Rattle.state.specs.Sound.{sound}
use Rattle.state.proofs.Soundness.{AccountSound, account-sound-tells, sound-tells}
use Rattle.outcome.specs.declared.Outcome.{Outcome}
use Rattle.outcome.specs.declared.Outcome.TheVariants as outcome
use Rattle.outcome.specs.Outcome.{number_of, is_counted}
use Rattle.translator.specs.declared.Transacted.{Transacted}
use Rattle.translator.specs.declared.judged.Judged.{Judged}
use Rattle.translator.specs.Check.{passes_check}
use Rattle.translator.specs.Properties.{Every, closes, Orders, EveryOrder}
use Rattle.translator.specs.Transact.{Readiness, with, readiness_of, judged_on, applied, by_readiness, transacted}
use Rattle.translator.proofs.Comes.{Comes, tells_bad_check, judge-comes}

-- a state and buffers that can be used
pub record Usable (s : State) (store settings : List ℕ) : Type 0 where
  pub store-room : max_packet ≤ length store
  pub settings-room : settings_layout.size ≤ length settings
  pub state_is_sound : sound s ≡ true
  pub settings_are_sound : settings_layout.sound settings ≡ true

-- why a transaction is rejected
pub data Rejects (s : State) (store settings : List ℕ) : Outcome → Type 0 where
  too_short : (length store < max_packet) ⊎ (length settings < settings_layout.size) → Rejects s store settings outcome.NoRoom
  not_sound : max_packet ≤ length store → settings_layout.size ≤ length settings
      → (sound s ≡ false) ⊎ (settings_layout.sound settings ≡ false) → Rejects s store settings outcome.NotSound
  full : Usable s store settings → s.account.beside.total ≡ limit → Rejects s store settings outcome.Full

module _ (s : State) (store settings : List ℕ) where
  -- a state and buffers can be used, or the outcome says why not
  by-readiness : (P : Readiness → Type 0)
      → ((o : Outcome) → Rejects s store settings o → P (Err o)) → (Usable s store settings → P (Ok tt)) → P (readiness_of s store settings)
  unfolding readiness_of
  by-readiness P rejected ready =
      if-cases P _ _ _ (λ e. rejected _ (too_short (inl (ltb-true _ _ e))))
      (λ room. if-cases P _ _ _ (λ e. rejected _ (too_short (inr (ltb-true _ _ e))))
      (λ settings-room. if-cases P _ _ _
      (λ h. if-cases P _ _ _
      (λ r. ready (record { store-room = ltb-false _ _ room; settings-room = ltb-false _ _ settings-room; state_is_sound = h; settings_are_sound = r }))
      (λ n. rejected _ (not_sound (ltb-false _ _ room) (ltb-false _ _ settings-room) (inr n))))
      (λ n. rejected _ (not_sound (ltb-false _ _ room) (ltb-false _ _ settings-room) (inl n)))))

  pub ready-usable : readiness_of s store settings ≡ Ok tt → Usable s store settings
  ready-usable = by-readiness (λ (r : Readiness). r ≡ Ok tt → Usable s store settings) (λ o _ e. never o e) (λ u _. u)
    where
      never : (o : Outcome) → ◌≡◌ {A = Readiness} (Err o) (Ok tt) → Usable s store settings
      never o e = let z : ◌≡◌ {A = ℕ} 0 1 = cc in absurd (omega arith)

  pub usable-ready : Usable s store settings → readiness_of s store settings ≡ Ok tt
  unfolding readiness_of
  usable-ready u =
      if-false _ _ _ (le-ltb _ _ u.store-room)
      ∙ (if-false _ _ _ (le-ltb _ _ u.settings-room) ∙ (if-true _ _ _ u.state_is_sound ∙ if-true _ _ _ u.settings_are_sound))

  module _ (t : Transaction) where
    by_way : (P : After Transacted → Type 0)
        → ((o : Outcome) → Rejects s store settings o → P (after (with s o) store settings))
        → (Usable s store settings → (s.account.beside.total ≡ limit → ⊥) → P (applied s (judged_on s store settings t)))
        → P (transacted s store settings t)
    unfolding transacted by_readiness
    by_way P rejected counted =
        by-readiness (λ (r : Readiness). P (by_readiness r s store settings t)) rejected
        (λ u. if-cases P _ _ _ (λ e. rejected outcome.Full (full u (eqb-true _ _ e))) (λ n. counted u (eqb-false _ _ n)))

-- a state that can take a transaction
pub record Ready (s : State) : Type 0 where
  pub formed : Formed s.account
  pub is-sound : sound s ≡ true
  pub room : s.account.beside.total < limit

-- what a transaction came to on a state
abbrev pub ComesOn : State → List ℕ → List ℕ → Transaction → After Judged → Type 0
ComesOn s store settings t d =
    Comes s.maximum s.account.beside.open_fragments s.account.beside.open_bytes (closes t.command) (not (passes_check s.check t)) t.bytes store settings d

rejected-not-counted : (s : State) (store settings : List ℕ) (o : Outcome) → Rejects s store settings o → is_counted (number_of o) ≡ false
unfolding is_counted when◌then◌else◌
rejected-not-counted s store settings _ (too_short h) = refl
rejected-not-counted s store settings _ (not_sound a b h) = refl
rejected-not-counted s store settings _ (full u h) = refl

pub usable-comes : (s : State) (store settings : List ℕ) (t : Transaction) → Usable s store settings → ComesOn s store settings t (judged_on s store settings t)
usable-comes s store settings t u =
    let a : AccountSound s.account = account-sound-tells s.account (sound-tells s u.state_is_sound).account-is-sound in
    judge-comes s.maximum s.account.beside.open_fragments s.account.beside.open_bytes (λ none. omega arith) t.bytes store settings u.store-room u.settings_are_sound
    s.check (attributes t.address t.command t.code t.link_up)

-- what holds of a transaction that is rejected and of one that is counted holds of every one
pub every : (P : State → List ℕ → List ℕ → Transaction → After Transacted → Type 0)
    → ((s : State) (store settings : List ℕ) (t : Transaction) (o : Outcome) → Formed s.account → is_counted (number_of o) ≡ false → P s store settings t (after (with s o) store settings))
    → ((s : State) (store settings : List ℕ) (t : Transaction) (d : After Judged) → Ready s → ComesOn s store settings t d → P s store settings t (applied s d))
    → Every P
every P rejected counted s store settings t formed =
    by_way s store settings t (P s store settings t)
    (λ o r. rejected s store settings t o formed (rejected-not-counted s store settings o r))
    (λ u n. counted s store settings t (judged_on s store settings t)
    (record {
      formed = formed;
      is-sound = u.state_is_sound;
      room = lt_of_le-ne (account-sound-tells s.account (sound-tells s u.state_is_sound).account-is-sound).within n;
    })
    (usable-comes s store settings t u))

-- a test does not both hold and fail
holds-or-fails : (t : Bool) → t ≡ true → t ≡ false → ⊥
holds-or-fails t h n = true≢false (sym h ∙ n)

module _ (s : State) (store settings : List ℕ) where
  short-not-sound : settings_layout.sound settings ≡ true → length settings < settings_layout.size → ⊥
  short-not-sound h l = not-le_of_lt l (settings-sound.sound-tells settings h).has_room

  rejected-in-order : (t : Transaction) (o : Outcome) → Rejects s store settings o → Orders s store settings t (number_of o)
  rejected-in-order t _ (too_short short) = record {
    too_short = λ _. refl;
    not_sound = λ room settings-room _. absurd (⊎_elim (λ l. not-le_of_lt l room) (λ l. not-le_of_lt l settings-room) short);
    full = λ room _ h _. absurd (⊎_elim (λ l. not-le_of_lt l room) (short-not-sound h) short);
    counted = λ room _ h _. absurd (⊎_elim (λ l. not-le_of_lt l room) (short-not-sound h) short);
    wrong_code = λ room _ h _ _. absurd (⊎_elim (λ l. not-le_of_lt l room) (short-not-sound h) short);
    right_code = λ _ e. omega (arith, e);
  }
  rejected-in-order t _ (not_sound room settings-room n) = record {
    too_short = λ short. absurd (⊎_elim (λ l. not-le_of_lt l room) (λ l. not-le_of_lt l settings-room) short);
    not_sound = λ _ _ _. refl;
    full = λ _ h k _. absurd (⊎_elim (holds-or-fails _ h) (holds-or-fails _ k) n);
    counted = λ _ h k _. absurd (⊎_elim (holds-or-fails _ h) (holds-or-fails _ k) n);
    wrong_code = λ _ h k _ _. absurd (⊎_elim (holds-or-fails _ h) (holds-or-fails _ k) n);
    right_code = λ _ e. omega (arith, e);
  }
  rejected-in-order t _ (full u e) = record {
    too_short = λ short. absurd (⊎_elim (λ l. not-le_of_lt l u.store-room) (λ l. not-le_of_lt l u.settings-room) short);
    not_sound = λ _ _ n. absurd (⊎_elim (holds-or-fails _ u.state_is_sound) (holds-or-fails _ u.settings_are_sound) n);
    full = λ _ _ _ _. refl;
    counted = λ _ _ _ n. absurd (n e);
    wrong_code = λ _ _ _ n _. absurd (n e);
    right_code = λ _ q. omega (arith, q);
  }

  counted-in-order : (t : Transaction) (answer : ℕ) → Usable s store settings → (s.account.beside.total ≡ limit → ⊥) → is_counted answer ≡ true → tells_bad_check answer ≡ not (passes_check s.check t) → Orders s store settings t answer
  counted-in-order t answer u n c w = record {
    too_short = λ short. absurd (⊎_elim (λ l. not-le_of_lt l u.store-room) (λ l. not-le_of_lt l u.settings-room) short);
    not_sound = λ _ _ n. absurd (⊎_elim (holds-or-fails _ u.state_is_sound) (holds-or-fails _ u.settings_are_sound) n);
    full = λ _ _ _ e. absurd (n e);
    counted = λ _ _ _ _. c;
    wrong_code = λ _ _ _ _ wrong. eqb-true answer 17 (w ∙ ap not wrong);
    right_code = λ right q. holds-or-fails _ (eq-eqb answer 17 q) (w ∙ ap not right);
  }

pub every-order : EveryOrder
every-order s store settings t formed =
    by_way s store settings t (λ (left : After Transacted). Orders s store settings t (number_of left.result.outcome))
    (rejected-in-order s store settings t)
    (λ u n. counted-in-order s store settings t _ u n (usable-comes s store settings t u).is-counted (usable-comes s store settings t u).wrong-code)
