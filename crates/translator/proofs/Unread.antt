-- With the check off address and code are not read, and a right code changes nothing.
-- Assumes nothing.
use Prim.Native.Nat.{ℕ}
use mathlib.Core.Bool.{true}
use mathlib.Core.List.{List}
use mathlib.Core.Path.{◌≡◌, refl, sym, ap, ◌∙◌}
use lib.Dec.{eqb}
use Rattle.std.specs.Prelude.{Ok, Err}
use Rattle.prelude.specs.After.{After, after}
use Rattle.prelude.specs.Choice.{when◌then◌else◌}
use Rattle.prelude.proofs.Tests.{if-true, if-false, if-both}
use Rattle.record.specs.Transaction.{Transaction}
use Rattle.state.specs.declared.Setup.{Setup}
use Rattle.state.specs.declared.State.{State}
use Rattle.state.specs.Account.{limit}
use Rattle.state.specs.Sound.{sound}
use Rattle.state.specs.State.{check_off, check_on, setup_in}
use Rattle.outcome.specs.declared.Outcome.TheVariants as outcome
use Rattle.translator.specs.declared.Transacted.{Transacted}
use Rattle.translator.specs.declared.command.Class.{Class}
use Rattle.translator.specs.declared.command.Class.TheVariants as class
use Rattle.translator.specs.declared.judged.Judged.{Judged}
use Rattle.translator.specs.Check.{passes_check}
use Rattle.translator.specs.Command.{commands, class_in}
use Rattle.translator.specs.Judge.{by_class, judge}
use Rattle.translator.specs.Properties.{with_check_off, other_code, EveryUnread}
use Rattle.translator.specs.Transact.{Readiness, with, readiness_of, judged_on, applied, by_readiness, transacted}

-- with the check off every transaction passes
off-passes : (check : ℕ) (t : Transaction) → check ≡ check_off → passes_check check t ≡ true
unfolding passes_check
off-passes check t e = rw e (if-false _ _ _ refl)

-- no class reads address or code
class-same : (c : Class) (maximum f b address code : ℕ) (t : Transaction) (store settings : List ℕ) → by_class c maximum f b (other_code address code t) store settings ≡ by_class c maximum f b t store settings
unfolding by_class
class-same (class.Fragment first last) maximum f b address code t store settings = refl
class-same class.Enable maximum f b address code t store settings = refl
class-same class.Unknown maximum f b address code t store settings = refl

-- a transaction that passes is judged by its class
passed-judged : (setup : Setup) (f b : ℕ) (t : Transaction) (store settings : List ℕ) → passes_check setup.check t ≡ true → judge setup f b t store settings ≡ by_class (class_in commands t.command) setup.maximum f b t store settings
unfolding judge
passed-judged setup f b t store settings p = if-true _ _ _ p

module _ (s : State) (store settings : List ℕ) (t : Transaction) where
  abbrev f : ℕ
  f = s.account.beside.open_fragments

  abbrev b : ℕ
  b = s.account.beside.open_bytes

  off-judged : s.check ≡ check_off → (address code : ℕ) → judged_on s store settings (other_code address code t) ≡ judged_on s store settings t
  off-judged e address code =
      passed-judged (setup_in s) f b (other_code address code t) store settings (off-passes s.check (other_code address code t) e)
      ∙ (class-same (class_in commands t.command) s.maximum f b address code t store settings
      ∙ sym (passed-judged (setup_in s) f b t store settings (off-passes s.check t e)))

  off-same : s.check ≡ check_off → (address code : ℕ) → transacted s store settings (other_code address code t) ≡ transacted s store settings t
  unfolding transacted by_readiness
  off-same e address code = by-readiness (readiness_of s store settings)
    where
      by-readiness : (r : Readiness) → by_readiness r s store settings (other_code address code t) ≡ by_readiness r s store settings t
      by-readiness (Err o) = refl
      by-readiness (Ok tt) =
          ap (λ (d : After Judged). when eqb s.account.beside.total limit then after (with s outcome.Full) store settings else applied s d) (off-judged e address code)

  -- a state is as sound with the check off as with it on
  off-sound : s.check ≡ check_on → sound (with_check_off s) ≡ sound s
  unfolding sound
  off-sound e = rw e refl

  off-ready : s.check ≡ check_on → readiness_of (with_check_off s) store settings ≡ readiness_of s store settings
  unfolding readiness_of
  off-ready e = rw (off-sound e) refl

  -- what a transaction leaves, with the check off from then on
  abbrev turned_off : After Transacted → After Transacted
  turned_off left = after (with (with_check_off left.result.state) left.result.outcome) left.store left.settings

  passed-same : s.check ≡ check_on → passes_check check_on t ≡ true → transacted (with_check_off s) store settings t ≡ turned_off (transacted s store settings t)
  unfolding transacted by_readiness
  passed-same e p = ap (λ (r : Readiness). by_readiness r (with_check_off s) store settings t) (off-ready e) ∙ by-readiness (readiness_of s store settings)
    where
      same : judged_on (with_check_off s) store settings t ≡ judged_on s store settings t
      same =
          passed-judged (setup_in (with_check_off s)) f b t store settings (off-passes check_off t refl)
          ∙ sym (passed-judged (setup_in s) f b t store settings (ap (λ (check : ℕ). passes_check check t) e ∙ p))

      by-readiness : (r : Readiness) → by_readiness r (with_check_off s) store settings t ≡ turned_off (by_readiness r s store settings t)
      by-readiness (Err o) = refl
      by-readiness (Ok tt) =
          if-both (λ (x y : After Transacted). x ≡ turned_off y) (eqb s.account.beside.total limit) _ _ _ _ (λ _. refl) (λ _. ap (applied (with_check_off s)) same)

pub every-unread : EveryUnread
every-unread s store settings t formed = record { off = off-same s store settings t; passed = passed-same s store settings t }
