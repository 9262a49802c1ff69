-- Byte for byte what a taken Receive Enable writes.
-- Assumes nothing.
use Prim.Native.Nat.{ℕ, ◌+◌, ◌-◌, ◌≤◌, ◌<◌}
use mathlib.Core.Bool.{Bool, true, false}
use mathlib.Core.List.{List, ◌∷◌, [], ◌++◌}
use mathlib.Core.Logic.{inl, inr}
use mathlib.Core.Path.{◌≡◌, refl, ap, ◌∙◌}
use native.Mathlib.Omega.{arith}
use lib.Dec.{eqb}
use lib.ListN.{length, get_or, drop, set, get_or-append}
use lib.Seq.{get_or-take, get_or-drop, get_or-append-add, get_or-set_same, get_or-set_other}
use borrow.Author.Tests.{eqb-true, eqb-false}
use Rattle.std.specs.Prelude.{Ok, Err}
use Rattle.prelude.specs.Choice.{when◌then◌else◌}
use Rattle.prelude.specs.Parts.{part}
use Rattle.prelude.proofs.Tests.{if-cases}
use Rattle.settings.specs.declared.enable.Refusal.TheVariants.{TooShort, NotSound, BadForm, BadControl, NoMac}
use Rattle.settings.specs.Layout.{Settings, size, settings_in, with_settings, kept_bits}
use Rattle.settings.specs.Enable.{Answer, number_of, Answered, answered, short_form_size, long_form_size, short_form, long_form, short_form_answered, long_form_answered, receive_enabled}
use Rattle.settings.specs.Properties.{Writes, EveryWriting}
use Rattle.settings.proofs.Properties.{Sized, long-form-sized}
use Rattle.settings.proofs.Sound.{Sound, sound-tells}
use Rattle.settings.proofs.Writes.{short-form-written}

-- a byte of the second of two lists
behind : (xs ys : List ℕ) (n k : ℕ) → length xs ≡ n → get_or (xs ++ ys) (n + k) 0 ≡ get_or ys k 0
behind xs ys n k e = rw (← e) (get_or-append-add xs ys k 0)

-- a byte of a part
in-part : (at n k : ℕ) (bytes : List ℕ) → k < n → get_or (part at n bytes) k 0 ≡ get_or bytes (at + k) 0
in-part at n k bytes l = get_or-take n (drop at bytes) k 0 l ∙ get_or-drop at bytes k 0

-- a byte of one of two lists
chosen : (given : Bool) (xs ys : List ℕ) (k x y : ℕ) → get_or xs k 0 ≡ x → get_or ys k 0 ≡ y → get_or (when given then xs else ys) k 0 ≡ (when given then x else y)
unfolding when◌then◌else◌
chosen true xs ys k x y p q = p
chosen false xs ys k x y p q = q

-- the bytes that settings are written to
module _ (s : Settings) (bytes : List ℕ) (sized : Sized s) where
  abbrev written : List ℕ
  written = with_settings s bytes

  abbrev from-ipv4 : List ℕ
  from-ipv4 = s.ipv4 ++ (s.unread ++ drop size bytes)

  written-mac : (k : ℕ) → k < 6 → get_or written (2 + k) 0 ≡ get_or s.mac k 0
  unfolding with_settings
  written-mac k l =
      let m : length s.mac ≡ 6 = sized.mac in
      behind (s.control ∷ kept_bits s.mac_kept s.address_kept ∷ []) (s.mac ++ from-ipv4) 2 k refl ∙ get_or-append s.mac from-ipv4 0 k (omega arith)

  written-from-ipv4 : (k : ℕ) → get_or written (8 + k) 0 ≡ get_or from-ipv4 k 0
  unfolding with_settings
  written-from-ipv4 k =
      let m : length s.mac ≡ 6 = sized.mac in
      behind (s.control ∷ kept_bits s.mac_kept s.address_kept ∷ s.mac) from-ipv4 8 k (omega arith)

  written-ipv4 : (k : ℕ) → k < 4 → get_or written (8 + k) 0 ≡ get_or s.ipv4 k 0
  written-ipv4 k l = let i : length s.ipv4 ≡ 4 = sized.ipv4 in written-from-ipv4 k ∙ get_or-append s.ipv4 _ 0 k (omega arith)

  written-from-unread : (k : ℕ) → get_or written (12 + k) 0 ≡ get_or (s.unread ++ drop size bytes) k 0
  written-from-unread k =
      let place : 12 + k ≡ 8 + (4 + k) = omega arith in
      ap (λ (n : ℕ). get_or written n 0) place ∙ (written-from-ipv4 (4 + k) ∙ behind s.ipv4 _ 4 k sized.ipv4)

  written-unread : (k : ℕ) → k < 3 → get_or written (12 + k) 0 ≡ get_or s.unread k 0
  written-unread k l = let u : length s.unread ≡ 3 = sized.unread in written-from-unread k ∙ get_or-append s.unread _ 0 k (omega arith)

  written-rest : (k : ℕ) → size ≤ k → get_or written k 0 ≡ get_or bytes k 0
  written-rest k past =
      let rest : ℕ = k - 15 in
      let place : k ≡ 12 + (3 + rest) = omega arith in
      let again : size + rest ≡ k = omega arith in
      ap (λ (n : ℕ). get_or written n 0) place
      ∙ (written-from-unread (3 + rest) ∙ (behind s.unread _ 3 rest sized.unread ∙ (get_or-drop size bytes rest 0 ∙ ap (λ (n : ℕ). get_or bytes n 0) again)))

module _ (settings form : List ℕ) where
  abbrev Does : Answered Answer → Type 0
  Does = Writes settings form

  refuses : (answer : Answer) → eqb (number_of answer) (number_of (Ok tt)) ≡ false → Does (answered answer settings)
  refuses answer n = record {
    two_forms = λ t. absurd (eqb-false _ _ n t);
    short_form = λ t. absurd (eqb-false _ _ n t);
    long_form = λ t. absurd (eqb-false _ _ n t);
  }

  module _ (s : Sound settings) where
    short-form-writes : length form ≡ short_form_size → Does (short_form_answered settings (get_or form 0 0))
    unfolding short_form_answered
    short-form-writes short =
        if-cases Does _ _ _
        (λ _. if-cases Does _ _ _
        (λ _. record {
          two_forms = λ _. inl short;
          short_form = λ _ _. rw (← one_byte) (record {
            control = get_or-set_same settings 0 (get_or form 0 0) 0 (omega (arith, s.has_room));
            others = λ k l. get_or-set_other settings 0 k (get_or form 0 0) 0 (λ e. omega arith);
          });
          long_form = λ _ long. absurd (omega arith);
        })
        (λ _. refuses (Err NoMac) refl))
        (λ _. refuses (Err BadControl) refl)
      where
        one_byte : set settings 0 (get_or form 0 0) ≡ with_settings (short_form (settings_in settings) (get_or form 0 0)) settings
        one_byte = short-form-written settings s.has_room s.kept-is-bits (get_or form 0 0)

    long-form-writes : length form ≡ long_form_size → Does (long_form_answered settings form)
    unfolding long_form_answered settings_in with_settings
    long-form-writes long =
        let after : Settings = long_form (settings_in settings) form in
        let sized : Sized after = long-form-sized settings s.has_room form long in
        if-cases Does _ _ _
        (λ _. record {
          two_forms = λ _. inr long;
          short_form = λ _ short. absurd (omega arith);
          long_form = λ _ _. record {
            control = refl;
            kept = refl;
            mac = λ k l. written-mac after settings sized k l ∙ chosen _ _ _ k _ _ (in-part 1 6 k form l) (in-part 2 6 k settings l);
            ipv4 = λ k l. written-ipv4 after settings sized k l ∙ chosen _ _ _ k _ _ (in-part 7 4 k form l) (in-part 8 4 k settings l);
            unread = λ k l. written-unread after settings sized k l ∙ in-part 11 3 k form l;
            others = written-rest after settings sized;
          };
        })
        (λ _. refuses (Err BadControl) refl)

pub every-writing : EveryWriting
unfolding receive_enabled
every-writing settings form =
    if-cases Q _ _ _
    (λ _. refuses settings form (Err TooShort) refl)
    (λ _. if-cases Q _ _ _
    (λ s. if-cases Q _ _ _
    (λ short. short-form-writes settings form (sound-tells settings s) (eqb-true _ _ short))
    (λ _. if-cases Q _ _ _
    (λ long. long-form-writes settings form (sound-tells settings s) (eqb-true _ _ long))
    (λ _. refuses settings form (Err BadForm) refl)))
    (λ _. refuses settings form (Err NotSound) refl))
  where
    Q : Answered Answer → Type 0
    Q = Writes settings form
