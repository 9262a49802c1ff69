-- What the writes of a form leave in the bytes of the settings.
-- Assumes nothing.
use Prim.Native.Nat.{ℕ, zero, suc, ◌+◌, ◌*◌, ◌≤◌}
use mathlib.Core.Bool.{Bool, true, false}
use mathlib.Core.List.{List, [], ◌∷◌, ◌++◌, append_assoc}
use mathlib.Core.Path.{◌≡◌, refl, sym, ap, ◌∙◌}
use native.Mathlib.Omega.{arith}
use lib.ListN.{length, get_or, set, take, drop, take-append-drop, length-append, replicate}
use lib.Seq.{drop-cons, drop-drop}
use mir.Val.{bool_byte}
use Rattle.prelude.specs.Bits.{is_set}
use Rattle.prelude.specs.Choice.{when◌then◌else◌, ◌or◌}
use Rattle.prelude.specs.Parts.{part, put}
use Rattle.prelude.proofs.Lists.{length_part, put-over, put-over-if}
use Rattle.settings.specs.Layout.{size, settings_in, with_settings, fresh_settings, kept_bits, has_dedicated_mac, responds_to_arp}
use Rattle.settings.specs.Enable.{short_form, long_form}

-- the byte of kept bits, from its bits
pub kept-bits-recoded : (k : ℕ) → k ≤ 3 → kept_bits (is_set 0 k) (is_set 1 k) ≡ k
unfolding when◌then◌else◌
kept-bits-recoded zero h = refl
kept-bits-recoded (suc zero) h = refl
kept-bits-recoded (suc (suc zero)) h = refl
kept-bits-recoded (suc (suc (suc zero))) h = refl
kept-bits-recoded (suc (suc (suc (suc k)))) h = absurd (omega arith)

-- the same byte, from the bits' weights
pub kept-bits-weighed : (mac ipv4 : Bool) → bool_byte mac + 2 * bool_byte ipv4 ≡ kept_bits mac ipv4
unfolding when◌then◌else◌
kept-bits-weighed true true = refl
kept-bits-weighed true false = refl
kept-bits-weighed false true = refl
kept-bits-weighed false false = refl

pub fresh-written : (bytes : List ℕ) → 0x40 ∷ replicate 14 0 ++ drop size bytes ≡ with_settings fresh_settings bytes
unfolding with_settings when◌then◌else◌
fresh-written bytes = refl

-- the parts of a list one after the other
part-then-rest : (at n : ℕ) (bytes : List ℕ) → part at n bytes ++ drop (at + n) bytes ≡ drop at bytes
part-then-rest at n bytes = ap (λ (r : List ℕ). take n (drop at bytes) ++ r) (sym (drop-drop n at bytes)) ∙ take-append-drop n (drop at bytes)

module _ (bytes : List ℕ) (room : size ≤ length bytes) where
  -- the settings' bytes, part by part
  by-parts : get_or bytes 0 0 ∷ get_or bytes 1 0 ∷ part 2 6 bytes ++ (part 8 4 bytes ++ (part 12 3 bytes ++ drop size bytes)) ≡ bytes
  by-parts =
      rw (part-then-rest 12 3 bytes, part-then-rest 8 4 bytes, part-then-rest 2 6 bytes)
      (sym (drop-cons bytes 0 0 (omega arith) ∙ ap (λ (r : List ℕ). get_or bytes 0 0 ∷ r) (drop-cons bytes 1 0 (omega arith))))

  module _ (bits : get_or bytes 1 0 ≤ 3) where
    -- the settings' bytes, from their value
    pub settings-recoded : with_settings (settings_in bytes) bytes ≡ bytes
    unfolding with_settings settings_in
    settings-recoded = rw (kept-bits-recoded (get_or bytes 1 0) bits) by-parts

    pub short-form-written : (control : ℕ) → set bytes 0 control ≡ with_settings (short_form (settings_in bytes) control) bytes
    unfolding with_settings settings_in
    short-form-written control = ap (λ (l : List ℕ). set l 0 control) (sym settings-recoded)

pub length-chosen : (given : Bool) (xs ys : List ℕ) (n : ℕ) → length xs ≡ n → length ys ≡ n → length (when given then xs else ys) ≡ n
unfolding when◌then◌else◌
length-chosen true xs ys n x y = x
length-chosen false xs ys n x y = y

-- the long form's three pieces, written one after the other over those
module _ (control kept : ℕ) (gives_mac gives_ipv4 : Bool) (mac new_mac ipv4 new_ipv4 unread new_unread rest : List ℕ)
    (mac-is : length mac ≡ 6) (new-mac-is : length new_mac ≡ 6) (ipv4-is : length ipv4 ≡ 4) (new-ipv4-is : length new_ipv4 ≡ 4)
    (unread-is : length unread ≡ length new_unread) where
  pieces-written : (bytes : List ℕ) → bytes ≡ control ∷ kept ∷ mac ++ (ipv4 ++ (unread ++ rest))
      → (let with_mac : List ℕ = when gives_mac then put bytes 2 new_mac else bytes in
      let with_ipv4 : List ℕ = when gives_ipv4 then put with_mac 8 new_ipv4 else with_mac in
      put with_ipv4 12 new_unread
      ≡ control ∷ kept ∷ (when gives_mac then new_mac else mac) ++ ((when gives_ipv4 then new_ipv4 else ipv4) ++ (new_unread ++ rest)))
  pieces-written bytes e =
      let mac' : List ℕ = when gives_mac then new_mac else mac in
      let ipv4' : List ℕ = when gives_ipv4 then new_ipv4 else ipv4 in
      let mac'-is : length mac' ≡ 6 = length-chosen gives_mac new_mac mac 6 new-mac-is mac-is in
      let ipv4'-is : length ipv4' ≡ 4 = length-chosen gives_ipv4 new_ipv4 ipv4 4 new-ipv4-is ipv4-is in
      let head-is : length (control ∷ kept ∷ mac' ++ ipv4') ≡ 12 = simp length-append (omega arith) in
      rw (
        e,
        put-over-if gives_mac (control ∷ kept ∷ []) mac new_mac (ipv4 ++ (unread ++ rest)) 2 refl (mac-is ∙ sym new-mac-is),
        put-over-if gives_ipv4 (control ∷ kept ∷ mac') ipv4 new_ipv4 (unread ++ rest) 8 (omega arith) (ipv4-is ∙ sym new-ipv4-is),
        ← append_assoc mac' ipv4' (unread ++ rest),
        put-over (control ∷ kept ∷ mac' ++ ipv4') unread new_unread rest 12 head-is unread-is,
      )
      (ap (λ (l : List ℕ). control ∷ kept ∷ l) (append_assoc mac' ipv4' _))

module _ (bytes form : List ℕ) (room : size ≤ length bytes) (long : length form ≡ 14) where
  pub long-form-written :
      (let control : ℕ = get_or form 0 0 in
      let kept : ℕ = kept_bits (has_dedicated_mac control or is_set 0 (get_or bytes 1 0)) (responds_to_arp control or is_set 1 (get_or bytes 1 0)) in
      let with_bits : List ℕ = set (set bytes 0 control) 1 kept in
      let with_mac : List ℕ = when has_dedicated_mac control then put with_bits 2 (part 1 6 form) else with_bits in
      let with_ipv4 : List ℕ = when responds_to_arp control then put with_mac 8 (part 7 4 form) else with_mac in
      put with_ipv4 12 (part 11 3 form) ≡ with_settings (long_form (settings_in bytes) form) bytes)
  unfolding with_settings settings_in when◌then◌else◌
  long-form-written =
      let control : ℕ = get_or form 0 0 in
      let kept : ℕ = kept_bits (has_dedicated_mac control or is_set 0 (get_or bytes 1 0)) (responds_to_arp control or is_set 1 (get_or bytes 1 0)) in
      pieces-written control kept (has_dedicated_mac control) (responds_to_arp control)
      (part 2 6 bytes) (part 1 6 form) (part 8 4 bytes) (part 7 4 form) (part 12 3 bytes) (part 11 3 form) (drop size bytes)
      (length_part 2 6 bytes (omega arith)) (length_part 1 6 form (omega arith)) (length_part 8 4 bytes (omega arith)) (length_part 7 4 form (omega arith))
      (length_part 12 3 bytes (omega arith) ∙ sym (length_part 11 3 form (omega arith)))
      _ (ap (λ (l : List ℕ). set (set l 0 control) 1 kept) (sym (by-parts bytes room)))
