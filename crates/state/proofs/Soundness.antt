-- What soundness of an account and of a state tells, and what it takes.
-- Assumes nothing.
use Prim.Native.Nat.{ℕ, ◌+◌, ◌-◌, ◌*◌, ◌≤◌, ◌<◌}
use mathlib.Core.Bool.{Bool, true}
use mathlib.Core.Path.{◌≡◌, ◌∙◌}
use native.Mathlib.Nat.{le_trans, mul-le-mul_left, mul-le-mul_right}
use native.Mathlib.Omega.{arith}
use lib.Dec.{eqb, leb}
use borrow.Author.Tests.{leb-true, le-leb, eqb-true, eq-eqb}
use Rattle.std.specs.Cmp.{both_ways}
use Rattle.prelude.specs.Choice.{◌and◌}
use Rattle.prelude.proofs.Tests.{if-true, if-first, if-second}
use Rattle.state.proofs.AllRows.{row-sound-at, all-fragments-next, all-fragments-grow}
use Rattle.state.specs.declared.Account.{Account}
use Rattle.state.specs.declared.State.{State}
use Rattle.state.specs.Account.{limit, row_count, packets_in, fragments_in, bytes_in, all_fragments}
use Rattle.state.specs.Properties.{EverySound}
use Rattle.state.specs.Sound.{row_sound, rows_sound, singles_sound, open_sound, sum_holds, account_sound, sound}
use Rattle.state.specs.State.{max_maximum, check_on}

-- what is known of a sound account
pub record AccountSound (a : Account) : Type 0 where
  pub within : a.beside.total ≤ limit
  pub rows-are-sound : rows_sound row_count a.grid ≡ true
  pub singles-are-sound : singles_sound a.grid ≡ true
  pub bytes-least : a.beside.open_fragments ≤ a.beside.open_bytes
  pub bytes_most : a.beside.open_bytes ≤ max_maximum * a.beside.open_fragments
  pub sum : all_fragments row_count a.grid + a.beside.open_fragments + a.beside.taken + a.beside.refused ≡ a.beside.total

pub account-sound-tells : (a : Account) → account_sound a ≡ true → AccountSound a
unfolding account_sound open_sound sum_holds
account-sound-tells a h =
    let grid : _ = if-second _ _ h in
    let singles : _ = if-second _ _ grid in
    let opens : _ = if-second _ _ singles in
    let bytes : _ = if-first _ _ opens in
    record {
      within = leb-true _ _ (if-first _ _ h);
      rows-are-sound = if-first _ _ grid;
      singles-are-sound = if-first _ _ singles;
      bytes-least = leb-true _ _ (if-first _ _ bytes);
      bytes_most = leb-true _ _ (if-second _ _ bytes);
      sum = eqb-true _ _ (if-second _ _ opens);
    }

pub account-sound-if : (a : Account) → AccountSound a → account_sound a ≡ true
unfolding account_sound open_sound sum_holds
account-sound-if a s =
    if-true _ _ _ (le-leb _ _ s.within)
    ∙ (if-true _ _ _ s.rows-are-sound
    ∙ (if-true _ _ _ s.singles-are-sound
    ∙ (if-true _ _ _ (if-true _ _ _ (le-leb _ _ s.bytes-least) ∙ le-leb _ _ s.bytes_most) ∙ eq-eqb _ _ s.sum)))

-- what is known of a sound state
pub record Sound (s : State) : Type 0 where
  pub account-is-sound : account_sound s.account ≡ true
  pub least : 1 ≤ s.maximum
  pub most : s.maximum ≤ max_maximum
  pub bytes-within : s.account.beside.open_bytes ≤ s.maximum * s.account.beside.open_fragments
  pub check-allowed : s.check ≤ check_on

pub sound-tells : (s : State) → sound s ≡ true → Sound s
unfolding sound
sound-tells s h =
    let least : _ = if-second _ _ h in
    let most : _ = if-second _ _ least in
    let bytes : _ = if-second _ _ most in
    record {
      account-is-sound = if-first _ _ h;
      least = leb-true _ _ (if-first _ _ least);
      most = leb-true _ _ (if-first _ _ most);
      bytes-within = leb-true _ _ (if-first _ _ bytes);
      check-allowed = leb-true _ _ (if-second _ _ bytes);
    }

pub sound-if : (s : State) → Sound s → sound s ≡ true
unfolding sound
sound-if s k =
    if-true _ _ _ k.account-is-sound
    ∙ (if-true _ _ _ (le-leb _ _ k.least)
    ∙ (if-true _ _ _ (le-leb _ _ k.most) ∙ (if-true _ _ _ (le-leb _ _ k.bytes-within) ∙ le-leb _ _ k.check-allowed)))

pub every-sound : EverySound
every-sound = record {
  maximum_least = λ s h. (sound-tells s h).least;
  maximum_most = λ s h. (sound-tells s h).most;
  check_most = λ s h. omega (arith, (sound-tells s h).check-allowed);
}

module _ (a : Account) where
  abbrev f : ℕ
  f = a.beside.open_fragments

  abbrev b : ℕ
  b = a.beside.open_bytes

  abbrev t : ℕ
  t = a.beside.taken

  abbrev r : ℕ
  r = a.beside.refused

  abbrev total : ℕ
  total = a.beside.total

  -- the tests in the order of the code, which takes from the total what stands beside the grid
  abbrev pub in_order : Bool
  in_order =
      leb total limit and leb f total and open_sound f b and leb t (total - f) and leb r (total - f - t)
      and rows_sound row_count a.grid and singles_sound a.grid and eqb (all_fragments row_count a.grid) (total - f - t - r)

  pub sound-in-order : account_sound a ≡ in_order
  unfolding open_sound
  sound-in-order = both_ways _ _ to from
    where
      to : account_sound a ≡ true → in_order ≡ true
      to h =
          let s : AccountSound a = account-sound-tells a h in
          if-true _ _ _ (le-leb _ _ s.within)
          ∙ (if-true _ _ _ (le-leb f total (omega arith))
          ∙ (if-true _ _ _ (if-true _ _ _ (le-leb _ _ s.bytes-least) ∙ le-leb _ _ s.bytes_most)
          ∙ (if-true _ _ _ (le-leb t (total - f) (omega arith))
          ∙ (if-true _ _ _ (le-leb r (total - f - t) (omega arith))
          ∙ (if-true _ _ _ s.rows-are-sound
          ∙ (if-true _ _ _ s.singles-are-sound ∙ eq-eqb (all_fragments row_count a.grid) (total - f - t - r) (omega arith)))))))

      from : in_order ≡ true → account_sound a ≡ true
      from h =
          let fits : _ = if-second _ _ h in
          let opens : _ = if-second _ _ fits in
          let takes : _ = if-second _ _ opens in
          let refuses : _ = if-second _ _ takes in
          let counted : _ = if-second _ _ refuses in
          let rest : _ = if-second _ _ counted in
          let open-fits : f ≤ total = leb-true _ _ (if-first _ _ fits) in
          let taken-fits : t ≤ total - f = leb-true _ _ (if-first _ _ takes) in
          let refused-fits : r ≤ total - f - t = leb-true _ _ (if-first _ _ refuses) in
          let left : all_fragments row_count a.grid ≡ total - f - t - r = eqb-true _ _ (if-second _ _ rest) in
          account-sound-if a (record {
            within = leb-true _ _ (if-first _ _ h);
            rows-are-sound = if-first _ _ counted;
            singles-are-sound = if-first _ _ rest;
            bytes-least = leb-true _ _ (if-first _ _ (if-first _ _ opens));
            bytes_most = leb-true _ _ (if-second _ _ (if-first _ _ opens));
            sum = omega arith;
          })

-- the most bytes of a packet fit a number
pub most_bytes : (maximum fragments : ℕ) → maximum ≤ max_maximum → fragments ≤ limit → maximum * fragments ≤ max_maximum * limit
most_bytes maximum fragments m f = le_trans (mul-le-mul_right fragments m) (mul-le-mul_left max_maximum f)

-- what a sound account bounds, for a row of its grid and beside the grid
pub record Bounds (a : Account) : Type 0 where
  pub fragments : (row : ℕ) → row < row_count → fragments_in row a.grid ≤ a.beside.total
  pub packets : (row : ℕ) → row < row_count → packets_in row a.grid ≤ fragments_in row a.grid
  pub bytes : (row : ℕ) → row < row_count → bytes_in row a.grid ≤ max_maximum * fragments_in row a.grid
  pub held_fragments : a.beside.open_fragments ≤ a.beside.total
  pub held_bytes : a.beside.open_bytes ≤ max_maximum * a.beside.open_fragments
  pub taken : a.beside.taken ≤ a.beside.total
  pub refused : a.beside.refused ≤ a.beside.total
  pub within : a.beside.total ≤ limit

pub sound-bounds : (a : Account) → account_sound a ≡ true → Bounds a
unfolding row_sound
sound-bounds a h =
    let s : AccountSound a = account-sound-tells a h in
    let sum : _ = s.sum in
    record {
      fragments = λ row l. omega (arith, all-fragments-next row a.grid, all-fragments-grow (row + 1) row_count a.grid (omega arith));
      packets = λ row l. leb-true _ _ (if-first _ _ (row-sound-at row_count row a.grid l s.rows-are-sound));
      bytes = λ row l. leb-true _ _ (if-second _ _ (row-sound-at row_count row a.grid l s.rows-are-sound));
      held_fragments = omega arith;
      held_bytes = s.bytes_most;
      taken = omega arith;
      refused = omega arith;
      within = s.within;
    }
