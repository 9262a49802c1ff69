-- What adding to a row does to the cells, to the sum of fragments and to the rows' soundness.
-- Assumes nothing.
use Prim.Native.Nat.{ℕ, zero, suc, ◌+◌, ◌*◌, ◌<◌, ◌≤◌}
use mathlib.Core.Bool.{true, false}
use mathlib.Core.List.{List}
use mathlib.Core.Logic.{◌⊎◌, inl, inr, ⊎_elim}
use mathlib.Core.Path.{◌≡◌, refl, subst, sym, ◌∙◌}
use native.Mathlib.Omega.{arith}
use lib.Dec.{ltb}
use lib.ListN.{length, get_or, set, length-set}
use lib.Seq.{get_or-set_same, get_or-set_other}
use borrow.Author.Tests.{eqb-true, eq-eqb, le-leb, leb-true, lt-ltb, ltb-true}
use Rattle.prelude.specs.Choice.{when◌then◌else◌}
use Rattle.prelude.proofs.Lists.{elements, all-elements}
use Rattle.prelude.proofs.Tests.{if-true, if-false, if-cases, if-first, if-second}
use Rattle.std.proofs.lemmas.Bool.{cases_eq}
use Rattle.state.specs.Account.{row_count, columns, aborted, badlength, badcheck, packets_in, fragments_in, bytes_in, all_fragments}
use Rattle.state.specs.Sound.{row_sound, rows_sound, singles_sound}
use Rattle.state.specs.State.{max_maximum}
use Rattle.state.proofs.AllRows.{row_sound_at, row-sound-at}
use Rattle.state.proofs.Rows.{each-row}
use Rattle.translator.specs.Counting.{add_to, left_open}
use Rattle.translator.specs.Properties.{SameRow, Adds}

-- three stores one after the other
module _ (l : List ℕ) (at x y z : ℕ) where
  abbrev stored : List ℕ
  stored = set (set (set l at x) (at + 1) y) (at + 2) z

  stored-elsewhere : (k : ℕ) → (k ≡ at → ⊥) → (k ≡ at + 1 → ⊥) → (k ≡ at + 2 → ⊥) → get_or stored k 0 ≡ get_or l k 0
  stored-elsewhere k a b c =
      get_or-set_other (set (set l at x) (at + 1) y) (at + 2) k z 0 c
      ∙ (get_or-set_other (set l at x) (at + 1) k y 0 b ∙ get_or-set_other l at k x 0 a)

  module _ (room : at + 2 < length l) where
    stored-first : get_or stored at 0 ≡ x
    stored-first =
        let two : at ≡ at + 2 → ⊥ = λ e. omega arith in
        let one : at ≡ at + 1 → ⊥ = λ e. omega arith in
        get_or-set_other (set (set l at x) (at + 1) y) (at + 2) at z 0 two
        ∙ (get_or-set_other (set l at x) (at + 1) at y 0 one ∙ get_or-set_same l at x 0 (omega arith))

    stored-second : get_or stored (at + 1) 0 ≡ y
    stored-second =
        let two : at + 1 ≡ at + 2 → ⊥ = λ e. omega arith in
        get_or-set_other (set (set l at x) (at + 1) y) (at + 2) (at + 1) z 0 two
        ∙ get_or-set_same (set l at x) (at + 1) y 0 (simp length-set (omega arith))

    stored-third : get_or stored (at + 2) 0 ≡ z
    stored-third = get_or-set_same (set (set l at x) (at + 1) y) (at + 2) z 0 (simp length-set (omega arith))

-- a grid whose rows are sound
pub record GridSound (grid : List ℕ) : Type 0 where
  pub formed : length grid ≡ row_count * columns
  pub rows-are-sound : rows_sound row_count grid ≡ true
  pub singles-are-sound : singles_sound grid ≡ true

-- what may be added to a row
pub record Fair (row packets fragments bytes : ℕ) : Type 0 where
  pub few : packets ≤ fragments
  pub much : bytes ≤ max_maximum * fragments
  pub aborted-has-no-packets : aborted ≡ row → packets ≡ 0
  pub badlength-has-no-packets : badlength ≡ row → packets ≡ 0
  pub badlength-has-no-bytes : badlength ≡ row → bytes ≡ 0
  pub badcheck-has-no-packets : badcheck ≡ row → packets ≡ 0
  pub badcheck-has-no-bytes : badcheck ≡ row → bytes ≡ 0

row-sound-more : (p₀ f₀ b₀ p f b : ℕ) → row_sound p₀ f₀ b₀ ≡ true → p ≤ f → b ≤ max_maximum * f → row_sound (p₀ + p) (f₀ + f) (b₀ + b) ≡ true
unfolding row_sound
row-sound-more p₀ f₀ b₀ p f b h few much =
    let few₀ : p₀ ≤ f₀ = leb-true _ _ (if-first _ _ h) in
    let much₀ : b₀ ≤ max_maximum * f₀ = leb-true _ _ (if-second _ _ h) in
    if-true _ _ _ (le-leb (p₀ + p) (f₀ + f) (omega arith)) ∙ le-leb (b₀ + b) (max_maximum * (f₀ + f)) (omega arith)

rows-sound-if : (n : ℕ) (grid : List ℕ) → ((row : ℕ) → row < n → row_sound_at row grid ≡ true) → rows_sound n grid ≡ true
unfolding rows_sound
rows-sound-if zero grid h = refl
rows-sound-if (suc n) grid h = if-true _ _ _ (rows-sound-if n grid (λ row l. h row (omega arith))) ∙ h n (omega arith)

module _ (grid : List ℕ) (row packets fragments bytes : ℕ) where
  abbrev added : List ℕ
  added = add_to row packets fragments bytes grid

  added-cases : (P : List ℕ → Type 0)
      → (row < row_count → P (stored grid (row * columns) (packets_in row grid + packets) (fragments_in row grid + fragments) (bytes_in row grid + bytes)))
      → P grid → P added
  unfolding add_to
  added-cases P inside outside = if-cases P (ltb row row_count) _ _ (λ l. inside (ltb-true _ _ l)) (λ _. outside)

  module _ (formed : length grid ≡ row_count * columns) where
    pub added-formed : length added ≡ row_count * columns
    added-formed = added-cases (λ (g : List ℕ). length g ≡ row_count * columns) (λ _. simp length-set formed) formed

    pub added-elsewhere : (other : ℕ) → (other ≡ row → ⊥) → SameRow other grid added
    added-elsewhere other n =
        added-cases (SameRow other grid)
        (λ l. record {
          packets = stored-elsewhere grid (row * columns) _ _ _ (other * columns) (λ e. n (omega arith)) (λ e. omega arith) (λ e. omega arith);
          fragments = stored-elsewhere grid (row * columns) _ _ _ (other * columns + 1) (λ e. omega arith) (λ e. n (omega arith)) (λ e. omega arith);
          bytes = stored-elsewhere grid (row * columns) _ _ _ (other * columns + 2) (λ e. omega arith) (λ e. omega arith) (λ e. n (omega arith));
        })
        (record { packets = refl; fragments = refl; bytes = refl })

    added-nowhere : ltb row row_count ≡ false → added ≡ grid
    unfolding add_to
    added-nowhere n = if-false _ _ _ n

    pub added-here : row < row_count → Adds row packets fragments bytes grid added
    unfolding add_to
    added-here l =
        let room : row * columns + 2 < length grid = omega arith in
        subst (Adds row packets fragments bytes grid) (sym (if-true _ _ _ (lt-ltb _ _ l))) (record {
          packets_more = stored-first grid (row * columns) _ _ _ room;
          fragments_more = stored-second grid (row * columns) _ _ _ room;
          bytes_more = stored-third grid (row * columns) _ _ _ room;
        })

    -- a row of the grid is the one that is added to, or stays
    added-at : (other : ℕ) → other < row_count → ((other ≡ row) × (row < row_count) × Adds other packets fragments bytes grid added) ⊎ SameRow other grid added
    added-at other l = by_row (cases_eq other row)
      where
        by_row : (other ≡ row) ⊎ (other ≡ row → ⊥) → ((other ≡ row) × (row < row_count) × Adds other packets fragments bytes grid added) ⊎ SameRow other grid added
        by_row (inl e) = inl (e, rw e at l, rw e (added-here (rw e at l)))
        by_row (inr n) = inr (added-elsewhere other n)

    added-fragments : row < row_count → all_fragments row_count added ≡ all_fragments row_count grid + fragments
    unfolding add_to all_fragments when◌then◌else◌
    added-fragments l =
        subst (λ (g : List ℕ). all_fragments row_count (add_to row packets fragments bytes g) ≡ all_fragments row_count g + fragments) (all-elements (row_count * columns) grid formed)
        (each-row (λ (r : ℕ). all_fragments row_count (add_to r packets fragments bytes (elements (row_count * columns) 0 grid)) ≡ all_fragments row_count (elements (row_count * columns) 0 grid) + fragments)
        (omega arith) (omega arith) (omega arith) (omega arith) (omega arith) (omega arith) (omega arith) (omega arith) (omega arith) (omega arith) row l)

    -- the fragments that are added, where the row is one, or else are left open
    pub fragments-stand : all_fragments row_count added + left_open row fragments ≡ all_fragments row_count grid + fragments
    unfolding left_open
    fragments-stand =
        if-cases (λ (left : ℕ). all_fragments row_count added + left ≡ all_fragments row_count grid + fragments) (ltb row row_count) 0 fragments
        (λ l. omega (arith, added-fragments (ltb-true _ _ l))) (λ n. rw (added-nowhere n))

  module _ (g : GridSound grid) (fair : row < row_count → Fair row packets fragments bytes) where
    added-row-sound : (other : ℕ) → other < row_count → row_sound_at other added ≡ true
    added-row-sound other l = by_row (added-at g.formed other l)
      where
        h : row_sound_at other grid ≡ true
        h = row-sound-at row_count other grid l g.rows-are-sound

        by_row : ((other ≡ row) × (row < row_count) × Adds other packets fragments bytes grid added) ⊎ SameRow other grid added → row_sound_at other added ≡ true
        by_row (inl (_, m, a)) =
            rw (a.packets_more, a.fragments_more, a.bytes_more) (row-sound-more _ _ _ packets fragments bytes h (fair m).few (fair m).much)
        by_row (inr s) = rw (s.packets, s.fragments, s.bytes) h

    no-packets-stay : (other : ℕ) → other < row_count → (row < row_count → other ≡ row → packets ≡ 0) → packets_in other grid ≡ 0 → packets_in other added ≡ 0
    no-packets-stay other l none z = ⊎_elim (λ (e, m, a). a.packets_more ∙ omega (arith, none m e)) (λ s. s.packets ∙ z) (added-at g.formed other l)

    no-bytes-stay : (other : ℕ) → other < row_count → (row < row_count → other ≡ row → bytes ≡ 0) → bytes_in other grid ≡ 0 → bytes_in other added ≡ 0
    no-bytes-stay other l none z = ⊎_elim (λ (e, m, a). a.bytes_more ∙ omega (arith, none m e)) (λ s. s.bytes ∙ z) (added-at g.formed other l)

    pub added-sound : GridSound added
    unfolding singles_sound
    added-sound =
        let h : _ = g.singles-are-sound in
        let z : _ = if-second _ _ h in
        let y : _ = if-second _ _ z in
        let x : _ = if-second _ _ y in
        record {
          formed = added-formed g.formed;
          rows-are-sound = rows-sound-if row_count added added-row-sound;
          singles-are-sound =
              if-true _ _ _ (eq-eqb _ _ (no-packets-stay aborted (omega arith) (λ m. (fair m).aborted-has-no-packets) (eqb-true _ _ (if-first _ _ h))))
              ∙ (if-true _ _ _ (eq-eqb _ _ (no-packets-stay badlength (omega arith) (λ m. (fair m).badlength-has-no-packets) (eqb-true _ _ (if-first _ _ z))))
              ∙ (if-true _ _ _ (eq-eqb _ _ (no-bytes-stay badlength (omega arith) (λ m. (fair m).badlength-has-no-bytes) (eqb-true _ _ (if-first _ _ y))))
              ∙ (if-true _ _ _ (eq-eqb _ _ (no-packets-stay badcheck (omega arith) (λ m. (fair m).badcheck-has-no-packets) (eqb-true _ _ (if-first _ _ x))))
              ∙ eq-eqb _ _ (no-bytes-stay badcheck (omega arith) (λ m. (fair m).badcheck-has-no-bytes) (eqb-true _ _ (if-second _ _ x))))));
        }
