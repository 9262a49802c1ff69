-- The decimal digits that `io::decimal` promises are those of the printout.
-- Assumes nothing.
use Prim.Native.Nat.{ℕ, zero, suc, ◌-◌, ◌*◌, ◌/◌, ◌%◌, ◌^◌, ◌≤◌, ◌<◌}
use mathlib.Core.Bool.{Bool, true, false}
use mathlib.Core.List.{List, [], ◌∷◌, ◌++◌}
use mathlib.Core.Path.{◌≡◌, refl, sym, ap, ◌∙◌}
use native.Mathlib.Nat.{le_of_suc-le-suc, not-suc-le-zero, mod-eq_of_lt, le-div_iff_mul-le, div-lt_iff_lt-mul, pow-suc, pow-le-pow_right, one-le-pow, le_trans}
use native.Mathlib.Omega.{arith}
use lib.Dec.{leb}
use borrow.Author.Tests.{lt-ltb, le-ltb, leb-true, leb-false}
use Rattle.io.specs.Digits.{hex_digit_ascii, last_digits, IsDigitCount}
use Rattle.prelude.proofs.Tests.{if-true, if-false}
use Rattle.printout.specs.Printout.{decimal_in}

-- the digits in front of the last one
rest-fewest : (count n : ℕ) → IsDigitCount 10 1 n (suc (suc count)) → IsDigitCount 10 1 (n / 10) (suc count)
rest-fewest count n f =
    let below : n < 10 ^ suc count * 10 = rw (← pow-suc 10 (suc count)) f.1 in
    let above : 10 ^ suc count ≤ n = rw drop-one at (f.2 (omega arith)) in
    (omega arith, (div-lt_iff_lt-mul {k = 10} (omega arith)).1 below, λ _. (le-div_iff_mul-le {k = 10} (omega arith)).1 (rw (same, ← pow-suc 10 count) above))
  where
    drop-one : suc (suc count) - 1 ≡ suc count
    drop-one = omega arith

    same : suc count - 1 ≡ count
    same = omega arith

ten-or-more : (count n : ℕ) → IsDigitCount 10 1 n (suc (suc count)) → 10 ≤ n
ten-or-more count n f =
    let power : 1 ≤ 10 ^ count = one-le-pow count 10 (omega arith) in
    let above : 10 ^ (suc (suc count) - 1) ≤ n = f.2 (omega arith) in
    let same : suc (suc count) - 1 ≡ suc count = omega arith in
    let split : 10 ^ suc count ≡ 10 ^ count * 10 = pow-suc 10 count in
    let above' : 10 ^ suc count ≤ n = rw same at above in
    omega arith

pub decimal-is : (places count n : ℕ) → count ≤ places → IsDigitCount 10 1 n count → last_digits 10 count n ≡ decimal_in places n
unfolding decimal_in
decimal-is places zero n room f = absurd (omega (arith, f.0))
decimal-is zero (suc count) n room f = absurd (not-suc-le-zero room)
decimal-is (suc places) (suc zero) n room f =
    let one : n < 10 = f.1 in
    ap (λ (d : ℕ). hex_digit_ascii d ∷ []) (mod-eq_of_lt one) ∙ sym (if-true _ _ _ (lt-ltb n 10 one))
decimal-is (suc places) (suc (suc count)) n room f =
    ap (λ (front : List ℕ). front ++ (hex_digit_ascii (n % 10) ∷ [])) (decimal-is places (suc count) (n / 10) (le_of_suc-le-suc room) (rest-fewest count n f))
    ∙ sym (if-false _ _ _ (le-ltb n 10 (ten-or-more count n f)))

-- a u64 has at most 20 digits
pub few-digits : (n count : ℕ) → n < 2 ^ 64 → IsDigitCount 10 1 n count → count ≤ 20
few-digits n count fits f = by-test (leb count 20) refl
  where
    by-test : (t : Bool) → leb count 20 ≡ t → count ≤ 20
    by-test true e = leb-true count 20 e
    by-test false e =
        let long : 20 < count = leb-false count 20 e in
        let small : 10 ^ 20 ≤ n = le_trans (pow-le-pow_right {n = 10} (omega arith) {i = 20} {j = count - 1} (omega arith)) (f.2 (omega arith)) in
        absurd (omega arith)
