-- Comparing by digits. One digit: the difference of two digits below (p+1)/2 is at most (p-1)/2 where it does not pass 0, and above it where it does.
-- Numbers: the low part is below the weight of the high part, so it decides only where the high parts are equal.
-- Assumes nothing.
use mathlib.Core.Path.{◌≡◌, refl, ap, ◌∙◌}
use mathlib.Core.Bool.{◌&&◌, ◌||◌}
use Prim.Native.Nat.{ℕ, ◌+◌, ◌-◌, ◌*◌, ◌/◌, ◌^◌, ◌<◌}
use native.Mathlib.Omega.{arith}
use native.Mathlib.Nat.{mul-le-mul_left}
use native.Mathlib.Decide.{dec_lt, ℕ_discrete}
use borrow.Author.Tests.{lt-ltb, le-ltb, eq-eqb, ne_eqb}
use lib.Dec.{ltb, eqb}
use lib.ListN.{length}
use Rattle.field.specs.Bit.{bit}
use Rattle.field.specs.Modular.{residue, sub_mod}
use Rattle.field.specs.Sum.{sum, total}
use Rattle.field.specs.Polynomials.{order_exponents, order_constant, order_polynomial}
use Rattle.field.proofs.Tests.{ltb_same, eqb_same}
use Rattle.field.proofs.Modular.{residue_below, sub_down, sub_up}
use Rattle.field.proofs.Polynomials.{zero_test_lem, order_test}
use Rattle.digits.specs.Comparing.{DigitLess, DigitEqual, LessTest, EqualTest, FullRangeFails, NumberLess, NumberEqual}
use Rattle.digits.proofs.Number.{number_append, number_below}

-- ---- one digit

pub digit_less : DigitLess
digit_less p x y hx hy = go (dec_lt x y)
  where
    h : ℕ
    h = (p - 1) / 2

    go : Dec (x < y) → ltb h (sub_mod p x y) ≡ ltb x y
    go (yes l) = let e = sub_up p x y l (omega arith) in ltb_same h (sub_mod p x y) x y (λ k. l) (λ k. absurd (omega arith))
    go (no n) = let e = sub_down p x y (omega arith) (omega arith) in ltb_same h (sub_mod p x y) x y (λ k. absurd (omega arith)) (λ k. omega arith)

pub digit_equal : DigitEqual
digit_equal p x y hx hy = go (dec_lt x y)
  where
    go : Dec (x < y) → eqb (sub_mod p x y) 0 ≡ eqb x y
    go (yes l) = let e = sub_up p x y l hy in eqb_same (sub_mod p x y) 0 x y (λ k. omega arith, λ k. omega arith)
    go (no n) = let e = sub_down p x y (omega arith) hx in eqb_same (sub_mod p x y) 0 x y (λ k. omega arith, λ k. omega arith)

pub less_test : LessTest
less_test p x y prime odd hx hy =
    order_test p (sub_mod p x y) prime odd (residue_below p _ (omega arith)) ∙ ap bit (digit_less p x y hx hy)

pub equal_test : EqualTest
equal_test p x y prime hx hy =
    zero_test_lem p (sub_mod p x y) prime (residue_below p _ (omega arith)) ∙ ap bit (digit_equal p x y hx hy)

-- by computing it
pub full_range_fails : FullRangeFails
unfolding residue sum total order_exponents order_constant order_polynomial
full_range_fails = (refl, refl)

-- ---- numbers

-- a number of a low part below w and a high part
high_less : (w a b c d : ℕ) → a < w → c < d → a + w * c < b + w * d
high_less w a b c d h l = omega (arith, mul-le-mul_left w l)

less_parts : (w a b c d : ℕ) → a < w → b < w → ltb (a + w * c) (b + w * d) ≡ (ltb c d || (eqb c d && ltb a b))
less_parts w a b c d ha hb = go (dec_lt c d) (ℕ_discrete c d)
  where
    go : Dec (c < d) → Dec (c ≡ d) → ltb (a + w * c) (b + w * d) ≡ (ltb c d || (eqb c d && ltb a b))
    go (yes l) e = rw (lt-ltb c d l) (lt-ltb _ _ (high_less w a b c d ha l))
    go (no n) (yes e) =
        let same : w * c ≡ w * d = ap (λ (t : ℕ). w * t) e in
        rw (le-ltb c d (omega arith), eq-eqb c d e) (ltb_same (a + w * c) (b + w * d) a b (λ l. omega arith) (λ l. omega arith))
    go (no n) (no e) =
        let more : b + w * d < a + w * c = high_less w b a d c hb (omega arith) in
        rw (le-ltb c d (omega arith), ne_eqb c d e) (le-ltb (a + w * c) (b + w * d) (omega arith))

equal_parts : (w a b c d : ℕ) → a < w → b < w → eqb (a + w * c) (b + w * d) ≡ (eqb c d && eqb a b)
equal_parts w a b c d ha hb = go (dec_lt c d) (ℕ_discrete c d)
  where
    go : Dec (c < d) → Dec (c ≡ d) → eqb (a + w * c) (b + w * d) ≡ (eqb c d && eqb a b)
    go l (yes e) =
        let same : w * c ≡ w * d = ap (λ (t : ℕ). w * t) e in
        rw (eq-eqb c d e) (eqb_same (a + w * c) (b + w * d) a b (λ q. omega arith, λ q. omega arith))
    go (yes l) (no e) =
        let less : a + w * c < b + w * d = high_less w a b c d ha l in rw (ne_eqb c d e) (ne_eqb (a + w * c) (b + w * d) (λ q. omega arith))
    go (no n) (no e) =
        let more : b + w * d < a + w * c = high_less w b a d c hb (omega arith) in rw (ne_eqb c d e) (ne_eqb (a + w * c) (b + w * d) (λ q. omega arith))

pub number_less : NumberLess
number_less B low high low' high' e h h' =
    rw (number_append B low high, number_append B low' high', ← e)
    (less_parts (B ^ length low) _ _ _ _ (number_below B low h) (rw e (number_below B low' h')))

pub number_equal : NumberEqual
number_equal B low high low' high' e h h' =
    rw (number_append B low high, number_append B low' high', ← e)
    (equal_parts (B ^ length low) _ _ _ _ (number_below B low h) (rw e (number_below B low' h')))
