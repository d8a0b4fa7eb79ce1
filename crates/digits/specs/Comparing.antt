-- "Comparing by digits follows source document 002, equations (1) and (2), on half-range digits" (document 01). Proved in `proofs/Comparing.antt`.
use Rattle.std.specs.Prelude.{◌≡◌, true, ◌&&◌, ◌||◌, List, ◌++◌, ℕ, ◌%◌, ◌<◌, ltb, eqb, length}
use Rattle.field.specs.Bit.{bit}
use Rattle.field.specs.Half.{half}
use Rattle.field.specs.Primes.{Prime}
use Rattle.field.specs.Modular.{sub_mod}
use Rattle.field.specs.Polynomials.{zero_test, order_polynomial}
use Rattle.digits.specs.Number.{base, number, all_below}

-- ---- one digit

-- x < y exactly where (x - y) mod p is above (p-1)/2
abbrev pub DigitLess : Type 0
DigitLess = (p x y : ℕ) → x < base p → y < base p → ltb (half p) (sub_mod p x y) ≡ ltb x y

-- x = y exactly where (x - y) mod p is 0; here any x and y below p will do
abbrev pub DigitEqual : Type 0
DigitEqual = (p x y : ℕ) → x < p → y < p → eqb (sub_mod p x y) 0 ≡ eqb x y

-- so the order polynomial of the difference is 1 where x < y, and 0 otherwise
abbrev pub LessTest : Type 0
LessTest =
    (p x y : ℕ) → Prime p → p % 2 ≡ 1 → x < base p → y < base p → order_polynomial p (sub_mod p x y) % p ≡ bit (ltb x y)

-- and the zero test of the difference is 1 where x = y, and 0 otherwise
abbrev pub EqualTest : Type 0
EqualTest = (p x y : ℕ) → Prime p → x < p → y < p → zero_test p (sub_mod p x y) ≡ bit (eqb x y)

-- "Digits up to p-1: p=5, 0 < 3 comes out 0." So the digits of LessTest have to be below B, which is 3 at p=5
abbrev pub FullRangeFails : Type 0
FullRangeFails = (ltb 0 3 ≡ true) × (order_polynomial 5 (sub_mod 5 0 3) % 5 ≡ 0)

-- ---- numbers, lowest digit first: equally many low digits on both sides, each below B, and any high ones

-- smaller exactly where the high part is smaller, or equal and the low part smaller
abbrev pub NumberLess : Type 0
NumberLess =
    (B : ℕ) (low high low' high' : List ℕ) → length low ≡ length low' → all_below B low ≡ true → all_below B low' ≡ true
    → ltb (number B (low ++ high)) (number B (low' ++ high'))
    ≡ (ltb (number B high) (number B high') || (eqb (number B high) (number B high') && ltb (number B low) (number B low')))

-- equal exactly where both parts are
abbrev pub NumberEqual : Type 0
NumberEqual =
    (B : ℕ) (low high low' high' : List ℕ) → length low ≡ length low' → all_below B low ≡ true → all_below B low' ≡ true
    → eqb (number B (low ++ high)) (number B (low' ++ high'))
    ≡ (eqb (number B high) (number B high') && eqb (number B low) (number B low'))
