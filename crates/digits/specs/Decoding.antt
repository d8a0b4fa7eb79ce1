-- Decode (document 01): "3, 9 list length, 23 a digit of B or more, 24 number above 2^64-1."
use Rattle.std.specs.Prelude.{ℕ, ◌-◌, ◌^◌, not, List, ltb, length}
use Rattle.answer.specs.Outcome.{Answer, refused, accepted, refuse}
use Rattle.field.specs.Primes.{listed}
use Rattle.digits.specs.Number.{base, wrong_count, number, all_below}

-- "24 number above 2^64-1", or the number that the digits stand for
abbrev pub total_of : ℕ → List ℕ → Answer ℕ
total_of B digits = refuse (ltb (2 ^ 64 - 1) (number B digits)) (refused 24) (accepted (number B digits))

abbrev pub decoding : ℕ → List ℕ → Answer ℕ
decoding p digits =
    refuse (not (listed p)) (refused 3)
    (refuse (wrong_count (length digits)) (refused 9)
    (refuse (not (all_below (base p) digits)) (refused 23) (total_of (base p) digits)))
