-- Encode (document 01): "3, 9 n, 21 out under n, 22 number (u64) not below B^n. Fills n bytes only."
use Rattle.std.specs.Prelude.{ℕ, ◌^◌, not, List, ◌++◌, ltb, leb, length, drop}
use Rattle.answer.specs.Outcome.{accepted, Outcome, unaltered, refuse}
use Rattle.field.specs.Primes.{listed}
use Rattle.digits.specs.Number.{base, wrong_count, digits_of}

abbrev pub encoding : ℕ → ℕ → ℕ → List ℕ → Outcome Unit
encoding p n x out =
    refuse (not (listed p)) (unaltered out 3)
    (refuse (wrong_count n) (unaltered out 9)
    (refuse (ltb (length out) n) (unaltered out 21)
    (refuse (leb (base p ^ n) x) (unaltered out 22)
    (record { answer = accepted tt; lent = digits_of (base p) n x ++ drop n out }))))
