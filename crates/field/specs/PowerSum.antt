-- Sums of powers below p. The bound on how shallow a zero test can be (document 02, E9) rests on this law, and no promise about cards does.
-- Proved in `proofs/PowerSum.antt`.
use Rattle.std.specs.Prelude.{◌≡◌, ℕ, suc, ◌%◌, ◌^◌, ◌<◌}
use Rattle.field.specs.Primes.{Prime}
use Rattle.field.specs.Sum.{sum}

-- the sum of x^k over x < p is 0 modulo p for every k < p - 1
abbrev pub PowerSum : Type 0
PowerSum = (p k : ℕ) → Prime p → suc k < p → sum p (λ x. x ^ k) % p ≡ 0
