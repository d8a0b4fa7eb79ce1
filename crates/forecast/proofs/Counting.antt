-- The numbers that Forecast adds up: set bits and powers of two as the library has them, counts of a condition as the formulas give them,
-- and how large they can be.
-- Assumes nothing.
use Rattle.std.specs.Int.RustNames.{count_ones}
use Rattle.std.specs.Int.{IsNextPowerOfTwo}
use Rattle.std.proofs.Common.{◌≡◌, refl, sym, ap, ◌∙◌, Bool, true, false, ℕ, zero, suc, ◌+◌, ◌/◌, ◌%◌, ◌^◌, ◌≤◌, ◌<◌, max, arith}
use Rattle.std.proofs.lemmas.Nat.{pow_pos}
use lib.Arith.{bin_ind}
use lib.Count.{ones_step}
use Rattle.field.specs.Logarithm.{clog}
use Rattle.field.proofs.Logarithm.{clog_small, clog_between}
use Rattle.comparison.specs.Bits.{bits, set_bits, ones}
use Rattle.comparison.specs.Condition.{Condition}
use Rattle.comparison.specs.Formulas.{condition_size, condition_products, condition_squares}
use Rattle.comparison.specs.Relation.{is_order}
use Rattle.comparison.proofs.Bits.{bits_cons, worth, bits_worth}
use Rattle.forecast.specs.Counting.{digit_counts, of_sort, condition_counts}

-- ---- set bits

-- bit 0, and the bits of the half
ones_half : (t : ℕ) → ones t ≡ t % 2 + ones (t / 2)
unfolding ones set_bits worth
ones_half zero = refl
ones_half (suc t) =
    let n = suc t in
    let cons = bits_cons n (omega arith) in
    let whole : worth (bits n) ≡ n = bits_worth n in
    rw cons (omega (arith, rw cons at whole, bits_worth (n / 2)))

ones_none : count_ones 0 ≡ ones 0
unfolding count_ones ones
ones_none = refl

-- as the library counts them
pub ones_are : (t : ℕ) → count_ones t ≡ ones t
ones_are = bin_ind (λ t. count_ones t ≡ ones t) ones_none step
  where
    step : (t : ℕ) → count_ones (t / 2) ≡ ones (t / 2) → count_ones t ≡ ones t
    step t half = ones_step t ∙ ap (λ (n : ℕ). t % 2 + n) half ∙ sym (ones_half t)

-- ---- powers of two

-- the next power of two is 2^ceil(log2 n)
pub power_is : (n power : ℕ) → IsNextPowerOfTwo n power → power ≡ 2 ^ clog n
power_is n power next =
    let k = next.0.0 in
    next.0.1 ∙ ap (λ (d : ℕ). 2 ^ d) (exponent k (rw next.0.1 at next.1) (rw next.0.1 at next.2))
  where
    exponent : (k : ℕ) → n ≤ 2 ^ k → 2 ^ k / 2 < max 1 n → k ≡ clog n
    exponent zero most least = sym (clog_small n most)
    exponent (suc j) most least = sym (clog_between n j (omega (arith, pow_pos j)) most)

-- ---- the counts of a condition

-- those of both sorts, and the one that is picked
of_sort_lem : (order : Bool) (p : ℕ) → of_sort order (digit_counts true p) (digit_counts false p) ≡ digit_counts order p
of_sort_lem true p = refl
of_sort_lem false p = refl

-- they are those of the formulas
pub condition_is : (p : ℕ) (c : Condition)
    → condition_counts c.relation c.digits (digit_counts true p) (digit_counts false p)
    ≡ record { gates = condition_size p c; products = condition_products p c; squares = condition_squares p c }
condition_is p c = rw (of_sort_lem (is_order c.relation) p)
