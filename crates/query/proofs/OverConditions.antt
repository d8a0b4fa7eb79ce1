-- Sums over the conditions of a card, and the bound on a condition's gates that keeps every table within 8191.
-- Assumes nothing.
use mathlib.Core.Path.{◌≡◌, ap, ◌∙◌}
use mathlib.Core.Bool.{Bool, true, false}
use mathlib.Core.List.{List, [], ◌∷◌, ◌++◌, map, map-append}
use Prim.Native.Nat.{ℕ, ◌+◌, ◌-◌, ◌*◌, ◌/◌, ◌%◌, ◌^◌, ◌≤◌}
use native.Mathlib.Omega.{arith}
use native.Mathlib.Nat.{le_refl, mul-le-mul_left}
use lib.ListN.{length}
use lib.Pow.{pow_pos, pow-add}
use Rattle.answer.specs.Report.{cost_of}
use Rattle.field.specs.Bit.{bit}
use Rattle.field.specs.Logarithm.{flog}
use Rattle.field.specs.Sum.{total}
use Rattle.field.proofs.Sum.{total_append}
use Rattle.circuit.specs.Every.{Every}
use Rattle.comparison.specs.Bits.{ones}
use Rattle.comparison.specs.Condition.{Condition}
use Rattle.comparison.specs.Formulas.{gates_before_flip, condition_size}
use Rattle.comparison.specs.Relation.{is_order, is_flipped}
use Rattle.comparison.proofs.Bits.{ones_below, flog_below}
use Rattle.query.specs.Card.{over_conditions}

pub over_mono : (f g : Condition → ℕ) (cs : List Condition) → Every (λ (c : Condition). f c ≤ g c) cs
    → over_conditions f cs ≤ over_conditions g cs
unfolding total
over_mono f g [] h = le_refl _
over_mono f g (c ∷ cs) h = omega (arith, h.0, over_mono f g cs h.1)

pub over_times : (a : ℕ) (f : Condition → ℕ) (cs : List Condition)
    → over_conditions (λ (c : Condition). a * f c) cs ≡ a * over_conditions f cs
unfolding total
over_times a f [] = omega arith
over_times a f (c ∷ cs) = omega (arith, over_times a f cs)

pub over_append : (f : Condition → ℕ) (cs ds : List Condition) → over_conditions f (cs ++ ds) ≡ over_conditions f cs + over_conditions f ds
over_append f cs ds = ap total (map-append f cs ds) ∙ total_append (map f cs) (map f ds)

-- products and squares summed apart
pub over_cost : (s : ℕ) (f g : Condition → ℕ) (cs : List Condition)
    → over_conditions (λ (c : Condition). cost_of s (f c) (g c)) cs ≡ cost_of s (over_conditions f cs) (over_conditions g cs)
unfolding total
over_cost s f g [] = omega arith
over_cost s f g (c ∷ cs) = omega (arith, over_cost s f g cs)

pub over_some : (f : Condition → ℕ) (cs : List Condition) → 1 ≤ length cs → 1 ≤ over_conditions (λ (c : Condition). 2 ^ f c) cs
unfolding total
over_some f [] some = absurd (omega arith)
over_some f (c ∷ cs) some = omega (arith, pow_pos (f c))

-- a power that all have
pub over_powers : (D : ℕ) (f : Condition → ℕ) (cs : List Condition)
    → over_conditions (λ (c : Condition). 2 ^ (D + f c)) cs ≡ 2 ^ D * over_conditions (λ (c : Condition). 2 ^ f c) cs
unfolding total
over_powers D f [] = omega arith
over_powers D f (c ∷ cs) = omega (arith, over_powers D f cs, pow-add 2 D (f c))

-- at most 445 gates for each digit
pub size_within : (p : ℕ) (c : Condition) → 3 ≤ p → p % 2 ≡ 1 → p ≤ 251 → 1 ≤ c.digits → condition_size p c ≤ 445 * c.digits
size_within p c three odd high some = go (is_order c.relation) (is_flipped c.relation)
  where
    -- a digit's part, with its share of joining, tree and FLIP
    wide : (x : ℕ) → x ≤ 441 → c.digits * x ≤ 441 * c.digits
    wide x h = omega (arith, mul-le-mul_left c.digits h)

    order_wide : p + 4 + (p - 3) / 2 + (p - 1) / 4 ≤ 441
    order_wide = omega arith

    equality_wide : 3 + flog (p - 1) + ones (p - 1) ≤ 441
    equality_wide = omega (arith, flog_below (p - 1) (omega arith), ones_below (p - 1) (omega arith) (omega arith))

    go : (b f : Bool) → gates_before_flip b p c.digits + bit f ≤ 445 * c.digits
    go true true = omega (arith, wide _ order_wide)
    go true false = omega (arith, wide _ order_wide)
    go false true = omega (arith, wide _ equality_wide)
    go false false = omega (arith, wide _ equality_wide)
