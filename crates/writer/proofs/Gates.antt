-- How many products and squares a gate is.
-- Assumes nothing.
use Rattle.std.proofs.Common.{◌≡◌, ℕ, refl, [], ◌∷◌}
use Rattle.std.proofs.lemmas.Bool.{eq-eqb, ne_eqb}
use Rattle.circuit.specs.Count.{count, is_product, is_square}
use Rattle.writer.specs.declared.Gate.{Gate}
use Rattle.writer.specs.declared.Gate.TheVariants.{Left, Right, Add, Sub, Scale, Flip, Mul}
use Rattle.writer.specs.Gates.{gate_is}

-- a gate has so many products and so many squares
abbrev pub Counts : Gate → ℕ → ℕ → Type 0
Counts g products squares = (count is_product (gate_is g ∷ []) ≡ products) × (count is_square (gate_is g ∷ []) ≡ squares)

-- the MUL of a gate with itself is a square, and one of two gates a product
pub square_counts : {g : Gate} {a b : ℕ} → g ≡ Mul a b → a ≡ b → Counts g 0 1
unfolding count
square_counts {a = a} {b = b} is same = rw (is, eq-eqb a b same) (refl, refl)

pub product_counts : {g : Gate} {a b : ℕ} → g ≡ Mul a b → (a ≡ b → ⊥) → Counts g 1 0
unfolding count
product_counts {a = a} {b = b} is other = rw (is, ne_eqb a b other) (refl, refl)

-- another gate is neither
pub other_counts : (g : Gate) → ((a b : ℕ) → g ≡ Mul a b → ⊥) → Counts g 0 0
unfolding count
other_counts (Left slot) other = (refl, refl)
other_counts (Right slot) other = (refl, refl)
other_counts (Add a b) other = (refl, refl)
other_counts (Sub a b) other = (refl, refl)
other_counts (Scale a b) other = (refl, refl)
other_counts (Flip a) other = (refl, refl)
other_counts (Mul a b) other = absurd (other a b refl)
