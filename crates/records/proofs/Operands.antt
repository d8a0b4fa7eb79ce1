-- The operands that a record says, as many as its kind has: none, one or two, and where they lie.
-- Assumes nothing.
use Rattle.std.proofs.Common.{◌≡◌, sym, ap, ◌∙◌, List, [], ◌∷◌, ℕ, ◌<◌, arith, take, take_all}
use native.Mathlib.Decide.{ℕ_discrete}
use Rattle.circuit.specs.Bytes.{byte, u16_at}
use Rattle.circuit.specs.Every.{Every}
use Rattle.records.specs.Operands.{operands_of, operands_at}

module _ (bytes : List ℕ) (n : ℕ) (h : (a b : ℕ) → take n (a ∷ b ∷ []) ≡ operands_of (byte bytes 2) a b) where
  abbrev both : List ℕ
  both = u16_at bytes 4 ∷ u16_at bytes 6 ∷ []

  pub none : n ≡ 0 → [] ≡ operands_at bytes
  none e = ap (λ (m : ℕ). take m both) (sym e) ∙ h _ _

  pub one : n ≡ 1 → u16_at bytes 4 ∷ [] ≡ operands_at bytes
  one e = ap (λ (m : ℕ). take m both) (sym e) ∙ h _ _

  pub two : (n ≡ 0 → ⊥) → (n ≡ 1 → ⊥) → both ≡ operands_at bytes
  two some more = sym (take_all n both (omega arith)) ∙ h _ _

  module _ (size : ℕ) (some : n ≡ 0 → ⊥) (low : Every (λ (i : ℕ). i < size) (operands_at bytes)) where
    pub first_below : u16_at bytes 4 < size
    first_below = go (ℕ_discrete n 1)
      where
        go : Dec (n ≡ 1) → u16_at bytes 4 < size
        go (yes e) = (rw (← one e) at low).0
        go (no e) = (rw (← two some e) at low).0

    pub second_below : (n ≡ 1 → ⊥) → u16_at bytes 6 < size
    second_below more = (rw (← two some more) at low).1.0
