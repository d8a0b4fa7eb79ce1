-- Truth values as numbers modulo p: FLIP is "not", a product "and", and the sum of two that are not both true "or".
-- Assumes nothing.
use mathlib.Core.Path.{◌≡◌, refl, sym, ap, ◌∙◌}
use mathlib.Core.Bool.{Bool, true, false, not, ◌&&◌, ◌||◌, true≢false}
use Prim.Native.Nat.{ℕ, ◌+◌, ◌*◌, ◌≤◌, ◌<◌}
use native.Mathlib.Omega.{arith}
use Rattle.field.specs.Bit.{bit}
use Rattle.field.specs.Modular.{residue, add_mod, sub_mod, mul_mod}
use Rattle.field.proofs.Modular.{residue_small, sub_down}

pub bit_and : (a b : Bool) → bit (a && b) ≡ bit a * bit b
bit_and true true = refl
bit_and true false = refl
bit_and false b = omega arith

bit_or : (a b : Bool) → (a && b) ≡ false → bit a + bit b ≡ bit (a || b)
bit_or true true h = absurd (true≢false h)
bit_or true false h = refl
bit_or false true h = refl
bit_or false false h = refl

module _ (p : ℕ) (two : 2 ≤ p) where
  pub bit_below : (b : Bool) → bit b < p
  bit_below true = omega arith
  bit_below false = omega arith

  pub flip_bit : (b : Bool) → sub_mod p 1 (bit b) ≡ bit (not b)
  flip_bit true = sub_down p 1 1 (omega arith) (omega arith)
  flip_bit false = sub_down p 1 0 (omega arith) (omega arith)

  pub mul_bits : (a b : Bool) → mul_mod p (bit a) (bit b) ≡ bit (a && b)
  mul_bits a b = ap (residue p) (sym (bit_and a b)) ∙ residue_small p (bit (a && b)) (bit_below (a && b))

  pub add_bits : (a b : Bool) → (a && b) ≡ false → add_mod p (bit a) (bit b) ≡ bit (a || b)
  add_bits a b h = ap (residue p) (bit_or a b h) ∙ residue_small p (bit (a || b)) (bit_below (a || b))
