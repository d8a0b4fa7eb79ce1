-- The values meet the equation of every gate: each is the meaning of its gate, and the operations modulo p are sum, difference and product.
-- Assumes nothing.
use mathlib.Core.Path.{◌≡◌, refl, sym, ap, ◌∙◌}
use mathlib.Core.Bool.{true}
use mathlib.Core.List.{List, [], ◌∷◌}
use Prim.Native.Nat.{ℕ, suc, ◌+◌, ◌-◌, ◌*◌, ◌%◌, ◌<◌}
use native.Mathlib.Omega.{arith}
use native.Mathlib.Nat.{mod-mod, zero-mod, mul-add}
use Rattle.field.specs.Modular.{mul_mod}
use Rattle.field.proofs.Modular.{mod_same, mod_of, add_cong, add_mod_is, mul_mod_is, sub_add}
use Rattle.circuit.specs.Constant.{Constant, plus, minus, constant}
use Rattle.circuit.specs.Equations.{Scaled, Equation, Equations, GateValues}
use Rattle.circuit.specs.Gate.{Gate, Left, Right, Add, Sub, Scale, Flip, Mul}
use Rattle.circuit.specs.Meaning.{meaning, entry_at, Solves}
use Rattle.circuit.specs.Table.{Head, all_fit}
use Rattle.circuit.specs.Value.{values}
use Rattle.circuit.proofs.Constant.{NearZero, near_zero}
use Rattle.circuit.proofs.Fitting.{Fitted, fitted, fit_cons}
use Rattle.circuit.proofs.Meaning.{each_its_meaning}

module _ (head : Head) (left right : List ℕ) (some : 0 < head.prime) (E : ℕ → ℕ) where
  abbrev p : ℕ
  p = head.prime

  -- -n is p - n, so n times gate a makes up a multiple of p
  scaled : (k a : ℕ) (c : Constant) → NearZero p c → E k ≡ mul_mod p (E a) (constant p c) → Scaled p left right E k a c
  scaled k a (plus n) h e = mod_same p (e ∙ mul_mod_is p (E a) n some) ∙ mod-mod _ p
  scaled k a (minus n) h e =
      let here : E k % p ≡ (E a * (p - n)) % p = mod_same p (e ∙ mul_mod_is p (E a) (p - n) some) ∙ mod-mod _ p in
      let whole : p - n + n ≡ p = omega arith in
      let made : E a * (p - n) + E a * n ≡ E a * p = sym (mul-add (E a) (p - n) n) ∙ ap (λ (x : ℕ). E a * x) whole in
      add_cong p (E k) (E a * (p - n)) (E a * n) (E a * n) here refl ∙ mod_of p 0 (E a) _ 0 (omega (arith, made)) ∙ zero-mod p

  equation : (k : ℕ) (g : Gate) → Fitted head k g → E k ≡ meaning (values p left right) E g → Equation p left right E k g
  equation k (Left a) h e = e
  equation k (Right a) h e = e
  equation k (Add a b) h e = mod_same p (e ∙ add_mod_is p (E a) (E b) some) ∙ mod-mod _ p
  equation k (Sub a b) h e = mod_same p (ap (λ (x : ℕ). x + E b) e) ∙ sub_add p (E a) (E b) some
  equation k (Scale a c) h e = scaled k a c (near_zero p c h.1) e
  equation k (Flip a) h e = mod_same p (ap (λ (x : ℕ). x + E a) e) ∙ sub_add p 1 (E a) some
  equation k (Mul a b) h e = mod_same p (e ∙ mul_mod_is p (E a) (E b) some) ∙ mod-mod _ p

  equations : (k : ℕ) (gs : List Gate) → all_fit head k gs ≡ true → Solves (values p left right) E k gs → Equations p left right E k gs
  equations k [] t s = tt
  equations k (g ∷ gs) t s =
      let fit = fit_cons head k g gs t in (equation k g (fitted head k g fit.0) s.0, equations (suc k) gs fit.1 s.1)

pub gate_values : GateValues
gate_values head left right gates some t =
    let alg = values head.prime left right in
    equations head left right some (entry_at alg gates) 0 gates t (each_its_meaning ℕ alg head gates t).1
