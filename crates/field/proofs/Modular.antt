-- Laws of arithmetic modulo p, for any p, or any p above 0: congruence is equality of remainders, and minus x is p - 1 times x,
-- so that every identity is one of sums and products. `mod_of` turns an equation up to multiples of p into a congruence, and `strip` takes inner remainders away.
-- Assumes nothing.
use mathlib.Core.Path.{◌≡◌, refl, sym, ap, ap₂, ◌∙◌}
use mathlib.Core.Logic.{◌↔◌}
use Prim.Native.Nat.{ℕ, zero, suc, ◌+◌, ◌-◌, ◌*◌, ◌/◌, ◌%◌, ◌^◌, ◌≤◌, ◌<◌}
use native.Mathlib.Omega.{arith}
use native.Mathlib.Nat.{add-mul-mod_self_right, mod-add-div', mod-mod, mod-add-mod, add-mod-mod, mod-lt, mod-eq_of_lt, zero-mod, le_of_lt, add-zero, add_assoc, add_comm, mul_comm, mul-zero, mul-one, pow-zero, pow-suc}
use native.Mathlib.Numerals.{sub-one}
use Rattle.field.specs.Modular.{residue, add_mod, sub_mod, mul_mod}

-- ---- congruence

-- equal numbers have equal remainders
pub mod_same : (p : ℕ) {x y : ℕ} → x ≡ y → x % p ≡ y % p
mod_same p e = ap (λ (n : ℕ). n % p) e

-- equal up to multiples of p
pub mod_of : (p k l x y : ℕ) → x + k * p ≡ y + l * p → x % p ≡ y % p
mod_of p k l x y e =
    sym (add-mul-mod_self_right x k p) ∙ mod_same p e ∙ add-mul-mod_self_right y l p

-- what leaves no remainder is a multiple
pub multiple : (p x : ℕ) → x % p ≡ 0 → x ≡ x / p * p
multiple p x h = omega (arith, mod-add-div' x p)

-- the one multiple between 0 and 2p
pub multiple_between : (p x : ℕ) → 0 < x → x < p + p → x % p ≡ 0 → x ≡ p
multiple_between p x low high h = go (x / p) (multiple p x h)
  where
    go : (q : ℕ) → x ≡ q * p → x ≡ p
    go zero e = absurd (omega arith)
    go (suc zero) e = omega arith
    go (suc (suc q)) e = absurd (omega arith)

pub mod_mul : (a b p : ℕ) → (a % p * b) % p ≡ (a * b) % p
mod_mul a b p = mod_of p (a / p * b) 0 _ _ (omega (arith, ap (λ (n : ℕ). n * b) (mod-add-div' a p)))

pub mul_mod_lem : (a b p : ℕ) → (a * (b % p)) % p ≡ (a * b) % p
mul_mod_lem a b p = mod_same p (mul_comm a (b % p)) ∙ mod_mul b a p ∙ mod_same p (mul_comm b a)

-- inner remainders go
pub ruleset strip = (mod-mod, mod-add-mod, add-mod-mod, mod_mul, mul_mod_lem)

pub add_cong : (p a b c d : ℕ) → a % p ≡ b % p → c % p ≡ d % p → (a + c) % p ≡ (b + d) % p
add_cong p a b c d h k = sym (simp strip) ∙ ap₂ (λ (x y : ℕ). (x + y) % p) h k ∙ simp strip

pub mul_cong : (p a b c d : ℕ) → a % p ≡ b % p → c % p ≡ d % p → (a * c) % p ≡ (b * d) % p
mul_cong p a b c d h k = sym (simp strip) ∙ ap₂ (λ (x y : ℕ). (x * y) % p) h k ∙ simp strip

pub pow_cong : (p a b n : ℕ) → a % p ≡ b % p → (a ^ n) % p ≡ (b ^ n) % p
pow_cong p a b zero h = simp pow-zero
pow_cong p a b (suc n) h = simp pow-suc (mul_cong p (a ^ n) (b ^ n) a b (pow_cong p a b n h) h)

-- what is 0 modulo p adds nothing, and makes a product 0
pub add_none : (p a b : ℕ) → b % p ≡ 0 → (a + b) % p ≡ a % p
add_none p a b h = add_cong p a a b 0 refl (h ∙ sym (zero-mod p)) ∙ simp add-zero

pub none_add : (p a b : ℕ) → a % p ≡ 0 → (a + b) % p ≡ b % p
none_add p a b h = mod_same p (add_comm a b) ∙ add_none p b a h

pub mul_none : (p a b : ℕ) → b % p ≡ 0 → (a * b) % p ≡ 0
mul_none p a b h = sym (mul_mod_lem a b p) ∙ rw h (simp (mul-zero, zero-mod))

pub none_mul : (p a b : ℕ) → a % p ≡ 0 → (a * b) % p ≡ 0
none_mul p a b h = mod_same p (mul_comm a b) ∙ mul_none p b a h

-- and what is 1 changes no product
pub mul_unit : (p a b : ℕ) → b % p ≡ 1 → (a * b) % p ≡ a % p
mul_unit p a b h = sym (mul_mod_lem a b p) ∙ rw h (simp mul-one)

-- numbers that add up to 0 have the same square
pub opposite_squares : (p a b : ℕ) → (a + b) % p ≡ 0 → (b * b) % p ≡ (a * a) % p
opposite_squares p a b h =
    let e = multiple p (a + b) h in
    mod_of p (a * ((a + b) / p)) (b * ((a + b) / p)) _ _ (omega (arith, ap (λ (n : ℕ). a * n) e, ap (λ (n : ℕ). b * n) e))

-- ---- minus x is p - 1 times x

pub minus_add : (p x : ℕ) → 0 < p → ((p - 1) * x + x) % p ≡ 0
minus_add zero x h = elim h [ ]
minus_add (suc m) x h = simp sub-one (mod_of (suc m) 0 x _ 0 (omega arith) ∙ zero-mod (suc m))

pub minus_product : (p a b : ℕ) → b ≤ p → 0 < p → (a + (p - b)) % p ≡ (a + (p - 1) * b) % p
minus_product zero a b l h = elim h [ ]
minus_product (suc m) a b l h = simp sub-one (mod_of (suc m) b 1 _ _ (omega arith))

-- minus x, and x, added to anything
pub add_minus : (p a x : ℕ) → 0 < p → (a + ((p - 1) * x + x)) % p ≡ a % p
add_minus p a x h = add_none p a ((p - 1) * x + x) (minus_add p x h)

-- what is added to both sides goes
pub add_cancel : (p a b c : ℕ) → 0 < p → (a + c) % p ≡ (b + c) % p → a % p ≡ b % p
add_cancel p a b c h e = sym (back a) ∙ add_cong p (a + c) (b + c) _ _ e refl ∙ back b
  where
    back : (x : ℕ) → (x + c + (p - 1) * c) % p ≡ x % p
    back x = mod_same p (omega arith) ∙ add_minus p x c h

-- what adds up to 0 with c is minus c
pub minus_of : (p a c : ℕ) → 0 < p → (a + c) % p ≡ 0 → a % p ≡ ((p - 1) * c) % p
minus_of p a c h e = add_cancel p a ((p - 1) * c) c h (e ∙ sym (minus_add p c h))

-- two numbers are congruent exactly where their difference leaves no remainder
pub minus_zero : (p a b : ℕ) → 0 < p → ((a + (p - 1) * b) % p ≡ 0) ↔ (a % p ≡ b % p)
minus_zero p a b h = (
  λ e. add_cancel p a b ((p - 1) * b) h (e ∙ sym (none b)),
  λ e. add_cong p a b ((p - 1) * b) ((p - 1) * b) e refl ∙ none b,
)
  where
    none : (x : ℕ) → (x + (p - 1) * x) % p ≡ 0
    none x = mod_same p (add_comm x _) ∙ minus_add p x h

-- ---- the operations

pub residue_is : (p x : ℕ) → 0 < p → residue p x ≡ x % p
unfolding residue
residue_is zero x h = elim h [ ]
residue_is (suc m) x h = refl

pub residue_below : (p x : ℕ) → 0 < p → residue p x < p
residue_below p x h = rw (residue_is p x h) (mod-lt x h)

pub residue_small : (p x : ℕ) → x < p → residue p x ≡ x
residue_small p x h = residue_is p x (omega arith) ∙ mod-eq_of_lt h

pub add_mod_is : (p a b : ℕ) → 0 < p → add_mod p a b ≡ (a + b) % p
add_mod_is p a b h = residue_is p (a + b) h

pub mul_mod_is : (p a b : ℕ) → 0 < p → mul_mod p a b ≡ (a * b) % p
mul_mod_is p a b h = residue_is p (a * b) h

pub sub_mod_is : (p a b : ℕ) → 0 < p → sub_mod p a b ≡ (a + (p - 1) * b) % p
sub_mod_is p a b h =
    residue_is p _ h ∙ simp (residue_is p b h)
    (minus_product p a (b % p) (le_of_lt (mod-lt b h)) h ∙ add_cong p a a _ _ refl (mul_mod_lem (p - 1) b p))

-- what is subtracted counts modulo p
pub sub_cong : (p a b c : ℕ) → 0 < p → b % p ≡ c % p → sub_mod p a b ≡ sub_mod p a c
sub_cong p a b c h e = ap (λ (r : ℕ). residue p (a + (p - r))) (residue_is p b h ∙ e ∙ sym (residue_is p c h))

-- sub_mod is subtraction: what it gives, added to b, is a
pub sub_add : (p a b : ℕ) → 0 < p → (sub_mod p a b + b) % p ≡ a % p
sub_add p a b h =
    rw (sub_mod_is p a b h) (mod-add-mod _ p b ∙ mod_same p (add_assoc a _ b) ∙ add_minus p a b h)

-- the difference of numbers below p, as it is
pub sub_down : (p a b : ℕ) → b ≤ a → a < p → sub_mod p a b ≡ a - b
sub_down p a b l h =
    let some : 0 < p = omega arith in
    residue_is p _ some ∙ simp (residue_small p b (omega arith)) (mod_of p 0 1 _ (a - b) (omega arith) ∙ mod-eq_of_lt (omega arith))

-- and where it passes 0
pub sub_up : (p a b : ℕ) → a < b → b < p → sub_mod p a b ≡ a + (p - b)
sub_up p a b l h =
    let some : 0 < p = omega arith in
    residue_is p _ some ∙ simp (residue_small p b h) (mod-eq_of_lt (omega arith))
