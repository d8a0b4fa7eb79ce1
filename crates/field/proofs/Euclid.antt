-- Euclid's lemma and cancellation, for every prime p.
-- Let p divide a·b, with 0 < a < p. Then p divides (p mod a)·b too, and p mod a is smaller than a and not 0, as p has no divisor from 2 to p - 1.
-- So the first factor falls to 1.
-- Assumes nothing.
use mathlib.Core.Path.{◌≡◌, refl, ap, ◌∙◌}
use mathlib.Core.Logic.{◌≢◌, ◌⊎◌, inl, inr}
use Prim.Native.Nat.{ℕ, zero, suc, ◌+◌, ◌-◌, ◌*◌, ◌/◌, ◌%◌, ◌≤◌, ◌<◌}
use native.Mathlib.Omega.{arith}
use native.Mathlib.Nat.{mod-add-div', mod-lt, zero-mod, one-mul, mul_comm}
use native.Mathlib.Decide.{ℕ_discrete}
use Rattle.field.specs.Primes.{Prime}
use Rattle.field.specs.Promises.{Euclid, Cancel}
use Rattle.field.proofs.Modular.{mod_same, mod_of, multiple, mod_mul, add_cong, minus_zero}

-- the first argument bounds a, and falls with it
descend : (most p a b : ℕ) → Prime p → a ≤ most → 0 < a → a < p → (a * b) % p ≡ 0 → b % p ≡ 0
descend zero p a b prime l s g h = absurd (omega arith)
descend (suc most) p zero b prime l s g h = absurd (omega arith)
descend (suc most) p (suc zero) b prime l s g h = rw one-mul at h
descend (suc most) p (suc (suc c)) b prime l s g h =
    let a = suc (suc c) in
    let small : p % a < a = mod-lt p (omega arith) in
    descend most p (p % a) b prime (omega arith) (omega (arith, prime.undivided a (omega arith) g)) (omega arith)
    (mod_of p (p / a * (a * b / p)) b _ 0
    (omega (arith, ap (λ (t : ℕ). t * b) (mod-add-div' p a), ap (λ (t : ℕ). p / a * t) (multiple p (a * b) h)))
    ∙ zero-mod p)

-- where p does not divide the first factor, it divides the second
pub other_factor : (p a b : ℕ) → Prime p → a % p ≢ 0 → (a * b) % p ≡ 0 → b % p ≡ 0
other_factor p a b prime n h =
    let small : a % p < p = mod-lt a (omega (arith, prime.two)) in
    descend (a % p) p (a % p) b prime (omega arith) (omega arith) small (mod_mul a b p ∙ h)

pub euclid : Euclid
euclid p a b prime h = go (ℕ_discrete (a % p) 0)
  where
    go : Dec (a % p ≡ 0) → (a % p ≡ 0) ⊎ (b % p ≡ 0)
    go (yes e) = inl e
    go (no n) = inr (other_factor p a b prime n h)

-- the second factor is the difference
pub cancel : Cancel
cancel p a x y prime n h =
    let some : 0 < p = omega (arith, prime.two) in
    (minus_zero p x y some).0
    (other_factor p a (x + (p - 1) * y) prime n
    (mod_same p (omega arith) ∙ (minus_zero p (a * x) (a * y) some).1 h))

-- two numbers that are neither equal nor opposite have different squares: a² c = b² c only where c is 0
pub different_squares : (p a b c : ℕ) → Prime p → a % p ≢ b % p → (a + b) % p ≢ 0 → (a * a * c) % p ≡ (b * b * c) % p → c % p ≡ 0
different_squares p a b c prime differ unopposed h = go (ℕ_discrete (c % p) 0)
  where
    factors : ((a + b) * (a * c)) % p ≡ ((a + b) * (b * c)) % p
    factors =
        mod_same p (omega arith)
        ∙ add_cong p (a * a * c) (b * b * c) (a * b * c) (a * b * c) h refl
        ∙ mod_same p (omega arith)

    go : Dec (c % p ≡ 0) → c % p ≡ 0
    go (yes e) = e
    go (no n) =
        absurd (differ (cancel p c a b prime n
        (mod_same p (mul_comm c a) ∙ cancel p (a + b) (a * c) (b * c) prime unopposed factors ∙ mod_same p (mul_comm b c))))
