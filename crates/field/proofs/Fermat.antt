-- Fermat's theorem, for every prime p: z^p is z, so z^(p-1) is 1 where z is not 0, and it is 0 at 0.
-- p divides the binomial coefficients C(p, k) for 0 < k < p, so (z+1)^p is z^p + 1, and z^p is z by induction on z.
-- Assumes nothing.
use mathlib.Core.Path.{◌≡◌, sym, ◌∙◌}
use Prim.Native.Nat.{ℕ, zero, suc, ◌%◌, ◌^◌, ◌<◌}
use native.Mathlib.Omega.{arith}
use native.Mathlib.Nat.{mod-eq_of_lt, mul-mod_right, suc-mod, pow-succ', zero-mul, mul-one}
use native.Mathlib.Numerals.{sub-one}
use Rattle.field.specs.Primes.{Prime}
use Rattle.field.specs.Promises.{Fermat, FermatOne, FermatZero}
use Rattle.field.proofs.Modular.{mod_same, add_none, none_mul}
use Rattle.field.proofs.Sum.{sum_none}
use Rattle.field.proofs.Binomial.{choose, absorb, binomial_ends}
use Rattle.field.proofs.Euclid.{other_factor, cancel}

-- p divides C(p, k) for 0 < k < p
inner : (m k : ℕ) → Prime (suc m) → k < m → choose (suc m) (suc k) % suc m ≡ 0
inner m k prime h =
    let small : suc k % suc m ≡ suc k = mod-eq_of_lt (omega arith) in
    other_factor (suc m) (suc k) (choose (suc m) (suc k)) prime (omega arith)
    (mod_same (suc m) (absorb m k) ∙ mul-mod_right (suc m) (choose m k))

-- so of (z+1)^p its first and its last term are left
ends : (m z : ℕ) → Prime (suc m) → (suc z ^ suc m) % suc m ≡ suc (z ^ suc m) % suc m
ends m z prime =
    mod_same (suc m) (binomial_ends m z)
    ∙ add_none (suc m) (suc (z ^ suc m)) _
    (sum_none (suc m) m _ (λ k l. none_mul (suc m) (choose (suc m) (suc k)) (z ^ suc k) (inner m k prime l)))

pub fermat : Fermat
fermat zero z prime = absurd (omega (arith, prime.two))
fermat (suc m) zero prime = simp (pow-succ', zero-mul)
fermat (suc m) (suc z) prime =
    ends m z prime ∙ suc-mod (z ^ suc m) (suc m) ∙ rw (fermat (suc m) z prime) (sym (suc-mod z (suc m)))

pub fermat_one : FermatOne
fermat_one zero z prime n = absurd (omega (arith, prime.two))
fermat_one (suc m) z prime n =
    simp sub-one
    (cancel (suc m) z (z ^ m) 1 prime n (simp (← pow-succ', mul-one) (fermat (suc m) z prime)) ∙ mod-eq_of_lt prime.two)

pub fermat_zero : FermatZero
fermat_zero zero prime = absurd (omega (arith, prime.two))
fermat_zero (suc zero) prime = absurd (omega (arith, prime.two))
fermat_zero (suc (suc m)) prime = simp (sub-one, pow-succ', zero-mul)
