-- Laws of sums over a range and over a list: the first term apart, sums and multiples of sums, their order, equal and congruent terms, terms that are 0 modulo p.
-- Assumes nothing.
use mathlib.Core.Path.{◌≡◌, refl, sym, ap, ap₂, ◌∙◌}
use mathlib.Core.Logic.{◌≢◌}
use mathlib.Core.List.{List, [], ◌∷◌, ◌++◌}
use Prim.Native.Nat.{ℕ, zero, suc, ◌+◌, ◌*◌, ◌%◌, ◌<◌}
use native.Mathlib.Omega.{arith}
use native.Mathlib.Nat.{zero-mod}
use native.Mathlib.Decide.{ℕ_discrete}
use Rattle.field.specs.Sum.{sum, total}
use Rattle.field.proofs.Modular.{add_cong, add_none, none_add}

pub sum_shift : (n : ℕ) (f : ℕ → ℕ) → sum (suc n) f ≡ f 0 + sum n (λ i. f (suc i))
unfolding sum
sum_shift zero f = omega arith
sum_shift (suc n) f = omega (arith, sum_shift n f)

pub sum_add : (n : ℕ) (f g : ℕ → ℕ) → sum n (λ i. f i + g i) ≡ sum n f + sum n g
unfolding sum
sum_add zero f g = refl
sum_add (suc n) f g = omega (arith, sum_add n f g)

pub sum_mul : (n a : ℕ) (f : ℕ → ℕ) → sum n (λ i. a * f i) ≡ a * sum n f
unfolding sum
sum_mul zero a f = omega arith
sum_mul (suc n) a f = omega (arith, sum_mul n a f)

pub sum_same : (n : ℕ) (f g : ℕ → ℕ) → ((i : ℕ) → i < n → f i ≡ g i) → sum n f ≡ sum n g
unfolding sum
sum_same zero f g h = refl
sum_same (suc n) f g h = ap₂ ◌+◌ (sum_same n f g (λ i l. h i (omega arith))) (h n (omega arith))

pub sum_const : (n a : ℕ) → sum n (λ i. a) ≡ n * a
unfolding sum
sum_const zero a = omega arith
sum_const (suc n) a = omega (arith, sum_const n a)

-- the order of summation
pub sum_swap : (n m : ℕ) (f : ℕ → ℕ → ℕ) → sum n (λ i. sum m (λ j. f i j)) ≡ sum m (λ j. sum n (λ i. f i j))
unfolding sum
sum_swap zero m f = omega (arith, sum_const m 0)
sum_swap (suc n) m f = ap (λ (t : ℕ). t + sum m (λ j. f n j)) (sum_swap n m f) ∙ sym (sum_add m (λ j. sum n (λ i. f i j)) (f n))

-- ---- modulo p

pub sum_cong : (p n : ℕ) (f g : ℕ → ℕ) → ((i : ℕ) → i < n → f i % p ≡ g i % p) → sum n f % p ≡ sum n g % p
unfolding sum
sum_cong p zero f g h = refl
sum_cong p (suc n) f g h =
    add_cong p (sum n f) (sum n g) (f n) (g n) (sum_cong p n f g (λ i l. h i (omega arith))) (h n (omega arith))

-- terms that are 0 modulo p
pub sum_none : (p n : ℕ) (f : ℕ → ℕ) → ((i : ℕ) → i < n → f i % p ≡ 0) → sum n f % p ≡ 0
unfolding sum
sum_none p zero f h = zero-mod p
sum_none p (suc n) f h =
    none_add p (sum n f) (f n) (sum_none p n f (λ i l. h i (omega arith))) ∙ h n (omega arith)

-- all terms but one are 0 modulo p
pub sum_single : (p n k a : ℕ) (f : ℕ → ℕ) → k < n → f k % p ≡ a % p → ((i : ℕ) → i < n → i ≢ k → f i % p ≡ 0) → sum n f % p ≡ a % p
unfolding sum
sum_single p zero k a f l here other = absurd (omega arith)
sum_single p (suc n) k a f l here other = go (ℕ_discrete k n) (λ g. sum_single p n k a f g here (λ i b. other i (omega arith)))
  where
    go : Dec (k ≡ n) → (k < n → sum n f % p ≡ a % p) → sum (suc n) f % p ≡ a % p
    go (yes e) rest =
        none_add p (sum n f) (f n) (sum_none p n f (λ i b. other i (omega arith) (λ q. omega arith))) ∙ rw e at here
    go (no e) rest = add_none p (sum n f) (f n) (other n (omega arith) (λ q. e (sym q))) ∙ rest (omega arith)

-- ---- lists

pub total_append : (xs ys : List ℕ) → total (xs ++ ys) ≡ total xs + total ys
unfolding total
total_append [] ys = omega arith
total_append (x ∷ xs) ys = omega (arith, total_append xs ys)
