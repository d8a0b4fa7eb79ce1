-- Gates that are written for each number of a list: what solves them and that they fit, place by place;
-- and the places of the two lists of exponents.
-- Assumes nothing.
use mathlib.Core.Path.{◌≡◌, refl, ap, ◌∙◌}
use mathlib.Core.Bool.{true}
use mathlib.Core.List.{List, [], ◌∷◌, map}
use Prim.Native.Nat.{ℕ, zero, suc, ◌+◌, ◌*◌, ◌<◌}
use native.Mathlib.Omega.{arith}
use native.Mathlib.Nat.{add-zero, add-suc, suc-add}
use lib.ListN.{length, get_or}
use Rattle.field.specs.Polynomials.{every_second}
use Rattle.circuit.specs.Every.{Every}
use Rattle.circuit.specs.Gate.{Gate}
use Rattle.circuit.specs.Meaning.{Algebra, meaning, Solves}
use Rattle.circuit.specs.Table.{Head, all_fit}
use Rattle.circuit.proofs.Fitting.{Fitted, one_fits}
use Rattle.comparison.specs.OrderDigit.{ascending}

pub solves_map : {A : Type 0} (alg : Algebra A) (E : ℕ → A) (f : ℕ → Gate) (xs : List ℕ) (k : ℕ) → Solves alg E k (map f xs)
    → (m : ℕ) → m < length xs → E (k + m) ≡ meaning alg E (f (get_or xs m 0))
solves_map alg E f [] k h m l = absurd (omega arith)
solves_map alg E f (x ∷ xs) k h zero l = ap E (add-zero k) ∙ h.0
solves_map alg E f (x ∷ xs) k h (suc m) l = ap E (omega arith) ∙ solves_map alg E f xs (suc k) h.1 m (omega arith)

pub fit_map : (head : Head) (f : ℕ → Gate) (xs : List ℕ) (k : ℕ) → ((m : ℕ) → m < length xs → Fitted head (k + m) (f (get_or xs m 0)))
    → all_fit head k (map f xs) ≡ true
unfolding all_fit
fit_map head f [] k h = refl
fit_map head f (x ∷ xs) k h =
    rw (one_fits head k (f x) (rw add-zero at (h 0 (omega arith))))
    (fit_map head f xs (suc k) (λ m l. rw (add-suc, ← suc-add) at (h (suc m) (omega arith))))

-- ---- i, i + 1, ..

pub length_ascending : (n i : ℕ) → length (ascending n i) ≡ n
unfolding ascending
length_ascending zero i = refl
length_ascending (suc n) i = ap suc (length_ascending n (suc i))

pub ascending_at : (n i m : ℕ) → m < n → get_or (ascending n i) m 0 ≡ i + m
unfolding ascending
ascending_at zero i m l = absurd (omega arith)
ascending_at (suc n) i zero l = omega arith
ascending_at (suc n) i (suc m) l = ascending_at n (suc i) m (omega arith) ∙ omega arith

-- ---- i, i + 2, ..

pub every_second_lem : (P : ℕ → Type 0) (n i : ℕ) → ((m : ℕ) → m < n → P (i + 2 * m)) → Every P (every_second n i)
unfolding every_second
every_second_lem P zero i h = tt
every_second_lem P (suc n) i h = (
  rw add-zero at (h 0 (omega arith)),
  every_second_lem P n (suc (suc i)) (λ m l. let e : i + 2 * suc m ≡ suc (suc i) + 2 * m = omega arith in rw e at (h (suc m) (omega arith))),
)
