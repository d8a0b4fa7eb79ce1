-- The tree of halves: its leaves are the digits in order, it is clog of their count high, and a fact of every digit is one of every leaf.
-- One induction over the splits (`halves_split`), with the first digit and the digit count that a subtree stands for;
-- each law is one use of it.
-- Assumes nothing.
use mathlib.Core.Path.{◌≡◌, refl, ap, ap₂, subst, ◌∙◌}
use mathlib.Core.Bool.{Bool, true, false, not}
use mathlib.Core.List.{List, ◌∷◌, ◌++◌}
use Prim.Native.Nat.{ℕ, zero, suc, ◌+◌, ◌-◌, ◌/◌, ◌≤◌, ◌<◌}
use native.Mathlib.Omega.{arith}
use native.Mathlib.Nat.{le_antisymm, add-zero, add-suc, suc-add, zero-add}
use lib.Dec.{T, leb, leb→le, nleb→lt}
use Rattle.field.specs.Logarithm.{clog}
use Rattle.field.proofs.Logarithm.{clog_small, clog_half, clog_mono}
use Rattle.circuit.specs.Tree.{Tree, leaf, join, leaves, height}
use Rattle.comparison.specs.Joining.{halves}
use Rattle.comparison.specs.OrderDigit.{ascending}

-- a fact of every leaf
abbrev pub Each : (ℕ → Type 0) → Tree ℕ → Type 0
Each P (leaf j) = P j
Each P (join low high) = Each P low × Each P high

-- of every leaf but the lowest
abbrev pub Upper : (ℕ → Type 0) → Tree ℕ → Type 0
Upper P (leaf j) = Unit {0}
Upper P (join low high) = Upper P low × Each P high

pub each_map : (P Q : ℕ → Type 0) → ((j : ℕ) → P j → Q j) → (t : Tree ℕ) → Each P t → Each Q t
each_map P Q turn (leaf j) h = turn j h
each_map P Q turn (join low high) h = (each_map P Q turn low h.0, each_map P Q turn high h.1)

-- ---- the induction: what holds of one digit, and of two halves together, holds of the m digits from first on

module _ (Q : ℕ → ℕ → Tree ℕ → Type 0) (one : (first : ℕ) → Q first 1 (leaf first))
    (two : (first m : ℕ) (low high : Tree ℕ) → 2 ≤ m → Q first (m / 2) low → Q (first + m / 2) (m - m / 2) high → Q first m (join low high)) where
  single : (first m : ℕ) → 1 ≤ m → m ≤ 1 → Q first m (leaf first)
  single first m some few = subst (λ (x : ℕ). Q first x (leaf first)) (le_antisymm some few) (one first)

  halves_split : (most first m : ℕ) → 1 ≤ m → m ≤ suc most → Q first m (halves most first m)
  unfolding halves
  halves_split zero first m some few = single first m some few
  halves_split (suc most) first m some few =
      go (leb m 1) (leb→le m 1) (nleb→lt m 1)
      (λ more. halves_split most first (m / 2) (omega arith) (omega arith))
      (λ more. halves_split most (first + m / 2) (m - m / 2) (omega arith) (omega arith))
    where
      go : (b : Bool) → (T b → m ≤ 1) → (T (not b) → 2 ≤ m)
          → (2 ≤ m → Q first (m / 2) (halves most first (m / 2)))
          → (2 ≤ m → Q (first + m / 2) (m - m / 2) (halves most (first + m / 2) (m - m / 2)))
          → Q first m (elim b as (λ _. Tree ℕ) [ true ↦ leaf first | false ↦ join (halves most first (m / 2)) (halves most (first + m / 2) (m - m / 2)) ])
      go true small large low high = single first m some (small tt)
      go false small large low high = two first m _ _ (large tt) (low (large tt)) (high (large tt))

  pub halves_run : (first m : ℕ) → 1 ≤ m → Q first m (halves m first m)
  halves_run first m some = halves_split m first m some (omega arith)

  pub halves_whole : (n : ℕ) → 1 ≤ n → Q 0 n (halves n 0 n)
  halves_whole = halves_run 0

-- ---- leaves

ascending_append : (m k i : ℕ) → ascending m i ++ ascending k (i + m) ≡ ascending (m + k) i
unfolding ascending
ascending_append zero k i = simp (add-zero, zero-add)
ascending_append (suc m) k i = rw (add-suc, ← suc-add i, suc-add m) (ap (λ (is : List ℕ). i ∷ is) (ascending_append m k (suc i)))

pub halves_leaves : (n : ℕ) → 1 ≤ n → leaves (halves n 0 n) ≡ ascending n 0
unfolding leaves ascending
halves_leaves =
    halves_whole (λ first m t. leaves t ≡ ascending m first) (λ first. refl) (λ first m low high more l h.
    let whole : m / 2 + (m - m / 2) ≡ m = omega arith in
    ap₂ ◌++◌ l h ∙ ascending_append (m / 2) (m - m / 2) first ∙ ap (λ (x : ℕ). ascending x first) whole)

-- ---- height

pub halves_height : (D n : ℕ) → 1 ≤ n → height (λ j. D) (halves n 0 n) ≡ D + clog n
unfolding height
halves_height D =
    halves_whole (λ first m t. height (λ j. D) t ≡ D + clog m) (λ first. omega (arith, clog_small 1 (omega arith))) (λ first m low high more l h.
    let rest : (m + 1) / 2 ≡ m - m / 2 = omega arith in
    let up : clog (m / 2) ≤ clog (m - m / 2) = clog_mono (omega arith) in
    omega (arith, rw rest at (clog_half m more)))

-- ---- facts of the digits

-- from the digits of a run to its leaves, with the first digit and without
abbrev Facts : (ℕ → Type 0) → ℕ → ℕ → Tree ℕ → Type 0
Facts P first m t =
    (((j : ℕ) → first ≤ j → j < first + m → P j) → Each P t) × (((j : ℕ) → first < j → j < first + m → P j) → Upper P t)

facts : (P : ℕ → Type 0) (n : ℕ) → 1 ≤ n → Facts P 0 n (halves n 0 n)
facts P =
    halves_whole (Facts P) (λ first. (λ h. h first (omega arith) (omega arith), λ h. tt)) (λ first m low high more l r. (
      λ h. (l.0 (λ j from to. h j from (omega arith)), r.0 (λ j from to. h j (omega arith) (omega arith))),
      λ h. (l.1 (λ j from to. h j from (omega arith)), r.0 (λ j from to. h j (omega arith) (omega arith))),
    ))

pub halves_each : (P : ℕ → Type 0) (n : ℕ) → 1 ≤ n → ((j : ℕ) → j < n → P j) → Each P (halves n 0 n)
halves_each P n some h = (facts P n some).0 (λ j from to. h j (omega arith))

pub halves_upper : (P : ℕ → Type 0) (n : ℕ) → 1 ≤ n → ((j : ℕ) → 0 < j → j < n → P j) → Upper P (halves n 0 n)
halves_upper P n some h = (facts P n some).1 (λ j from to. h j from (omega arith))
