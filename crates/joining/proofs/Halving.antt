-- Laws of joining by halves: the tree of a run is that of its low half joined to that of the rest, each at its own count of digits,
-- which is enough to bound the splits; and its gates are those of its halves and two, where it holds digit 0.
-- The tree by induction over the bound of the splits; the gates by the halving of flog.
-- Assumes nothing.
use Rattle.std.proofs.Common.{◌≡◌, refl, ap₂, Bool, true, false, ℕ, zero, suc, ◌+◌, ◌-◌, ◌*◌, ◌/◌, ◌≤◌, ◌<◌, arith, leb, length, le-leb, leb-false}
use Rattle.std.proofs.lemmas.Bool.{lt-leb}
use Rattle.field.proofs.Logarithm.{flog_half}
use Rattle.circuit.specs.Segment.{Node}
use Rattle.circuit.specs.Tree.{Tree, leaf, join}
use Rattle.comparison.specs.Joining.{halves, whole_run}
use Rattle.comparison.proofs.JoiningCount.{joining_length}

-- ---- the tree

-- any bound of the splits that is enough gives the same tree
enough : (f g first m : ℕ) → m ≤ suc f → m ≤ suc g → halves f first m ≡ halves g first m
unfolding halves
enough zero zero first m a b = refl
enough zero (suc g) first m a b = rw (le-leb m 1 a, halves)
enough (suc f) zero first m a b = rw (le-leb m 1 b, halves)
enough (suc f) (suc g) first m a b =
    split (leb m 1) _ _ _ (λ e.
    let more : 1 < m = leb-false m 1 e in
    ap₂ join
    (enough f g first (m / 2) (omega arith) (omega arith))
    (enough f g (first + m / 2) (m - m / 2) (omega arith) (omega arith)))
  where
    split : (b : Bool) (x y z : Tree ℕ) → (b ≡ false → y ≡ z)
        → ◌≡◌ {A = Tree ℕ} (elim b as (λ _. Tree ℕ) [ true ↦ x | false ↦ y ]) (elim b as (λ _. Tree ℕ) [ true ↦ x | false ↦ z ])
    split true x y z same = refl
    split false x y z same = same refl

pub halves_leaf : (first m : ℕ) → m ≤ 1 → halves m first m ≡ leaf first
unfolding halves
halves_leaf first zero few = refl
halves_leaf first (suc m) few = rw (le-leb (suc m) 1 few, halves)

pub halves_join : (first m : ℕ) → 1 < m
    → halves m first m ≡ join (halves (m / 2) first (m / 2)) (halves (m - m / 2) (first + m / 2) (m - m / 2))
unfolding halves
halves_join first zero more = absurd (omega arith)
halves_join first (suc f) more =
    let m = suc f in
    rw (lt-leb (suc f) 1 more, halves)
    (ap₂ join
    (enough f (m / 2) first (m / 2) (omega arith) (omega arith))
    (enough f (m - m / 2) (first + m / 2) (m - m / 2) (omega arith) (omega arith)))

-- ---- how many gates: those of the low half, three for each digit of the rest but one, and two

pub joining_split : (less equal : ℕ → Node) (n k : ℕ) → 1 < n
    → length (whole_run less equal n k).gates ≡ length (whole_run less equal (n / 2) k).gates + 3 * (n - n / 2 - 1) + 2
joining_split less equal n k more =
    omega (arith, joining_length less equal n k (omega arith), joining_length less equal (n / 2) k (omega arith), flog_half n more)
