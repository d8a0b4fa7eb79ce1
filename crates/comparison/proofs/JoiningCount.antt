-- Order joining of n digits by halves: how many gates and products it has, that it has no square, and that its last gate is L.
-- By induction over the tree, of which the count of leaves and of joins that hold the lowest leaf matter (n and flog n for halves).
-- A MUL is a square only over one gate twice: the operands come from two runs,
-- each a digit's gate or one that the run's own joining wrote.
-- Assumes nothing.
use mathlib.Core.Path.{◌≡◌, refl, ap, ◌∙◌}
use mathlib.Core.Logic.{◌≢◌}
use mathlib.Core.Bool.{Bool}
use mathlib.Core.List.{List, [], ◌∷◌, ◌++◌}
use Prim.Native.Nat.{ℕ, suc, ◌+◌, ◌-◌, ◌*◌, ◌≤◌, ◌<◌}
use native.Mathlib.Omega.{arith}
use borrow.Author.Tests.{ne_eqb}
use lib.ListN.{length, length-append}
use Rattle.field.specs.Bit.{bit}
use Rattle.field.specs.Logarithm.{flog}
use Rattle.field.proofs.Logarithm.{flog_small, flog_half}
use Rattle.circuit.specs.Count.{count, is_product, is_square}
use Rattle.circuit.specs.Gate.{Gate, Mul}
use Rattle.circuit.specs.Segment.{Node, Segment}
use Rattle.circuit.specs.Tree.{Tree, leaf, join, leaves}
use Rattle.circuit.proofs.Count.{count_append}
use Rattle.comparison.specs.Joining.{JoinedRun, halves, less_join, join_run, join_lowest}
use Rattle.comparison.proofs.Halves.{Each, Upper, each_map, halves_whole, halves_each, halves_upper}

-- ---- trees

-- how many joins hold the lowest leaf
abbrev low_joins : Tree ℕ → ℕ
low_joins (leaf j) = 0
low_joins (join low high) = suc (low_joins low)

halves_counts : (n : ℕ) → 1 ≤ n → (length (leaves (halves n 0 n)) ≡ n) × (low_joins (halves n 0 n) ≡ flog n)
unfolding leaves
halves_counts =
    halves_whole (λ first m t. (length (leaves t) ≡ m) × (low_joins t ≡ flog m))
    (λ first. (refl, omega (arith, flog_small 1 (omega arith))))
    (λ first m low high more l h. (omega (arith, length-append (leaves low) (leaves high)), omega (arith, flog_half m more)))

-- a fact of every leaf of a low part with every one of the high part
abbrev Pairs : (ℕ → ℕ → Type 0) → Tree ℕ → Type 0
Pairs R (leaf j) = Unit {0}
Pairs R (join low high) = Pairs R low × Pairs R high × Each (λ i. Each (R i) high) low

-- the digits of a low part are lower
halves_pairs : (R : ℕ → ℕ → Type 0) (n : ℕ) → 1 ≤ n → ((i j : ℕ) → i < j → j < n → R i j) → Pairs R (halves n 0 n)
halves_pairs R n some rising =
    (halves_whole (λ first m t. Each (λ j. (first ≤ j) × (j < first + m)) t × (first + m ≤ n → Pairs R t))
    (λ first. ((omega arith, omega arith), λ fits. tt))
    (λ first m low high more l h. (
      (each_map _ _ (λ j range. (range.0, omega arith)) low l.0, each_map _ _ (λ j range. (omega arith, omega arith)) high h.0),
      λ fits. (
        l.1 (omega arith),
        h.1 (omega arith),
        each_map _ _ (λ i low_range. each_map _ _ (λ j high_range. rising i j (omega arith) (omega arith)) high h.0) low l.0,
      ),
    ))
    n some).1 (omega arith)

-- ---- gates

-- the gates of a join after those of its parts
abbrev run_end : JoinedRun → JoinedRun → ℕ → List Gate
run_end l h next = less_join next l.less h.less h.equal ++ (Mul l.equal.gate h.equal.gate ∷ [])

abbrev lowest_end : Segment → JoinedRun → ℕ → List Gate
lowest_end l h next = less_join next l.output h.less h.equal

length_three : (a b c : List Gate) → length (a ++ (b ++ c)) ≡ length a + (length b + length c)
length_three a b c = length-append a (b ++ c) ∙ ap (λ (x : ℕ). length a + x) (length-append b c)

count_three : (test : Gate → Bool) (a b c : List Gate) → count test (a ++ (b ++ c)) ≡ count test a + (count test b + count test c)
count_three test a b c = count_append test a (b ++ c) ∙ ap (λ (x : ℕ). count test a + x) (count_append test b c)

-- ---- how many gates, and the last

module _ (less equal : ℕ → Node) where
  run_length : (t : Tree ℕ) (k : ℕ) → length (join_run less equal t k).gates + 3 ≡ 3 * length (leaves t)
  unfolding join_run leaves
  run_length (leaf j) k = refl
  run_length (join low high) k =
      let l = join_run less equal low k in
      let next = k + length l.gates in
      let h = join_run less equal high next in
      omega (
        arith,
        run_length low k,
        run_length high next,
        length-append (leaves low) (leaves high),
        length_three l.gates h.gates (run_end l h (next + length h.gates)),
      )

  lowest_length : (t : Tree ℕ) (k : ℕ) → length (join_lowest less equal t k).gates + 3 + low_joins t ≡ 3 * length (leaves t)
  unfolding join_lowest leaves
  lowest_length (leaf j) k = refl
  lowest_length (join low high) k =
      let l = join_lowest less equal low k in
      let next = k + length l.gates in
      let h = join_run less equal high next in
      omega (
        arith,
        lowest_length low k,
        run_length high next,
        length-append (leaves low) (leaves high),
        length_three l.gates h.gates (lowest_end l h (next + length h.gates)),
      )

  pub joining_length : (n k : ℕ) → 1 ≤ n → length (join_lowest less equal (halves n 0 n) k).gates + flog n ≡ 3 * (n - 1)
  joining_length n k some =
      let counts = halves_counts n some in omega (arith, lowest_length (halves n 0 n) k)

  -- the last two gates of a join are its L and its E
  run_last : (low high : Tree ℕ) (k : ℕ)
      → let run = join_run less equal (join low high) k in
      (suc (suc run.less.gate) ≡ k + length run.gates) × (suc run.equal.gate ≡ k + length run.gates)
  unfolding join_run
  run_last low high k =
      let l = join_run less equal low k in
      let next = k + length l.gates in
      let h = join_run less equal high next in
      let whole = length_three l.gates h.gates (run_end l h (next + length h.gates)) in
      (omega arith, omega arith)

  lowest_last : (low high : Tree ℕ) (k : ℕ)
      → let run = join_lowest less equal (join low high) k in suc run.output.gate ≡ k + length run.gates
  unfolding join_lowest
  lowest_last low high k =
      let l = join_lowest less equal low k in
      let next = k + length l.gates in
      let h = join_run less equal high next in
      omega (arith, length_three l.gates h.gates (lowest_end l h (next + length h.gates)))

  pub joining_last : (n k : ℕ) → 1 ≤ n → (n ≡ 1 → suc (less 0).gate ≡ k)
      → suc (join_lowest less equal (halves n 0 n) k).output.gate ≡ k + length (join_lowest less equal (halves n 0 n) k).gates
  unfolding join_lowest
  joining_last n k some =
      halves_whole
      (λ first m t. (m ≡ 1 → suc (less first).gate ≡ k) → suc (join_lowest less equal t k).output.gate ≡ k + length (join_lowest less equal t k).gates)
      (λ first single. omega (arith, single refl)) (λ first m low high more l h single. lowest_last low high k)
      n some

-- ---- products and squares

-- a MUL of two gates
mul_apart : (a b : ℕ) → a ≢ b → (bit (is_product (Mul a b)) ≡ 1) × (bit (is_square (Mul a b)) ≡ 0)
mul_apart a b h = rw (ne_eqb a b h) (refl, refl)

module _ (less equal : ℕ → Node) where
  -- a digit whose E is a gate below number k; the lowest has none
  abbrev Known : ℕ → ℕ → Type 0
  Known k j = (0 < j) × ((equal j).gate < k)

  -- a lower and a higher digit
  abbrev Apart : ℕ → ℕ → Type 0
  Apart i j = ((less i).gate < (equal j).gate) × (0 < i → (equal i).gate < (equal j).gate)

  -- each MUL of a join has two operands
  run_apart : (low high : Tree ℕ) (k : ℕ) → Each (λ j. (less j).gate < k) low → Each (Known k) low → Each (Known k) high
      → Each (λ i. Each (Apart i) high) low
      → let l = join_run less equal low k in
      let h = join_run less equal high (k + length l.gates) in
      (h.equal.gate ≢ l.less.gate) × (l.equal.gate ≢ h.equal.gate)
  unfolding join_run
  run_apart (leaf i) (leaf j) k hl hi hj apart = (λ e. omega arith, λ e. omega (arith, apart.1 hi.0))
  run_apart (leaf i) (join a b) k hl hi hj apart = (λ e. omega arith, λ e. omega arith)
  run_apart (join a b) (leaf j) k hl hi hj apart = (λ e. omega arith, λ e. omega arith)
  run_apart (join a b) (join c d) k hl hi hj apart = let last = run_last less equal a b k in (λ e. omega arith, λ e. omega arith)

  lowest_apart : (low high : Tree ℕ) (k : ℕ) → Each (λ j. (less j).gate < k) low → Each (Known k) high → Each (λ i. Each (Apart i) high) low
      → let l = join_lowest less equal low k in (join_run less equal high (k + length l.gates)).equal.gate ≢ l.output.gate
  unfolding join_lowest join_run
  lowest_apart (leaf i) (leaf j) k hl hj apart = λ e. omega arith
  lowest_apart (leaf i) (join a b) k hl hj apart = λ e. omega arith
  lowest_apart (join a b) (leaf j) k hl hj apart = λ e. omega arith
  lowest_apart (join a b) (join c d) k hl hj apart = λ e. omega (arith, lowest_last less equal a b k)

  run_count : (t : Tree ℕ) (k : ℕ) → Each (λ j. (less j).gate < k) t → Each (Known k) t → Pairs Apart t
      → (count is_product (join_run less equal t k).gates + 2 ≡ 2 * length (leaves t))
      × (count is_square (join_run less equal t k).gates ≡ 0)
  unfolding join_run leaves count
  run_count (leaf j) k hl he apart = (refl, refl)
  run_count (join low high) k hl he apart =
      let l = join_run less equal low k in
      let next = k + length l.gates in
      let h = join_run less equal high next in
      let end = run_end l h (next + length h.gates) in
      let cl = run_count low k hl.0 he.0 apart.0 in
      let later : Each (λ j. (less j).gate < next) high = each_map _ _ (λ j s. omega arith) high hl.1 in
      let ch = run_count high next later (each_map _ _ (λ j s. omega arith) high he.1) apart.1 in
      let two = run_apart low high k hl.0 he.0 he.1 apart.2 in
      let a = mul_apart h.equal.gate l.less.gate two.0 in
      let b = mul_apart l.equal.gate h.equal.gate two.1 in (
        omega (arith, length-append (leaves low) (leaves high), count_three is_product l.gates h.gates end),
        omega (arith, count_three is_square l.gates h.gates end),
      )

  lowest_count : (t : Tree ℕ) (k : ℕ) → Each (λ j. (less j).gate < k) t → Upper (Known k) t → Pairs Apart t
      → (count is_product (join_lowest less equal t k).gates + 2 + low_joins t ≡ 2 * length (leaves t))
      × (count is_square (join_lowest less equal t k).gates ≡ 0)
  unfolding join_lowest leaves count
  lowest_count (leaf j) k hl he apart = (refl, refl)
  lowest_count (join low high) k hl he apart =
      let l = join_lowest less equal low k in
      let next = k + length l.gates in
      let h = join_run less equal high next in
      let end = lowest_end l h (next + length h.gates) in
      let cl = lowest_count low k hl.0 he.0 apart.0 in
      let later : Each (λ j. (less j).gate < next) high = each_map _ _ (λ j s. omega arith) high hl.1 in
      let ch = run_count high next later (each_map _ _ (λ j s. omega arith) high he.1) apart.1 in
      let a = mul_apart h.equal.gate l.output.gate (lowest_apart low high k hl.0 he.1 apart.2) in (
        omega (arith, length-append (leaves low) (leaves high), count_three is_product l.gates h.gates end),
        omega (arith, count_three is_square l.gates h.gates end),
      )

  pub joining_count : (n k : ℕ) → 1 ≤ n → ((j : ℕ) → j < n → (less j).gate < k) → ((j : ℕ) → 0 < j → j < n → (equal j).gate < k)
      → ((i j : ℕ) → i < j → j < n → ((less i).gate < (equal j).gate) × (0 < i → (equal i).gate < (equal j).gate))
      → (count is_product (join_lowest less equal (halves n 0 n) k).gates + flog n ≡ 2 * (n - 1))
      × (count is_square (join_lowest less equal (halves n 0 n) k).gates ≡ 0)
  joining_count n k some hl he apart =
      let trees = halves_counts n some in
      let upper = halves_upper (Known k) n some (λ j low high. (low, he j low high)) in
      let counts = lowest_count (halves n 0 n) k (halves_each _ n some hl) upper (halves_pairs Apart n some apart) in
      (omega arith, counts.1)
