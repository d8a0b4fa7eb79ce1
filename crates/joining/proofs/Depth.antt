-- A join is at most one level deeper than its parts, so a run of m digits is less than m levels deeper than its deepest test,
-- and its nodes are not too deep for another product.
-- By the induction over halves.
-- Assumes nothing.
use Rattle.std.proofs.Common.{◌≡◌, List, ℕ, ◌+◌, ◌≤◌, ◌<◌, length, arith}
use Rattle.circuit.specs.Segment.{Node}
use Rattle.circuit.specs.Table.{most_gates}
use Rattle.circuit.specs.Tree.{Tree}
use Rattle.comparison.specs.Joining.{halves, join_run, join_lowest}
use Rattle.comparison.proofs.Halves.{halves_run}
use Rattle.joining.specs.Listed.{most_test_depth, less_at, equal_at, listed_run, listed_whole, Joinable, UpperJoinable}
use Rattle.joining.proofs.Parts.{Halved, length_below, length_above, below_at, above_at}
use Rattle.writer.specs.declared.Tests.{Tests}

-- ---- tests that are at most D deep

module _ (D : ℕ) (less equal : ℕ → Node) where
  -- of the m digits from number first on: their run, and their run as the lowest, without E of the first
  abbrev Within : ℕ → ℕ → Tree ℕ → Type 0
  Within first m t =
      (((j : ℕ) → first ≤ j → j < first + m → ((less j).depth ≤ D) × ((equal j).depth ≤ D)) → (k : ℕ)
      → ((join_run less equal t k).less.depth < D + m) × ((join_run less equal t k).equal.depth < D + m))
      × (((j : ℕ) → first ≤ j → j < first + m → (less j).depth ≤ D) → ((j : ℕ) → first < j → j < first + m → (equal j).depth ≤ D) → (k : ℕ)
      → (join_lowest less equal t k).output.depth < D + m)

  within : (first m : ℕ) → 1 ≤ m → Within first m (halves m first m)
  unfolding join_run join_lowest
  within =
      halves_run Within
      (λ first. (λ h k. omega (arith, h first (omega arith) (omega arith)), λ l e k. omega (arith, l first (omega arith) (omega arith))))
      (λ first m low high more lows highs. (
        λ h k.
            let a = lows.0 (λ j from to. h j from (omega arith)) k in
            let b = highs.0 (λ j from to. h j (omega arith) (omega arith)) (k + length (join_run less equal low k).gates) in
            omega (arith, a, b),
        λ l e k.
            let a = lows.1 (λ j from to. l j from (omega arith)) (λ j from to. e j from (omega arith)) k in
            let b = highs.0 (λ j from to. (l j (omega arith) (omega arith), e j (omega arith) (omega arith))) (k + length (join_lowest less equal low k).gates) in
            omega (arith, a, b),
      ))

-- ---- digits that may be joined

-- those of each half
module _ {tests below above : List Tests} (halved : Halved tests below above) where
  pub below_joinable : Joinable tests → Joinable below
  below_joinable may =
      let long = length_below halved in
      record {
        some = omega (arith, long, halved.more);
        few = omega (arith, long, may.few);
        shallow_less = λ j to. rw (below_at halved j (omega (arith, long))) (may.shallow_less j (omega (arith, long)));
        shallow_equal = λ j low to. rw (below_at halved j (omega (arith, long))) (may.shallow_equal j low (omega (arith, long)));
      }

  pub above_joinable : Joinable tests → UpperJoinable above
  above_joinable may =
      let long = length_above halved in
      record {
        some = omega (arith, long, halved.more);
        few = omega (arith, long, may.few);
        shallow = λ j to. rw (above_at halved j) (may.shallow_less _ (omega (arith, long)), may.shallow_equal _ (omega (arith, halved.more)) (omega (arith, long)));
      }

  pub below_upper : UpperJoinable tests → UpperJoinable below
  below_upper may =
      let long = length_below halved in
      record {
        some = omega (arith, long, halved.more);
        few = omega (arith, long, may.few);
        shallow = λ j to. rw (below_at halved j (omega (arith, long))) (may.shallow j (omega (arith, long)));
      }

  pub above_upper : UpperJoinable tests → UpperJoinable above
  above_upper may =
      let long = length_above halved in
      record {
        some = omega (arith, long, halved.more);
        few = omega (arith, long, may.few);
        shallow = λ j to. rw (above_at halved j) (may.shallow _ (omega (arith, long)));
      }

module _ {tests : List Tests} where
  -- so the nodes of a run are not too deep
  pub run_shallow : UpperJoinable tests → (k : ℕ) {l e : Node} → let run = listed_run tests k in
      l ≡ run.less → e ≡ run.equal → (l.depth < most_gates) × (e.depth < most_gates)
  run_shallow may k hl he =
      let deep = (within most_test_depth (less_at tests) (equal_at tests) 0 (length tests) may.some).0 (λ j from to. may.shallow j (omega arith)) k in
      rw (hl, he) (omega (arith, deep, may.few))

  pub lowest_shallow : Joinable tests → (k : ℕ) {l : Node} → l ≡ (listed_whole tests k).output → l.depth < most_gates
  lowest_shallow may k hl =
      let deep = (within most_test_depth (less_at tests) (equal_at tests) 0 (length tests) may.some).1
      (λ j from to. may.shallow_less j (omega arith)) (λ j low to. may.shallow_equal j low (omega arith)) k in
      rw hl (omega (arith, deep, may.few))
