-- What joining has written: nothing for a single digit, and for more the gates of both halves and then those of the join.
-- Each law opens the definition at the tree of its run; at a join `then` puts the parts together.
-- Assumes nothing.
use Rattle.std.proofs.Common.{◌≡◌, refl, [], ◌∷◌, ◌++◌, ℕ, suc, ◌+◌, ◌-◌, ◌/◌, ◌≤◌, ◌<◌, zero-add}
use Rattle.circuit.specs.Gate.{Mul}
use Rattle.circuit.specs.Segment.{Node, times}
use Rattle.comparison.specs.Joining.{less_join, joined_less, join_run, join_lowest, run_from, whole_run}
use Rattle.writer.specs.declared.Writer.{Writer}
use Rattle.writer.specs.Writing.{Writes}
use Rattle.writer.proofs.Writing.{idle, follows}
use Rattle.joining.proofs.Halving.{halves_leaf, halves_join}

module _ (less equal : ℕ → Node) where
  -- a run of one digit
  pub run_one : (first m : ℕ) {w : Writer} → m ≤ 1 → w.pen.products ≤ w.pen.next → w.pen.squares ≤ w.pen.next
      → let run = run_from less equal first m w.pen.next in
      Writes w run.gates w × (less first ≡ run.less) × (equal first ≡ run.equal)
  unfolding join_run
  run_one first m few products squares = rw (halves_leaf first m few) (idle products squares, refl, refl)

  pub lowest_one : (n : ℕ) {w : Writer} → n ≤ 1 → w.pen.products ≤ w.pen.next → w.pen.squares ≤ w.pen.next
      → let run = whole_run less equal n w.pen.next in Writes w run.gates w × (less 0 ≡ run.output)
  unfolding join_lowest
  lowest_one n few products squares = rw (halves_leaf 0 n few) (idle products squares, refl)

  -- a run of more: of the nodes l and e of the low half and h and f of the high half, s is L and b is E
  pub run_more : (first m : ℕ) → 1 < m → {w w₁ w₂ w₃ : Writer} {l e h f s b : Node}
      → let low = run_from less equal first (m / 2) w.pen.next in
      let high = run_from less equal (first + m / 2) (m - m / 2) w₁.pen.next in
      let run = run_from less equal first m w.pen.next in
      let next = w₂.pen.next in
      Writes w low.gates w₁ → l ≡ low.less → e ≡ low.equal
      → Writes w₁ high.gates w₂ → h ≡ high.less → f ≡ high.equal
      → Writes w₂ (less_join next l h f ++ (Mul e.gate f.gate ∷ [])) w₃
      → s ≡ joined_less next l h f → b ≡ times (suc (suc next)) e f
      → Writes w run.gates w₃ × (s ≡ run.less) × (b ≡ run.equal)
  unfolding join_run
  run_more first m more lows l e highs h f joins s b =
      rw (halves_join first m more, ← lows.moved.0, ← highs.moved.0, ← l, ← e, ← h, ← f) (follows lows (follows highs joins), s, b)

  pub lowest_more : (n : ℕ) → 1 < n → {w w₁ w₂ w₃ : Writer} {l h f s : Node}
      → let low = whole_run less equal (n / 2) w.pen.next in
      let high = run_from less equal (n / 2) (n - n / 2) w₁.pen.next in
      let run = whole_run less equal n w.pen.next in
      Writes w low.gates w₁ → l ≡ low.output
      → Writes w₁ high.gates w₂ → h ≡ high.less → f ≡ high.equal
      → Writes w₂ (less_join w₂.pen.next l h f) w₃ → s ≡ joined_less w₂.pen.next l h f
      → Writes w run.gates w₃ × (s ≡ run.output)
  unfolding join_lowest
  lowest_more n more lows l highs h f sums s =
      rw (halves_join 0 n more, zero-add (n / 2), ← lows.moved.0, ← highs.moved.0, ← l, ← h, ← f)
      (follows lows (follows highs sums), s)
