-- Laws of digits that are joined by parts: the run of a part of the tests is that of the same digits among all of them.
-- By the induction over halves.
-- Assumes nothing.
use Rattle.std.proofs.lemmas.List.{length-take-le, get_or-take}
use Rattle.std.proofs.Common.{◌≡◌, refl, ap, List, [], ◌∷◌, ◌++◌, ℕ, suc, ◌+◌, ◌-◌, ◌*◌, ◌/◌, ◌≤◌, ◌<◌, length, take, drop, length-drop, get_or-drop, arith, add-zero, zero-add, add_assoc}
use Rattle.circuit.specs.Gate.{Mul}
use Rattle.circuit.specs.Segment.{Node, times}
use Rattle.circuit.specs.Tree.{Tree}
use Rattle.comparison.specs.Joining.{halves, join_run, join_lowest, run_from, whole_run, less_join, joined_less}
use Rattle.comparison.proofs.Halves.{halves_run}
use Rattle.writer.specs.declared.Tests.{Tests}
use Rattle.writer.specs.declared.Writer.{Writer}
use Rattle.writer.specs.Nodes.{node_is}
use Rattle.writer.specs.Writing.{Writes}
use Rattle.joining.specs.Listed.{tests_at, less_at, equal_at, listed_run, listed_whole}
use Rattle.joining.proofs.Halving.{halves_leaf, halves_join, joining_split}
use Rattle.joining.proofs.Joins.{run_more, lowest_more}

-- ---- runs of the same tests, whatever their numbers

module _ (less equal less' equal' : ℕ → Node) where
  abbrev Agree : ℕ → ℕ → ℕ → Type 0
  Agree first first' m = (i : ℕ) → i < m → (less (first + i) ≡ less' (first' + i)) × (equal (first + i) ≡ equal' (first' + i))

  abbrev Same : ℕ → ℕ → Tree ℕ → Type 0
  Same first m t =
      (first' : ℕ) → Agree first first' m → (k : ℕ)
      → (join_run less equal t k ≡ join_run less' equal' (halves m first' m) k)
      × (join_lowest less equal t k ≡ join_lowest less' equal' (halves m first' m) k)

  same : (first m : ℕ) → 1 ≤ m → Same first m (halves m first m)
  unfolding join_run join_lowest
  same =
      halves_run Same
      (λ first first' agree k.
      let l : less first ≡ less' first' = (rw (add-zero first, add-zero first') at (agree 0 (omega arith)).0) in
      let e : equal first ≡ equal' first' = (rw (add-zero first, add-zero first') at (agree 0 (omega arith)).1) in
      rw (halves_leaf first' 1 (omega arith), l, e) (refl, refl))
      (λ first m low high more lows highs first' agree k.
      let l = lows first' (λ i b. agree i (omega arith)) k in
      let h = highs (first' + m / 2) (λ i b. rw (add_assoc first (m / 2) i, add_assoc first' (m / 2) i) (agree (m / 2 + i) (omega arith))) in
      let next = k + length (join_run less equal low k).gates in
      let next' = k + length (join_lowest less equal low k).gates in
      rw (halves_join first' m more, ← l.0, ← l.1, ← (h next).0, ← (h next').0) (refl, refl))

-- ---- the two halves of a run

pub record Halved (tests below above : List Tests) : Type 0 where
  pub more : 1 < length tests
  pub front : below ≡ take (length tests / 2) tests
  pub back : above ≡ drop (length tests / 2) tests

pub in_halves : {tests below above : List Tests} → (length tests ≡ 1 → ⊥) → 1 ≤ length tests
    → below ≡ take (length tests / 2) tests → above ≡ drop (length tests / 2) tests → Halved tests below above
in_halves other some front back = record { more = omega (arith, other); front = front; back = back }

module _ {tests below above : List Tests} (halved : Halved tests below above) where
  abbrev half : ℕ
  half = length tests / 2

  pub length_below : length below ≡ half
  length_below = rw halved.front (length-take-le half tests (omega (arith, halved.more)))

  pub length_above : length above ≡ length tests - half
  length_above = rw halved.back (length-drop half tests)

  pub below_at : (j : ℕ) → j < half → tests_at below j ≡ tests_at tests j
  below_at j l = rw halved.front (get_or-take half tests j _ l)

  pub above_at : (j : ℕ) → tests_at above j ≡ tests_at tests (half + j)
  above_at j = rw halved.back (get_or-drop half tests j _)

  -- the low half, where it lacks digit 0 and where it is the lowest
  below_run : (k : ℕ) → (listed_run below k ≡ run_from (less_at tests) (equal_at tests) 0 half k)
      × (listed_whole below k ≡ whole_run (less_at tests) (equal_at tests) half k)
  below_run k =
      let agree : Agree (less_at below) (equal_at below) (less_at tests) (equal_at tests) 0 0 half
      = λ i b. (ap (λ (t : Tests). node_is t.less) (below_at (0 + i) (omega arith)), ap (λ (t : Tests). node_is t.equal) (below_at (0 + i) (omega arith))) in
      rw length_below (same (less_at below) (equal_at below) (less_at tests) (equal_at tests) 0 half (omega (arith, halved.more)) 0 agree k)

  -- the rest
  above_run : (first : ℕ) → first ≡ half → (k : ℕ) → listed_run above k ≡ run_from (less_at tests) (equal_at tests) first (length tests - half) k
  above_run first e k =
      let agree : Agree (less_at above) (equal_at above) (less_at tests) (equal_at tests) 0 first (length tests - half)
      = λ i b. rw (e, zero-add i) (ap (λ (t : Tests). node_is t.less) (above_at i), ap (λ (t : Tests). node_is t.equal) (above_at i)) in
      rw length_above (same (less_at above) (equal_at above) (less_at tests) (equal_at tests) 0 (length tests - half) (omega (arith, halved.more)) first agree k).0

  -- how many gates both parts and the join have
  pub whole_split : (k : ℕ) → length (listed_whole tests k).gates ≡ length (listed_whole below k).gates + 3 * (length above - 1) + 2
  whole_split k = rw ((below_run k).1, length_above) (joining_split (less_at tests) (equal_at tests) (length tests) k halved.more)

  -- both parts are written, and then the join
  module _ {w w₁ w₂ w₃ : Writer} {l h f s : Node} where
    pub joined_run : {e b : Node} → let low = listed_run below w.pen.next in
        let high = listed_run above w₁.pen.next in
        let run = listed_run tests w.pen.next in
        let next = w₂.pen.next in
        Writes w low.gates w₁ → l ≡ low.less → e ≡ low.equal
        → Writes w₁ high.gates w₂ → h ≡ high.less → f ≡ high.equal
        → Writes w₂ (less_join next l h f ++ (Mul e.gate f.gate ∷ [])) w₃
        → s ≡ joined_less next l h f → b ≡ times (suc (suc next)) e f
        → Writes w run.gates w₃ × (s ≡ run.less) × (b ≡ run.equal)
    joined_run lows l_is e_is highs h_is f_is joins s_is b_is =
        let low = (below_run w.pen.next).0 in
        let high = above_run (0 + half) (omega arith) w₁.pen.next in
        run_more (less_at tests) (equal_at tests) 0 (length tests) halved.more (rw low at lows) (rw low at l_is) (rw low at e_is)
        (rw high at highs) (rw high at h_is) (rw high at f_is) joins s_is b_is

    pub joined_whole : let low = listed_whole below w.pen.next in
        let high = listed_run above w₁.pen.next in
        let run = listed_whole tests w.pen.next in
        Writes w low.gates w₁ → l ≡ low.output
        → Writes w₁ high.gates w₂ → h ≡ high.less → f ≡ high.equal
        → Writes w₂ (less_join w₂.pen.next l h f) w₃ → s ≡ joined_less w₂.pen.next l h f
        → Writes w run.gates w₃ × (s ≡ run.output)
    joined_whole lows l_is highs h_is f_is sums s_is =
        let low = (below_run w.pen.next).1 in
        let high = above_run half refl w₁.pen.next in
        lowest_more (less_at tests) (equal_at tests) (length tests) halved.more (rw low at lows) (rw low at l_is)
        (rw high at highs) (rw high at h_is) (rw high at f_is) sums s_is
