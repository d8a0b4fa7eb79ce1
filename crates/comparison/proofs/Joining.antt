-- Order joining over any tree of digits: its value tells which number is smaller, it is as deep as the tree is high,
-- and its gates keep the rules.
-- By induction over the tree; value and depth over any entries that solve the gates. A join splits a number into its low and high digits,
-- and of "the high part is smaller" and "the high parts are equal" at most one holds, so the sum of their bits is a bit again.
-- Assumes nothing.
use mathlib.Core.Path.{◌≡◌, sym, ap, ap₂, ◌∙◌}
use mathlib.Core.Bool.{Bool, true, false, ◌&&◌, ◌||◌, and_assoc, and_comm}
use mathlib.Core.List.{List, [], ◌∷◌, ◌++◌, map, map-append}
use Prim.Native.Nat.{ℕ, suc, ◌+◌, ◌≤◌, ◌<◌}
use native.Mathlib.Omega.{arith}
use native.Mathlib.Decide.{dec_lt}
use borrow.Author.Tests.{lt-ltb, le-ltb, ne_eqb}
use lib.Dec.{ltb, eqb}
use lib.ListN.{length, length-append, length-map}
use Rattle.field.specs.Bit.{bit}
use Rattle.field.specs.Modular.{add_mod, mul_mod}
use Rattle.field.proofs.Bit.{mul_bits, add_bits}
use Rattle.digits.specs.Number.{number, all_below}
use Rattle.digits.proofs.Number.{number_one, below_append}
use Rattle.digits.proofs.Comparing.{number_less, number_equal}
use Rattle.circuit.specs.Depth.{depths}
use Rattle.circuit.specs.Gate.{Gate, Mul}
use Rattle.circuit.specs.Meaning.{Algebra, Solves}
use Rattle.circuit.specs.Segment.{Node}
use Rattle.circuit.specs.Table.{Head, all_fit}
use Rattle.circuit.specs.Tree.{Tree, leaf, join, leaves, height}
use Rattle.circuit.specs.Value.{values}
use Rattle.circuit.proofs.Fitting.{all_fit_lem, fit_append}
use Rattle.circuit.proofs.Meaning.{solves_append}
use Rattle.comparison.specs.Joining.{less_join, join_run, join_lowest}
use Rattle.comparison.proofs.Halves.{Each, Upper, each_map}

-- ---- what entries solve that solve the gates of a join

module _ {A : Type 0} (alg : Algebra A) (E : ℕ → A) where
  -- the gates of low and of high, the gate of L, and those after it
  join_parts : (low high later : List Gate) (low_less high_less high_equal : Node) (k : ℕ)
      → let next = k + length low + length high in
      Solves alg E k (low ++ (high ++ (less_join next low_less high_less high_equal ++ later)))
      → Solves alg E k low × Solves alg E (k + length low) high
      × (E (suc next) ≡ alg.add (E high_less.gate) (alg.mul (E high_equal.gate) (E low_less.gate)))
      × Solves alg E (suc (suc next)) later
  join_parts low high later low_less high_less high_equal k s =
      let next = k + length low + length high in
      let last = less_join next low_less high_less high_equal ++ later in
      let first = solves_append alg E low (high ++ last) k s in
      let rest = solves_append alg E high last (k + length low) first.1 in
      (first.0, rest.0, rest.1.1.0 ∙ ap (alg.add (E high_less.gate)) rest.1.0, rest.1.1.1)

-- ---- joining goes by L of each digit and E of each but the lowest

module _ (less equal less' equal' : ℕ → Node) where
  run_same : (t : Tree ℕ) (k : ℕ) → Each (λ j. less j ≡ less' j) t → Each (λ j. equal j ≡ equal' j) t
      → join_run less equal t k ≡ join_run less' equal' t k
  unfolding join_run
  run_same (leaf j) k hl he = rw (hl, he)
  run_same (join low high) k hl he =
      let l = run_same low k hl.0 he.0 in
      let h = run_same high (k + length (join_run less' equal' low k).gates) hl.1 he.1 in
      rw (l, h)

  pub lowest_same : (t : Tree ℕ) (k : ℕ) → Each (λ j. less j ≡ less' j) t → Upper (λ j. equal j ≡ equal' j) t
      → join_lowest less equal t k ≡ join_lowest less' equal' t k
  unfolding join_lowest
  lowest_same (leaf j) k hl he = rw hl
  lowest_same (join low high) k hl he =
      let l = lowest_same low k hl.0 he.0 in
      let h = run_same high (k + length (join_lowest less' equal' low k).gates) hl.1 he.1 in
      rw (l, h)

-- ---- bits

-- of "smaller" and "equal" at most one holds
smaller_other : (a b : ℕ) → (ltb a b && eqb a b) ≡ false
smaller_other a b = go (dec_lt a b)
  where
    go : Dec (a < b) → (ltb a b && eqb a b) ≡ false
    go (yes l) = rw (lt-ltb a b l) (ne_eqb a b (λ e. omega arith))
    go (no n) = rw (le-ltb a b (omega arith))

-- so their bits add up, the second only where the low part is smaller
less_bit : (p : ℕ) → 2 ≤ p → (a e l : Bool) → (a && e) ≡ false → add_mod p (bit a) (mul_mod p (bit e) (bit l)) ≡ bit (a || (e && l))
less_bit p two a e l h =
    ap (add_mod p (bit a)) (mul_bits p two e l) ∙ add_bits p two a (e && l) (sym (and_assoc a e l) ∙ rw h)

-- ---- numbers over a tree

module _ (B : ℕ) where
  -- the digits d of a tree's leaves, as a number
  abbrev number_of : (ℕ → ℕ) → Tree ℕ → ℕ
  number_of d t = number B (map d (leaves t))

  below : (d : ℕ → ℕ) (t : Tree ℕ) → Each (λ j. d j < B) t → all_below B (map d (leaves t)) ≡ true
  unfolding leaves all_below
  below d (leaf j) h = rw (lt-ltb (d j) B h)
  below d (join low high) h =
      rw map-append (below_append B (map d (leaves low)) (map d (leaves high)) (below d low h.0) (below d high h.1))

-- ---- value

module _ (p : ℕ) (two : 2 ≤ p) (left right : List ℕ) (B : ℕ) (x y : ℕ → ℕ) (less equal : ℕ → Node) (E : ℕ → ℕ) where
  abbrev InBase : Tree ℕ → Type 0
  InBase t = Each (λ j. (x j < B) × (y j < B)) t

  abbrev is_less : Tree ℕ → Bool
  is_less t = ltb (number_of B x t) (number_of B y t)

  abbrev is_equal : Tree ℕ → Bool
  is_equal t = eqb (number_of B x t) (number_of B y t)

  module _ (low high : Tree ℕ) (b : InBase low) where
    same_length : length (map x (leaves low)) ≡ length (map y (leaves low))
    same_length = length-map (leaves low) x ∙ sym (length-map (leaves low) y)

    left_below : all_below B (map x (leaves low)) ≡ true
    left_below = below B x low (each_map _ _ (λ j both. both.0) low b)

    right_below : all_below B (map y (leaves low)) ≡ true
    right_below = below B y low (each_map _ _ (λ j both. both.1) low b)

    less_join_lem : add_mod p (bit (is_less high)) (mul_mod p (bit (is_equal high)) (bit (is_less low))) ≡ bit (is_less (join low high))
    unfolding leaves
    less_join_lem =
        let xs = map x (leaves high) in
        let ys = map y (leaves high) in
        rw (map-append x (leaves low) (leaves high), map-append y (leaves low) (leaves high))
        (less_bit p two (is_less high) (is_equal high) (is_less low) (smaller_other (number_of B x high) (number_of B y high))
        ∙ ap bit (sym (number_less B (map x (leaves low)) xs (map y (leaves low)) ys same_length left_below right_below)))

    equal_join : mul_mod p (bit (is_equal low)) (bit (is_equal high)) ≡ bit (is_equal (join low high))
    unfolding leaves
    equal_join =
        let xs = map x (leaves high) in
        let ys = map y (leaves high) in
        rw (map-append x (leaves low) (leaves high), map-append y (leaves low) (leaves high))
        (mul_bits p two (is_equal low) (is_equal high) ∙ ap bit (and_comm (is_equal low) (is_equal high))
        ∙ ap bit (sym (number_equal B (map x (leaves low)) xs (map y (leaves low)) ys same_length left_below right_below)))

  run_value : (t : Tree ℕ) (k : ℕ) → Solves (values p left right) E k (join_run less equal t k).gates → InBase t
      → Each (λ j. E (less j).gate ≡ bit (ltb (x j) (y j))) t → Each (λ j. E (equal j).gate ≡ bit (eqb (x j) (y j))) t
      → (E (join_run less equal t k).less.gate ≡ bit (is_less t)) × (E (join_run less equal t k).equal.gate ≡ bit (is_equal t))
  unfolding join_run leaves
  run_value (leaf j) k s b hl he = rw (number_one B (x j), number_one B (y j)) (hl, he)
  run_value (join low high) k s b hl he =
      let l = join_run less equal low k in
      let next = k + length l.gates in
      let h = join_run less equal high next in
      let alg = values p left right in
      let parts = join_parts alg E l.gates h.gates (Mul l.equal.gate h.equal.gate ∷ []) l.less h.less h.equal k s in
      let vl = run_value low k parts.0 b.0 hl.0 he.0 in
      let vh = run_value high next parts.1 b.1 hl.1 he.1 in (
        parts.2 ∙ ap₂ (add_mod p) vh.0 (ap₂ (mul_mod p) vh.1 vl.0) ∙ less_join_lem low high b.0,
        parts.3.0 ∙ ap₂ (mul_mod p) vl.1 vh.1 ∙ equal_join low high b.0,
      )

  pub lowest_value : (t : Tree ℕ) (k : ℕ) → Solves (values p left right) E k (join_lowest less equal t k).gates
      → Each (λ j. (x j < B) × (y j < B)) t
      → Each (λ j. E (less j).gate ≡ bit (ltb (x j) (y j))) t → Upper (λ j. E (equal j).gate ≡ bit (eqb (x j) (y j))) t
      → E (join_lowest less equal t k).output.gate ≡ bit (ltb (number B (map x (leaves t))) (number B (map y (leaves t))))
  unfolding join_lowest leaves
  lowest_value (leaf j) k s b hl he = rw (number_one B (x j), number_one B (y j)) hl
  lowest_value (join low high) k s b hl he =
      let l = join_lowest less equal low k in
      let next = k + length l.gates in
      let h = join_run less equal high next in
      let parts = join_parts (values p left right) E l.gates h.gates [] l.output h.less h.equal k s in
      let vl = lowest_value low k parts.0 b.0 hl.0 he.0 in
      let vh = run_value high next parts.1 b.1 hl.1 he.1 in
      parts.2 ∙ ap₂ (add_mod p) vh.0 (ap₂ (mul_mod p) vh.1 vl) ∙ less_join_lem low high b.0

-- ---- depth

-- where each digit's node tells the depth of its gate, a run's nodes do
module _ (less equal : ℕ → Node) (E : ℕ → ℕ) where
  abbrev pub Tells : Node → Type 0
  Tells node = E node.gate ≡ node.depth

  run_tells : (t : Tree ℕ) (k : ℕ) → Solves depths E k (join_run less equal t k).gates
      → Each (λ j. Tells (less j)) t → Each (λ j. Tells (equal j)) t
      → Tells (join_run less equal t k).less × Tells (join_run less equal t k).equal
  unfolding join_run
  run_tells (leaf j) k s hl he = (hl, he)
  run_tells (join low high) k s hl he =
      let l = join_run less equal low k in
      let next = k + length l.gates in
      let h = join_run less equal high next in
      let parts = join_parts depths E l.gates h.gates (Mul l.equal.gate h.equal.gate ∷ []) l.less h.less h.equal k s in
      let dl = run_tells low k parts.0 hl.0 he.0 in
      let dh = run_tells high next parts.1 hl.1 he.1 in (
        parts.2 ∙ ap₂ depths.add dh.0 (ap₂ depths.mul dh.1 dl.0),
        parts.3.0 ∙ ap₂ depths.mul dl.1 dh.1,
      )

  pub lowest_tells : (t : Tree ℕ) (k : ℕ) → Solves depths E k (join_lowest less equal t k).gates
      → Each (λ j. Tells (less j)) t → Upper (λ j. Tells (equal j)) t → Tells (join_lowest less equal t k).output
  unfolding join_lowest
  lowest_tells (leaf j) k s hl he = hl
  lowest_tells (join low high) k s hl he =
      let l = join_lowest less equal low k in
      let next = k + length l.gates in
      let h = join_run less equal high next in
      let parts = join_parts depths E l.gates h.gates [] l.output h.less h.equal k s in
      let dl = lowest_tells low k parts.0 hl.0 he.0 in
      let dh = run_tells high next parts.1 hl.1 he.1 in
      parts.2 ∙ ap₂ depths.add dh.0 (ap₂ depths.mul dh.1 dl)

-- where all digits are equally deep, a run is as deep as the tree is high
module _ (D : ℕ) (less equal : ℕ → Node) (flat : (j : ℕ) → ((less j).depth ≡ D) × ((equal j).depth ≡ D)) where
  run_depth : (t : Tree ℕ) (k : ℕ)
      → ((join_run less equal t k).less.depth ≡ height (λ j. D) t) × ((join_run less equal t k).equal.depth ≡ height (λ j. D) t)
  unfolding join_run height
  run_depth (leaf j) k = flat j
  run_depth (join low high) k =
      let dl = run_depth low k in
      let dh = run_depth high (k + length (join_run less equal low k).gates) in
      (omega arith, omega arith)

  pub lowest_depth : (t : Tree ℕ) (k : ℕ) → (join_lowest less equal t k).output.depth ≡ height (λ j. D) t
  unfolding join_lowest height
  lowest_depth (leaf j) k = (flat j).0
  lowest_depth (join low high) k =
      let dl = lowest_depth low k in
      let dh = run_depth high (k + length (join_lowest less equal low k).gates) in
      omega arith

-- ---- the rules

module _ (less equal : ℕ → Node) (head : Head) where
  run_fits : (t : Tree ℕ) (k : ℕ) → Each (λ j. (less j).gate < k) t → Each (λ j. (equal j).gate < k) t
      → (all_fit head k (join_run less equal t k).gates ≡ true)
      × ((join_run less equal t k).less.gate < k + length (join_run less equal t k).gates)
      × ((join_run less equal t k).equal.gate < k + length (join_run less equal t k).gates)
  unfolding join_run
  run_fits (leaf j) k hl he = (all_fit_lem head k [] tt, omega arith, omega arith)
  run_fits (join low high) k hl he =
      let l = join_run less equal low k in
      let next = k + length l.gates in
      let h = join_run less equal high next in
      let last = less_join (next + length h.gates) l.less h.less h.equal ++ (Mul l.equal.gate h.equal.gate ∷ []) in
      let fl = run_fits low k hl.0 he.0 in
      let fh = run_fits high next (each_map _ _ (λ j s. omega arith) high hl.1) (each_map _ _ (λ j s. omega arith) high he.1) in
      let whole = length-append l.gates (h.gates ++ last) in
      let tail = length-append h.gates last in (
        fit_append head k l.gates _ fl.0 (fit_append head next h.gates last fh.0 (all_fit_lem head _ last (omega arith))),
        omega arith,
        omega arith,
      )

  pub lowest_fits : (t : Tree ℕ) (k : ℕ) → Each (λ j. (less j).gate < k) t → Upper (λ j. (equal j).gate < k) t
      → (all_fit head k (join_lowest less equal t k).gates ≡ true)
      × ((join_lowest less equal t k).output.gate < k + length (join_lowest less equal t k).gates)
  unfolding join_lowest
  lowest_fits (leaf j) k hl he = (all_fit_lem head k [] tt, omega arith)
  lowest_fits (join low high) k hl he =
      let l = join_lowest less equal low k in
      let next = k + length l.gates in
      let h = join_run less equal high next in
      let last = less_join (next + length h.gates) l.output h.less h.equal in
      let fl = lowest_fits low k hl.0 he.0 in
      let fh = run_fits high next (each_map _ _ (λ j s. omega arith) high hl.1) (each_map _ _ (λ j s. omega arith) high he.1) in
      let whole = length-append l.gates (h.gates ++ last) in
      let tail = length-append h.gates last in
      let later = fit_append head next h.gates last fh.0 (all_fit_lem head _ last (omega arith)) in
      (fit_append head k l.gates _ fl.0 later, omega arith)
