-- Writing a product tree, one product at a time: what is left to write gives the whole. A product brings the tree over the next factors,
-- and with one factor left there is nothing to write. Depths grow by one at most while factors become one fewer.
-- Assumes nothing.
use Rattle.std.proofs.Common.{◌≡◌, refl, sym, ap, ◌∙◌, List, [], ◌∷◌, ◌++◌, ℕ, suc, ◌+◌, ◌-◌, ◌≤◌, arith, add-one, length}
use Rattle.circuit.specs.Gate.{Mul}
use Rattle.circuit.specs.ProductTree.{least, choose, multiply, product_tree}
use Rattle.circuit.specs.Segment.{Node, Segment, times}
use Rattle.circuit.specs.Table.{most_gates}
use Rattle.circuit.proofs.Choosing.{first_of, second_of, rest_of, next, pair_is, next_length}
use Rattle.circuit.proofs.Every.{every_map, every_append}
use Rattle.circuit.proofs.Rearranged.{same_every}
use Rattle.writer.specs.declared.Writer.{Writer}
use Rattle.tree.specs.Factors.{Shallow}
use Rattle.writer.specs.Writing.{Writes}
use Rattle.writer.proofs.Writing.{idle, follows}

-- two factors are taken out, one after the other
pub record Taken (factors : List Node) (a b : Node) (rest : List Node) : Type 0 where
  pub first : a ≡ first_of factors
  pub second : b ≡ second_of factors
  pub others : rest ≡ rest_of factors

pub taken : {factors others rest : List Node} {a b : Node} → a ≡ (choose factors).chosen → others ≡ (choose factors).others
    → b ≡ (choose others).chosen → rest ≡ (choose others).others → Taken factors a b rest
taken a_is others_is b_is rest_is = record {
  first = a_is;
  second = b_is ∙ ap (λ (t : List Node). (choose t).chosen) others_is;
  others = rest_is ∙ ap (λ (t : List Node). (choose t).others) others_is;
}

-- a tree over two factors or more: a product, and the tree over the factors after it
tree_turn : (k k' : ℕ) (factors rest factors' : List Node) (a b : Node) → 2 ≤ length factors → Taken factors a b rest → k' ≡ suc k
    → factors' ≡ rest ++ (times k a b ∷ [])
    → product_tree k factors
    ≡ record { gates = Mul a.gate b.gate ∷ (product_tree k' factors').gates; output = (product_tree k' factors').output }
unfolding multiply
tree_turn k k' factors rest factors' a b two step e last =
    let n : ℕ = length factors - 2 in
    let more : length factors - 1 ≡ suc n = omega arith in
    let fewer : length (next k factors) - 1 ≡ n = omega (arith, next_length n k factors (omega arith)) in
    rw (last, step.first, step.second, step.others, e, fewer, more)

-- what is left to write, the tree over factors from a table and a pen on, gives the whole
pub record Gives (w₀ : Writer) (factors₀ : List Node) (w : Writer) (factors : List Node) : Type 0 where
  pub writes : (w' : Writer) → Writes w (product_tree w.pen.next factors).gates w' → Writes w₀ (product_tree w₀.pen.next factors₀).gates w'
  pub puts : (product_tree w.pen.next factors).output ≡ (product_tree w₀.pen.next factors₀).output

pub begin : {w : Writer} {factors : List Node} → Gives w factors w factors
begin = record { writes = λ w' h. h; puts = refl }

module _ {w₀ w : Writer} {factors₀ factors : List Node} (gives : Gives w₀ factors₀ w factors) where
  pub turn : {w' : Writer} {rest factors' : List Node} {a b : Node} → 2 ≤ length factors → Taken factors a b rest
      → Writes w (Mul a.gate b.gate ∷ []) w' → factors' ≡ rest ++ (times w.pen.next a b ∷ []) → Gives w₀ factors₀ w' factors'
  turn {rest = rest} {factors' = factors'} {a = a} {b = b} two step wrote last =
      let tree = tree_turn w.pen.next _ factors rest factors' a b two step (wrote.moved.0 ∙ add-one _) last in
      record {
        writes = λ w₂ h. gives.writes w₂ (rw tree (follows wrote h));
        puts = ap (λ (t : Segment). t.output) (sym tree) ∙ gives.puts;
      }

  pub ended : {f : Node} → factors ≡ f ∷ [] → w.pen.products ≤ w.pen.next → w.pen.squares ≤ w.pen.next
      → Writes w₀ (product_tree w₀.pen.next factors₀).gates w × (f ≡ (product_tree w₀.pen.next factors₀).output)
  unfolding multiply least
  ended one products squares = (gives.writes w (rw one (idle products squares)), rw one at gives.puts)

-- ---- depths

-- two factors and the others, of two or more
shallow_parts : (n : ℕ) (factors : List Node) → 2 ≤ length factors → Shallow n factors
    → Shallow n (first_of factors ∷ second_of factors ∷ rest_of factors)
shallow_parts n factors two h = same_every _ (pair_is (length factors - 2) factors (omega arith)).same h

pub shallow_two : (n : ℕ) {factors rest : List Node} {a b : Node} → 2 ≤ length factors → Taken factors a b rest → Shallow n factors
    → (a.depth + n ≤ most_gates) × (b.depth + n ≤ most_gates)
shallow_two n {factors = factors} two step h =
    let parts = shallow_parts n factors two h in rw (step.first, step.second) (parts.0, parts.1.0)

pub shallow_turn : (n k : ℕ) {factors rest factors' : List Node} {a b : Node} → 1 ≤ n → 2 ≤ length factors → Taken factors a b rest
    → factors' ≡ rest ++ (times k a b ∷ []) → Shallow n factors → Shallow (n - 1) factors'
shallow_turn n k {factors = factors} {rest = rest} {a = a} {b = b} some two step last h =
    let parts = shallow_parts n factors two h in
    let pair = shallow_two n two step h in
    rw last
    (every_append (λ (f : Node). f.depth + (n - 1) ≤ most_gates) rest (times k a b ∷ [])
    (rw step.others (every_map (λ (f : Node) l. omega arith) (rest_of factors) parts.1.1))
    (omega (arith, pair), tt))
