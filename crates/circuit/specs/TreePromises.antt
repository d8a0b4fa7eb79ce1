-- What is proved of product trees, over factors that are kept in gate order, and of all trees over any factors.
-- Proved in `proofs/ProductTree.antt` and `proofs/Kraft.antt`.
use Rattle.std.specs.Prelude.{◌≡◌, true, ℕ, suc, ◌-◌, ◌%◌, ◌≤◌, ◌<◌, length}
use mathlib.Core.List.{List, [], ◌∷◌, ◌++◌, map, Permᴰ}
use Rattle.field.specs.Logarithm.{clog}
use Rattle.circuit.specs.Count.{is_square, is_product, count}
use Rattle.circuit.specs.Depth.{depths}
use Rattle.circuit.specs.Every.{Every}
use Rattle.circuit.specs.Factors.{InOrder, Precedes, breadth, list_product}
use Rattle.circuit.specs.Gate.{Gate, Mul}
use Rattle.circuit.specs.Meaning.{entry_at}
use Rattle.circuit.specs.ProductTree.{product_tree}
use Rattle.circuit.specs.Segment.{Node, times}
use Rattle.circuit.specs.Table.{Head, all_fit}
use Rattle.circuit.specs.Tree.{Tree, leaves, height}
use Rattle.circuit.specs.Value.{values}

-- "while two factors remain, MUL the two of least depth, equal depths by lower gate number, first chosen as a; the product is a new factor.",
-- as a rule for the gates that are written over the factors, from gate number k on; the factor that is left in the end is the output
abbrev pub TwoLeast : ℕ → List Node → List Gate → Node → Type 0
TwoLeast k factors [] output = factors ≡ output ∷ []
TwoLeast k factors (g ∷ gs) output =
    (a : Node)
    × (b : Node)
    × (rest : List Node)
    × (g ≡ Mul a.gate b.gate)
    × Permᴰ (a ∷ b ∷ rest) factors
    × Every (Precedes a) (b ∷ rest)
    × Every (Precedes b) rest
    × TwoLeast (suc k) (rest ++ (times k a b ∷ [])) gs output

-- the whole tree keeps it: every MUL names the two least of the factors that are left then, the least as a
abbrev pub LeastFirst : Type 0
LeastFirst =
    (k : ℕ) (factors : List Node) → 1 ≤ length factors → InOrder 0 k factors
    → TwoLeast k factors (product_tree k factors).gates (product_tree k factors).output

-- over gates written before, the value is the product of the factors' values
abbrev pub ProductValue : Type 0
ProductValue =
    (p : ℕ) (left right : List ℕ) (gates : List Gate) (factors : List Node) → 0 < p → 1 ≤ length factors
    → InOrder 0 (length gates) factors
    → let alg = values p left right in
    let tree = product_tree (length gates) factors in
    entry_at alg (gates ++ tree.gates) tree.output.gate % p ≡ list_product (map (λ (f : Node). entry_at alg gates f.gate) factors) % p

-- the depth is ceil(log2(sum of 2^depth))
abbrev pub ProductDepth : Type 0
ProductDepth =
    (gates : List Gate) (factors : List Node) → 1 ≤ length factors → InOrder 0 (length gates) factors
    → Every (λ (f : Node). entry_at depths gates f.gate ≡ f.depth) factors
    → let tree = product_tree (length gates) factors in
    entry_at depths (gates ++ tree.gates) tree.output.gate ≡ clog (breadth factors)

-- every tree of two-way products over the same factors, each used once, is at least that deep
abbrev pub NoShallower : Type 0
NoShallower =
    (factors : List Node) (tree : Tree Node) → Permᴰ (leaves tree) factors
    → clog (breadth factors) ≤ height (λ (f : Node). f.depth) tree

-- one gate fewer than factors; all of them are products, none is a square
abbrev pub ProductCount : Type 0
ProductCount =
    (k : ℕ) (factors : List Node) → 1 ≤ length factors → InOrder 0 k factors
    → let gates = (product_tree k factors).gates in
    (length gates ≡ length factors - 1) × (count is_product gates ≡ length factors - 1) × (count is_square gates ≡ 0)

-- the gates name only lower gates
abbrev pub ProductFits : Type 0
ProductFits =
    (head : Head) (k : ℕ) (factors : List Node) → 1 ≤ length factors → InOrder 0 k factors
    → all_fit head k (product_tree k factors).gates ≡ true
