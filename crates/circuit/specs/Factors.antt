-- What is said of a list of factors: their order, and the sum of 2^depth and the product by which a tree over them is judged.
use Rattle.std.specs.Prelude.{◌≡◌, ◌⊎◌, ℕ, suc, ◌*◌, ◌^◌, ◌≤◌, ◌<◌, List, [], ◌∷◌, map}
use Rattle.field.specs.Sum.{total}
use Rattle.circuit.specs.Segment.{Node}

-- kept in gate order: the gate numbers ascend, from i on and below k
unfoldable pub InOrder : ℕ → ℕ → List Node → Type 0
InOrder i k [] = i ≤ k
InOrder i k (f ∷ fs) = (i ≤ f.gate) × InOrder (suc f.gate) k fs

-- a comes before f: "least depth, equal depths by lower gate number"
abbrev pub Precedes : Node → Node → Type 0
Precedes a f = (a.depth < f.depth) ⊎ ((a.depth ≡ f.depth) × (a.gate < f.gate))

-- the sum of 2^depth (source document 000, equation (2): each factor counts with the largest breadth that its depth allows)
abbrev pub breadth : List Node → ℕ
breadth factors = total (map (λ f. 2 ^ f.depth) factors)

-- the product of a list's entries
unfoldable pub list_product : List ℕ → ℕ
list_product [] = 1
list_product (x ∷ xs) = x * list_product xs
