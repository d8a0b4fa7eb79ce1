-- A wrong turn (document 01): "Pairing factors in card order, which can add a level." Proved on an example in `proofs/ListOrder.antt`.
use Rattle.std.specs.Prelude.{◌≡◌, ℕ, zero, suc, max, List, [], ◌∷◌, ◌++◌, map, get_or, drop}
use Rattle.circuit.specs.Gate.{Mul}
use Rattle.circuit.specs.ProductTree.{product_tree}
use Rattle.circuit.specs.Segment.{Node}

-- the depth after so many products, each of the first two factors of the list whatever their depths; the product goes to the end
unfoldable pub list_order : ℕ → List ℕ → ℕ
list_order zero depths = get_or depths 0 0
list_order (suc n) depths = list_order n (drop 2 depths ++ (suc (max (get_or depths 0 0) (get_or depths 1 0)) ∷ []))

-- the outputs of conditions of 2, 1 and 1 digits at p=3
abbrev pub uneven : List Node
uneven = record { gate = 0; depth = 2 } ∷ record { gate = 1; depth = 1 } ∷ record { gate = 2; depth = 1 } ∷ []

-- in list order they take 4 levels; the product tree takes 3, and is written as these gates
abbrev pub ListOrderDeeper : Type 0
ListOrderDeeper =
    (list_order 2 (map (λ (f : Node). f.depth) uneven) ≡ 4)
    × (product_tree 3 uneven ≡ record { gates = Mul 1 2 ∷ Mul 0 3 ∷ []; output = record { gate = 4; depth = 3 } })
