-- What is proved of the gates that cost, products and squares count (document 02, E5), of any gates that name only lower ones.
-- Proved in `proofs/Used.antt` and `proofs/Counted.antt`.
use Rattle.std.specs.Prelude.{◌≡◌, ◌↔◌, ◌⊎◌, true, false, List, [], ◌∷◌, ℕ, ◌≤◌, ◌<◌}
use Rattle.answer.specs.Report.{cost_of}
use Rattle.field.specs.Member.{member}
use Rattle.circuit.specs.Count.{is_mul, is_square, is_product, same_pair, counted, count, products, squares, cost}
use Rattle.circuit.specs.Gate.{Gate, Left, Right, Add, Flip, Mul}
use Rattle.circuit.specs.Operands.{GateIs}
use Rattle.circuit.specs.Table.{Head, all_fit}
use Rattle.circuit.specs.Used.{Used, used_numbers}

-- a gate's number is in the list that is computed exactly where the gate is used
abbrev pub NeededIsUsed : Type 0
NeededIsUsed =
    (head : Head) (gates : List Gate) (i : ℕ) → all_fit head 0 gates ≡ true → (member i (used_numbers gates) ≡ true) ↔ Used gates i

-- "the same pair of gates, in either order": by the gates' numbers, whatever they compute
abbrev pub SamePairIs : Type 0
SamePairIs = (a b c d : ℕ) → (same_pair (Mul a b) (Mul c d) ≡ true) ↔ (((a ≡ c) × (b ≡ d)) ⊎ ((a ≡ d) × (b ≡ c)))

-- "only": each gate that counts is a used one
abbrev pub OnlyUsedCount : Type 0
OnlyUsedCount =
    (head : Head) (gates : List Gate) (j : ℕ) (g : Gate) → all_fit head 0 gates ≡ true → GateIs (counted gates) j g
    → (k : ℕ) × GateIs gates k g × Used gates k

-- "once": no two of them are MULs over the same pair
abbrev pub CountedOnce : Type 0
CountedOnce =
    (gates : List Gate) (i j : ℕ) (g h : Gate) → i < j → GateIs (counted gates) i g → GateIs (counted gates) j h → same_pair g h ≡ false

-- and each used MUL counts, or one over the same pair in its place
abbrev pub EachPairCounts : Type 0
EachPairCounts =
    (head : Head) (gates : List Gate) (k : ℕ) (g : Gate) → all_fit head 0 gates ≡ true → GateIs gates k g → Used gates k → is_mul g ≡ true
    → (j : ℕ) × (h : Gate) × GateIs (counted gates) j h × (same_pair g h ≡ true)

-- no table is charged more than by its counts over all records
abbrev pub NeverMore : Type 0
NeverMore =
    (s : ℕ) (gates : List Gate)
    → (products gates ≤ count is_product gates)
    × (squares gates ≤ count is_square gates)
    × (cost s gates ≤ cost_of s (count is_product gates) (count is_square gates))

-- an example: of two products over one pair one counts; the square does not, since the output, the last gate, does not need it
abbrev pub UnusedExample : Type 0
UnusedExample =
    counted (Left 0 ∷ Right 0 ∷ Mul 0 1 ∷ Mul 1 0 ∷ Add 2 3 ∷ Mul 4 4 ∷ Flip 4 ∷ []) ≡ Left 0 ∷ Right 0 ∷ Mul 1 0 ∷ Add 2 3 ∷ Flip 4 ∷ []
