-- Products, squares and cost (document 01, "Gate table"; which MULs they count, document 02, E5).
use Rattle.std.specs.Prelude.{ℕ, ◌+◌, Bool, false, not, ◌&&◌, ◌||◌, List, [], ◌∷◌, ◌++◌, eqb}
use Rattle.answer.specs.Report.{cost_of}
use Rattle.field.specs.Bit.{bit}
use Rattle.circuit.specs.Gate.{Gate, fields}
use Rattle.circuit.specs.Used.{only_if, used}

-- kind 7
abbrev pub is_mul : Gate → Bool
is_mul g = eqb (fields g).kind 7

-- "A MUL with a=b is a square"
abbrev pub is_square : Gate → Bool
is_square g = is_mul g && eqb (fields g).a (fields g).b

-- "any other MUL a product"
abbrev pub is_product : Gate → Bool
is_product g = is_mul g && not (eqb (fields g).a (fields g).b)

-- ---- "two MULs over the same pair of gates, in either order, once"

-- a gate's a and b are these numbers
abbrev pub is_over : ℕ → ℕ → Gate → Bool
is_over a b g = eqb (fields g).a a && eqb (fields g).b b

-- "two MULs over the same pair of gates, in either order"
abbrev pub same_pair : Gate → Gate → Bool
same_pair g h =
    is_mul g && (is_mul h && (is_over (fields h).a (fields h).b g || is_over (fields h).b (fields h).a g))

-- whether a gate has its pair in common with one of a list
unfoldable pub repeated : Gate → List Gate → Bool
repeated g [] = false
repeated g (h ∷ hs) = same_pair g h || repeated g hs

-- "once": all gates but the MULs whose pair a later one has
unfoldable pub distinct : List Gate → List Gate
distinct [] = []
distinct (g ∷ gs) = only_if (not (repeated g gs)) (g ∷ []) ++ distinct gs

-- ---- what is counted

-- the gates of a finished table that count: "only the MUL gates among the output itself and the gates it depends on ..,
-- and two MULs over the same pair of gates, in either order, once"
unfoldable pub counted : List Gate → List Gate
counted gates = distinct (used gates)

-- how many gates pass a test
unfoldable pub count : (Gate → Bool) → List Gate → ℕ
count test [] = 0
count test (g ∷ gs) = bit (test g) + count test gs

-- those of a finished table
abbrev pub products : List Gate → ℕ
products gates = count is_product (counted gates)

abbrev pub squares : List Gate → ℕ
squares gates = count is_square (counted gates)

-- "Cost is 100 times the products plus s times the squares"
abbrev pub cost : ℕ → List Gate → ℕ
cost s gates = cost_of s (products gates) (squares gates)
