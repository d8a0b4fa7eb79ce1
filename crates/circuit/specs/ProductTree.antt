-- The product tree (document 01, "Writing one condition"; source document 000, section 4):
-- "while two factors remain, MUL the two of least depth, equal depths by lower gate number, first chosen as a; the product is a new factor."
-- The factors are kept in gate order. A product has the highest number so far, so it goes to the end.
use Rattle.std.specs.Prelude.{ℕ, zero, suc, ◌-◌, Bool, true, false, List, [], ◌∷◌, ◌++◌, leb, length}
use Rattle.circuit.specs.Gate.{Mul}
use Rattle.circuit.specs.Segment.{Node, Segment, times}

-- a factor, and the others in their order
pub record Choice : Type 0 where
  pub chosen : Node
  pub others : List Node

-- x goes before a later factor f, whose gate number is higher, unless it is deeper
abbrev pub goes_first : Node → Node → Bool
goes_first x f = leb x.depth f.depth

-- x itself, or what is chosen among the later factors
abbrev pub pick : Bool → Node → List Node → Choice → Choice
pick true x later choice = record { chosen = x; others = later }
pick false x later choice = record { chosen = choice.chosen; others = x ∷ choice.others }

-- the first factor of least depth: of several, that with the lowest gate number
unfoldable pub least : Node → List Node → Choice
least x [] = record { chosen = x; others = [] }
least x (y ∷ ys) = pick (goes_first x (least y ys).chosen) x (y ∷ ys) (least y ys)

-- of no factors, any node will do
abbrev pub choose : List Node → Choice
choose [] = record { chosen = record { gate = 0; depth = 0 }; others = [] }
choose (x ∷ xs) = least x xs

-- so many products, from gate number k on; then the factor that is left
unfoldable pub multiply : ℕ → ℕ → List Node → Segment
multiply zero k factors = record { gates = []; output = (choose factors).chosen }
multiply (suc n) k factors =
    let a = choose factors in
    let b = choose a.others in
    let later = multiply n (suc k) (b.others ++ (times k a.chosen b.chosen ∷ [])) in
    record { gates = Mul a.chosen.gate b.chosen.gate ∷ later.gates; output = later.output }

-- "while two factors remain"
abbrev pub product_tree : ℕ → List Node → Segment
product_tree k factors = multiply (length factors - 1) k factors
