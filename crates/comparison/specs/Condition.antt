-- Conditions (document 01, "Card" and "Whole card"; of weights document 02, E1): what one says, and where it holds.
use Rattle.std.specs.Prelude.{ℕ, ◌+◌, ◌≤◌, Bool, List, take, drop}
use Rattle.digits.specs.Number.{number}
use Rattle.comparison.specs.Relation.{Relation, is_true}

-- "relation, n", the first of its n slots on each side, and its weight in a score, which has no part in where it holds
-- or in its gates (`WeighsNothing`); a card that asks for no score has conditions of weight 0
pub record Condition : Type 0 where
  pub relation : Relation
  pub digits : ℕ
  pub left : ℕ
  pub right : ℕ
  pub weight : ℕ

-- the same without its weight
abbrev pub unweighed : Condition → Condition
unweighed c = record { relation = c.relation; digits = c.digits; left = c.left; right = c.right; weight = 0 }

-- it has a digit at least, and its slots are among the first l on the left and the first r on the right
abbrev pub HasSlots : ℕ → ℕ → Condition → Type 0
HasSlots l r c = (1 ≤ c.digits) × (c.left + c.digits ≤ l) × (c.right + c.digits ≤ r)

-- the number in n slots from the first on
abbrev pub number_in : ℕ → ℕ → ℕ → List ℕ → ℕ
number_in B first n side = number B (take n (drop first side))

-- "A condition holds where its relation is true of the number in its left slots and the number in its right slots."
abbrev pub holds : ℕ → List ℕ → List ℕ → Condition → Bool
holds B left right c =
    is_true c.relation (number_in B c.left c.digits left) (number_in B c.right c.digits right)
