-- "Relations between left (record) and right (query): 1 <, 2 <=, 3 >, 4 >=, 5 =, 6 not equal." (document 01, "Card")
use Rattle.std.specs.Prelude.{◌≡◌, ℕ, Bool, true, false, not, List, [], ◌∷◌, ltb, leb, eqb}

pub data Relation : Type 0 where
  Less : Relation
  AtMost : Relation
  Greater : Relation
  AtLeast : Relation
  Equal : Relation
  NotEqual : Relation

abbrev pub relation_number : Relation → ℕ
relation_number Less = 1
relation_number AtMost = 2
relation_number Greater = 3
relation_number AtLeast = 4
relation_number Equal = 5
relation_number NotEqual = 6

-- in the order of their numbers
abbrev pub relations : List Relation
relations = Less ∷ AtMost ∷ Greater ∷ AtLeast ∷ Equal ∷ NotEqual ∷ []

-- whether a relation is true of two numbers
abbrev pub is_true : Relation → ℕ → ℕ → Bool
is_true Less x y = ltb x y
is_true AtMost x y = leb x y
is_true Greater x y = ltb y x
is_true AtLeast x y = leb y x
is_true Equal x y = eqb x y
is_true NotEqual x y = not (eqb x y)

-- "Order digit (1 to 4)", "Equality digit (5, 6)"
abbrev pub is_order : Relation → Bool
is_order Less = true
is_order AtMost = true
is_order Greater = true
is_order AtLeast = true
is_order Equal = false
is_order NotEqual = false

-- "z: left minus right for relations 1, 4, 5, 6, right minus left for 2, 3"
abbrev pub is_backward : Relation → Bool
is_backward Less = false
is_backward AtMost = true
is_backward Greater = true
is_backward AtLeast = false
is_backward Equal = false
is_backward NotEqual = false

-- "Relations 2 and 4 end with FLIP."; "Relation 6 ends with FLIP."
abbrev pub is_flipped : Relation → Bool
is_flipped Less = false
is_flipped AtMost = true
is_flipped Greater = false
is_flipped AtLeast = true
is_flipped Equal = false
is_flipped NotEqual = true

-- ---- what the gates of a relation test

-- the two sides in the order in which they are subtracted
abbrev pub minuend : {A : Type 0} → Bool → A → A → A
minuend false x y = x
minuend true x y = y

abbrev pub subtrahend : {A : Type 0} → Bool → A → A → A
subtrahend false x y = y
subtrahend true x y = x

-- of the two in that order: the first is smaller, or they are equal
abbrev pub tested : Bool → ℕ → ℕ → Bool
tested true x y = ltb x y
tested false x y = eqb x y

abbrev pub flipped_if : Bool → Bool → Bool
flipped_if true t = not t
flipped_if false t = t

-- side, test and FLIP of each relation together are its truth: 2, 4 and 6 are the opposites of 3, 1 and 5.
-- Proved in `proofs/Relations.antt`
abbrev pub RelationTested : Type 0
RelationTested =
    (r : Relation) (x y : ℕ)
    → flipped_if (is_flipped r) (tested (is_order r) (minuend (is_backward r) x y) (subtrahend (is_backward r) x y)) ≡ is_true r x y
