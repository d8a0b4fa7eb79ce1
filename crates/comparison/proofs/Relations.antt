-- Each relation is a test of the two sides in the order in which they are subtracted, or its opposite where FLIP ends it;
-- and the numbers in a condition's slots are those of its digits.
-- Assumes nothing.
use mathlib.Core.Path.{◌≡◌, refl, sym, ap, ap₂, ◌∙◌}
use mathlib.Core.Bool.{Bool, true, false, not}
use mathlib.Core.List.{List, ◌∷◌, map}
use Prim.Native.Nat.{ℕ, zero, suc, ◌+◌, ◌≤◌, ◌<◌}
use native.Mathlib.Omega.{arith}
use native.Mathlib.Decide.{dec_le}
use native.Mathlib.Nat.{add-zero, lt_of_not-le}
use borrow.Author.Tests.{lt-ltb, le-ltb, le-leb, lt-leb}
use lib.Dec.{ltb, leb}
use lib.ListN.{length, take, drop, get_or}
use lib.Seq.{drop-cons}
use Rattle.answer.specs.Outcome.{accepted, numbered}
use Rattle.answer.proofs.Outcome.{accepted_same}
use Rattle.digits.specs.Number.{base, number, all_below}
use Rattle.digits.proofs.Number.{below_at}
use Rattle.comparison.specs.Condition.{Condition, number_in}
use Rattle.comparison.specs.DigitPromises.{first_digit, second_digit, InBase}
use Rattle.comparison.specs.OrderDigit.{ascending}
use Rattle.comparison.specs.Relation.{Relation, Less, AtMost, Greater, AtLeast, Equal, NotEqual, relation_number, relations, is_backward, minuend, subtrahend, RelationTested}

-- ---- relations

not_greater : (x y : ℕ) → not (ltb y x) ≡ leb x y
not_greater x y = go (dec_le x y)
  where
    go : Dec (x ≤ y) → not (ltb y x) ≡ leb x y
    go (yes l) = rw (le-ltb y x l, le-leb x y l)
    go (no n) = rw (lt-ltb y x (lt_of_not-le n), lt-leb x y (lt_of_not-le n))

-- ---- relations and their numbers

pub relation_range : (r : Relation) → (1 ≤ relation_number r) × (relation_number r ≤ 6)
relation_range Less = omega arith
relation_range AtMost = omega arith
relation_range Greater = omega arith
relation_range AtLeast = omega arith
relation_range Equal = omega arith
relation_range NotEqual = omega arith

-- the relation of its own number
pub relation_back : (r : Relation) → numbered 8 (relation_number r) relations ≡ accepted r
relation_back Less = refl
relation_back AtMost = refl
relation_back Greater = refl
relation_back AtLeast = refl
relation_back Equal = refl
relation_back NotEqual = refl

-- so no two have the same
pub same_relation : (r s : Relation) → relation_number r ≡ relation_number s → r ≡ s
same_relation r s e =
    accepted_same (sym (relation_back r) ∙ ap (λ (n : ℕ). numbered 8 n relations) e ∙ relation_back s)

-- ---- what a relation tests

pub relation_tested : RelationTested
relation_tested Less x y = refl
relation_tested AtMost x y = not_greater x y
relation_tested Greater x y = refl
relation_tested AtLeast x y = not_greater y x
relation_tested Equal x y = refl
relation_tested NotEqual x y = refl

-- ---- slots

slots_from : (side : List ℕ) (first n i : ℕ) → first + (n + i) ≤ length side
    → map (λ j. get_or side (first + j) 0) (ascending n i) ≡ take n (drop (first + i) side)
unfolding ascending
slots_from side first zero i h = refl
slots_from side first (suc n) i h =
    let next : first + suc i ≡ suc (first + i) = omega arith in
    rw (drop-cons side (first + i) 0 (omega arith))
    (ap (λ (ds : List ℕ). get_or side (first + i) 0 ∷ ds) (slots_from side first n (suc i) (omega arith) ∙ rw next))

slots_number : (B : ℕ) (side : List ℕ) (first n : ℕ) → first + n ≤ length side
    → number B (map (λ j. get_or side (first + j) 0) (ascending n 0)) ≡ number_in B first n side
slots_number B side first n h =
    ap (number B) (slots_from side first n 0 (omega arith) ∙ ap (λ (m : ℕ). take n (drop m side)) (add-zero first))

-- of the two sides' digits in either order
pair_number : (B : ℕ) (f g : ℕ → ℕ) (js : List ℕ) (b : Bool)
    → (number B (map (λ j. minuend b (f j) (g j)) js) ≡ minuend b (number B (map f js)) (number B (map g js)))
    × (number B (map (λ j. subtrahend b (f j) (g j)) js) ≡ subtrahend b (number B (map f js)) (number B (map g js)))
pair_number B f g js true = (refl, refl)
pair_number B f g js false = (refl, refl)

module _ (B : ℕ) (left right : List ℕ) (c : Condition)
    (l : c.left + c.digits ≤ length left) (r : c.right + c.digits ≤ length right) where
  abbrev left_number : ℕ
  left_number = number_in B c.left c.digits left

  abbrev right_number : ℕ
  right_number = number_in B c.right c.digits right

  pub sides : (number B (map (first_digit left right c) (ascending c.digits 0)) ≡ minuend (is_backward c.relation) left_number right_number)
      × (number B (map (second_digit left right c) (ascending c.digits 0)) ≡ subtrahend (is_backward c.relation) left_number right_number)
  sides =
      let b = is_backward c.relation in
      let pair = pair_number B (λ j. get_or left (c.left + j) 0) (λ j. get_or right (c.right + j) 0) (ascending c.digits 0) b in
      let x = slots_number B left c.left c.digits l in
      let y = slots_number B right c.right c.digits r in
      (pair.0 ∙ ap₂ (minuend b) x y, pair.1 ∙ ap₂ (subtrahend b) x y)

-- digits of lists below the base
either_below : (B : ℕ) (b : Bool) (x y : ℕ) → x < B → y < B → (minuend b x y < B) × (subtrahend b x y < B)
either_below B true x y l m = (m, l)
either_below B false x y l m = (l, m)

pub in_base : (p : ℕ) (left right : List ℕ) (c : Condition) → 0 < base p → all_below (base p) left ≡ true → all_below (base p) right ≡ true
    → (j : ℕ) → InBase p left right c j
in_base p left right c some hl hr j =
    either_below (base p) (is_backward c.relation) _ _
    (below_at (base p) left (c.left + j) some hl) (below_at (base p) right (c.right + j) some hr)
