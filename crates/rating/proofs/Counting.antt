-- The order digits of conditions, one condition after the other.
-- Assumes nothing.
use mathlib.Core.Path.{◌≡◌, ap}
use mathlib.Core.Bool.{Bool, true, false}
use mathlib.Core.List.{List, [], ◌∷◌}
use Prim.Native.Nat.{ℕ, ◌+◌, ◌-◌, ◌≤◌}
use native.Mathlib.Omega.{arith}
use lib.ListN.{length, drop, drop_of_length-le}
use Rattle.field.specs.Sum.{total}
use Rattle.comparison.specs.Condition.{Condition}
use Rattle.comparison.specs.Formulas.{order_digits_in}
use Rattle.digits.specs.Number.{most_digits}
use Rattle.comparison.specs.Relation.{is_order}
use Rattle.query.specs.Card.{slots_of}
use Rattle.query.proofs.CardFacts.{accepted_card}
use Rattle.offer.specs.Digits.{order_digits, higher_digits}
use Rattle.card.specs.declared.Record.{Record}
use Rattle.card.specs.Conditions.{IsRecord, conditions_of}
use Rattle.card.specs.Parts.{record_is}
use Rattle.card.specs.declared.accepted.Card.{Card}
use Rattle.card.proofs.ReadAs.{known_as}

-- with those of the conditions that are left, the digits so far are those of all
pub record CountsDigits (cs : List Condition) (k all higher : ℕ) : Type 0 where
  pub all_left : all + order_digits (drop k cs) ≡ order_digits cs
  pub higher_left : higher + higher_digits (drop k cs) ≡ higher_digits cs

pub counts_none : (cs : List Condition) → CountsDigits cs 0 0 0
counts_none cs = record { all_left = omega arith; higher_left = omega arith }

pub counts_next : (cs : List Condition) (k all higher a h : ℕ) (r : Record) → IsRecord cs k r → a ≡ order_digits_in (record_is r) → h ≡ a - 1
    → CountsDigits cs k all higher → CountsDigits cs (k + 1) (all + a) (higher + h)
unfolding total
counts_next cs k all higher a h r is own less known = record {
  all_left = omega (arith, known.all_left, ap order_digits is, own);
  higher_left = omega (arith, known.higher_left, ap higher_digits is, ap (λ (n : ℕ). n - 1) own, less);
}

pub counts_all : (cs : List Condition) (k all higher : ℕ) → length cs ≤ k → CountsDigits cs k all higher
    → (all ≡ order_digits cs) × (higher ≡ higher_digits cs)
unfolding total
counts_all cs k all higher l known =
    let none = drop_of_length-le cs l in
    (omega (arith, known.all_left, ap order_digits none), omega (arith, known.higher_left, ap higher_digits none))

-- a condition has no more order digits than slots, and a card no more slots than the most digits
in_few : (b : Bool) (d : ℕ) → elim b as (λ (t : Bool). ℕ) [ true ↦ d | false ↦ 0 ] ≤ d
in_few true d = omega arith
in_few false d = omega arith

order_few : (cs : List Condition) → order_digits cs ≤ slots_of cs
unfolding total
order_few [] = omega arith
order_few (c ∷ cs) = omega (arith, in_few (is_order c.relation) c.digits, order_few cs)

pub digits_few : (card : Card) → order_digits (conditions_of card.bytes.now) ≤ most_digits
digits_few card =
    let known = known_as card.bytes.now card.head card.read in
    let few = (accepted_card card.bytes.now known.card known.reads).slots.1 in
    omega (arith, order_few known.card.conditions, few, ap order_digits known.conditions)
