-- What an accepted card keeps, as facts of numbers: its prime, its weight, how many conditions and slots it has,
-- the slots of each condition, and the total weight of a score card.
-- The conditions' right slots follow one another, so each ends where the later ones begin, and the last at N. Left slots end at the left count
-- or before it; where none is shared, they follow one another too, and that count is N.
-- Assumes nothing.
use mathlib.Core.Path.{◌≡◌, refl}
use mathlib.Core.Bool.{true, false}
use mathlib.Core.List.{List, [], ◌∷◌}
use mathlib.Core.Logic.{◌≢◌}
use Prim.Native.Nat.{ℕ, ◌+◌, ◌≤◌, ◌<◌}
use native.Mathlib.Omega.{arith}
use native.Mathlib.Nat.{le_refl}
use borrow.Author.Tests.{leb-false, ltb-false}
use lib.ListN.{length}
use Rattle.answer.specs.Outcome.{accepted}
use Rattle.field.specs.Primes.{OddPrime, listed}
use Rattle.field.specs.Sum.{total}
use Rattle.field.proofs.Primes.{listed_is_odd_prime}
use Rattle.field.proofs.Tests.{in_range}
use Rattle.digits.specs.Number.{most_digits}
use Rattle.circuit.specs.Every.{Every}
use Rattle.circuit.specs.Sums.{largest}
use Rattle.circuit.specs.Table.{left_of, right_of, least_weight, most_weight, wrong_weight, left_slots, right_slots}
use Rattle.circuit.proofs.Every.{every_map₂}
use Rattle.circuit.proofs.Sums.{largest_covers, largest_within}
use Rattle.circuit.proofs.WellFormed.{SlotRange}
use Rattle.comparison.specs.Condition.{Condition, HasSlots}
use Rattle.query.specs.Card.{Card, AsksScore, most_conditions, slots_of, left_count, total_weight, in_slots}
use Rattle.query.specs.Form.{Form, Plain, Scored, Shared}
use Rattle.query.specs.Reading.{read_card}
use Rattle.query.specs.Whole.{slot_counts, table_of}
use Rattle.query.proofs.Form.{plain≢shared, scored≢shared, tail_left, tail_right, left_within}
use Rattle.query.proofs.Reading.{Keeps, in_slots_lem, reads}

pub record Accepted (card : Card) : Type 0 where
  pub prime : OddPrime card.prime
  pub listed : listed card.prime ≡ true
  pub weight : (least_weight ≤ card.weight) × (card.weight ≤ most_weight)
  pub weight_test : wrong_weight card.weight ≡ false
  pub count : (1 ≤ length card.conditions) × (length card.conditions ≤ most_conditions)
  pub slots : (1 ≤ slots_of card.conditions) × (slots_of card.conditions ≤ most_digits)
  -- each condition has the slots that its form gives it
  pub placed : in_slots card.form card.prime 0 card.conditions ≡ true
  -- the weights of a score card are within the field
  pub weights : AsksScore card → total_weight card.conditions < card.prime
  -- each side of the table's head has 1 to 16
  pub sides : SlotRange (table_of card).head.slots
  -- the left side as many as are used
  pub left_side : left_slots (table_of card).head ≡ left_count card.conditions
  -- and each condition's are among them
  pub each : Every (HasSlots (left_slots (table_of card).head) (right_slots (table_of card).head)) card.conditions

-- ---- the right side

-- the right slots of conditions that take those from slot on, up to N at most
right_within : (form : Form) (p N slot : ℕ) (cs : List Condition) → in_slots form p slot cs ≡ true → slot + slots_of cs ≤ N
    → Every (λ (c : Condition). (1 ≤ c.digits) × (c.right + c.digits ≤ N)) cs
unfolding total
right_within form p N slot [] t h = tt
right_within form p N slot (c ∷ cs) t h =
    let s = in_slots_lem form p slot c cs t in
    let n = in_range c.digits 1 most_digits s.count in
    (omega (arith, n, tail_right form p slot c s.tail), right_within form p N (slot + c.digits) cs s.later (omega arith))

right_side : (form : Form) (cs : List Condition) → right_of (slot_counts form cs) ≡ slots_of cs
right_side Plain cs = refl
right_side Scored cs = refl
right_side Shared cs = refl

-- ---- the left side

-- the left slots end within the most that a side has
all_left : (form : Form) (p slot : ℕ) (cs : List Condition) → in_slots form p slot cs ≡ true → slot + slots_of cs ≤ most_digits
    → Every (λ (c : Condition). c.left + c.digits ≤ most_digits) cs
unfolding total
all_left form p slot [] t h = tt
all_left form p slot (c ∷ cs) t h =
    let s = in_slots_lem form p slot c cs t in
    (left_within form p slot most_digits c s.tail (le_refl _) (omega arith), all_left form p (slot + c.digits) cs s.later (omega arith))

-- left slots that are handed out in order end where the right ones do
in_order : (form : Form) (p slot : ℕ) (cs : List Condition) → form ≢ Shared → in_slots form p slot cs ≡ true → 1 ≤ length cs
    → left_count cs ≡ slot + slots_of cs
unfolding total largest
in_order form p slot [] own t some = absurd (omega arith)
in_order form p slot (c ∷ []) own t some = omega (arith, tail_left form p slot c own (in_slots_lem form p slot c [] t).tail)
in_order form p slot (c ∷ d ∷ cs) own t some =
    let s = in_slots_lem form p slot c (d ∷ cs) t in
    omega (arith, tail_left form p slot c own s.tail, in_order form p (slot + c.digits) (d ∷ cs) own s.later (omega arith))

-- so in every form the left side has as many slots as are used
left_side : (form : Form) (p : ℕ) (cs : List Condition) → in_slots form p 0 cs ≡ true → 1 ≤ length cs → left_of (slot_counts form cs) ≡ left_count cs
left_side Plain p cs t some = omega (arith, in_order Plain p 0 cs plain≢shared t some)
left_side Scored p cs t some = omega (arith, in_order Scored p 0 cs scored≢shared t some)
left_side Shared p cs t some = refl

-- ---- every rule

-- a condition has at least one slot on each side
some_slot : (form : Form) (p slot : ℕ) (cs : List Condition) → in_slots form p slot cs ≡ true → 1 ≤ length cs
    → (1 ≤ slots_of cs) × (1 ≤ left_count cs)
unfolding total largest
some_slot form p slot [] t h = absurd (omega arith)
some_slot form p slot (c ∷ cs) t h = let n = in_range c.digits 1 most_digits (in_slots_lem form p slot c cs t).count in omega arith

accepted_keeps : (card : Card) → Keeps card → Accepted card
accepted_keeps card k =
    let count = in_range (length card.conditions) 1 most_conditions k.count in
    let some = some_slot card.form card.prime 0 card.conditions k.placed count.0 in
    let few = ltb-false most_digits (slots_of card.conditions) k.slots in
    let right = right_side card.form card.conditions in
    let left = left_side card.form card.prime card.conditions k.placed count.0 in
    let left_few = largest_within (λ (c : Condition). c.left + c.digits) most_digits card.conditions
    (all_left card.form card.prime 0 card.conditions k.placed (omega arith)) in
    record {
      prime = (listed_is_odd_prime card.prime).0 k.prime;
      listed = k.prime;
      weight = in_range card.weight least_weight most_weight k.weight;
      weight_test = k.weight;
      count = count;
      slots = (some.0, few);
      placed = k.placed;
      weights = λ asks. leb-false card.prime (total_weight card.conditions) (rw asks at k.weights);
      sides = (omega (arith, left, some), omega (arith, left, left_few), omega (arith, right, some), omega (arith, right, few));
      left_side = left;
      each = every_map₂ (λ (c : Condition) l r. (r.0, omega (arith, l, left), omega (arith, r, right))) card.conditions
          (largest_covers (λ (c : Condition). c.left + c.digits) card.conditions)
          (right_within card.form card.prime (slots_of card.conditions) 0 card.conditions k.placed (omega arith));
    }

pub accepted_card : (bytes : List ℕ) (card : Card) → read_card bytes ≡ accepted card → Accepted card
accepted_card bytes card e = accepted_keeps card (reads bytes card e).kept
