-- Conditions that are added one by one: the state after them is a function of them (`state_of`), and so is the table (`table_so_far`);
-- with one condition more they are what an accepted add leaves. A condition at least makes a plain card that Build takes,
-- so the laws of accepted cards give that such a state is open and that such a table keeps every rule.
-- Assumes nothing.
use mathlib.Core.Path.{◌≡◌, refl, sym, ap, ap₂, ◌∙◌}
use mathlib.Core.Bool.{true, false}
use mathlib.Core.List.{List, [], ◌∷◌, ◌++◌, map}
use Prim.Native.Nat.{ℕ, ◌+◌, ◌-◌, ◌*◌, ◌≤◌}
use native.Mathlib.Omega.{arith}
use native.Mathlib.Nat.{zero-add}
use borrow.Author.Tests.{le-ltb}
use lib.ListN.{length, length-append}
use Rattle.answer.specs.Outcome.{accepted}
use Rattle.field.specs.Logarithm.{clog}
use Rattle.field.specs.Primes.{listed}
use Rattle.field.specs.Sum.{total}
use Rattle.field.proofs.Logarithm.{clog_is_ceiling}
use Rattle.field.proofs.Tests.{in_range_false}
use Rattle.digits.specs.Number.{most_digits, wrong_count}
use Rattle.circuit.specs.Count.{count, is_product, is_square}
use Rattle.circuit.specs.Every.{Every}
use Rattle.circuit.specs.Gate.{Gate}
use Rattle.circuit.specs.ProductTree.{product_tree}
use Rattle.circuit.specs.Segment.{Node}
use Rattle.circuit.specs.Sums.{largest}
use Rattle.circuit.specs.Table.{Both, wrong_weight, most_gates, well_formed}
use Rattle.circuit.proofs.Bounds.{counts_below}
use Rattle.circuit.proofs.Count.{count_append}
use Rattle.circuit.proofs.Every.{every_map}
use Rattle.circuit.proofs.Sums.{largest_within}
use Rattle.circuit.proofs.WellFormed.{slot_range_false, is_well_formed}
use Rattle.comparison.specs.Condition.{Condition}
use Rattle.comparison.specs.Lawful.{Lawful}
use Rattle.comparison.specs.Tests.{base_tests}
use Rattle.comparison.specs.Writing.{condition_segment}
use Rattle.comparison.proofs.Condition.{condition_writes}
use Rattle.comparison.proofs.Lawful.{base_lawful}
use Rattle.query.specs.Card.{Card, most_conditions, slots_of, in_slots, card_bytes}
use Rattle.query.specs.Form.{Form, Plain, keeps_tail}
use Rattle.query.specs.Reading.{read_card}
use Rattle.query.specs.Whole.{Draft, begin, add, add_all, draft_of, table_of}
use Rattle.query.proofs.AnyTests.{known, good, sound}
use Rattle.query.proofs.CardFacts.{Accepted}
use Rattle.query.proofs.OverConditions.{over_append, over_times}
use Rattle.query.proofs.Promises.{exact_size, sizes_within}
use Rattle.query.proofs.Reading.{keeps_rules_lem, placed_append, accepts_cards}
use Rattle.query.proofs.Whole.{Good, all_outputs, all_append, all_more, all_length, all_depths}
use Rattle.filling.specs.Filling.{head_of, extended, added_to}
use Rattle.filling.specs.Promises.{table_so_far}
use Rattle.filling.specs.State.{BuildState, started, most_levels, most_for_digit, too_deep, is_closed}
use Rattle.filling.proofs.Laid.{over, over_more}

-- ---- conditions one after the other

-- one condition more at the end
module _ (cs : List Condition) (c : Condition) where
  pub add_last : (p : ℕ) → draft_of (base_tests p) p (cs ++ (c ∷ [])) ≡ add (base_tests p) p (draft_of (base_tests p) p cs) c
  unfolding add_all
  add_last p = all_append (base_tests p) p begin cs (c ∷ [])

  pub slots_last : slots_of (cs ++ (c ∷ [])) ≡ slots_of cs + c.digits
  unfolding total
  slots_last = omega (arith, over_append (λ (c : Condition). c.digits) cs (c ∷ []))

  pub placed_last : (form : Form) (p : ℕ) → in_slots form p 0 cs ≡ true → wrong_count c.digits ≡ false → keeps_tail form p (slots_of cs) c ≡ true
      → in_slots form p 0 (cs ++ (c ∷ [])) ≡ true
  unfolding in_slots
  placed_last form p placed digits tail = rw (placed_append form p 0 cs (c ∷ []), placed, zero-add (slots_of cs), digits, tail)

-- ---- the state and the table after conditions

module _ (p s : ℕ) where
  abbrev draft : List Condition → Draft
  draft cs = draft_of (base_tests p) p cs

  abbrev pub state_of : List Condition → BuildState
  state_of cs = record {
    begun = true;
    prime = p;
    weight = s;
    slots = slots_of cs;
    gates = length (draft cs).gates;
    products = count is_product (draft cs).gates;
    squares = count is_square (draft cs).gates;
    outputs = (draft cs).outputs;
  }

  -- nothing added
  pub state_none : started p s ≡ state_of []
  unfolding add_all total count
  state_none = refl

  module _ (cs : List Condition) (c : Condition) where
    abbrev own : List Gate
    own = (condition_segment p c (length (draft cs).gates)).gates

    -- one condition more
    pub state_last : added_to (state_of cs) c ≡ state_of (cs ++ (c ∷ []))
    state_last =
        rw (
          add_last cs c p,
          slots_last cs c,
          length-append (draft cs).gates own,
          count_append is_product (draft cs).gates own,
          count_append is_square (draft cs).gates own,
        )

    pub gates_last : length (draft (cs ++ (c ∷ []))).gates ≡ length (draft cs).gates + length own
    gates_last = ap (λ (d : Draft). length d.gates) (add_last cs c p) ∙ length-append (draft cs).gates own

    pub bytes_last : (lent : List ℕ) → 8 * (length (draft cs).gates + length own + 1) ≤ length lent
        → extended (state_of cs) (slots_of cs + c.digits) own (over (table_so_far p s cs) lent) ≡ over (table_so_far p s (cs ++ (c ∷ []))) lent
    bytes_last lent room =
        over_more (head_of p s (slots_of cs)) (head_of p s (slots_of cs + c.digits)) (draft cs).gates own lent room
        ∙ ap₂ (λ (n : ℕ) (gates : List Gate). over (record { head = head_of p s n; gates = gates }) lent)
        (sym (slots_last cs c)) (ap (λ (d : Draft). d.gates) (sym (add_last cs c p)))

-- ---- conditions that a card may have

-- those of a plain card with this p and s, or none yet
pub record Fillable (p s : ℕ) (cs : List Condition) : Type 0 where
  pub prime : listed p ≡ true
  pub weight : wrong_weight s ≡ false
  pub few : length cs ≤ most_conditions
  pub placed : in_slots Plain p 0 cs ≡ true
  pub slots : slots_of cs ≤ most_digits

abbrev pub card_with : ℕ → ℕ → List Condition → Card
card_with p s cs = record { form = Plain; prime = p; weight = s; conditions = cs }

-- a condition at least makes a card
pub is_card : (p s : ℕ) (cs : List Condition) → Fillable p s cs → 1 ≤ length cs
    → read_card (card_bytes (card_with p s cs)) ≡ accepted (card_with p s cs)
is_card p s cs f some =
    let card = card_with p s cs in
    accepts_cards card (keeps_rules_lem card (record {
      prime = f.prime;
      weight = f.weight;
      count = in_range_false (length cs) 1 most_conditions some f.few;
      placed = f.placed;
      slots = le-ltb most_digits (slots_of cs) f.slots;
      weights = refl;
    }))

-- an output for each condition
pub count_so_far : (p : ℕ) (cs : List Condition) → length (draft_of (base_tests p) p cs).outputs ≡ length cs
count_so_far p cs = all_outputs (base_tests p) p begin cs ∙ zero-add _

-- ---- what a card's conditions give

-- outputs of which the deepest is no deeper than a condition
not_deep : (fs : List Node) → largest (map (λ (f : Node). f.depth) fs) ≤ most_levels → too_deep fs ≡ false
unfolding too_deep largest
not_deep [] h = refl
not_deep (f ∷ fs) h = rw (le-ltb most_levels f.depth (omega arith)) (not_deep fs (omega arith))

module _ (p s : ℕ) (cs : List Condition) (f : Fillable p s cs) (some : 1 ≤ length cs) where
  abbrev card : Card
  card = card_with p s cs

  abbrev e : read_card (card_bytes card) ≡ accepted card
  e = is_card p s cs f some

  abbrev all : Accepted card
  all = known (card_bytes card) card e

  abbrev so_far : Draft
  so_far = draft_of (base_tests p) p cs

  abbrev law : Lawful p (base_tests p)
  law = base_lawful p all.prime.low all.prime.odd

  -- 445 for each digit
  gates_within : length so_far.gates ≤ most_for_digit * slots_of cs
  gates_within =
      omega (
        arith,
        all_length (table_of card).head all.prime.low all.prime.odd begin cs (good (card_bytes card) card e),
        sizes_within (card_bytes card) card e,
        over_times most_for_digit (λ (c : Condition). c.digits) cs,
      )

  -- 8 levels of a digit, 4 of joining
  levels_within : (c : Condition) → Good (table_of card).head c → clog (p - 1) + clog c.digits ≤ most_levels
  levels_within c slots =
      omega (
        arith,
        (clog_is_ceiling (p - 1) 8).0 (omega (arith, all.prime.high)),
        (clog_is_ceiling c.digits 4).0 (omega (arith, slots, all.slots.1)),
      )

  -- so no output is too deep, and no other test of a closed build holds
  shallow : too_deep so_far.outputs ≡ false
  shallow =
      let conditions = good (card_bytes card) card e in
      let levels = all_depths (table_of card).head all.prime.low all.prime.odd begin cs conditions in
      not_deep so_far.outputs
      (rw levels (largest_within (λ (c : Condition). clog (p - 1) + clog c.digits) most_levels cs (every_map levels_within cs conditions)))

  some_open : is_closed (state_of p s cs) ≡ false
  some_open =
      rw (
        f.prime,
        f.weight,
        le-ltb most_digits (slots_of cs) f.slots,
        le-ltb (most_for_digit * slots_of cs) (length so_far.gates) gates_within,
        le-ltb (length so_far.gates) (count is_product so_far.gates + count is_square so_far.gates) (counts_below so_far.gates),
        shallow,
      )

  -- a condition writes a gate at least
  some_gate : (ds : List Condition) → Every (Good (table_of card).head) ds → 1 ≤ length ds → 1 ≤ length (draft_of (base_tests p) p ds).gates
  unfolding add_all
  some_gate [] conditions one = absurd (omega arith)
  some_gate (d ∷ ds) conditions one =
      let first = condition_writes p 0 (base_tests p) d law (omega (arith, all.prime.low)) conditions.0.0 in
      omega (arith, first, all_more (base_tests p) p (add (base_tests p) p begin d) ds)

  -- the table of the conditions alone keeps every rule of tables
  pub formed_so_far : well_formed (table_so_far p s cs) ≡ true
  formed_so_far =
      let size = exact_size (card_bytes card) card e in
      let tree = (product_tree (length so_far.gates) so_far.outputs).gates in
      is_well_formed (table_so_far p s cs) (record {
        prime = f.prime;
        weight = f.weight;
        slots = slot_range_false (Both (slots_of cs)) all.sides;
        count = in_range_false (length so_far.gates) 1 most_gates (some_gate cs (good (card_bytes card) card e) some)
            (omega (arith, size.1, length-append so_far.gates tree));
        fitted = (sound (card_bytes card) card e (base_tests p) law).fitted;
      })

-- so the state after such conditions is open, also where there are none
pub is_open : (p s : ℕ) (cs : List Condition) → Fillable p s cs → is_closed (state_of p s cs) ≡ false
unfolding add_all total count too_deep
is_open p s [] f = rw (f.prime, f.weight)
is_open p s (c ∷ cs) f = some_open p s (c ∷ cs) f (omega arith)
