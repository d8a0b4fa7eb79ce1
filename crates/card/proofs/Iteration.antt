-- A loop over the conditions of a card that was read: the item of a turn is the condition whose number is that of the items before it,
-- and at the end the items are as many as the conditions.
-- Assumes nothing.
use Rattle.std.proofs.Common.{◌≡◌, ℕ, ◌+◌, ◌<◌, List, [], ◌∷◌, length, drop, map, subst, sym, ap, ◌∙◌, arith, drop-drop}
use Rattle.std.proofs.lemmas.List.{length-map}
use Rattle.std.specs.Iterator.{Yields, YieldsFirstBy}
use Rattle.std.specs.declared.iter.Enumerate.{Enumerate}
use Rattle.std.specs.Iterator.Adapters.{enumerate_source, enumerate_count, enumerate_steps}
use Rattle.digits.specs.Number.{most_digits}
use Rattle.comparison.specs.Condition.{Condition, HasSlots}
use Rattle.query.specs.Card.{most_conditions}
use Rattle.card.specs.declared.Record.{Record}
use Rattle.card.specs.declared.accepted.Card.{Card}
use Rattle.card.specs.declared.accepted.Conditions.{Conditions}
use Rattle.card.specs.Accepted.{conditions_left}
use Rattle.card.specs.Conditions.{conditions_of, IsRecord}
use Rattle.card.specs.Parts.{record_is}
use Rattle.card.proofs.ReadAs.{as_many, record_slotted}

-- the iterator began at one state, has had these items, and is at the other
abbrev pub Ran : Conditions → List Record → Conditions → Type 0
Ran = Yields (YieldsFirstBy record_is conditions_left)

-- what is left then
left_after : (start : Conditions) (items : List Record) (now : Conditions) → Ran start items now
    → conditions_left now ≡ drop (length items) (conditions_left start)
left_after start [] now e = ap conditions_left (sym e)
left_after start (item ∷ items) now ran =
    left_after ran.0 items now ran.2 ∙ ap (drop (length (item ∷ items))) (sym ran.1)

-- as many as were there
many_after : (start : Conditions) (items : List Record) (now : Conditions) → Ran start items now
    → length items + length (conditions_left now) ≡ length (conditions_left start)
many_after start [] now e = omega (arith, ap (λ (s : Conditions). length (conditions_left s)) e)
many_after start (item ∷ items) now ran = omega (arith, many_after ran.0 items now ran.2, ap length ran.1)

-- what a turn has: the condition of this number, with its slots, and numbers that are below the most
pub record AtTurn (card : Card) (k : ℕ) (item : Record) : Type 0 where
  pub is : IsRecord (conditions_of card.bytes.now) k item
  pub slots : HasSlots most_digits most_digits (record_is item)
  pub low : k < card.head.count
  pub few : k < most_conditions

-- in a loop that began with all conditions of a card left
module _ (card : Card) (start : Conditions) (whole : conditions_left start ≡ conditions_of card.bytes.now) (items : List Record)
    (now : Conditions) (ran : Ran start items now) where
  abbrev cs : List Condition
  cs = conditions_of card.bytes.now

  counted : length items + length (conditions_left now) ≡ card.head.count
  counted =
      omega (arith, many_after start items now ran, ap length whole, as_many card.bytes.now card.head card.read)

  pub turn : (item : Record) (others : List Condition) → conditions_left now ≡ record_is item ∷ others → AtTurn card (length items) item
  turn item others step =
      let left = ap (drop (length items)) (sym whole) ∙ sym (left_after start items now ran) ∙ step in
      let this : IsRecord cs (length items) item =
      left ∙ ap (λ (l : List Condition). record_is item ∷ l) (ap (drop 1) (sym left) ∙ drop-drop 1 (length items) cs) in
      let low : length items < card.head.count = omega (arith, counted, ap length step) in
      record {
        is = this;
        slots = record_slotted card.bytes.now card.head (length items) item card.read this;
        low = low;
        few = omega (arith, low, as_many card.bytes.now card.head card.read);
      }

  -- and at the end none is missing
  pub ended : conditions_left now ≡ [] → length items ≡ card.head.count
  ended none = omega (arith, counted, ap length none)

-- ---- the same with a number beside each item, as `enumerate` gives it

-- the numbered iterator began at one state, has had these items, and is at the other
abbrev pub RanNumbered : Enumerate Conditions → List (ℕ × Record) → Enumerate Conditions → Type 0
RanNumbered = Yields (enumerate_steps (YieldsFirstBy record_is conditions_left))

-- the iterator within has had the same items, and the number that comes is how many they are
within : (start : Enumerate Conditions) (items : List (ℕ × Record)) (now : Enumerate Conditions) → RanNumbered start items now
    → Ran (enumerate_source start) (map (λ (p : ℕ × Record). p.1) items) (enumerate_source now)
    × (enumerate_count now ≡ enumerate_count start + length items)
within start [] now e = (ap enumerate_source e, omega (arith, ap enumerate_count e))
within start (item ∷ items) now ran =
    let later = within ran.0 items now ran.2 in
    ((enumerate_source ran.0, ran.1.0, later.0), omega (arith, later.1, ran.1.2))

module _ (card : Card) (start : Enumerate Conditions) (first : enumerate_count start ≡ 0)
    (whole : conditions_left (enumerate_source start) ≡ conditions_of card.bytes.now) (items : List (ℕ × Record))
    (now : Enumerate Conditions) (ran : RanNumbered start items now) where
  pub turn_numbered : (item : ℕ × Record) (others : List Condition)
      → conditions_left (enumerate_source now) ≡ record_is item.1 ∷ others → item.0 ≡ enumerate_count now
      → (item.0 ≡ length items) × AtTurn card item.0 item.1
  turn_numbered item others step number =
      let inner = within start items now ran in
      let place : item.0 ≡ length items = omega (arith, number, inner.1, first) in
      let this = turn card (enumerate_source start) whole _ _ inner.0 item.1 others step in
      (place, subst (λ (k : ℕ). AtTurn card k item.1) (length-map items _ ∙ sym place) this)

  pub ended_numbered : conditions_left (enumerate_source now) ≡ [] → length items ≡ card.head.count
  ended_numbered none =
      let inner = within start items now ran in
      sym (length-map items _) ∙ ended card (enumerate_source start) whole _ _ inner.0 none
