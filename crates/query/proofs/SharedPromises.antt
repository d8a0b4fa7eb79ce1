-- Document 02, E6: the left slot count of a table is the highest used left slot plus 1, the heads of tables by the form of their card,
-- and that sharing changes no number that is reported.
-- The left count is the largest end of a condition's left slots: it covers each of them, and one reaches it. The five numbers are formulas of
-- relations and digit counts, in which no slot occurs.
-- Assumes nothing.
use mathlib.Core.Path.{◌≡◌, refl, sym, ap, ◌∙◌}
use mathlib.Core.List.{List, [], ◌∷◌, ◌++◌, map, map-map}
use mathlib.Core.Logic.{◌≢◌, inl, inr}
use Prim.Native.Nat.{ℕ, ◌+◌, ◌-◌, ◌≤◌, ◌<◌}
use native.Mathlib.Omega.{arith}
use lib.ListN.{length, take, length-map}
use Rattle.circuit.specs.Every.{Every, Some}
use Rattle.circuit.specs.Table.{head_bytes, gates_bytes}
use Rattle.circuit.proofs.Every.{every_map}
use Rattle.circuit.proofs.Some.{some_with}
use Rattle.circuit.proofs.Sums.{largest_covers, largest_reached}
use Rattle.comparison.specs.Condition.{Condition}
use Rattle.query.specs.Card.{Card, AsksYesOrNo, slots_of, left_count}
use Rattle.query.specs.Form.{Form, Plain, Scored, Shared}
use Rattle.query.specs.Formulas.{numbers_of}
use Rattle.query.specs.Promises.{gates_of}
use Rattle.query.specs.SharedPromises.{UsesLeft, LeftCount, TableHeads, unplaced, SameNumbers}
use Rattle.query.specs.Whole.{slot_counts}
use Rattle.query.proofs.CardFacts.{accepted_card}
use Rattle.query.proofs.Form.{plain≢shared, scored≢shared}
use Rattle.query.proofs.Promises.{reported_numbers}

abbrev end : Condition → ℕ
end c = c.left + c.digits

-- no used slot is beyond the count
covered : (cs : List Condition) (i : ℕ) → UsesLeft cs i → i < left_count cs
covered cs i uses = some_with (λ (c : Condition) most used. omega arith) cs (largest_covers end cs) uses

-- and where a condition ends at the count, the slot right below it is one of that condition's
reached : (cs : List Condition) (count : ℕ) → Every (λ (c : Condition). 1 ≤ c.digits) cs → Some (λ (c : Condition). end c ≡ count) cs
    → UsesLeft cs (count - 1)
reached [] count some at = at
reached (c ∷ cs) count some (inl at) = inl (omega (arith, some.0))
reached (c ∷ cs) count some (inr at) = inr (reached cs count some.1 at)

pub left_count_lem : LeftCount
left_count_lem bytes card e =
    let cs = card.conditions in
    let known = accepted_card bytes card e in
    let digits = every_map (λ (c : Condition) slots. slots.0) cs known.each in
    let last = reached cs (left_count cs) digits (largest_reached end cs known.count.0) in
    (λ i uses. omega (arith, covered cs i uses, known.left_side), (left_count cs - 1, last, omega (arith, known.sides.0, known.left_side)))

pub table_heads : TableHeads
table_heads card = go card.form (length (gates_of card)) (gates_bytes (gates_of card))
  where
    go : (form : Form) (count : ℕ) (gates : List ℕ)
        → let cs = card.conditions in
        let first = take 6 (head_bytes (record { prime = card.prime; weight = card.weight; slots = slot_counts form cs }) count ++ gates) in
        (form ≡ Shared → first ≡ 0x47 ∷ 0x4A ∷ card.prime ∷ card.weight ∷ left_count cs ∷ slots_of cs ∷ [])
        × (form ≢ Shared → first ≡ 0x47 ∷ 0x48 ∷ card.prime ∷ card.weight ∷ slots_of cs ∷ 0 ∷ [])
    go Plain count gates = (λ shared. absurd (plain≢shared shared), λ own. refl)
    go Scored count gates = (λ shared. absurd (scored≢shared shared), λ own. refl)
    go Shared count gates = (λ shared. refl, λ own. absurd (own refl))

-- ---- the five numbers

-- a card with the same numbers, whatever slots its conditions read: plain, with every condition unplaced
abbrev unplaced_card : Card → Card
unplaced_card card =
    record { form = Plain; prime = card.prime; weight = card.weight; conditions = map unplaced card.conditions }

unplaced_numbers : (card : Card) → AsksYesOrNo card → numbers_of (unplaced_card card) ≡ numbers_of card
unplaced_numbers card asks = rw asks (simp (map-map, length-map))

pub same_numbers : SameNumbers
same_numbers bytes bytes' card card' e e' asks asks' prime weight same =
    let told = reported_numbers bytes card e in
    let told' = reported_numbers bytes' card' e' in
    let alike : unplaced_card card ≡ unplaced_card card' = rw (prime, weight, same) in
    told ∙ sym (unplaced_numbers card asks) ∙ ap numbers_of alike ∙ unplaced_numbers card' asks' ∙ sym told'
