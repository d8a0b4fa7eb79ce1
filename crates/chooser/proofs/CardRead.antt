-- What a card that was read gives the search: its conditions and its prime, the best of all as what is left at the start,
-- the report on its base table, and what rating goes by, where it has an order digit.
-- Assumes nothing.
use mathlib.Core.Path.{◌≡◌, refl, sym, ap, ◌∙◌}
use mathlib.Core.Bool.{Bool, true, false, ◌||◌}
use mathlib.Core.List.{List, [], ◌∷◌}
use Prim.Native.Nat.{ℕ, ◌+◌, ◌-◌, ◌≤◌}
use native.Mathlib.Omega.{arith}
use Rattle.answer.specs.Outcome.{Answer, refused, accepted, on_answer}
use Rattle.answer.specs.Report.{Report}
use Rattle.answer.proofs.Outcome.{accepted_same}
use Rattle.field.specs.Half.{half}
use Rattle.field.specs.Sum.{total}
use Rattle.digits.specs.Number.{most_digits}
use Rattle.circuit.specs.Report.{report}
use Rattle.comparison.specs.Condition.{Condition}
use Rattle.comparison.specs.Formulas.{order_digits_in}
use Rattle.comparison.specs.Relation.{is_order}
use Rattle.comparison.specs.Tests.{equality_test}
use Rattle.query.specs.Card.{Card}
use Rattle.query.specs.Outcomes.{forecasting}
use Rattle.query.specs.Reading.{read_card}
use Rattle.query.specs.Whole.{table_of}
use Rattle.offer.specs.Best.{nothing, best_from}
use Rattle.offer.specs.Digits.{order_digits, higher_digits}
use Rattle.offer.specs.Offer.{step_cost, step_depth, counts, best_step}
use Rattle.card.specs.declared.CardHead.{CardHead}
use Rattle.card.specs.Conditions.{ReadAs, conditions_of}
use Rattle.card.specs.Parts.{Summary}
use Rattle.card.proofs.ReadAs.{known_as}
use Rattle.draft.specs.Conditions.{any_order, Ready}
use Rattle.rating.specs.declared.OrderDigits.{OrderDigits}
use Rattle.rating.specs.Rated.{Searching}

module _ (bytes : List ℕ) (c : Card) (e : read_card bytes ≡ accepted c) where
  -- its prime
  same_prime : (head : CardHead) → ReadAs bytes head → head.prime ≡ c.prime
  same_prime head reads =
      let all = known_as bytes head reads in
      let same : all.card ≡ c = accepted_same (sym all.reads ∙ e) in
      ap (λ (s : Summary). s.prime) all.says ∙ ap (λ (card : Card). card.prime) same

  -- all step sizes are left at the start
  pub all_left : (head : CardHead) (cap : ℕ) → ReadAs bytes head
      → best_from (step_cost c) (step_depth c) (counts cap c) (half head.prime + 1 - 1) 1 nothing ≡ best_step cap c
  all_left head cap reads =
      let most : half head.prime + 1 - 1 ≡ half head.prime = omega arith in
      ap (λ (n : ℕ). best_from (step_cost c) (step_depth c) (counts cap c) n 1 nothing) (most ∙ ap half (same_prime head reads))

  -- the report on the base table
  pub base_told : (base : Report) → accepted base ≡ forecasting bytes → base ≡ report (table_of c)
  base_told base told =
      accepted_same (told ∙ ap (λ (a : Answer Card). on_answer a refused (λ card. accepted (report (table_of card)))) e)

-- an order digit is one of an order condition
some_order : (cs : List Condition) → (order_digits cs ≡ 0 → ⊥) → any_order cs ≡ true
unfolding total any_order
some_order [] some = absurd (some refl)
some_order (c ∷ cs) some = go (is_order c.relation) refl (some_order cs)
  where
    go : (b : Bool) → is_order c.relation ≡ b → ((order_digits cs ≡ 0 → ⊥) → any_order cs ≡ true) → (is_order c.relation || any_order cs) ≡ true
    go true e later = rw e
    go false e later =
        let none : order_digits_in c ≡ 0 = rw (e, order_digits_in) in
        ap (λ (b : Bool). b || any_order cs) e ∙ later (λ z. some (omega (arith, none, z)))

-- what a search goes by, of a card that has an order digit
pub searching : {bytes : List ℕ} {head : CardHead} {digits : OrderDigits} {equal : ℕ} {constants depths : List ℕ} (base : Report)
    → Ready head.prime (conditions_of bytes) constants depths → accepted base ≡ forecasting bytes
    → (digits.all ≡ order_digits (conditions_of bytes)) × (digits.higher ≡ higher_digits (conditions_of bytes))
    × (digits.all ≤ most_digits) × (digits.higher ≤ digits.all)
    → (digits.all ≡ 0 → ⊥) → (equal ≡ (equality_test head.prime).count) × (equal ≤ head.prime)
    → Searching bytes head base.gates digits equal constants depths
searching {bytes} base ready told counted some tested = record {
  ground = λ card e. ap (λ (r : Report). r.gates) (base_told bytes card e base told);
  all = counted.0;
  higher = counted.1;
  few = (counted.2, counted.3);
  tested = tested;
  prepared = ready (some_order (conditions_of bytes) (λ none. some (counted.0 ∙ none)));
}
