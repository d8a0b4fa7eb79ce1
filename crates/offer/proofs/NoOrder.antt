-- Cards without an order condition: every step size gives the base table, so that the first that counts is chosen without a search.
-- Assumes nothing.
use mathlib.Core.Path.{◌≡◌, refl, sym, ap, ◌∙◌}
use mathlib.Core.Bool.{Bool, true, false, ◌&&◌, false≢true, true≢false}
use mathlib.Core.List.{List, [], ◌∷◌}
use Prim.Native.Nat.{ℕ, ◌≤◌}
use native.Mathlib.Omega.{arith}
use borrow.Author.Tests.{le-leb}
use lib.Dec.{leb}
use lib.ListN.{length}
use Rattle.answer.specs.Outcome.{accepted}
use Rattle.field.specs.Half.{half}
use Rattle.field.specs.Sum.{total}
use Rattle.circuit.specs.Every.{Every}
use Rattle.circuit.specs.Report.{report}
use Rattle.circuit.specs.Table.{Table, most_gates}
use Rattle.circuit.proofs.Every.{every_map}
use Rattle.comparison.specs.Condition.{Condition}
use Rattle.comparison.specs.Formulas.{order_digits_in}
use Rattle.comparison.specs.Relation.{is_order}
use Rattle.comparison.specs.Tests.{Tests, base_tests}
use Rattle.comparison.specs.Writing.{condition_by}
use Rattle.step.specs.Digit.{step_tests}
use Rattle.query.specs.Card.{Card}
use Rattle.query.specs.Reading.{read_card}
use Rattle.query.specs.Whole.{Draft, begin, add, add_all, finish, table_of}
use Rattle.query.proofs.CardFacts.{Accepted, accepted_card}
use Rattle.query.proofs.Promises.{exact_size}
use Rattle.offer.specs.Best.{Choice, nothing, chosen, taken, IsBest}
use Rattle.offer.specs.Digits.{order_digits}
use Rattle.offer.specs.Offer.{step_table, step_cost, step_depth, within, counts, best_step}
use Rattle.offer.proofs.Best.{best_chosen}

-- the tests have no part in a condition that does not compare by order
same_condition : (t u : Tests) (p : ℕ) (c : Condition) (k : ℕ) → is_order c.relation ≡ false → condition_by t p c k ≡ condition_by u p c k
unfolding condition_by
same_condition t u p c k equality = rw equality

same_drafts : (t u : Tests) (p : ℕ) (d : Draft) (cs : List Condition) → Every (λ (c : Condition). is_order c.relation ≡ false) cs
    → add_all t p d cs ≡ add_all u p d cs
unfolding add_all
same_drafts t u p d [] equalities = refl
same_drafts t u p d (c ∷ cs) equalities =
    let same : add t p d c ≡ add u p d c = rw (same_condition t u p c (length d.gates) equalities.0) in
    ap (λ (e : Draft). add_all t p e cs) same ∙ same_drafts t u p (add u p d c) cs equalities.1

-- no order digit, no order condition
no_order : (cs : List Condition) → Every (λ (c : Condition). 1 ≤ c.digits) cs → order_digits cs ≡ 0
    → Every (λ (c : Condition). is_order c.relation ≡ false) cs
unfolding total
no_order [] some none = tt
no_order (c ∷ cs) some none = (go (is_order c.relation) refl, no_order cs some.1 (omega arith))
  where
    go : (b : Bool) → is_order c.relation ≡ b → is_order c.relation ≡ false
    go true e = absurd (let all : order_digits_in c ≡ c.digits = rw (e, order_digits_in) in omega (arith, some.0))
    go false e = e

and_true : (b : Bool) → (b && true) ≡ b
and_true true = refl
and_true false = refl

module _ (bytes : List ℕ) (card : Card) (e : read_card bytes ≡ accepted card) (none : order_digits card.conditions ≡ 0) where
  known : Accepted card
  known = accepted_card bytes card e

  pub same_table : (step : ℕ) → step_table card step ≡ table_of card
  same_table step =
      let p = card.prime in
      let equalities = no_order card.conditions (every_map (λ (c : Condition) h. h.0) card.conditions known.each) none in
      let same = same_drafts (step_tests p step) (base_tests p) p begin card.conditions equalities in
      ap (λ (d : Draft). record { head = (table_of card).head; gates = finish card d }) same

  counts_same : (most step : ℕ) → counts most card step ≡ within most (table_of card)
  counts_same most step =
      let few : leb (length (table_of card).gates) most_gates ≡ true = le-leb (length (table_of card).gates) most_gates (exact_size bytes card e).1 in
      ap (λ (table : Table). within most table && leb (length table.gates) most_gates) (same_table step)
      ∙ ap (λ (b : Bool). within most (table_of card) && b) few ∙ and_true (within most (table_of card))

  -- so the lowest is chosen, or none
  pub no_search : (cap : ℕ) → best_step cap card ≡ taken (step_cost card) (step_depth card) (counts cap card) (within cap (table_of card)) 1 nothing
  no_search cap = go (best_step cap card) (best_chosen (step_cost card) (step_depth card) (counts cap card) (half card.prime)) (within cap (table_of card)) refl
    where
      one : 1 ≤ half card.prime
      one = omega (arith, known.prime.low)

      go : (choice : Choice) → IsBest (step_cost card) (step_depth card) (counts cap card) (half card.prime) choice
          → (b : Bool) → within cap (table_of card) ≡ b → choice ≡ taken (step_cost card) (step_depth card) (counts cap card) b 1 nothing
      go nothing best true w = absurd (true≢false (sym w ∙ sym (counts_same cap 1) ∙ best 1 (omega arith) one))
      go nothing best false w = refl
      go (chosen k) best true w =
          let same : step_table card k ≡ step_table card 1 = same_table k ∙ sym (same_table 1) in
          let better = best.3 1 (omega arith) one (counts_same cap 1 ∙ w) in
          let lowest = better.lower (ap (λ (table : Table). (report table).cost) same) (ap (λ (table : Table). (report table).depth) same) in
          ap chosen (omega (arith, lowest, best.0))
      go (chosen k) best false w = absurd (false≢true (sym w ∙ sym (counts_same cap k) ∙ best.2))
