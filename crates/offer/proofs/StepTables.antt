-- Step tables: by the laws of any lawful tests.
-- Assumes nothing.
use mathlib.Core.Path.{◌≡◌, sym, ap, ◌∙◌}
use mathlib.Core.List.{List}
use Prim.Native.Nat.{ℕ, ◌≤◌}
use native.Mathlib.Omega.{arith}
use native.Mathlib.Nat.{le_refl, le_of_eq, le_antisymm}
use lib.ListN.{length}
use Rattle.answer.specs.Outcome.{accepted}
use Rattle.circuit.specs.Table.{table_bytes, most_gates}
use Rattle.comparison.specs.Lawful.{Lawful}
use Rattle.comparison.specs.Tests.{base_tests, digit_depth}
use Rattle.comparison.proofs.Lawful.{base_lawful}
use Rattle.step.specs.Digit.{IsStep, step_tests}
use Rattle.step.proofs.Promises.{step_lawful, step_depths, power_of_two_depth}
use Rattle.query.specs.Card.{Card, AsksYesOrNo}
use Rattle.query.specs.Form.{question_of}
use Rattle.query.specs.Reading.{read_card, read_plain}
use Rattle.query.proofs.AnyTests.{lawful_answer, lawful_table, lawful_run, lawful_depth, lawful_deeper}
use Rattle.query.proofs.CardFacts.{accepted_card}
use Rattle.query.proofs.Plain.{plain_cards}
use Rattle.offer.specs.Offer.{step_table}
use Rattle.offer.specs.Promises.{StepAnswer, StepFits, StepTree, StepsNoShallower, RunsRight}

module _ (bytes : List ℕ) (card : Card) (e : read_plain bytes ≡ accepted card) where
  -- Build takes the card, which asks for a yes or no
  pub taken_card : read_card bytes ≡ accepted card
  taken_card = ((plain_cards bytes card).0 e).0

  pub asks : AsksYesOrNo card
  asks = ap question_of ((plain_cards bytes card).0 e).1

  pub lawful : (step : ℕ) → IsStep card.prime step → Lawful card.prime (step_tests card.prime step)
  lawful step is =
      let known = accepted_card bytes card taken_card in step_lawful card.prime step known.prime.low known.prime.odd is

pub step_answer : StepAnswer
step_answer bytes left right card step e is l r =
    lawful_answer bytes left right card (step_tests card.prime step) (taken_card bytes card e) (lawful bytes card e step is) (asks bytes card e) l r

pub step_fits : StepFits
step_fits bytes card step e is few =
    lawful_table bytes card (step_tests card.prime step) (taken_card bytes card e) (lawful bytes card e step is) few

pub step_tree : StepTree
step_tree bytes card step tree e is same =
    lawful_depth bytes card (step_tests card.prime step) tree (taken_card bytes card e) (lawful bytes card e step is) (asks bytes card e) same

-- Run on a step table tells whether all conditions hold
pub step_runs : (bytes : List ℕ) (card : Card) (step : ℕ) → read_plain bytes ≡ accepted card → IsStep card.prime step
    → length (step_table card step).gates ≤ most_gates → RunsRight card (table_bytes (step_table card step)) (step_table card step)
step_runs bytes card step e is few later left right work l r enough =
    lawful_run bytes later left right work card (step_tests card.prime step) (taken_card bytes card e) (lawful bytes card e step is) l r few enough
    ∙ ap accepted (step_answer bytes left right card step e is l r)

pub steps_no_shallower : StepsNoShallower
steps_no_shallower bytes card e = (
  λ step is.
      let deep = step_depths p step three is in
      lawful_deeper bytes card (base_tests p) (step_tests p step) taken base (lawful bytes card e step is) yes_or_no deep.1 (le_refl _),
  let is : IsStep p 1 = (omega arith, omega (arith, three)) in
      let same : (step_tests p 1).less.depth ≡ digit_depth p = power_of_two_depth p 0 three is in
      le_antisymm
      (lawful_deeper bytes card (step_tests p 1) (base_tests p) taken (lawful bytes card e 1 is) base yes_or_no (le_of_eq same) (le_refl _))
      (lawful_deeper bytes card (base_tests p) (step_tests p 1) taken base (lawful bytes card e 1 is) yes_or_no (le_of_eq (sym same)) (le_refl _)),
)
  where
    p : ℕ
    p = card.prime

    taken : read_card bytes ≡ accepted card
    taken = taken_card bytes card e

    yes_or_no : AsksYesOrNo card
    yes_or_no = asks bytes card e

    three : 3 ≤ card.prime
    three = (accepted_card bytes card (taken_card bytes card e)).prime.low

    base : Lawful card.prime (base_tests card.prime)
    base = base_lawful card.prime three (accepted_card bytes card (taken_card bytes card e)).prime.odd
