-- From the step size that was chosen to what is then left: it is one of the prime's, the report on its table is told with it, and the
-- definition goes by the same choice.
-- Assumes nothing.
use mathlib.Core.Path.{◌≡◌, refl, sym, ap, subst, ◌∙◌}
use mathlib.Core.List.{List}
use Prim.Native.Nat.{ℕ, ◌≤◌}
use Rattle.std.specs.Prelude.{Option, Some, Result, Err}
use borrow.Author.Tests.{ltb-false}
use lib.Dec.{ltb}
use lib.ListN.{length}
use Rattle.answer.specs.Numbers.{refusal_number}
use Rattle.answer.specs.Outcome.{Answer, refused, accepted}
use Rattle.answer.specs.Report.{Report, report_of}
use Rattle.answer.specs.declared.Refusal.{Refusal}
use Rattle.answer.proofs.Outcome.{passed, answered, accepted_same, was_refused}
use Rattle.field.specs.Half.{half}
use Rattle.circuit.specs.Report.{report}
use Rattle.circuit.specs.Table.{most_gates}
use Rattle.step.specs.Digit.{IsStep}
use Rattle.query.specs.Card.{Card}
use Rattle.query.specs.Reading.{read_card, read_plain}
use Rattle.query.proofs.Plain.{plain_cards}
use Rattle.offer.specs.Best.{Choice, chosen, IsBest}
use Rattle.offer.specs.Offer.{step_table, step_cost, step_depth, counts, best_step, Offer, offer_by, offering}
use Rattle.offer.proofs.Promises.{none_cheaper, offer_is}
use Rattle.card.specs.declared.CardHead.{CardHead}
use Rattle.card.specs.Conditions.{ReadAs}
use Rattle.card.specs.Parts.{Summary, summary, head_is}
use Rattle.card.proofs.ReadAs.{known_as}
use Rattle.chooser.specs.declared.Rated.{Rated}
use Rattle.chooser.specs.Kept.{choice_is, Kept}
use Rattle.within.specs.declared.Offered.{Offered}
use Rattle.within.specs.Handed.{read_plain_summary, Leaves}

-- the choice that the definition makes of a card, with the report on its table
abbrev pub ChosenOf : List ℕ → ℕ → Option Rated → Type 0
ChosenOf bytes cap best = (card : Card) → read_card bytes ≡ accepted card → (choice_is best ≡ best_step cap card) × Kept card best

module _ (bytes : List ℕ) (cap : ℕ) where
  -- ---- what the chosen step size is

  pub chosen_known : (best : Option Rated) (rated : Rated) → best ≡ Some rated → ChosenOf bytes cap best → (card : Card) → read_card bytes ≡ accepted card
      → (report_of rated.told ≡ report (step_table card rated.step)) × (length (step_table card rated.step).gates ≤ most_gates)
  chosen_known best rated is h card e =
      let kept : Kept card (Some rated) = subst (Kept card) is (h card e).1 in
      let answer : Answer Report → Answer Report = λ r. r in
      let few = passed answer (ltb most_gates (length (step_table card rated.step).gates)) (refused 14) _ refl kept in
      (sym (accepted_same few.1), ltb-false _ _ few.0)

  pub chosen_step : (head : CardHead) (best : Option Rated) (rated : Rated) → ReadAs bytes head → best ≡ Some rated → ChosenOf bytes cap best
      → IsStep head.prime rated.step
  chosen_step head best rated read is h =
      let known = known_as bytes head read in
      let card = known.card in
      let choice : best_step cap card ≡ chosen rated.step = sym (h card known.reads).0 ∙ ap choice_is is in
      let no_better = subst (IsBest (step_cost card) (step_depth card) (counts cap card) (half card.prime)) choice (none_cheaper cap card) in
      subst (λ (s : Summary). IsStep s.prime rated.step) (sym known.says) (no_better.0, no_better.1)

  -- ---- what is left

  pub by_choice : (best : Option Rated) (choice : Choice) → choice_is best ≡ choice → ChosenOf bytes cap best → (card : Card) → read_card bytes ≡ accepted card
      → (answer : Result Offered Refusal) (first second first' second' : List ℕ) → Leaves (offer_by cap card first second choice) answer first' second'
      → Leaves (offer_by cap card first second (best_step cap card)) answer first' second'
  by_choice best choice is h card e answer first second first' second' l =
      subst (λ (d : Choice). Leaves (offer_by cap card first second d) answer first' second') (sym is ∙ (h card e).0) l

-- ---- the whole call, from what the card was read as

module _ (bytes first second : List ℕ) (cap : ℕ) where
  -- a plain card is read as any card is
  plain_card : (head : CardHead) → accepted (head_is head) ≡ read_plain_summary bytes
      → (card : Card) × (read_plain bytes ≡ accepted card) × (read_card bytes ≡ accepted card) × (summary card ≡ head_is head)
  plain_card head e =
      let read = answered (read_plain bytes) (λ card. accepted (summary card)) (sym e) in
      (read.0, read.1, ((plain_cards bytes read.0).0 read.1).0, accepted_same read.2)

  pub plain_read : (head : CardHead) → accepted (head_is head) ≡ read_plain_summary bytes → ReadAs bytes head
  plain_read head e = let plain = plain_card head e in rw plain.2 (ap accepted (sym plain.3))

  pub plain_leaves : (head : CardHead) (answer : Result Offered Refusal) (first' second' : List ℕ) → accepted (head_is head) ≡ read_plain_summary bytes
      → ((card : Card) → read_card bytes ≡ accepted card → Leaves (offer_by cap card first second (best_step cap card)) answer first' second')
      → Leaves (offering bytes cap first second) answer first' second'
  plain_leaves head answer first' second' e h =
      let plain = plain_card head e in
      subst (λ (due : Offer). Leaves due answer first' second') (sym (offer_is bytes first second cap plain.0 plain.1)) (h plain.0 plain.2)

  -- a card that is refused leaves both tables as they are
  pub plain_refused : (why : Refusal) → refused (refusal_number why) ≡ read_plain_summary bytes
      → Leaves (offering bytes cap first second) (Err why) first second
  plain_refused why e =
      rw (was_refused (refusal_number why) (read_plain bytes) summary e) (record { answers = refl; one = refl; two = refl })
