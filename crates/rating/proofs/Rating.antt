-- From what a search goes by to the report on a step size's table: how many gates it has, that it can be written, and what Check tells of it.
-- Assumes nothing.
use mathlib.Core.Path.{◌≡◌, sym, ap, subst, ◌∙◌}
use mathlib.Core.List.{List, ◌++◌}
use Prim.Native.Nat.{ℕ, ◌+◌, ◌*◌, ◌≤◌, ◌<◌}
use native.Mathlib.Omega.{arith}
use borrow.Author.Tests.{lt-ltb, le-ltb}
use lib.ListN.{length, drop}
use Rattle.answer.specs.Outcome.{Answer, refused, accepted}
use Rattle.answer.specs.Report.{Report}
use Rattle.answer.proofs.Outcome.{accepted_same}
use Rattle.circuit.specs.Outcomes.{checking}
use Rattle.circuit.specs.Table.{Table, table_bytes, most_gates}
use Rattle.circuit.proofs.Promises.{checks_tables}
use Rattle.comparison.specs.Condition.{Condition}
use Rattle.comparison.specs.OrderDigit.{less_count}
use Rattle.comparison.specs.Tests.{equality_test}
use Rattle.step.specs.Digit.{step_less, step_tests, IsStep}
use Rattle.step.proofs.Promises.{step_lawful}
use Rattle.step.proofs.Tests.{by_step}
use Rattle.query.specs.Card.{Card}
use Rattle.query.specs.Outcomes.{table_room}
use Rattle.query.specs.Reading.{read_card}
use Rattle.query.specs.Whole.{table_by, table_of}
use Rattle.query.proofs.AnyTests.{lawful_table}
use Rattle.query.proofs.CardFacts.{accepted_card}
use Rattle.offer.specs.Digits.{order_digits, higher_digits}
use Rattle.offer.specs.Offer.{step_table}
use Rattle.offer.proofs.Sizes.{step_gates}
use Rattle.card.specs.declared.CardHead.{CardHead}
use Rattle.card.specs.Conditions.{ReadAs, conditions_of}
use Rattle.card.specs.Parts.{Summary, head_is}
use Rattle.card.proofs.ReadAs.{Known, known_as}
use Rattle.powers.specs.Prepared.{Prepared}
use Rattle.draft.specs.Drawing.{table_for, Drawable}
use Rattle.rating.specs.declared.OrderDigits.{OrderDigits}
use Rattle.rating.specs.Rated.{rated, Searching}

-- the law of a step table's gates, in the terms of the code
told_by : (L G a h e b p q step : ℕ) (cs ds : List Condition) → a ≡ order_digits cs → h ≡ higher_digits cs → cs ≡ ds → p ≡ q → e ≡ (equality_test p).count → b ≡ G
    → L + (order_digits ds * less_count q + higher_digits ds) ≡ G + (order_digits ds * (step_less q step).count + higher_digits ds * (equality_test q).count)
    → L + (a * less_count p + h) ≡ b + (a * (step_less p step).count + h * e)
told_by L G a h e b p q step cs ds all higher same prime tested ground law = rw (all, higher, tested, ground, same, prime) law

module _ {bytes : List ℕ} {head : CardHead} {base : ℕ} {digits : OrderDigits} {equal : ℕ} {constants depths : List ℕ} {step : ℕ} (read : ReadAs bytes head)
    (s : Searching bytes head base digits equal constants depths) (is : IsStep head.prime step) where
  pub known : Known bytes head
  known = known_as bytes head read

  abbrev pub card : Card
  card = known.card

  prime_is : head.prime ≡ card.prime
  prime_is = ap (λ (said : Summary). said.prime) known.says

  step_is : IsStep card.prime step
  step_is = subst (λ (p : ℕ). IsStep p step) prime_is is

  -- ---- how many gates

  pub gates_told : length (step_table card step).gates + (digits.all * less_count head.prime + digits.higher)
      ≡ base + (digits.all * (step_less head.prime step).count + digits.higher * equal)
  gates_told =
      told_by (length (step_table card step).gates) (length (table_of card).gates) digits.all digits.higher equal base head.prime card.prime step
      (conditions_of bytes) card.conditions s.all s.higher known.conditions prime_is s.tested.0 (s.ground card known.reads)
      (step_gates bytes card step known.reads step_is)

  pub gates_are : {count : ℕ} → count + (digits.all * less_count head.prime + digits.higher)
      ≡ base + (digits.all * (step_less head.prime step).count + digits.higher * equal) → count ≡ length (step_table card step).gates
  gates_are e = omega (arith, e, gates_told)

  -- ---- the table

  table_is : table_for step card ≡ step_table card step
  table_is = ap (λ t. table_by t card) (by_step card.prime step step_is.0)

  pub drawable : {count : ℕ} {lent : List ℕ} → count ≡ length (step_table card step).gates → count ≤ most_gates → 8 * (most_gates + 1) ≤ length lent
      → Drawable bytes (head_is head) step count lent constants depths
  drawable {count} {lent} e few long = record {
    card = card;
    reads = known.reads;
    says = known.says;
    suits = record { low = step_is.1 };
    gates = e ∙ ap (λ (t : Table). length t.gates) (sym table_is);
    few = few;
    room = omega (arith, e, few, long, ap (λ (t : Table). length t.gates) table_is);
    ready = λ order. subst (λ (p : ℕ). Prepared p constants depths) prime_is s.prepared;
  }

  -- ---- the rating, of whichever card the bytes are

  module _ (c : Card) (reads : read_card bytes ≡ accepted c) where
    same_card : c ≡ card
    same_card = accepted_same (sym reads ∙ known.reads)

    pub too_many : {count : ℕ} → count ≡ length (step_table card step).gates → most_gates < count → refused 14 ≡ rated c step
    too_many e many = rw (same_card, lt-ltb most_gates (length (step_table card step).gates) (omega (arith, e)))

    pub told_of : {count : ℕ} (lent lent' : List ℕ) {told : Answer Report} → count ≡ length (step_table card step).gates → count ≤ most_gates
        → lent' ≡ table_bytes (table_for step card) ++ drop (table_room (table_for step card)) lent → told ≡ checking lent' → told ≡ rated c step
    told_of lent lent' e few left told =
        let p = card.prime in
        let prime = (accepted_card bytes card known.reads).prime in
        let formed = lawful_table bytes card (step_tests p step) known.reads (step_lawful p step prime.low prime.odd step_is) (omega (arith, e)) in
        told ∙ ap checking (left ∙ ap (λ (t : Table). table_bytes t ++ drop (table_room t) lent) table_is)
        ∙ checks_tables (step_table card step) _ formed
        ∙ rw (same_card, le-ltb most_gates (length (step_table card step).gates) (omega (arith, e)))
