-- Chains of refusals that end in a step: one that is accepted has passed every rule, and one that is refused keeps the state and the lent bytes.
-- Assumes nothing.
use mathlib.Core.Path.{◌≡◌, refl, sym, ap, ◌∙◌}
use mathlib.Core.Bool.{Bool, true, false, not}
use mathlib.Core.List.{List}
use Prim.Native.Nat.{ℕ, ◌+◌, ◌*◌, ◌≤◌, ◌<◌}
use borrow.Author.Tests.{ltb-false, leb-false, eqb-true, not-false}
use lib.Dec.{ltb, leb, eqb}
use lib.ListN.{length}
use Rattle.answer.specs.Outcome.{Answer, refused, accepted, refuse, on_answer}
use Rattle.answer.specs.Report.{Report}
use Rattle.answer.proofs.Outcome.{refused≢accepted, passed}
use Rattle.digits.specs.Number.{most_digits}
use Rattle.circuit.specs.ProductTree.{product_tree}
use Rattle.comparison.specs.Condition.{Condition}
use Rattle.comparison.specs.Writing.{condition_segment}
use Rattle.query.specs.Card.{most_conditions}
use Rattle.query.specs.Form.{Plain, record_size}
use Rattle.query.specs.Reading.{read_condition}
use Rattle.filling.specs.Filling.{Step, unchanged, settled, extended, lacks_room, added_to, adding_condition, adding, finishing}
use Rattle.filling.specs.Promises.{StepKept}
use Rattle.filling.specs.State.{BuildState, is_closed}

-- ---- accepted steps

module _ {A : Type 0} {a : A} {step : Step A} (state : BuildState) (table : List ℕ) (done : step.answer ≡ accepted a) where
  -- one rule more
  pub passed_step : (test : Bool) (number : ℕ) (later : Step A) → refuse test (unchanged state table number) later ≡ step
      → (test ≡ false) × (later ≡ step)
  passed_step true number later e = absurd (refused≢accepted (ap (λ (o : Step A). o.answer) e ∙ done))
  passed_step false number later e = (refl, e)

  -- after an answer
  pub step_answered : {B : Type 0} (first : Answer B) (later : B → Step A) → on_answer first (unchanged state table) later ≡ step
      → (b : B) × (first ≡ accepted b) × (later b ≡ step)
  step_answered (refused k) later e = absurd (refused≢accepted (ap (λ (o : Step A). o.answer) e ∙ done))
  step_answered (accepted b) later e = (b, refl, e)

-- a step that is accepted with no counts is settled
pub is_settled : (step : Step Unit) (done : Unit) → step.answer ≡ accepted done → step ≡ settled step.state step.lent
is_settled step done e = ap (λ (a : Answer Unit). record { answer = a; state = step.state; lent = step.lent }) e

-- what an accepted add has passed, and what it leaves
pub record Added (state : BuildState) (r table : List ℕ) (next : BuildState) (later : List ℕ) : Type 0 where
  pub condition : Condition
  pub few : length state.outputs < most_conditions
  pub size : length r ≡ record_size Plain
  pub read : read_condition Plain state.prime state.slots r ≡ accepted condition
  pub slots : state.slots + condition.digits ≤ most_digits
  pub room : 8 * (state.gates + length (condition_segment state.prime condition state.gates).gates + 1) ≤ length table
  pub leaves : added_to state condition ≡ next
  pub lays : extended state (state.slots + condition.digits) (condition_segment state.prime condition state.gates).gates table ≡ later

pub add_passed : (state next : BuildState) (r table later : List ℕ) → adding state r table ≡ settled next later → Added state r table next later
add_passed state next r table later e =
    let begun = passed_step state table refl (is_closed state) 31 _ e in
    let few = passed_step state table refl (leb most_conditions (length state.outputs)) 30 _ begun.1 in
    let size = passed_step state table refl (not (eqb (length r) (record_size Plain))) 7 _ few.1 in
    let read = step_answered state table refl (read_condition Plain state.prime state.slots r) (adding_condition state table) size.1 in
    let own = (condition_segment state.prime read.0 state.gates).gates in
    let slots = passed_step state table refl (ltb most_digits (state.slots + read.0.digits)) 10 _ read.2 in
    let room = passed_step state table refl (lacks_room state own table) 11 _ slots.1 in
    record {
      condition = read.0;
      few = leb-false most_conditions (length state.outputs) few.0;
      size = eqb-true (length r) (record_size Plain) (not-false _ size.0);
      read = read.1;
      slots = ltb-false most_digits (state.slots + read.0.digits) slots.0;
      room = ltb-false (length table) (8 * (state.gates + length own + 1)) room.0;
      leaves = ap (λ (o : Step Unit). o.state) room.1;
      lays = ap (λ (o : Step Unit). o.lent) room.1;
    }

-- ---- refused steps

module _ {A : Type 0} {state : BuildState} {table : List ℕ} where
  pub accepted_kept : {a : A} {next : BuildState} {lent : List ℕ} → StepKept state table (record { answer = accepted a; state = next; lent = lent })
  accepted_kept = record { kept = λ number r. absurd (refused≢accepted (sym r)) }

  pub refuse_kept : {later : Step A} (test : Bool) (k : ℕ) → StepKept state table later
      → StepKept state table (refuse test (unchanged state table k) later)
  refuse_kept true k h = record { kept = λ number r. (refl, refl) }
  refuse_kept false k h = h

  pub answer_kept : {B : Type 0} {later : B → Step A} (first : Answer B) → ((b : B) → StepKept state table (later b))
      → StepKept state table (on_answer first (unchanged state table) later)
  answer_kept (refused k) h = record { kept = λ number r. (refl, refl) }
  answer_kept (accepted b) h = h b

-- ---- finish

-- an accepted finish has passed its three rules
pub finish_passed : (state : BuildState) (table : List ℕ) (told : Report) → (finishing state table).answer ≡ accepted told
    → (is_closed state ≡ false)
    × (eqb (length state.outputs) 0 ≡ false)
    × (lacks_room state (product_tree state.gates state.outputs).gates table ≡ false)
finish_passed state table told e =
    let answer : Step Report → Answer Report = λ o. o.answer in
    let begun = passed answer (is_closed state) (unchanged state table 31) _ refl e in
    let some = passed answer (eqb (length state.outputs) 0) (unchanged state table 31) _ refl begun.1 in
    let room = passed answer (lacks_room state (product_tree state.gates state.outputs).gates table) (unchanged state table 11) _ refl some.1 in
    (begun.0, some.0, room.0)
