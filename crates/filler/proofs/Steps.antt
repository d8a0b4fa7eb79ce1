-- Steps as the code tells them: a refusal that changes nothing, and what is read off an outcome that is known.
-- Assumes nothing.
use Rattle.std.proofs.Common.{◌≡◌, sym, ap, ◌∙◌, List, ℕ}
use Rattle.answer.specs.Outcome.{Answer, refused}
use Rattle.filling.specs.Filling.{Step, unchanged}
use Rattle.filling.specs.State as filling

-- the three parts of an outcome
pub record Told {A : Type 0} (answer : Answer A) (state : filling.BuildState) (lent : List ℕ) (step : Step A) : Type 0 where
  pub answers : answer ≡ step.answer
  pub next : state ≡ step.state
  pub leaves : lent ≡ step.lent

-- a refused call changes nothing
pub refused_step : {A : Type 0} (state : filling.BuildState) (number : ℕ) (table : List ℕ) (step : Step A) → step ≡ unchanged state table number
    → Told (refused number) state table step
refused_step state number table step e =
    record { answers = ap (λ o. o.answer) (sym e); next = ap (λ o. o.state) (sym e); leaves = ap (λ o. o.lent) (sym e) }

-- an accepted call leaves this state and these bytes
pub settled_step : {A : Type 0} (answer : Answer A) (s s' : filling.BuildState) (lent lent' : List ℕ) (step : Step A)
    → step ≡ record { answer = answer; state = s; lent = lent } → s' ≡ s → lent' ≡ lent → Told answer s' lent' step
settled_step answer s s' lent lent' step e same bytes =
    record { answers = ap (λ o. o.answer) (sym e); next = same ∙ ap (λ o. o.state) (sym e); leaves = bytes ∙ ap (λ o. o.lent) (sym e) }

-- of an outcome that is another one
pub same_step : {A : Type 0} {answer : Answer A} {s : filling.BuildState} {lent : List ℕ} {step step' : Step A}
    → step ≡ step' → Told answer s lent step' → Told answer s lent step
same_step e told =
    record { answers = told.answers ∙ ap (λ o. o.answer) (sym e); next = told.next ∙ ap (λ o. o.state) (sym e); leaves = told.leaves ∙ ap (λ o. o.lent) (sym e) }
