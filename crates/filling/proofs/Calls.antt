-- Any calls one after the other: what the log tells holds after each of them. A refused call leaves all as it was; an accepted one is
-- the begin, an add more at the end, or the finish of the build that the log tells. By induction on the calls.
-- Assumes nothing.
use mathlib.Core.Path.{◌≡◌, refl, sym, ap, ap₂, ◌∙◌}
use mathlib.Core.List.{List, [], ◌∷◌, ◌++◌}
use Prim.Native.Nat.{ℕ}
use Rattle.answer.specs.Outcome.{Answer, refused, accepted, on_answer}
use Rattle.answer.specs.Report.{Report}
use Rattle.answer.proofs.Outcome.{refused≢accepted}
use Rattle.filling.specs.Filling.{Step, settled, beginning, adding, finishing}
use Rattle.filling.specs.Promises.{AllAdded, StepKept, Call, Begin, Add, Finish, Log, nothing, since, logged, Standing, called, called_all, Tells, AnyCalls}
use Rattle.filling.specs.State.{BuildState, no_build}
use Rattle.filling.proofs.Promises.{step_keeps, finish_closes}
use Rattle.filling.proofs.Steps.{is_settled}

-- ---- accepted calls

-- one add more
added_last : (records : List (List ℕ)) (r : List ℕ) (s₁ s₂ s₃ : BuildState) (table₁ table₂ table₃ : List ℕ)
    → AllAdded s₁ table₁ records s₂ table₂ → adding s₂ r table₂ ≡ settled s₃ table₃ → AllAdded s₁ table₁ (records ++ (r ∷ [])) s₃ table₃
unfolding AllAdded
added_last [] r s₁ s₂ s₃ table₁ table₂ table₃ a e =
    (s₃, table₃, ap₂ (λ (s : BuildState) (t : List ℕ). adding s r t) a.0 a.1 ∙ e, (refl, refl))
added_last (x ∷ xs) r s₁ s₂ s₃ table₁ table₂ table₃ a e =
    (a.0, a.1, a.2, added_last xs r a.0 s₂ s₃ a.1 table₂ table₃ a.3 e)

add_tells : (log : Log) (state next : BuildState) (r table later : List ℕ) → Tells log state table → adding state r table ≡ settled next later
    → Tells (logged log r) next later
add_tells nothing state next r table later closed e =
    -- with no build open it would have been refused
    absurd (refused≢accepted (ap (λ (s : BuildState). (adding s r table).answer) (sym closed) ∙ ap (λ (o : Step Unit). o.answer) e))
add_tells (since p s found records) state next r table later o e = record {
  before = o.before;
  s₁ = o.s₁;
  table₁ = o.table₁;
  begins = o.begins;
  adds = added_last records r o.s₁ state next o.table₁ table later o.adds e;
}

-- ---- one call

-- a step that was refused, whatever the log
kept_tells : {A : Type 0} (log : Log) (state : BuildState) (table : List ℕ) (step : Step A) (number : ℕ) → StepKept state table step
    → step.answer ≡ refused number → Tells log state table → Tells log step.state step.lent
kept_tells log state table step number keeps e tells =
    let same = keeps.kept number e in rw (same.0, same.1) tells

call_tells : (call : Call) (now : Standing) → Tells now.log now.state now.table
    → let next = called call now in Tells next.log next.state next.table
unfolding called AllAdded
call_tells (Begin p s) now tells = go step.answer refl
  where
    step : Step Unit
    step = beginning now.state p s now.table

    go : (a : Answer Unit) → step.answer ≡ a
        → Tells (on_answer a (λ number. now.log) (λ done. since p s now.table [])) step.state step.lent
    go (refused number) e =
        kept_tells now.log now.state now.table step number (step_keeps now.state p s [] now.table).0 e tells
    go (accepted done) e = record {
      before = now.state;
      s₁ = step.state;
      table₁ = step.lent;
      begins = is_settled step done e;
      adds = (refl, refl);
    }
call_tells (Add r) now tells = go step.answer refl
  where
    step : Step Unit
    step = adding now.state r now.table

    go : (a : Answer Unit) → step.answer ≡ a → Tells (on_answer a (λ number. now.log) (λ done. logged now.log r)) step.state step.lent
    go (refused number) e =
        kept_tells now.log now.state now.table step number (step_keeps now.state 0 0 r now.table).1 e tells
    go (accepted done) e =
        add_tells now.log now.state step.state r now.table step.lent tells (is_settled step done e)
call_tells Finish now tells = go step.answer refl
  where
    step : Step Report
    step = finishing now.state now.table

    go : (a : Answer Report) → step.answer ≡ a → Tells (on_answer a (λ number. now.log) (λ told. nothing)) step.state step.lent
    go (refused number) e =
        kept_tells now.log now.state now.table step number (step_keeps now.state 0 0 [] now.table).2 e tells
    go (accepted told) e = (finish_closes now.state now.table [] [] told e).0

-- ---- all calls

all_tell : (calls : List Call) (now : Standing) → Tells now.log now.state now.table
    → let end = called_all calls now in Tells end.log end.state end.table
unfolding called_all
all_tell [] now tells = tells
all_tell (c ∷ cs) now tells = all_tell cs (called c now) (call_tells c now tells)

pub any_calls : AnyCalls
any_calls calls table = all_tell calls (record { state = no_build; table = table; log = nothing }) refl
