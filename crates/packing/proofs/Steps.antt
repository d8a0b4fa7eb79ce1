-- What accepted steps leave, as the words ask: a begun build has a count that the arrays have room for, and finish leaves none.
-- Assumes nothing.
use mathlib.Core.Path.{◌≡◌, refl, sym, ap}
use mathlib.Core.Bool.{true, not}
use mathlib.Core.List.{List, []}
use Prim.Native.Nat.{ℕ, ◌≤◌}
use borrow.Author.Tests.{ltb-false, not-true}
use lib.Dec.{ltb}
use Rattle.answer.specs.Outcome.{Answer, refused, accepted, on_answer}
use Rattle.answer.specs.Report.{Report}
use Rattle.field.proofs.Tests.{both}
use Rattle.query.specs.Card.{most_conditions}
use Rattle.filling.specs.Filling.{beginning, adding, finishing}
use Rattle.filling.specs.State.{BuildState, no_build}
use Rattle.filling.proofs.Filled.{begin_filled}
use Rattle.filling.proofs.Promises.{finish_closes}
use Rattle.filling.proofs.Steps.{is_settled, add_passed}
use Rattle.state.specs.State.{state_is}
use Rattle.state.specs.declared.build.BuildState as declared
use Rattle.packing.specs.Words.{words_of, words_after}

-- a state that is begun has no more conditions than the arrays have entries
pub begun_few : (state : declared.BuildState) → (state_is state).begun ≡ true → state.count ≤ most_conditions
begun_few state t =
    ltb-false most_conditions state.count (not-true _ (both state.begun (not (ltb most_conditions state.count)) t).1)

pub begin_begun : (state : BuildState) (p s : ℕ) (table : List ℕ) → (beginning state p s table).answer ≡ accepted tt
    → (beginning state p s table).state.begun ≡ true
begin_begun state p s table e =
    let step = beginning state p s table in
    ap (λ (now : BuildState). now.begun) (begin_filled state step.state p s table step.lent (is_settled step tt e)).is

pub add_begun : (state : BuildState) (r table : List ℕ) → (adding state r table).answer ≡ accepted tt → (adding state r table).state.begun ≡ true
add_begun state r table e =
    let step = adding state r table in
    sym (ap (λ (now : BuildState). now.begun) (add_passed state step.state r table step.lent (is_settled step tt e)).leaves)

-- the words after finish are the old ones, or those of no build
pub closed_words : (words : List ℕ) (state : BuildState) (table : List ℕ)
    → on_answer (finishing state table).answer (λ number. words) (λ told. words_of no_build) ≡ words_after words (finishing state table)
closed_words words state table = go (finishing state table).answer refl
  where
    go : (answer : Answer Report) → (finishing state table).answer ≡ answer
        → on_answer (finishing state table).answer (λ number. words) (λ told. words_of no_build) ≡ words_after words (finishing state table)
    go (refused number) e = rw e
    go (accepted told) e = rw (e, (finish_closes state table [] [] told e).0)
