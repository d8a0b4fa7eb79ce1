-- Document 02, E1: the score of every accepted score card, what moves it, and its depth.
-- The score is the table's value by any lawful tests (`AnyTests`), which document 01's are.
-- Left slots are handed out in order, so no other condition reads those of the one that is changed: each adds the same to both scores,
-- and the changed one adds its weight or nothing.
-- Assumes nothing.
use mathlib.Core.Path.{◌≡◌, sym, ap, ◌∙◌}
use mathlib.Core.Bool.{true}
use mathlib.Core.List.{List, [], ◌∷◌, ◌++◌, map}
use mathlib.Core.Logic.{◌≢◌, ◌⊎◌, inl, inr}
use Prim.Native.Nat.{ℕ, ◌+◌, ◌-◌, ◌*◌, ◌≤◌}
use native.Mathlib.Omega.{arith}
use lib.ListN.{length}
use Rattle.answer.specs.Outcome.{accepted}
use Rattle.answer.proofs.Outcome.{accepted_same}
use Rattle.field.specs.Bit.{bit}
use Rattle.field.specs.Logarithm.{clog}
use Rattle.field.specs.Sum.{total}
use Rattle.digits.specs.Number.{number, base}
use Rattle.digits.proofs.Number.{same_part}
use Rattle.circuit.specs.Every.{Every}
use Rattle.circuit.specs.Sums.{largest}
use Rattle.circuit.proofs.Every.{every_map, map_same}
use Rattle.comparison.specs.Condition.{Condition, number_in, holds}
use Rattle.comparison.specs.Relation.{is_true}
use Rattle.comparison.specs.Tests.{base_tests}
use Rattle.comparison.proofs.Lawful.{base_lawful}
use Rattle.query.specs.Card.{in_slots}
use Rattle.query.specs.Form.{Form, Shared, Question, Score, question_of}
use Rattle.query.specs.Formulas.{levels_above}
use Rattle.query.specs.Holds.{score_of}
use Rattle.query.specs.ScorePromises.{RightScore, SameElsewhere, Near, ScoreMoves, ScoreDepth, RightScoreRun, BuiltScoreRun, BuiltScore, BuiltScoreMoves}
use Rattle.query.proofs.AnyTests.{known, lawful_score}
use Rattle.query.proofs.Form.{score_own, tail_left}
use Rattle.query.proofs.OverConditions.{over_append}
use Rattle.query.proofs.Promises.{exact_depth, runs_digits, runs_built, built_is}
use Rattle.query.proofs.Reading.{in_slots_lem}
use Rattle.query.proofs.Score.{weight_within}

-- ---- the slots of the other conditions

-- the left slots of the first end where those of the second begin, or before
abbrev Before : Condition → Condition → Type 0
Before c d = c.left + c.digits ≤ d.left

abbrev Apart : Condition → Condition → Type 0
Apart c d = Before d c ⊎ Before c d

module _ (form : Form) (own : form ≢ Shared) (p : ℕ) where
  -- none has a left slot before the one that is free
  later_slots : (slot : ℕ) (cs : List Condition) → in_slots form p slot cs ≡ true → Every (λ (d : Condition). slot ≤ d.left) cs
  later_slots slot [] t = tt
  later_slots slot (c ∷ cs) t =
      let s = in_slots_lem form p slot c cs t in
      (omega (arith, tail_left form p slot c own s.tail), every_map (λ (d : Condition) l. omega arith) cs (later_slots (slot + c.digits) cs s.later))

  -- so those before c end before it, and those after c begin after it; by induction on the ones before
  others_apart : (slot : ℕ) (before after : List Condition) (c : Condition) → in_slots form p slot (before ++ (c ∷ after)) ≡ true
      → (slot ≤ c.left) × Every (Apart c) before × Every (Apart c) after
  others_apart slot [] after c t =
      let s = in_slots_lem form p slot c after t in
      let here = tail_left form p slot c own s.tail in
      let later = later_slots (slot + c.digits) after s.later in
      (omega arith, tt, every_map (λ (d : Condition) l. inr (omega arith)) after later)
  others_apart slot (d ∷ before) after c t =
      let s = in_slots_lem form p slot d (before ++ (c ∷ after)) t in
      let here = tail_left form p slot d own s.tail in
      let others = others_apart (slot + d.digits) before after c s.later in
      (omega (arith, others.0), (inl (omega (arith, others.0)), others.1), others.2)

-- ---- a change in one condition's slots

module _ (B : ℕ) (left left' right : List ℕ) (c : Condition) (long : length left ≡ length left') (same : SameElsewhere c left left') where
  -- two sides that differ only in c's slots have the same number in slots apart from them
  same_number : (d : Condition) → Apart c d → number_in B d.left d.digits left ≡ number_in B d.left d.digits left'
  same_number d (inl l) = ap (number B) (same_part d.left d.digits left left' long (λ i from to. same i (inl (omega arith))))
  same_number d (inr l) = ap (number B) (same_part d.left d.digits left left' long (λ i from to. same i (inr (omega arith))))

  -- so conditions apart from c add the same
  same_score : (cs : List Condition) → Every (Apart c) cs → score_of B left right cs ≡ score_of B left' right cs
  same_score cs apart =
      let right_number : Condition → ℕ = λ d. number_in B d.right d.digits right in
      let term : Condition → ℕ → ℕ = λ d x. d.weight * bit (is_true d.relation x (right_number d)) in
      ap total (map_same _ _ cs (every_map (λ (d : Condition) a. ap (term d) (same_number d a)) cs apart))

  -- and c's own weight is all that is between the two scores
  score_near : (before after : List Condition) → Every (Apart c) before → Every (Apart c) after
      → Near c.weight (score_of B left right (before ++ (c ∷ after))) (score_of B left' right (before ++ (c ∷ after)))
  unfolding total
  score_near before after low high =
      let term : List ℕ → Condition → ℕ = λ side d. d.weight * bit (holds B side right d) in
      let first = over_append (term left) before (c ∷ after) in
      let second = over_append (term left') before (c ∷ after) in
      let own = weight_within c.weight (holds B left right c) in
      let own' = weight_within c.weight (holds B left' right c) in
      let others = same_score before low in
      let later = same_score after high in
      (omega arith, omega arith)

-- ---- the depth

score_levels : (q : Question) (cs : List Condition) → q ≡ Score
    → levels_above q cs ≡ largest (map (λ (c : Condition). clog c.digits) cs)
score_levels q cs asks = ap (λ (q : Question). levels_above q cs) asks

-- ---- the promises

pub right_score : RightScore
right_score bytes left right card e asks l r =
    let p = card.prime in
    let prime = (known bytes card e).prime in
    lawful_score bytes left right card (base_tests p) e (base_lawful p prime.low prime.odd) asks l r

pub score_moves : ScoreMoves
score_moves bytes left left' right card before after c e asks parts l l' r same =
    let B = base card.prime in
    let placed = rw parts at (known bytes card e).placed in
    let others = others_apart card.form (score_own card.form asks) card.prime 0 before after c placed in
    rw (right_score bytes left right card e asks l r, right_score bytes left' right card e asks l' r, parts)
    (score_near B left left' right c (l.0 ∙ sym l'.0) same before after others.1 others.2)

pub score_depth : ScoreDepth
score_depth bytes card e asks =
    exact_depth bytes card e ∙ ap (λ (d : ℕ). clog (card.prime - 1) + d) (score_levels (question_of card.form) card.conditions asks)

pub right_score_run : RightScoreRun
right_score_run bytes later left right work card e asks l r enough =
    runs_digits bytes later left right work card e l r enough ∙ ap accepted (right_score bytes left right card e asks l r)

pub built_score_run : BuiltScoreRun
built_score_run bytes lent left right work card e asks room l r enough =
    runs_built bytes lent left right work card _ e room (right_score_run bytes [] left right work card e asks l r enough)

pub built_score : BuiltScore
built_score bytes lent left right card told table b asks l r =
    rw (built_is bytes lent card told table b).1 (right_score bytes left right card b.0 asks l r)

pub built_score_moves : BuiltScoreMoves
built_score_moves bytes lent left left' right work work' card before after c score score' e asks parts room enough enough' l l' r same ran ran' =
    let told = accepted_same (sym ran ∙ (built_score_run bytes lent left right work card e asks room l r enough).0) in
    let told' = accepted_same (sym ran' ∙ (built_score_run bytes lent left' right work' card e asks room l' r enough').0) in
    let near = score_moves bytes left left' right card before after c e asks parts l l' r same in
    rw (told, told') (rw (right_score bytes left right card e asks l r, right_score bytes left' right card e asks l' r) at near)
