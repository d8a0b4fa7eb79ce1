-- "all conditions hold of the two sides' numbers" (demand 3), the truth of each as a number of the field, and the score (document 02, E1).
use Rattle.std.specs.Prelude.{ℕ, ◌*◌, Bool, true, ◌&&◌, List, [], ◌∷◌, map}
use Rattle.field.specs.Bit.{bit}
use Rattle.comparison.specs.Condition.{Condition, holds}
use Rattle.query.specs.Card.{over_conditions}

abbrev pub all_hold : ℕ → List ℕ → List ℕ → List Condition → Bool
all_hold B left right [] = true
all_hold B left right (c ∷ cs) = holds B left right c && all_hold B left right cs

-- of each condition, in order: 1 where it holds, and 0 otherwise
abbrev pub truths : ℕ → List ℕ → List ℕ → List Condition → List ℕ
truths B left right conditions = map (λ (c : Condition). bit (holds B left right c)) conditions

-- "the sum of the weights of the conditions that hold"
abbrev pub score_of : ℕ → List ℕ → List ℕ → List Condition → ℕ
score_of B left right conditions = over_conditions (λ (c : Condition). c.weight * bit (holds B left right c)) conditions
