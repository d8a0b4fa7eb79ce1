-- What the last-use list answers: "success answers G" (document 02, E4).
use Rattle.std.specs.Prelude.{ℕ, Result}
use Rattle.answer.specs.Outcome.{Answer}
use Rattle.answer.specs.Settled.{answer_of}
use Rattle.answer.specs.declared.Refusal.{Refusal}

-- the refusal's number, or the gate count
abbrev pub listed_answer : Result ℕ Refusal → Answer ℕ
listed_answer = answer_of (λ count. count)
