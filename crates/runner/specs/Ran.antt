-- What Run answers: "the answer is the output" (document 01, "Operations and what they turn away").
use Rattle.std.specs.Prelude.{ℕ, Result}
use Rattle.answer.specs.Outcome.{Answer}
use Rattle.answer.specs.Settled.{answer_of}
use Rattle.answer.specs.declared.Refusal.{Refusal}

-- the refusal's number, or the output
abbrev pub run_answer : Result ℕ Refusal → Answer ℕ
run_answer = answer_of (λ output. output)
