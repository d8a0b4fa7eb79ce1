-- What Decode answers, as the code holds it. Encode tells no value.
use Rattle.std.specs.Prelude.{ℕ, Result}
use Rattle.answer.specs.Outcome.{Answer}
use Rattle.answer.specs.Settled.{answer_of}
use Rattle.answer.specs.declared.Refusal.{Refusal}

-- the refusal's number, or the number decoded
abbrev pub decode_answer : Result ℕ Refusal → Answer ℕ
decode_answer = answer_of (λ number. number)
