-- What an operation answers, as the code holds it: a `Result`.
use Rattle.std.specs.Prelude.{Result, Ok, Err}
use Rattle.answer.specs.Numbers.{refusal_number}
use Rattle.answer.specs.Outcome.{Answer, refused, accepted}
use Rattle.answer.specs.declared.Refusal.{Refusal}

-- the refusal's number, or the operation's values as they are written here
abbrev pub answer_of : {V A : Type 0} → (V → A) → Result V Refusal → Answer A
answer_of values (Ok told) = accepted (values told)
answer_of values (Err why) = refused (refusal_number why)

-- the same of an operation that tells no value
abbrev pub settled_answer : Result Unit Refusal → Answer Unit
settled_answer = answer_of (λ done. done)
