-- The kinds of gates, as the code holds them: the number of each, and which numbers are one's.
use Rattle.std.specs.Prelude.{ℕ, Result}
use Rattle.answer.specs.Outcome.{Answer, refused, accepted, refuse}
use Rattle.answer.specs.Settled.{answer_of}
use Rattle.answer.specs.declared.Refusal.{Refusal}
use Rattle.circuit.specs.Word.{wrong_kind}
use Rattle.records.specs.declared.Kind.{Kind}
use Rattle.records.specs.declared.Kind.TheVariants.{Left, Right, Add, Sub, Scale, Flip, Mul}

-- the number of a kind
abbrev pub kind_number : Kind → ℕ
kind_number Left = 1
kind_number Right = 2
kind_number Add = 3
kind_number Sub = 4
kind_number Scale = 5
kind_number Flip = 6
kind_number Mul = 7

-- the refusal's number, or the kind's
abbrev pub kind_answer : Result Kind Refusal → Answer ℕ
kind_answer = answer_of kind_number

-- "16 kind", or the number, which then is a kind's
abbrev pub kind_verdict : ℕ → Answer ℕ
kind_verdict number = refuse (wrong_kind number) (refused 16) (accepted number)
