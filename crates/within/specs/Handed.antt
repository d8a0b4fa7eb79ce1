-- What is handed back, as the code holds it.
use Rattle.std.specs.Prelude.{ℕ, ◌+◌, ◌*◌, ◌≡◌, List, [], take, Result, Ok, Err}
use Rattle.answer.specs.Outcome.{Answer, refused, accepted, on_answer}
use Rattle.answer.specs.Report.{report_of}
use Rattle.answer.specs.Settled.{answer_of}
use Rattle.answer.specs.declared.Refusal.{Refusal}
use Rattle.query.specs.Reading.{read_plain}
use Rattle.offer.specs.Offer as offer
use Rattle.card.specs.Parts.{Summary, summary}
use Rattle.within.specs.declared.Offered.{Offered}
use Rattle.within.specs.declared.Offered.TheVariants.{First, Second}

-- what a plain card's bytes say, or the first rule broken
abbrev pub read_plain_summary : List ℕ → Answer Summary
read_plain_summary bytes = on_answer (read_plain bytes) refused (λ card. accepted (summary card))

-- which table, and the report on it
abbrev pub handed : Offered → offer.Handed
handed (First told) = record { which = offer.First; told = report_of told }
handed (Second told) = record { which = offer.Second; told = report_of told }

-- the refusal's number, or these two
abbrev pub handed_answer : Result Offered Refusal → Answer offer.Handed
handed_answer = answer_of handed

-- the answer, and both lent tables afterwards, are an offer's
pub record Leaves (due : offer.Offer) (answer : Result Offered Refusal) (first second : List ℕ) : Type 0 where
  pub answers : handed_answer answer ≡ due.answer
  pub one : first ≡ due.first
  pub two : second ≡ due.second

-- the part of one of the two lent tables: its first 8(G+1) bytes, or no part of either
abbrev pub part_of : Result Offered Refusal → List ℕ → List ℕ → List ℕ
part_of (Ok (First told)) first second = take (8 * (told.gates + 1)) first
part_of (Ok (Second told)) first second = take (8 * (told.gates + 1)) second
part_of (Err why) first second = []
