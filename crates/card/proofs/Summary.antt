-- What a card says, from what its records were read as: its slots are the digits that were added up, and 10 is tested on them,
-- 26 on the weights that were added up with them.
-- Assumes nothing.
use Rattle.std.proofs.Common.{◌≡◌, sym, List, ℕ, ◌-◌, arith, length, take, drop, length-drop, take_all}
use Rattle.answer.specs.Outcome.{Answer, refused, accepted, on_answer}
use Rattle.answer.proofs.Outcome.{on_answer_rule, answered, accepted_same}
use Rattle.comparison.specs.Condition.{Condition}
use Rattle.query.specs.Form.{head_size, Form}
use Rattle.query.specs.Reading.{read_conditions, within_limits, read_limits}
use Rattle.query.proofs.Reading.{conditions_placed}
use Rattle.card.specs.declared.Sums.{Sums}
use Rattle.card.specs.Parts.{sums_of, read_sums, Summary, summary}

-- what a card says whose form, prime, weight and condition count are known, from the bytes of its records
abbrev pub telling : Form → ℕ → ℕ → ℕ → List ℕ → Answer Summary
telling form p s count records =
    on_answer (on_answer (read_conditions form p 0 count records) refused (read_limits form p s)) refused (λ card. accepted (summary card))

-- the records of a card, as the code lends them
pub records_lent : (bytes : List ℕ) → take (length bytes - head_size) (drop head_size bytes) ≡ drop head_size bytes
records_lent bytes = take_all (length bytes - head_size) (drop head_size bytes) (rw length-drop (omega arith))

module _ (form : Form) (p s count : ℕ) (records : List ℕ) where
  -- what is said with such sums
  abbrev said : Sums → Summary
  said sums = record { form = form; prime = p; weight = s; count = count; slots = sums.slots; left = sums.left }

  -- the conditions that were read
  told : (cs : List Condition) (sums : Sums) → read_conditions form p 0 count records ≡ accepted cs → sums_of cs ≡ sums → length cs ≡ count
      → within_limits form p sums.slots sums.weights (said sums) ≡ telling form p s count records
  told cs sums e sum size = rw (e, ← sum, ← size, on_answer_rule, on_answer_rule)

  pub told_sums : (sums : Sums) → accepted sums ≡ read_sums form p count records
      → within_limits form p sums.slots sums.weights (said sums) ≡ telling form p s count records
  told_sums sums e =
      let read = answered (read_conditions form p 0 count records) (λ cs. accepted (sums_of cs)) (sym e) in
      told read.0 sums read.1 (accepted_same read.2) (conditions_placed form p 0 count records read.0 read.1).0
