-- What Check, Trim and Run answer from the lent bytes (document 01, "Operations and what they turn away").
use Rattle.std.specs.Prelude.{ℕ, ◌+◌, ◌*◌, not, ◌&&◌, ◌||◌, List, [], ◌++◌, ltb, eqb, length, take, drop}
use Rattle.answer.specs.Outcome.{Answer, refused, accepted, Outcome, unaltered, refuse, on_answer}
use Rattle.answer.specs.Report.{Report}
use Rattle.digits.specs.Number.{all_below}
use Rattle.circuit.specs.Meaning.{entries, output}
use Rattle.circuit.specs.Reading.{reading}
use Rattle.circuit.specs.Report.{report}
use Rattle.circuit.specs.Table.{Table, left_slots, right_slots}
use Rattle.circuit.specs.Value.{values}

-- Check: "Later bytes are not looked at. Success answers as Build."
abbrev pub checking : List ℕ → Answer Report
checking bytes = on_answer (reading bytes) refused (λ table. accepted (report table))

-- Trim: "hands back the part of the lent bytes that is the table, its first 8(G+1); where Check refuses, the empty part"
abbrev pub trimming : List ℕ → List ℕ
trimming bytes = on_answer (checking bytes) (λ number. []) (λ told. take (8 * (told.gates + 1)) bytes)

-- "18 left or right list not N long, 19 a value of p or more, 20 work buffer under G.
-- The first G work bytes then hold the gate values, later ones are kept; the answer is the output.";
-- "17 and 18 read each side against its own count" (document 02, E6)
abbrev pub running_table : List ℕ → List ℕ → List ℕ → Table → Outcome ℕ
running_table left right work table =
    let p = table.head.prime in
    let count = length table.gates in
    refuse (not (eqb (length left) (left_slots table.head)) || not (eqb (length right) (right_slots table.head))) (unaltered work 18)
    (refuse (not (all_below p left && all_below p right)) (unaltered work 19)
    (refuse (ltb (length work) count) (unaltered work 20)
    (record {
      answer = accepted (output (values p left right) table.gates);
      lent = entries (values p left right) table.gates ++ drop count work;
    })))

-- Run: "Check's, then"
abbrev pub running : List ℕ → List ℕ → List ℕ → List ℕ → Outcome ℕ
running bytes left right work = on_answer (reading bytes) (unaltered work) (running_table left right work)
