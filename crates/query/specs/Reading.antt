-- Reading a card's bytes: the card, or the number of the first rule that they break
-- (document 01, "Operations and what they turn away", Build's numbers 1 to 10; document 02, E1, 25 and 26, and E6, 28; plain cards alone, E7).
use Rattle.std.specs.Prelude.{ℕ, zero, suc, ◌+◌, ◌*◌, not, List, [], ◌∷◌, ltb, eqb, length, drop}
use Rattle.answer.specs.Outcome.{Answer, refused, accepted, refuse, on_answer, numbered}
use Rattle.field.specs.Primes.{listed}
use Rattle.digits.specs.Number.{most_digits, wrong_count}
use Rattle.circuit.specs.Bytes.{byte, wrong_mark}
use Rattle.circuit.specs.Table.{wrong_weight}
use Rattle.comparison.specs.Condition.{Condition}
use Rattle.comparison.specs.Relation.{Relation, relations}
use Rattle.query.specs.Card.{Card, wrong_condition_count, slots_of, total_weight, wrong_total}
use Rattle.query.specs.Form.{head_size, Form, Plain, question_of, head_mark_of, record_mark_of, record_size, form_of, read_tail}

-- "9 n", then the rules of the form, if it adds any
abbrev pub read_counted : Form → ℕ → ℕ → Relation → List ℕ → Answer Condition
read_counted form p slot r bytes = refuse (wrong_count (byte bytes 3)) (refused 9) (read_tail form p slot r (byte bytes 3) bytes)

-- "then by condition 2 mark, 8 relation, 9 n": the record that the bytes begin with, where slot is the next that is free
abbrev pub read_condition : Form → ℕ → ℕ → List ℕ → Answer Condition
read_condition form p slot bytes =
    refuse (wrong_mark (record_mark_of form) bytes) (refused 2)
    (on_answer (numbered 8 (byte bytes 2) relations) refused (λ relation. read_counted form p slot relation bytes))

-- the conditions of the next records
unfoldable pub read_conditions : Form → ℕ → ℕ → ℕ → List ℕ → Answer (List Condition)
read_conditions form p slot zero bytes = accepted []
read_conditions form p slot (suc count) bytes =
    on_answer (read_condition form p slot bytes) refused (λ c.
    on_answer (read_conditions form p (slot + c.digits) count (drop (record_size form) bytes)) refused (λ cs. accepted (c ∷ cs)))

-- "then 10 N over 16", of a shared card "Refusal 10 counts right slots"; "26, total weight of p or more, after 10"; or what was read
abbrev pub within_limits : {A : Type 0} → Form → ℕ → ℕ → ℕ → A → Answer A
within_limits form p slots weights read =
    refuse (ltb most_digits slots) (refused 10) (refuse (wrong_total (question_of form) p weights) (refused 26) (accepted read))

abbrev pub read_limits : Form → ℕ → ℕ → List Condition → Answer Card
read_limits form p s conditions =
    within_limits form p (slots_of conditions) (total_weight conditions)
    (record { form = form; prime = p; weight = s; conditions = conditions })

-- "3 p not listed; 4 s; 5 spare not 0; 6 c; 7 length not 6+4c; then by condition": a card whose form is known, and so its records' size;
-- "the length rule 7 reads 6+6c" in a score card, and "7 reads 6+6c" in a shared card
abbrev pub read_formed : Form → List ℕ → Answer Card
read_formed form bytes =
    let p = byte bytes 2 in
    let count = byte bytes 4 in
    refuse (not (listed p)) (refused 3)
    (refuse (wrong_weight (byte bytes 3)) (refused 4)
    (refuse (not (eqb (byte bytes 5) 0)) (refused 5)
    (refuse (wrong_condition_count count) (refused 6)
    (refuse (not (eqb (length bytes) (head_size + record_size form * count))) (refused 7)
    (on_answer (read_conditions form p 0 count (drop head_size bytes)) refused (read_limits form p (byte bytes 3)))))))

-- "1 card under 6 bytes; 2 head mark", then what its form asks
abbrev pub read_card : List ℕ → Answer Card
read_card bytes =
    refuse (ltb (length bytes) head_size) (refused 1) (on_answer (form_of bytes) refused (λ form. read_formed form bytes))

-- a plain card alone (document 02, E7): "cards that are not plain give 2", which is the head mark's number and has its place
abbrev pub read_plain : List ℕ → Answer Card
read_plain bytes =
    refuse (ltb (length bytes) head_size) (refused 1) (refuse (wrong_mark (head_mark_of Plain) bytes) (refused 2) (read_formed Plain bytes))
