-- Reading a table's bytes: the table, or the number of the first rule that they break
-- (document 01, "Operations and what they turn away", Check; document 02, E6, of a head with two slot counts).
use Rattle.std.specs.Prelude.{ℕ, zero, suc, ◌+◌, ◌*◌, Bool, true, false, not, ◌&&◌, List, [], ◌∷◌, ltb, eqb, length, drop}
use Rattle.answer.specs.Outcome.{Answer, refused, accepted, refuse, on_answer}
use Rattle.field.specs.Primes.{listed}
use Rattle.circuit.specs.Bytes.{byte, wrong_mark, u16_at}
use Rattle.circuit.specs.Gate.{Gate, fields, gate_of, gate_mark}
use Rattle.circuit.specs.Table.{SlotCounts, Both, Each, both_mark, each_mark, wrong_slots, wrong_spare, Head, Table, wrong_weight, wrong_gate_count, fits}

-- "17 an operand against its kind", also a b where the kind has none; or the gate
abbrev pub fitting : Head → ℕ → ℕ → Gate → Answer Gate
fitting head k b g = refuse (not (fits head k g && eqb b (fields g).b)) (refused 17) (accepted g)

-- "16 kind, 17 an operand against its kind": gate number k of a kind, over a and b
abbrev pub read_fields : Head → ℕ → ℕ → ℕ → ℕ → Answer Gate
read_fields head k kind a b = on_answer (gate_of kind a b) refused (fitting head k b)

-- "then by gate 2 mark, 5 spare, 16 kind, 17 an operand against its kind": gate number k, whose record the bytes begin with
abbrev pub read_gate : Head → ℕ → List ℕ → Answer Gate
read_gate head k bytes =
    refuse (wrong_mark gate_mark bytes) (refused 2)
    (refuse (not (eqb (byte bytes 3) 0)) (refused 5)
    (read_fields head k (byte bytes 2) (u16_at bytes 4) (u16_at bytes 6)))

-- the gates of the next records, of which the first has number k
unfoldable pub read_gates : Head → ℕ → ℕ → List ℕ → Answer (List Gate)
read_gates head k zero bytes = accepted []
read_gates head k (suc count) bytes =
    on_answer (read_gate head k bytes) refused (λ g.
    on_answer (read_gates head (suc k) count (drop 8 bytes)) refused (λ gs. accepted (g ∷ gs)))

-- the slot counts of a head by bytes 4 and 5, where its mark is not that of two counts, and where it is
abbrev pub slots_by : Bool → ℕ → ℕ → SlotCounts
slots_by true n spare = Both n
slots_by false l r = Each l r

abbrev pub slots_at : List ℕ → SlotCounts
slots_at bytes = slots_by (wrong_mark each_mark bytes) (byte bytes 4) (byte bytes 5)

abbrev pub head_of : List ℕ → Head
head_of bytes = record { prime = byte bytes 2; weight = byte bytes 3; slots = slots_at bytes }

-- the gate count G
abbrev pub count_of : List ℕ → ℕ
count_of bytes = u16_at bytes 6

-- "12 under 8 bytes; 2; 3; 4; 13 N not 1 to 16; 5; 14 G not 1 to 8191; 15 under 8(G+1) bytes", of either mark
abbrev pub read_head : List ℕ → Answer Head
read_head bytes =
    refuse (ltb (length bytes) 8) (refused 12)
    (refuse (wrong_mark both_mark bytes && wrong_mark each_mark bytes) (refused 2)
    (refuse (not (listed (head_of bytes).prime)) (refused 3)
    (refuse (wrong_weight (head_of bytes).weight) (refused 4)
    (refuse (wrong_slots (head_of bytes).slots) (refused 13)
    (refuse (wrong_spare (head_of bytes).slots (byte bytes 5)) (refused 5)
    (refuse (wrong_gate_count (count_of bytes)) (refused 14)
    (refuse (ltb (length bytes) (8 * (count_of bytes + 1))) (refused 15)
    (accepted (head_of bytes)))))))))

-- "then by gate": the table of a head that was read
abbrev pub read_table : List ℕ → Head → Answer Table
read_table bytes head =
    on_answer (read_gates head 0 (count_of bytes) (drop 8 bytes)) refused (λ gates. accepted (record { head = head; gates = gates }))

-- the head's rules, then by gate
abbrev pub reading : List ℕ → Answer Table
reading bytes = on_answer (read_head bytes) refused (read_table bytes)
