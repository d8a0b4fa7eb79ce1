-- A gate record's first four bytes as one word (document 02, E2), and the verdict on them: 2, 5, 16 or the kind.
-- The verdict is defined twice, by the bytes and by the word; that the two agree is proved in `proofs/Word.antt`.
-- Powers of 256 are written in hexadecimal: 0x100, 0x10000, 0x1000000.
use Rattle.std.specs.Prelude.{◌≡◌, Bool, not, ◌||◌, List, [], ◌∷◌, ℕ, ◌+◌, ◌*◌, ◌/◌, ◌%◌, ◌^◌, ◌<◌, ltb, eqb, length}
use Rattle.answer.specs.Outcome.{Answer, refused, accepted, refuse, on_answer}
use Rattle.field.specs.Byte.{byte_values}
use Rattle.circuit.specs.Bytes.{byte, wrong_mark, u16_at}
use Rattle.circuit.specs.Gate.{kinds, gate_mark}
use Rattle.circuit.specs.Reading.{read_fields, read_gate}
use Rattle.circuit.specs.Table.{Head}

-- "each gate record's first four bytes as one 32-bit word, first byte lowest"
abbrev pub word_at : List ℕ → ℕ
word_at bytes = byte bytes 0 + 0x100 * byte bytes 1 + 0x10000 * byte bytes 2 + 0x1000000 * byte bytes 3

-- "its four bytes", first byte lowest
abbrev pub word_bytes : ℕ → List ℕ
word_bytes w = w % 0x100 ∷ w / 0x100 % 0x100 ∷ w / 0x10000 % 0x100 ∷ w / 0x1000000 % 0x100 ∷ []

-- mark and kind are bytes, as the entries of a lent slice are; of the spare not even that has to be known
abbrev pub OpensWithBytes : List ℕ → Type 0
OpensWithBytes bytes = (byte bytes 0 < byte_values) × (byte bytes 1 < byte_values) × (byte bytes 2 < byte_values)

-- "16 kind": the kinds have the numbers from 1 on
abbrev pub wrong_kind : ℕ → Bool
wrong_kind kind = ltb kind 1 || ltb (length (kinds 0 0)) kind

-- by the bytes, "in document 01's order": "2 mark, 5 spare, 16 kind", or the kind
abbrev pub bytes_verdict : List ℕ → Answer ℕ
bytes_verdict bytes =
    refuse (wrong_mark gate_mark bytes) (refused 2)
    (refuse (not (eqb (byte bytes 3) 0)) (refused 5)
    (refuse (wrong_kind (byte bytes 2)) (refused 16) (accepted (byte bytes 2))))

-- by the word: its low half has the mark, and its high half is the kind where its top byte is 0
abbrev pub word_verdict : ℕ → Answer ℕ
word_verdict w =
    refuse (not (eqb (w % 0x10000) (gate_mark.opening + 0x100 * gate_mark.closing))) (refused 2)
    (refuse (not (eqb (w / 0x1000000) 0)) (refused 5)
    (refuse (wrong_kind (w / 0x10000)) (refused 16) (accepted (w / 0x10000))))

-- each of the 2^32 words is that of its four bytes
abbrev pub WordReadsBack : Type 0
WordReadsBack = (w : ℕ) → w < 2 ^ 32 → word_at (word_bytes w) ≡ w

-- "For each of the 2^32 words a proof says that the verdict on the word .. is that of its four bytes in document 01's order."
abbrev pub WordVerdict : Type 0
WordVerdict = (w : ℕ) → w < 2 ^ 32 → word_verdict w ≡ bytes_verdict (word_bytes w)

-- so reading a record by its word is reading it: "All answers are as before."
abbrev pub RecordByWord : Type 0
RecordByWord =
    (head : Head) (k : ℕ) (bytes : List ℕ) → OpensWithBytes bytes
    → read_gate head k bytes
    ≡ on_answer (word_verdict (word_at bytes)) refused (λ kind. read_fields head k kind (u16_at bytes 4) (u16_at bytes 6))
