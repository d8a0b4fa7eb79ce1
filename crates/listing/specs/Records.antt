-- What the functions put that read a table's records.
use Rattle.std.specs.Prelude.{ℕ, zero, suc, true, false, List, [], ◌++◌, eqb, drop}
use Rattle.answer.specs.Outcome.{on_answer}
use Rattle.circuit.specs.Bytes.{byte, u16_at}
use Rattle.circuit.specs.Constant.{signed}
use Rattle.circuit.specs.Gate.{gate_of}
use Rattle.listing.specs.Lines.{number_text, constant_text, line_of}
use Rattle.listing.specs.Words.{kind_name}

-- the name of a kind's gates
abbrev pub name_of : ℕ → List ℕ
name_of kind = on_answer (gate_of kind 0 0) (λ number. []) kind_name

-- the text of b, by the kind
abbrev pub operand_of : ℕ → ℕ → List ℕ
operand_of kind b = elim (eqb kind 5) [ true ↦ constant_text (signed b) | false ↦ number_text b ]

-- the line of gate number k, whose record the bytes begin with
abbrev pub record_line : ℕ → List ℕ → List ℕ
record_line k bytes = line_of k (name_of (byte bytes 2)) (u16_at bytes 4) (operand_of (byte bytes 2) (u16_at bytes 6))

-- the lines of the next records, of which the first has number k
unfoldable pub record_lines : ℕ → ℕ → List ℕ → List ℕ
record_lines k zero bytes = []
record_lines k (suc count) bytes = record_line k bytes ++ record_lines (suc k) count (drop 8 bytes)
