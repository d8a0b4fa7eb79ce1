-- A table of count gates that was read: its gates are those of its records, each of which says what its gate reads.
-- Assumes nothing.
use Rattle.std.proofs.Common.{◌≡◌, sym, ap, ◌∙◌, List, ℕ, ◌+◌, ◌*◌, ◌≤◌, length, drop}
use Rattle.answer.specs.Outcome.{accepted}
use Rattle.answer.proofs.Outcome.{answered, accepted_same}
use Rattle.field.proofs.Tests.{in_range}
use Rattle.circuit.specs.Bytes.{byte, u16_at}
use Rattle.circuit.specs.Gate.{Gate, gate_of}
use Rattle.circuit.specs.Operands.{operands}
use Rattle.circuit.specs.Reading.{read_gate, read_gates, head_of, count_of, reading}
use Rattle.circuit.specs.Table.{Head, Table, most_gates}
use Rattle.circuit.proofs.Reading.{reads, fields_read, fitting_is}
use Rattle.records.specs.Operands.{operands_at}
use Rattle.records.specs.Read.{gates_read}

module _ (bytes : List ℕ) (count : ℕ) (e : gates_read (reading bytes) ≡ accepted count) where
  pub table_read : (table : Table) × (reading bytes ≡ accepted table) × (length table.gates ≡ count)
  table_read =
      let s = answered (reading bytes) (λ table. accepted (length table.gates)) e in (s.0, s.1, accepted_same s.2)

  pub same_count : count_of bytes ≡ count
  same_count = sym (reads bytes table_read.0 table_read.1).count ∙ table_read.2

  pub count_range : (1 ≤ count) × (count ≤ most_gates)
  count_range = rw (← same_count) (in_range (count_of bytes) 1 most_gates (reads bytes table_read.0 table_read.1).kept.count)

  pub gates_read_lem : read_gates (head_of bytes) 0 count (drop 8 bytes) ≡ accepted table_read.0.gates
  gates_read_lem =
      ap (λ (n : ℕ). read_gates (head_of bytes) 0 n (drop 8 bytes)) (sym same_count) ∙ (reads bytes table_read.0 table_read.1).gates

  pub long : 8 * (count + 1) ≤ length bytes
  long = rw (← same_count) (reads bytes table_read.0 table_read.1).kept.room

-- a record that is read as a gate says the gate's operands
pub says_operands : (head : Head) (k : ℕ) (bytes : List ℕ) (g : Gate) → read_gate head k bytes ≡ accepted g → operands_at bytes ≡ operands g
says_operands head k bytes g e =
    let read = (fields_read head k bytes g e).2 in
    let kind = answered (gate_of (byte bytes 2) (u16_at bytes 4) (u16_at bytes 6)) _ read in
    let same = (fitting_is head k _ kind.0 g kind.2).2 in
    rw kind.1 (ap operands same)
