-- One gate of Run: where its record was read as a gate, the record's number has a kind, and the gate is that of the kind over the record's operands.
-- Assumes nothing.
use Rattle.std.proofs.Common.{◌≡◌, sym, ap, ap₂, ◌∙◌, List, ℕ}
use Rattle.answer.specs.Outcome.{refused, accepted}
use Rattle.answer.proofs.Outcome.{refused≢accepted}
use Rattle.circuit.specs.Bytes.{byte, u16_at}
use Rattle.circuit.specs.Reading.{read_fields, read_gate}
use Rattle.circuit.specs.Table.{Head}
use Rattle.circuit.proofs.Reading.{fields_read}
use Rattle.records.specs.Kind.{kind_verdict}
use Rattle.records.proofs.KindRead.{kind_is, no_kind}
use Rattle.runner.specs.Running.{CanRun}

module _ (head : Head) (k : ℕ) (bytes : List ℕ) (ready : CanRun (read_gate head k bytes)) where
  fields : read_fields head k (byte bytes 2) (u16_at bytes 4) (u16_at bytes 6) ≡ accepted ready.value
  fields = (fields_read head k bytes ready.value ready.accept).2

  pub same_read : (kind a b : ℕ) → accepted kind ≡ kind_verdict (byte bytes 2) → a ≡ u16_at bytes 4 → b ≡ u16_at bytes 6
      → read_fields head k kind a b ≡ read_gate head k bytes
  same_read kind a b is is_a is_b =
      ap₂ (read_fields head k kind) is_a is_b
      ∙ ap (λ (n : ℕ). read_fields head k n (u16_at bytes 4) (u16_at bytes 6)) (kind_is kind (byte bytes 2) is)
      ∙ fields ∙ sym ready.accept

  pub has_kind : (n : ℕ) → refused n ≡ kind_verdict (byte bytes 2) → ⊥
  has_kind n is = refused≢accepted (rw (no_kind n (byte bytes 2) (u16_at bytes 4) (u16_at bytes 6) is) at fields)
