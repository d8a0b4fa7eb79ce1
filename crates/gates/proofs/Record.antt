-- A gate that is read by its record's word: the verdict on the word, and what follows it.
-- Assumes nothing.
use Rattle.std.proofs.Common.{◌≡◌, ℕ, List, length, ap₂}
use Rattle.answer.specs.Outcome.{refused, accepted}
use Rattle.circuit.specs.Bytes.{u16_at}
use Rattle.circuit.specs.Reading.{read_fields, read_gate}
use Rattle.circuit.specs.Table.{Head}
use Rattle.circuit.specs.Word.{word_at, OpensWithBytes, word_verdict}
use Rattle.circuit.proofs.Word.{record_by_word}
use Rattle.gates.specs.GateDepth.{depth_read}

module _ (head : Head) (earlier bytes : List ℕ) (word : ℕ) (is : (word ≡ word_at bytes) × OpensWithBytes bytes) where
  -- a word that is refused
  pub word_refused : (n : ℕ) → refused n ≡ word_verdict word → refused n ≡ depth_read earlier (read_gate head (length earlier) bytes)
  word_refused n e =
      let told : word_verdict (word_at bytes) ≡ refused n = cc in
      rw (record_by_word head (length earlier) bytes is.1, told)

  -- and one that tells a kind, over the record's operands
  pub word_kind : (kind a b : ℕ) → accepted kind ≡ word_verdict word → a ≡ u16_at bytes 4 → b ≡ u16_at bytes 6
      → depth_read earlier (read_fields head (length earlier) kind a b) ≡ depth_read earlier (read_gate head (length earlier) bytes)
  word_kind kind a b e is_a is_b =
      let told : word_verdict (word_at bytes) ≡ accepted kind = cc in
      rw (record_by_word head (length earlier) bytes is.1, told)
      (ap₂ (λ (i j : ℕ). depth_read earlier (read_fields head (length earlier) kind i j)) is_a is_b)
