-- The depth of a SCALE, as the definitions of reading and of depths give it: its constant is read back from its sixteen bits.
-- Assumes nothing.
use Rattle.std.proofs.Common.{◌≡◌, refl, ℕ, ◌&&◌, List, length, get_or, ◌<◌, eq-eqb}
use mathlib.Core.Bool.{and-true}
use Rattle.answer.proofs.Outcome.{on_answer_rule}
use Rattle.circuit.specs.Constant.{is_constant, signed}
use Rattle.circuit.specs.Reading.{read_fields}
use Rattle.circuit.specs.Table.{Head}
use Rattle.circuit.proofs.Constant.{twos_complement}
use Rattle.gates.specs.GateDepth.{is_earlier, depth_if, depth_read}

pub scale_depth : (head : Head) (earlier : List ℕ) (a b : ℕ) → b < 0x10000
    → depth_if (is_earlier earlier a && is_constant head.prime (signed b)) (get_or earlier a 0)
    ≡ depth_read earlier (read_fields head (length earlier) 5 a b)
scale_depth head earlier a b small =
    rw (twos_complement.1 b small, eq-eqb b b refl, and-true (is_earlier earlier a && is_constant head.prime (signed b)), on_answer_rule)
