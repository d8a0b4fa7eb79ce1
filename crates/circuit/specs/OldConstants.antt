-- "Gate values, depth and cost are the same as under the old constants." (document 02, E3)
-- The old constant of a SCALE is from 0 to p-1 (document 01, "Gate table": "constant b<p"); of a table that keeps the rules it is so by
-- `ConstantsBelow`. Proved in `proofs/OldConstants.antt`.
use Rattle.std.specs.Prelude.{◌≡◌, List, map, ℕ, ◌<◌}
use Rattle.circuit.specs.Constant.{constant, plus, code}
use Rattle.circuit.specs.Depth.{depths}
use Rattle.circuit.specs.Gate.{Gate, Left, Right, Add, Sub, Scale, Flip, Mul}
use Rattle.circuit.specs.Meaning.{entries}
use Rattle.circuit.specs.Report.{report}
use Rattle.circuit.specs.Table.{Table}
use Rattle.circuit.specs.Value.{values}

-- a gate with the constant that it had
abbrev pub old_gate : ℕ → Gate → Gate
old_gate p (Left a) = Left a
old_gate p (Right a) = Right a
old_gate p (Add a b) = Add a b
old_gate p (Sub a b) = Sub a b
old_gate p (Scale a c) = Scale a (plus (constant p c))
old_gate p (Flip a) = Flip a
old_gate p (Mul a b) = Mul a b

-- a table with the constants that it had
abbrev pub old_table : Table → Table
old_table table = record { head = table.head; gates = map (old_gate table.head.prime) table.gates }

-- each gate's value, each gate's depth, and all that is reported: gates, products, squares, cost and depth
abbrev pub SameUnderOld : Type 0
SameUnderOld =
    (table : Table) (left right : List ℕ)
    → let alg = values table.head.prime left right in
    (entries alg (old_table table).gates ≡ entries alg table.gates)
    × (entries depths (old_table table).gates ≡ entries depths table.gates)
    × (report (old_table table) ≡ report table)

-- a SCALE by a number below p, as Build writes it, had that number
abbrev pub OldConstant : Type 0
OldConstant = (p a c : ℕ) → c < p → old_gate p (Scale a (code p c)) ≡ Scale a (plus c)
