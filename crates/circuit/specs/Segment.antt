-- A piece of a circuit, as it is written from the first free gate number on.
use Rattle.std.specs.Prelude.{ℕ, ◌+◌, List, ◌++◌, length}
use Rattle.circuit.specs.Depth.{depths}
use Rattle.circuit.specs.Gate.{Gate}

-- a gate with its depth
pub record Node : Type 0 where
  pub gate : ℕ
  pub depth : ℕ

-- the product of two, written as gate number k
abbrev pub times : ℕ → Node → Node → Node
times k a b = record { gate = k; depth = depths.mul a.depth b.depth }

-- and their sum
abbrev pub plus : ℕ → Node → Node → Node
plus k a b = record { gate = k; depth = depths.add a.depth b.depth }

-- the gates written, and the node that holds the piece's result
pub record Segment : Type 0 where
  pub gates : List Gate
  pub output : Node

-- gates from number k on, then a piece from the next free number on
abbrev pub followed_by : ℕ → List Gate → (ℕ → Segment) → Segment
followed_by k gates piece =
    let later = piece (k + length gates) in record { gates = gates ++ later.gates; output = later.output }
