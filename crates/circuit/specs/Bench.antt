-- Two tables of document 01, "Bench cards", written out, and what the definitions have to give for them. Proved in `proofs/Bench.antt`.
use Rattle.std.specs.Prelude.{◌≡◌, List, [], ◌∷◌, ◌++◌, map, ℕ}
use Rattle.answer.specs.Outcome.{accepted}
use Rattle.answer.specs.Report.{Report}
use Rattle.circuit.specs.Constant.{plus, minus}
use Rattle.circuit.specs.Gate.{Left, Right, Add, Sub, Scale, Flip, Mul}
use Rattle.circuit.specs.Meaning.{output}
use Rattle.circuit.specs.Outcomes.{checking, running}
use Rattle.circuit.specs.Table.{Both, Table, table_bytes}
use Rattle.circuit.specs.Value.{values}

-- the listing of the first bench card: p=3, s=75, "<" of 1. "In document 01's whole listing line 5 becomes `5 SCALE 3 -1`." (document 02, E3)
abbrev pub less_table : Table
less_table = record {
  head = record { prime = 3; weight = 75; slots = Both 1 };
  gates = Left 0 ∷ Right 0 ∷ Sub 0 1 ∷ Mul 2 2 ∷ Scale 2 (plus 1) ∷ Scale 3 (minus 1) ∷ Add 4 5 ∷ [];
}

-- "p=7, s=50, one "=" of 1": z^2, z^4, then z^6 as their product, and its FLIP
abbrev pub equal_table : Table
equal_table = record {
  head = record { prime = 7; weight = 50; slots = Both 1 };
  gates = Left 0 ∷ Right 0 ∷ Sub 0 1 ∷ Mul 2 2 ∷ Mul 3 3 ∷ Mul 3 4 ∷ Flip 5 ∷ [];
}

abbrev told : ℕ → ℕ → ℕ → ℕ → ℕ → Report
told gates products squares cost depth =
    record { gates = gates; products = products; squares = squares; cost = cost; depth = depth }

-- "gates 7 products 0 squares 1 cost 75 depth 1" and "G 7, products 1, squares 2, cost 200, depth 3"
abbrev pub BenchReports : Type 0
BenchReports =
    (checking (table_bytes less_table) ≡ accepted (told 7 0 1 75 1)) × (checking (table_bytes equal_table) ≡ accepted (told 7 1 2 200 3))

-- the output of a table of one slot, for pairs of a left and a right digit
abbrev pub outputs : Table → List (ℕ × ℕ) → List ℕ
outputs table pairs =
    map (λ (d : ℕ × ℕ). output (values table.head.prime (d.0 ∷ []) (d.1 ∷ [])) table.gates) pairs

-- "<" and "=" of digits below B, which is 2 at p=3 and 4 at p=7
abbrev pub BenchOutputs : Type 0
BenchOutputs =
    (outputs less_table ((0, 0) ∷ (0, 1) ∷ (1, 0) ∷ (1, 1) ∷ []) ≡ 0 ∷ 1 ∷ 0 ∷ 0 ∷ [])
    × (outputs equal_table ((0, 0) ∷ (0, 1) ∷ (1, 0) ∷ (2, 0) ∷ (3, 0) ∷ (1, 3) ∷ (3, 3) ∷ []) ≡ 1 ∷ 0 ∷ 0 ∷ 0 ∷ 0 ∷ 0 ∷ 1 ∷ [])

-- 0 < 1 run with one work byte to spare, and bytes after the table
abbrev pub BenchRun : Type 0
BenchRun =
    running (table_bytes less_table ++ (7 ∷ 7 ∷ [])) (0 ∷ []) (1 ∷ []) (9 ∷ 9 ∷ 9 ∷ 9 ∷ 9 ∷ 9 ∷ 9 ∷ 9 ∷ [])
    ≡ record { answer = accepted 1; lent = 0 ∷ 1 ∷ 2 ∷ 1 ∷ 2 ∷ 2 ∷ 1 ∷ 9 ∷ [] }
