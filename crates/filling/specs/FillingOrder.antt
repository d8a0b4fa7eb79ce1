-- The order of begin's, add's and finish's refusals (document 02, E8), on states and bytes that break every rule and are mended one rule at a time.
-- Proved in `proofs/FillingOrder.antt`.
use Rattle.std.specs.Prelude.{◌≡◌, true, List, [], ◌∷◌, ℕ, replicate}
use Rattle.answer.specs.Outcome.{refusal_in}
use Rattle.circuit.specs.Segment.{Node}
use Rattle.filling.specs.Filling.{beginning, adding, finishing}
use Rattle.filling.specs.State.{BuildState, no_build, started}

-- ---- begin

-- what a begin with p and s over so many lent bytes gives
abbrev begun : ℕ → ℕ → ℕ → ℕ
begun p s bytes = refusal_in (beginning no_build p s (replicate bytes 0)).answer

-- "Begin gives 3, 4, or 11 under 8 bytes"
abbrev pub BeginOrder : Type 0
BeginOrder = begun 9 49 7 ∷ begun 3 49 7 ∷ begun 3 75 7 ∷ begun 3 75 8 ∷ [] ≡ 3 ∷ 4 ∷ 11 ∷ 0 ∷ []

-- ---- add

-- a build with p=3 and s=75 and without a product
abbrev so_far : ℕ → ℕ → ℕ → List Node → BuildState
so_far slots gates squares outputs = record {
  begun = true;
  prime = 3;
  weight = 75;
  slots = slots;
  gates = gates;
  products = 0;
  squares = squares;
  outputs = outputs;
}

-- an output of a condition of one digit at p=3
abbrev output : Node
output = record { gate = 6; depth = 1 }

-- eight conditions of sixteen slots in all, and one that has sixteen; a state need not be one that calls lead to
abbrev eight_added : BuildState
eight_added = so_far 16 56 8 (replicate 8 output)

abbrev sixteen_slots : BuildState
sixteen_slots = so_far 16 7 1 (output ∷ [])

-- what an add to a build gives, with so many bytes lent
abbrev added : BuildState → List ℕ → ℕ → ℕ
added state bytes length = refusal_in (adding state bytes (replicate length 0)).answer

-- "31, add or finish with no build open .. before all else; 30, a ninth condition, next"; "add gives 7 for a length not 4, then 2, 8, 9, 10,
-- and 11 where its gates do not fit": a condition of one digit at p=3 has 7 gates, and 8(G+1) is 64
abbrev pub AddOrder : Type 0
AddOrder =
    added no_build (0 ∷ 0 ∷ 7 ∷ 17 ∷ 0 ∷ []) 63
    ∷ added eight_added (0 ∷ 0 ∷ 7 ∷ 17 ∷ 0 ∷ []) 63
    ∷ added sixteen_slots (0 ∷ 0 ∷ 7 ∷ 17 ∷ 0 ∷ []) 63
    ∷ added sixteen_slots (0 ∷ 0 ∷ 7 ∷ 17 ∷ []) 63
    ∷ added sixteen_slots (0xC5 ∷ 0x51 ∷ 7 ∷ 17 ∷ []) 63
    ∷ added sixteen_slots (0xC5 ∷ 0x51 ∷ 1 ∷ 17 ∷ []) 63
    ∷ added sixteen_slots (0xC5 ∷ 0x51 ∷ 1 ∷ 1 ∷ []) 63
    ∷ added (started 3 75) (0xC5 ∷ 0x51 ∷ 1 ∷ 1 ∷ []) 63
    ∷ added (started 3 75) (0xC5 ∷ 0x51 ∷ 1 ∷ 1 ∷ []) 64
    ∷ []
    ≡ 31 ∷ 30 ∷ 7 ∷ 2 ∷ 8 ∷ 9 ∷ 10 ∷ 11 ∷ 0 ∷ []

-- ---- finish

-- two conditions of one digit at p=3, whose product tree has one gate
abbrev two_added : BuildState
two_added = so_far 2 14 2 (output ∷ record { gate = 13; depth = 1 } ∷ [])

-- what a finish gives, with so many bytes lent
abbrev finished : BuildState → ℕ → ℕ
finished state length = refusal_in (finishing state (replicate length 0)).answer

-- "31, add or finish with no build open, or finish with none added, before all else"; "finish gives 11 likewise"
abbrev pub FinishOrder : Type 0
FinishOrder =
    finished no_build 127 ∷ finished (started 3 75) 127 ∷ finished two_added 127 ∷ finished two_added 128 ∷ []
    ≡ 31 ∷ 31 ∷ 11 ∷ 0 ∷ []
