-- The state of a build that is filled in condition by condition (document 02, E8): what a call is given
-- "as the last accepted begin, add or finish left it", and whether a build is open by it.
use Rattle.std.specs.Prelude.{ℕ, ◌+◌, ◌*◌, Bool, true, false, not, ◌||◌, List, [], ◌∷◌, ltb}
use Rattle.field.specs.Primes.{listed}
use Rattle.digits.specs.Number.{most_digits}
use Rattle.circuit.specs.Segment.{Node}
use Rattle.circuit.specs.Table.{wrong_weight}

-- whether a build was begun, its p and s, and of the conditions added so far the slots, the gates, the products and squares among them,
-- and the output of each
pub record BuildState : Type 0 where
  pub begun : Bool
  pub prime : ℕ
  pub weight : ℕ
  pub slots : ℕ
  pub gates : ℕ
  pub products : ℕ
  pub squares : ℕ
  pub outputs : List Node

-- "at the start no build is open"
abbrev pub no_build : BuildState
no_build = record { begun = false; prime = 0; weight = 0; slots = 0; gates = 0; products = 0; squares = 0; outputs = [] }

-- a build with nothing added
abbrev pub started : ℕ → ℕ → BuildState
started p s = record { begun = true; prime = p; weight = s; slots = 0; gates = 0; products = 0; squares = 0; outputs = [] }

-- ---- whether a build is open

-- no condition is deeper than this: 8 levels of a digit, 4 of joining
abbrev pub most_levels : ℕ
most_levels = 12

-- no digit adds more gates than this, with its share of joining and FLIP
abbrev pub most_for_digit : ℕ
most_for_digit = 445

-- one of the outputs is deeper than any condition
unfoldable pub too_deep : List Node → Bool
too_deep [] = false
too_deep (f ∷ fs) = ltb most_levels f.depth || too_deep fs

-- no build is open: none was begun, or the state has a number that no accepted calls leave
abbrev pub is_closed : BuildState → Bool
is_closed state =
    not state.begun
    || (not (listed state.prime)
    || (wrong_weight state.weight
    || (ltb most_digits state.slots
    || (ltb (most_for_digit * state.slots) state.gates
    || (ltb state.gates (state.products + state.squares) || too_deep state.outputs)))))
