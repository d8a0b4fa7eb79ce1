-- What is asked where a condition is added to a build and where its product tree is, and the bytes that a condition more leaves.
use Rattle.std.specs.Prelude.{◌≡◌, false, List, ℕ, ◌+◌, ◌*◌, ◌≤◌, ◌<◌, length}
use Rattle.digits.specs.Number.{most_digits}
use Rattle.comparison.specs.Condition.{Condition}
use Rattle.comparison.specs.Formulas.{condition_size}
use Rattle.comparison.specs.Relation.{Relation}
use Rattle.comparison.specs.Writing.{condition_segment}
use Rattle.query.specs.Card.{most_conditions}
use Rattle.query.specs.Form.{condition_at}
use Rattle.filling.specs.Filling.{extended}
use Rattle.filling.specs.State.{BuildState, is_closed}

-- ---- finish

-- an open build of so many conditions with one among them, and a table with room for its product tree
pub record Finishable (state : BuildState) (count : ℕ) (table : List ℕ) : Type 0 where
  pub is_open : is_closed state ≡ false
  pub counted : length state.outputs ≡ count
  pub some : 1 ≤ count
  pub few : count ≤ most_conditions
  pub room : 8 * (state.gates + count) ≤ length table

-- ---- add

-- the condition of a plain record: it takes the next slots on both sides
abbrev pub condition_next : BuildState → Relation → ℕ → Condition
condition_next state r n = condition_at state.slots state.slots r n 0

-- the bytes that a condition more leaves
abbrev pub added_bytes : BuildState → Condition → List ℕ → List ℕ
added_bytes state c table = extended state (state.slots + c.digits) (condition_segment state.prime c state.gates).gates table

-- an open build of so many conditions that takes one more, and the digit count of a record that was read
pub record Takes (state : BuildState) (count n : ℕ) : Type 0 where
  pub is_open : is_closed state ≡ false
  pub few : count < most_conditions
  pub digits : (1 ≤ n) × (n ≤ most_digits)

-- slots for it, its gate count, and a table with room for it
pub record Addable (state : BuildState) (count : ℕ) (c : Condition) (size : ℕ) (table : List ℕ) : Type 0 where
  pub takes : Takes state count c.digits
  pub slots : state.slots + c.digits ≤ most_digits
  pub sized : size ≡ condition_size state.prime c
  pub room : 8 * (state.gates + size + 1) ≤ length table
