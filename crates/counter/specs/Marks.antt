-- A list with an entry for each gate: which entries have a certain value, and how large they are.
use Rattle.std.specs.Prelude.{◌≡◌, List, ℕ, ◌≤◌, ◌<◌, eqb, length, get_or}
use Rattle.field.specs.Member.{member}
use Rattle.circuit.specs.Gate.{Gate}
use Rattle.circuit.specs.Used.{used_numbers}
use Rattle.counter.specs.Gates.{Countable}

-- the entries that are a value stand at the numbers of a list
abbrev pub Marks : ℕ → List ℕ → List ℕ → Type 0
Marks value list numbers = (i : ℕ) → i < length list → eqb (get_or list i 0) value ≡ member i numbers

-- no entry is above a bound
abbrev pub AtMost : ℕ → List ℕ → Type 0
AtMost most list = (i : ℕ) → i < length list → get_or list i 0 ≤ most

-- what marking begins with: a table that was read, and a cleared list
pub record Markable (table : List ℕ) (count : ℕ) (marks : List ℕ) : Type 0 where
  pub records : Countable table count
  pub room : count ≤ length marks
  pub clear : AtMost 0 marks

-- 1 at each used gate, and 0 elsewhere
pub record UsedMarked (gates : List Gate) (marks : List ℕ) : Type 0 where
  pub used : Marks 1 marks (used_numbers gates)
  pub low : AtMost 1 marks
