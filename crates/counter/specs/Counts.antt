-- What counting begins with, and the counts of a table's gates, as the code answers them.
use Rattle.std.specs.Prelude.{◌≡◌, List, ℕ, ◌+◌, ◌≤◌, length}
use Rattle.circuit.specs.Count.{products, squares}
use Rattle.circuit.specs.Gate.{Gate}
use Rattle.counter.specs.Gates.{Countable}
use Rattle.counter.specs.Marks.{AtMost}
use Rattle.counter.specs.declared.Counts.{Counts}

-- a table that was read, and lists with an entry for each gate, of which those that are read before they are written are cleared
pub record Ready (table : List ℕ) (count : ℕ) (marks starts next : List ℕ) : Type 0 where
  pub records : Countable table count
  pub room_marks : count ≤ length marks
  pub room_starts : count ≤ length starts
  pub room_next : count ≤ length next
  pub clear_marks : AtMost 0 marks
  pub clear_starts : AtMost 0 starts

-- the products and squares of the gates, which are no more than the gates
pub record CountsOf (gates : List Gate) (counts : Counts) : Type 0 where
  pub products_are : counts.products ≡ products gates
  pub squares_are : counts.squares ≡ squares gates
  pub few : counts.products + counts.squares ≤ length gates
