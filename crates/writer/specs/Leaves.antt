-- A piece of a circuit that a writer has written in part.
use Rattle.std.specs.Prelude.{◌≡◌, List, ◌+◌, ◌≤◌, length}
use Rattle.circuit.specs.Gate.{Gate}
use Rattle.writer.specs.declared.Writer.{Writer}
use Rattle.writer.specs.Writing.{Writes}

-- of all gates, some remain to be written: a writer that writes these from here on has written all from there on
pub record Leaves (w : Writer) (all : List Gate) (w₁ : Writer) (some : List Gate) : Type 0 where
  pub number : w₁.pen.next + length some ≡ w.pen.next + length all
  pub products : w₁.pen.products ≤ w₁.pen.next
  pub squares : w₁.pen.squares ≤ w₁.pen.next
  pub size : length w₁.table.now ≡ length w.table.now
  pub gives : (w₂ : Writer) → Writes w₁ some w₂ → Writes w all w₂
