-- Writing gates into the table that a writer holds.
use Rattle.std.specs.Prelude.{◌≡◌, List, ℕ, length}
use Rattle.circuit.specs.Gate.{Gate}
use Rattle.writer.specs.declared.Writer.{Writer}
use Rattle.writer.specs.Pen.{Wrote, Room, Moved}

-- a writer's table has room for n gates more
abbrev pub HasRoom : Writer → ℕ → Type 0
HasRoom w n = Room w.table.now w.pen n

-- gates are written by a writer: into the same lent table, none of whose bytes are more or fewer, and its pen has moved past them
pub record Writes (w : Writer) (gates : List Gate) (w' : Writer) : Type 0 where
  pub wrote : Wrote w.table.now w.pen gates w'.table.now w'.pen
  pub moved : Moved w.pen (length gates) w'.pen
  pub size : length w'.table.now ≡ length w.table.now
  pub lent : w'.table.ghost_name ≡ w.table.ghost_name
