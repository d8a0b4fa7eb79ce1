-- Writing gates: the bytes laid over a table, and the counts carried by the pen
-- ("Success answers G, products, squares, cost, depth", document 01, "Operations and what they turn away").
use Rattle.std.specs.Prelude.{◌≡◌, List, ℕ, ◌+◌, ◌*◌, ◌≤◌, length}
use Rattle.std.proofs.lemmas.List.Edits.{sets}
use Rattle.circuit.specs.Count.{is_square, is_product, count}
use Rattle.circuit.specs.Gate.{Gate}
use Rattle.circuit.specs.Table.{gates_bytes, most_gates}
use Rattle.writer.specs.declared.Pen.{Pen}

-- a table with the records of gates laid over it, of which the first has number k: the head and k records come before them
unfoldable pub laid : List ℕ → ℕ → List Gate → List ℕ
laid table k gates = sets table (8 * (k + 1)) (gates_bytes gates)

-- writing gates into a table leaves these bytes and this pen: the next free number, and the counts of these records
pub record Wrote (table : List ℕ) (pen : Pen) (gates : List Gate) (table' : List ℕ) (pen' : Pen) : Type 0 where
  pub bytes : table' ≡ laid table pen.next gates
  pub number : pen'.next ≡ pen.next + length gates
  -- the MULs of two different gates and the squares among them, wherever their values go
  pub products : pen'.products ≡ pen.products + count is_product gates
  pub squares : pen'.squares ≡ pen.squares + count is_square gates

-- a table has room for n gates more; a pen has counted no more products or squares than gates
abbrev pub Room : List ℕ → Pen → ℕ → Type 0
Room table pen n =
    (8 * (pen.next + n + 1) ≤ length table) × (pen.next + n ≤ most_gates) × (pen.products ≤ pen.next) × (pen.squares ≤ pen.next)

-- the pen after n gates more
abbrev pub Moved : Pen → ℕ → Pen → Type 0
Moved pen n pen' = (pen'.next ≡ pen.next + n) × (pen'.products ≤ pen'.next) × (pen'.squares ≤ pen'.next)

-- a pen that has written nothing
abbrev pub fresh : Pen
fresh = record { next = 0; products = 0; squares = 0 }
