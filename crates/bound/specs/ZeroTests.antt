-- Zero tests: what one does, and which tables the bound is about (document 02, E9).
use Rattle.std.specs.Prelude.{◌≡◌, Bool, false, List, [], ◌∷◌, ℕ, ◌<◌, eqb}
use Rattle.answer.specs.Outcome.{accepted}
use Rattle.field.specs.Bit.{bit}
use Rattle.field.specs.Modular.{sub_mod}
use Rattle.digits.specs.Number.{base}
use Rattle.circuit.specs.Every.{Every}
use Rattle.circuit.specs.Gate.{Gate, fields}
use Rattle.circuit.specs.Meaning.{output}
use Rattle.circuit.specs.Reading.{reading}
use Rattle.circuit.specs.Table.{Table, left_slots}
use Rattle.circuit.specs.Value.{values}

-- "its output is 1 at value 0 and 0 at every other value below p": the value is the left list, and the right list stays as it is
abbrev pub TestsZero : ℕ → List ℕ → List Gate → Type 0
TestsZero p right gates = (x : ℕ) → x < p → output (values p (x ∷ []) right) gates ≡ bit (eqb x 0)

-- what a digit's zero test is for: right at the difference, modulo p, of any two digits below B
abbrev pub TestsDifferences : ℕ → List ℕ → List Gate → Type 0
TestsDifferences p right gates =
    (x y : ℕ) → x < base p → y < base p → output (values p (sub_mod p x y ∷ []) right) gates ≡ bit (eqb x y)

-- kind 2
abbrev pub is_right : Gate → Bool
is_right g = eqb (fields g).kind 2

-- "without RIGHT gates"
abbrev pub WithoutRight : List Gate → Type 0
WithoutRight gates = Every (λ g. is_right g ≡ false) gates

-- "every table that check accepts with N=1 and without RIGHT gates: if its output is 1 at value 0 and 0 at every other value below p":
-- the table that these bytes are read as, at some right list, which no gate reads. Of a head with two slot counts (E6) N is the left one
pub record IsZeroTest (bytes right : List ℕ) (table : Table) : Type 0 where
  pub checked : reading bytes ≡ accepted table
  pub one_slot : left_slots table.head ≡ 1
  pub without_right : WithoutRight table.gates
  pub tests : TestsZero table.head.prime right table.gates
