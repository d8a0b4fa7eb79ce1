-- Pairs of operands, grouped by the higher one: how many different lower ones go with it.
use Rattle.std.specs.Prelude.{not, ◌&&◌, List, [], ◌∷◌, ◌++◌, ℕ, ◌+◌, min, max, eqb}
use Rattle.field.specs.Bit.{bit}
use Rattle.field.specs.Member.{member}
use Rattle.circuit.specs.Count.{is_mul}
use Rattle.circuit.specs.Gate.{Gate, fields}
use Rattle.circuit.specs.Used.{only_if}

-- the lower and the higher operand of a MUL
abbrev pub lower : Gate → ℕ
lower g = min (fields g).a (fields g).b

abbrev pub higher : Gate → ℕ
higher g = max (fields g).a (fields g).b

-- the lower operands of the MULs whose higher operand is gate h
unfoldable pub lowers : ℕ → List Gate → List ℕ
lowers h [] = []
lowers h (g ∷ gs) = only_if (is_mul g && eqb (higher g) h) (lower g ∷ []) ++ lowers h gs

-- how many different numbers a list has
unfoldable pub different : List ℕ → ℕ
different [] = 0
different (x ∷ xs) = bit (not (member x xs)) + different xs
