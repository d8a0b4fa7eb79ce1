-- A mark, as the code holds it.
use Rattle.std.specs.Prelude.{ℕ, List, get_or}
use Rattle.circuit.specs.Bytes.{Mark}

-- a pair of bytes as a mark
abbrev pub mark_of : List ℕ → Mark
mark_of pair = record { opening = get_or pair 0 0; closing = get_or pair 1 0 }
