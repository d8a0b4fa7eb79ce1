-- The last-use list (document 02, E4), for a runner that lets a ciphertext go once no later gate reads it.
use Rattle.std.specs.Prelude.{true, false, List, [], ◌∷◌, ◌++◌, ℕ, suc, ◌≤◌, ltb, length, drop}
use Rattle.answer.specs.Outcome.{accepted, Outcome, unaltered, refuse, on_answer}
use Rattle.field.specs.FirstValues.{first_values}
use Rattle.circuit.specs.Gate.{Gate}
use Rattle.circuit.specs.Operands.{reads, Reads}
use Rattle.circuit.specs.Reading.{reading}
use Rattle.circuit.specs.Table.{Table}

-- what the entry of gate number i has to be
pub data IsLastUse (gates : List Gate) (i : ℕ) : ℕ → Type 0 where
  -- "the number of the last gate that reads it"
  read : (last : ℕ) → Reads gates last i → ((k : ℕ) → Reads gates k i → k ≤ last) → IsLastUse gates i last
  -- "or its own number where none does". "The output counts as read by itself": no gate comes after the output, so it has its own number by this.
  unread : ((k : ℕ) → Reads gates k i → ⊥) → IsLastUse gates i i

-- the same, computed: the last of these gates, of which the first has number k, that reads gate i, or else a number given
unfoldable pub last_reader : ℕ → ℕ → ℕ → List Gate → ℕ
last_reader i other k [] = other
last_reader i other k (g ∷ gs) = last_reader i (elim (reads i g) [ true ↦ k | false ↦ other ]) (suc k) gs

-- of all gates, with gate i's own number where none reads it
abbrev pub last_use : List Gate → ℕ → ℕ
last_use gates i = last_reader i i 0 gates

-- "a list .., one for each gate"
abbrev pub last_uses : List Gate → List ℕ
last_uses gates = first_values (length gates) (last_use gates)

-- "27, list shorter than G"; "Entries beyond the first G are kept; success answers G."
abbrev pub finding_table : List ℕ → Table → Outcome ℕ
finding_table list table =
    let count = length table.gates in
    refuse (ltb (length list) count) (unaltered list 27) (record {
      answer = accepted count;
      lent = last_uses table.gates ++ drop count list;
    })

-- "after all of Check's"
abbrev pub finding_last_uses : List ℕ → List ℕ → Outcome ℕ
finding_last_uses bytes list = on_answer (reading bytes) (unaltered list) (finding_table list)
