-- "the output itself and the gates it depends on, directly or through others" (document 02, E5).
use Rattle.std.specs.Prelude.{◌≡◌, Bool, true, false, List, [], ◌∷◌, ◌++◌, ℕ, suc, ◌-◌, length}
use Rattle.field.specs.Member.{member}
use Rattle.circuit.specs.Gate.{Gate}
use Rattle.circuit.specs.Operands.{operands, Reads}

-- a list where a test holds, and otherwise nothing
abbrev pub only_if : {A : Type 0} → Bool → List A → List A
only_if true xs = xs
only_if false xs = []

-- the used gates, by their numbers
pub data Used (gates : List Gate) : ℕ → Type 0 where
  -- "the output itself"
  is_output : (i : ℕ) → i ≡ length gates - 1 → Used gates i
  -- "and the gates it depends on, directly or through others": each gate that a used one reads
  is_read : (i k : ℕ) → Used gates k → Reads gates k i → Used gates i

-- the same as a list that can be computed: some numbers, and, from the last gate down, what each gate reads whose number is in the list;
-- of gates of which the first has number k
unfoldable pub needed : List ℕ → ℕ → List Gate → List ℕ
needed numbers k [] = numbers
needed numbers k (g ∷ gs) =
    let later = needed numbers (suc k) gs in only_if (member k later) (operands g) ++ later

-- the numbers of the used gates
abbrev pub used_numbers : List Gate → List ℕ
used_numbers gates = needed ((length gates - 1) ∷ []) 0 gates

-- the gates whose numbers are in a list; of gates of which the first has number k
unfoldable pub pick : List ℕ → ℕ → List Gate → List Gate
pick numbers k [] = []
pick numbers k (g ∷ gs) = only_if (member k numbers) (g ∷ []) ++ pick numbers (suc k) gs

-- the used gates
abbrev pub used : List Gate → List Gate
used gates = pick (used_numbers gates) 0 gates
