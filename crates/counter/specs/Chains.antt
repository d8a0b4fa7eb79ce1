-- Chains of used MULs with the same higher operand: how they are linked, and the walk along one, which stamps the lower operands.
use Rattle.std.specs.Prelude.{◌≡◌, Bool, ◌&&◌, ℕ, ◌+◌, ◌≤◌, ◌<◌, List, [], ◌∷◌, eqb, length, get_or}
use mathlib.Core.List.{reverse_aux}
use Rattle.circuit.specs.Count.{is_mul}
use Rattle.circuit.specs.Gate.{Gate}
use Rattle.circuit.specs.Used.{only_if, used}
use Rattle.records.specs.Operands.{entered}
use Rattle.counter.specs.Gates.{gates_of, gate_at, Countable}
use Rattle.counter.specs.Marks.{Marks, AtMost, UsedMarked}
use Rattle.counter.specs.Pairs.{lower, higher, lowers}

-- ---- one gate

-- whether gate number k is a MUL that is marked as used
abbrev pub is_linked : List Gate → List ℕ → ℕ → Bool
is_linked gates marks k = eqb (get_or marks k 0) 1 && is_mul (gate_at gates k)

-- where the chains start, and what follows each gate, once gate number k is put before the chain of its higher operand, if it is a used MUL
abbrev pub starts_after : List Gate → List ℕ → ℕ → List ℕ → List ℕ
starts_after gates marks k starts = entered k (only_if (is_linked gates marks k) (higher (gate_at gates k) ∷ [])) starts

abbrev pub next_after : List Gate → List ℕ → ℕ → List ℕ → List ℕ → List ℕ
next_after gates marks k starts next =
    entered (get_or starts (higher (gate_at gates k)) 0) (only_if (is_linked gates marks k) (k ∷ [])) next

-- ---- one chain

-- from gate number i down, each linked to the next; 0 ends the chain, as gate 0 is no MUL. The list has their lower operands
unfoldable pub Chain : List Gate → List ℕ → ℕ → List ℕ → Type 0
Chain gates next i [] = i ≡ 0
Chain gates next i (x ∷ xs) =
    (get_or next i 0 < i) × (x < i) × (x ≡ lower (gate_at gates i)) × Chain gates next (get_or next i 0) xs

-- the chain that begins at a gate, turned over onto other numbers, is the whole list
pub record Chained (gates : List Gate) (next : List ℕ) (start : ℕ) (others whole : List ℕ) : Type 0 where
  pub chain : List ℕ
  pub links : Chain gates next start chain
  pub gives : reverse_aux chain others ≡ whole

-- ---- linking

-- what linking begins with: the used gates marked, and no chain started; what follows a gate in its chain is written before it is read
pub record Linkable (table : List ℕ) (count : ℕ) (marks starts next : List ℕ) : Type 0 where
  pub records : Countable table count
  pub room_marks : count ≤ length marks
  pub room_starts : count ≤ length starts
  pub room_next : count ≤ length next
  pub marked : UsedMarked (gates_of table) marks
  pub clear : AtMost 0 starts

-- what it leaves: each higher operand's chain has all lower operands that go with it among the used gates
abbrev pub Linked : List Gate → List ℕ → List ℕ → Type 0
Linked gates starts next =
    (h : ℕ) → h < length gates → (get_or starts h 0 < length gates) × Chained gates next (get_or starts h 0) [] (lowers h (used gates))

-- ---- walking

-- the chain of higher operand h can be walked: no entry is its stamp yet, which is h + 2
pub record Walkable (table : List ℕ) (h start : ℕ) (next marks : List ℕ) : Type 0 where
  pub among : h < length (gates_of table)
  pub begins : start < length (gates_of table)
  pub room_next : length (gates_of table) ≤ length next
  pub room_marks : length (gates_of table) ≤ length marks
  pub chained : Chained (gates_of table) next start [] (lowers h (used (gates_of table)))
  pub old : AtMost (h + 1) marks

-- what a walk leaves: the lower operands stamped
pub record Walked (gates : List Gate) (h : ℕ) (marks : List ℕ) : Type 0 where
  pub stamped : Marks (h + 2) marks (lowers h (used gates))
  pub old : AtMost (h + 2) marks

-- all chains can be walked, one after the other
pub record ChainsCountable (table : List ℕ) (count : ℕ) (starts next marks : List ℕ) : Type 0 where
  pub records : Countable table count
  pub room_starts : count ≤ length starts
  pub room_next : count ≤ length next
  pub room_marks : count ≤ length marks
  pub linked : Linked (gates_of table) starts next
  pub old : AtMost 1 marks
