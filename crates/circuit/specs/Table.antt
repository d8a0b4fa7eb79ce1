-- A gate table: its head, its gates and its bytes, and the rules that it keeps (document 01, "Gate table"; document 02, E6).
use Rattle.std.specs.Prelude.{ℕ, suc, Bool, true, false, not, ◌&&◌, ◌||◌, List, [], ◌∷◌, ◌++◌, ltb, eqb, length}
use Rattle.field.specs.Primes.{listed}
use Rattle.digits.specs.Number.{wrong_count}
use Rattle.circuit.specs.Bytes.{Mark, marked, u16}
use Rattle.circuit.specs.Constant.{is_constant}
use Rattle.circuit.specs.Gate.{Gate, Left, Right, Add, Sub, Scale, Flip, Mul, gate_bytes}

-- ---- how many slots the sides have

pub data SlotCounts : Type 0 where
  -- document 01's head: N slots on each side
  Both : ℕ → SlotCounts
  -- document 02's E6: "the left slot count" and "the right slot count"
  Each : ℕ → ℕ → SlotCounts

abbrev pub left_of : SlotCounts → ℕ
left_of (Both n) = n
left_of (Each l r) = l

abbrev pub right_of : SlotCounts → ℕ
right_of (Both n) = n
right_of (Each l r) = r

-- the byte pairs 0x47 0x48, and of a head with two counts 0x47 0x4A
abbrev pub both_mark : Mark
both_mark = record { opening = 0x47; closing = 0x48 }

abbrev pub each_mark : Mark
each_mark = record { opening = 0x47; closing = 0x4A }

abbrev pub head_mark_of : SlotCounts → Mark
head_mark_of (Both n) = both_mark
head_mark_of (Each l r) = each_mark

-- bytes 4 and 5: "N, spare 0"; "byte 4 the left slot count .., byte 5 the right slot count"
abbrev pub slot_bytes : SlotCounts → List ℕ
slot_bytes (Both n) = n ∷ 0 ∷ []
slot_bytes (Each l r) = l ∷ r ∷ []

-- "13 N not 1 to 16"; "both 1 to 16 under refusal 13"
abbrev pub wrong_slots : SlotCounts → Bool
wrong_slots (Both n) = wrong_count n
wrong_slots (Each l r) = wrong_count l || wrong_count r

-- what 5 asks of byte 5 of a head: it is a spare where one count serves both sides, and else the right slot count
abbrev pub wrong_spare : SlotCounts → ℕ → Bool
wrong_spare (Both n) spare = not (eqb spare 0)
wrong_spare (Each l r) spare = false

-- ---- the table

-- the prime p, the weight s of a square and the slot counts
pub record Head : Type 0 where
  pub prime : ℕ
  pub weight : ℕ
  pub slots : SlotCounts

abbrev pub left_slots : Head → ℕ
left_slots head = left_of head.slots

abbrev pub right_slots : Head → ℕ
right_slots head = right_of head.slots

pub record Table : Type 0 where
  pub head : Head
  pub gates : List Gate

-- "Head: 0x47 0x48, p, s, N, spare 0, gate count G as u16"; "head mark 0x47 0x4A, byte 4 the left slot count .., byte 5 the right slot count"
abbrev pub head_bytes : Head → ℕ → List ℕ
head_bytes head count =
    marked (head_mark_of head.slots) (head.prime ∷ head.weight ∷ (slot_bytes head.slots ++ u16 count []))

unfoldable pub gates_bytes : List Gate → List ℕ
gates_bytes [] = []
gates_bytes (g ∷ gs) = gate_bytes g ++ gates_bytes gs

abbrev pub table_bytes : Table → List ℕ
table_bytes table = head_bytes table.head (length table.gates) ++ gates_bytes table.gates

-- "weight s (hundredths, 50 to 100)"
abbrev pub least_weight : ℕ
least_weight = 50

abbrev pub most_weight : ℕ
most_weight = 100

abbrev pub wrong_weight : ℕ → Bool
wrong_weight s = ltb s least_weight || ltb most_weight s

-- "gate count G as u16 (1 to 8191)"
abbrev pub most_gates : ℕ
most_gates = 8191

abbrev pub wrong_gate_count : ℕ → Bool
wrong_gate_count count = ltb count 1 || ltb most_gates count

-- the operands of gate number k: "Gates count from 0 and name only gates with lower numbers; slots are below N"; "Refusal 17 now reads this range." (document 02, E3); "17 .. read each side against its own count" (E6)
abbrev pub fits : Head → ℕ → Gate → Bool
fits head k (Left a) = ltb a (left_slots head)
fits head k (Right a) = ltb a (right_slots head)
fits head k (Add a b) = ltb a k && ltb b k
fits head k (Sub a b) = ltb a k && ltb b k
fits head k (Scale a c) = ltb a k && is_constant head.prime c
fits head k (Flip a) = ltb a k
fits head k (Mul a b) = ltb a k && ltb b k

-- gates of which the first has number k
unfoldable pub all_fit : Head → ℕ → List Gate → Bool
all_fit head k [] = true
all_fit head k (g ∷ gs) = fits head k g && all_fit head (suc k) gs

-- every rule is kept
abbrev pub well_formed : Table → Bool
well_formed table =
    listed table.head.prime
    && (not (wrong_weight table.head.weight)
    && (not (wrong_slots table.head.slots)
    && (not (wrong_gate_count (length table.gates)) && all_fit table.head 0 table.gates)))
