-- Every byte of a well-formed table is below 256: kinds, slots, weights and primes are, and each half of a u16.
-- Assumes nothing.
use mathlib.Core.Path.{◌≡◌, refl}
use mathlib.Core.Bool.{true, false}
use mathlib.Core.List.{List, [], ◌∷◌, ◌++◌}
use Prim.Native.Nat.{ℕ, suc, ◌+◌, ◌/◌, ◌%◌, ◌≤◌, ◌<◌}
use native.Mathlib.Omega.{arith}
use borrow.Author.Tests.{ltb-true, lt-ltb}
use lib.Dec.{ltb}
use lib.ListN.{length}
use Rattle.field.proofs.Primes.{listed_is_odd_prime}
use Rattle.field.proofs.Tests.{both, in_range}
use Rattle.digits.specs.Number.{all_below}
use Rattle.digits.proofs.Number.{below_append}
use Rattle.circuit.specs.Bytes.{marked, u16}
use Rattle.circuit.specs.Constant.{is_constant}
use Rattle.circuit.specs.Gate.{Gate, Left, Right, Add, Sub, Scale, Flip, Mul, fields, gate_bytes}
use Rattle.circuit.specs.Promises.{TableBytes}
use Rattle.circuit.specs.Table.{SlotCounts, Both, Each, wrong_slots, head_mark_of, slot_bytes, Head, left_slots, right_slots, head_bytes, gates_bytes, least_weight, most_weight, most_gates, fits, all_fit}
use Rattle.circuit.proofs.Constant.{twos_complement}
use Rattle.circuit.proofs.Fitting.{two_below, fit_cons}
use Rattle.circuit.proofs.WellFormed.{SlotRange, slot_range, well_formed_lem}

-- the fields of a gate are a byte and two u16
abbrev Small : Gate → Type 0
Small g = ((fields g).kind < 256) × ((fields g).a < 65536) × ((fields g).b < 65536)

-- the operands of a head and of gates up to number k
abbrev Within : Head → ℕ → Type 0
Within head k = (head.prime ≤ 65536) × (left_slots head ≤ 65536) × (right_slots head ≤ 65536) × (k ≤ 65536)

fields_small : (head : Head) (k : ℕ) (g : Gate) → Within head k → fits head k g ≡ true → Small g
fields_small head k (Left a) w t = omega (arith, w.1, ltb-true a (left_slots head) t)
fields_small head k (Right a) w t = omega (arith, w.2, ltb-true a (right_slots head) t)
fields_small head k (Add a b) w t = omega (arith, w.3, two_below a b k t)
fields_small head k (Sub a b) w t = omega (arith, w.3, two_below a b k t)
fields_small head k (Scale a c) w t =
    let s = both (ltb a k) (is_constant head.prime c) t in
    omega (arith, w.3, ltb-true a k s.0, (twos_complement.0 head.prime c w.0 s.1).0)
fields_small head k (Flip a) w t = omega (arith, w.3, ltb-true a k t)
fields_small head k (Mul a b) w t = omega (arith, w.3, two_below a b k t)

-- the two bytes of a u16
u16_below : (x : ℕ) → x < 65536 → (ltb (x % 256) 256 ≡ true) × (ltb (x / 256) 256 ≡ true)
u16_below x h = (lt-ltb (x % 256) 256 (omega arith), lt-ltb (x / 256) 256 (omega arith))

gate_below : (g : Gate) → Small g → all_below 256 (gate_bytes g) ≡ true
unfolding all_below
gate_below g s =
    let a = u16_below (fields g).a s.1 in
    let b = u16_below (fields g).b s.2 in
    rw (lt-ltb (fields g).kind 256 s.0, a.0, a.1, b.0, b.1)

gates_below : (head : Head) (k : ℕ) (gs : List Gate) → Within head (k + length gs) → all_fit head k gs ≡ true
    → all_below 256 (gates_bytes gs) ≡ true
unfolding gates_bytes all_below
gates_below head k [] w t = refl
gates_below head k (g ∷ gs) w t =
    let s = fit_cons head k g gs t in
    let here = fields_small head k g (w.0, w.1, w.2, omega (arith, w.3)) s.0 in
    below_append 256 (gate_bytes g) (gates_bytes gs) (gate_below g here)
    (gates_below head (suc k) gs (w.0, w.1, w.2, omega (arith, w.3)) s.1)

head_below : (head : Head) (count : ℕ) → head.prime < 256 → head.weight < 256 → wrong_slots head.slots ≡ false → count < 65536
    → all_below 256 (head_bytes head count) ≡ true
unfolding all_below
head_below head count p w t l = go head.slots (slot_range head.slots t)
  where
    prime : ltb head.prime 256 ≡ true
    prime = lt-ltb head.prime 256 p

    weight : ltb head.weight 256 ≡ true
    weight = lt-ltb head.weight 256 w

    go : (slots : SlotCounts) → SlotRange slots
        → all_below 256 (marked (head_mark_of slots) (head.prime ∷ head.weight ∷ (slot_bytes slots ++ u16 count []))) ≡ true
    go (Both n) range =
        let g = u16_below count l in rw (prime, weight, lt-ltb n 256 (omega arith), g.0, g.1)
    go (Each left right) range =
        let g = u16_below count l in
        rw (prime, weight, lt-ltb left 256 (omega arith), lt-ltb right 256 (omega arith), g.0, g.1)

pub table_bytes : TableBytes
table_bytes table t =
    let w = well_formed_lem table t in
    let head = table.head in
    let prime : head.prime ≤ 251 = ((listed_is_odd_prime head.prime).0 w.prime).high in
    let weight = in_range head.weight least_weight most_weight w.weight in
    let slots = slot_range head.slots w.slots in
    let count = in_range (length table.gates) 1 most_gates w.count in
    below_append 256 (head_bytes head (length table.gates)) (gates_bytes table.gates)
    (head_below head (length table.gates) (omega arith) (omega arith) w.slots (omega arith))
    (gates_below head 0 table.gates (omega arith) w.fitted)
