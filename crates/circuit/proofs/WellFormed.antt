-- The rules of a table one by one: `well_formed` is their conjunction; and that of slot counts as a range of each side's.
-- Assumes nothing.
use mathlib.Core.Path.{◌≡◌}
use mathlib.Core.Bool.{true, false, not}
use Prim.Native.Nat.{◌≤◌}
use borrow.Author.Tests.{not-true}
use lib.ListN.{length}
use Rattle.field.specs.Primes.{listed}
use Rattle.field.proofs.Tests.{both, neither, in_range, in_range_false}
use Rattle.digits.specs.Number.{most_digits, wrong_count}
use Rattle.circuit.specs.Table.{SlotCounts, Both, Each, left_of, right_of, wrong_slots, Table, wrong_weight, wrong_gate_count, all_fit, well_formed}

-- both sides have 1 to 16 slots
abbrev pub SlotRange : SlotCounts → Type 0
SlotRange slots = (1 ≤ left_of slots) × (left_of slots ≤ most_digits) × (1 ≤ right_of slots) × (right_of slots ≤ most_digits)

pub slot_range : (slots : SlotCounts) → wrong_slots slots ≡ false → SlotRange slots
slot_range (Both n) t = let range = in_range n 1 most_digits t in (range.0, range.1, range.0, range.1)
slot_range (Each l r) t =
    let s = neither (wrong_count l) (wrong_count r) t in
    let left = in_range l 1 most_digits s.0 in
    let right = in_range r 1 most_digits s.1 in
    (left.0, left.1, right.0, right.1)

-- and back
pub slot_range_false : (slots : SlotCounts) → SlotRange slots → wrong_slots slots ≡ false
slot_range_false (Both n) h = in_range_false n 1 most_digits h.0 h.1
slot_range_false (Each l r) h =
    rw (in_range_false l 1 most_digits h.0 h.1) (in_range_false r 1 most_digits h.2 h.3)

-- every rule that a well-formed table keeps
pub record WellFormed (table : Table) : Type 0 where
  pub prime : listed table.head.prime ≡ true
  pub weight : wrong_weight table.head.weight ≡ false
  pub slots : wrong_slots table.head.slots ≡ false
  pub count : wrong_gate_count (length table.gates) ≡ false
  pub fitted : all_fit table.head 0 table.gates ≡ true

pub well_formed_lem : (table : Table) → well_formed table ≡ true → WellFormed table
well_formed_lem table t =
    let prime = both (listed table.head.prime) _ t in
    let weight = both (not (wrong_weight table.head.weight)) _ prime.1 in
    let slots = both (not (wrong_slots table.head.slots)) _ weight.1 in
    let count = both (not (wrong_gate_count (length table.gates))) _ slots.1 in
    record {
      prime = prime.0;
      weight = not-true _ weight.0;
      slots = not-true _ slots.0;
      count = not-true _ count.0;
      fitted = count.1;
    }

pub is_well_formed : (table : Table) → WellFormed table → well_formed table ≡ true
is_well_formed table w = rw (w.prime, w.weight, w.slots, w.count, w.fitted)
