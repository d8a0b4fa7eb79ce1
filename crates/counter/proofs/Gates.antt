-- The gates of a table by their numbers: gate number k is what record number k says, and reads only lower gates. By induction on the records.
-- Assumes nothing.
use Rattle.std.proofs.Common.{◌≡◌, refl, sym, ap, ◌∙◌, true, List, ℕ, zero, suc, ◌+◌, ◌*◌, ◌≤◌, ◌<◌, add-zero, zero-add, add-one, arith, length, drop, get_or-drop}
use mathlib.Core.Bool.{false≢true}
use Rattle.answer.specs.Outcome.{Answer, refused, accepted}
use Rattle.circuit.specs.Bytes.{byte, u16_at}
use Rattle.circuit.specs.Count.{is_mul}
use Rattle.circuit.specs.Every.{Every}
use Rattle.circuit.specs.Gate.{Gate, Left, Right, Add, Sub, Scale, Flip, Mul, fields}
use Rattle.circuit.specs.Operands.{operands}
use Rattle.circuit.specs.Reading.{read_gate, read_gates, head_of, reading}
use Rattle.circuit.specs.Table.{Head, Table, most_gates}
use Rattle.circuit.proofs.Every.{every_map}
use Rattle.circuit.proofs.Fitting.{Named, named}
use Rattle.circuit.proofs.Reading.{gates_cons, Says, says}
use Rattle.circuit.proofs.Used.{moved}
use Rattle.records.specs.Operands.{operands_at}
use Rattle.records.specs.Read.{gates_read, gates_in}
use Rattle.records.proofs.Read.{table_read, count_range, gates_read_lem, long, says_operands}
use Rattle.records.proofs.Records.{record_at, lent_at, lent_is, next_record}
use Rattle.counter.specs.Gates.{gates_of, gate_at, Countable}
use Rattle.counter.specs.Pairs.{higher}

-- ---- a table that was read

pub countable : (table : List ℕ) (count : ℕ) → gates_read (reading table) ≡ accepted count → Countable table count
unfolding gates_of
countable table count e =
    let t = table_read table count e in
    let range = count_range table count e in
    record { many = ap (λ (read : Answer Table). length (gates_in read)) t.1 ∙ t.2; some = range.0; most = range.1 }

-- where there are gates, they were read
some_read : (read : Answer Table) → 0 < length (gates_in read) → gates_read read ≡ accepted (length (gates_in read))
some_read (refused number) l = absurd (omega arith)
some_read (accepted table) l = refl

-- ---- gate by gate

each_read : (head : Head) (table : List ℕ) (k n j : ℕ) (gs : List Gate) → read_gates head k n (record_at table k) ≡ accepted gs → j < n
    → read_gate head (k + j) (record_at table (k + j)) ≡ accepted (gate_at gs j)
each_read head table k zero j gs e l = absurd (omega arith)
each_read head table k (suc n) zero gs e l =
    let s = gates_cons head k n (record_at table k) gs e in rw (add-zero k, s.2) s.3
each_read head table k (suc n) (suc j) gs e l =
    let s = gates_cons head k n (record_at table k) gs e in
    let after : record_at table (suc k) ≡ drop 8 (record_at table k) = rw (← add-one k) (next_record table k) in
    rw (moved k j, s.2) (each_read head table (suc k) n j s.1 (rw after s.4) (omega arith))

-- both operands of a MUL are among those that it reads
mul_below : (k : ℕ) (g : Gate) → Named k g → is_mul g ≡ true → higher g < k
mul_below k (Left a) n m = absurd (false≢true m)
mul_below k (Right a) n m = absurd (false≢true m)
mul_below k (Add a b) n m = absurd (false≢true m)
mul_below k (Sub a b) n m = absurd (false≢true m)
mul_below k (Scale a c) n m = absurd (false≢true m)
mul_below k (Flip a) n m = absurd (false≢true m)
mul_below k (Mul a b) n m = omega (arith, n.0, n.1.0)

-- each MUL has lower gates as its operands
abbrev pub Lower : List Gate → Type 0
Lower gates = (k : ℕ) → k < length gates → is_mul (gate_at gates k) ≡ true → higher (gate_at gates k) < k

-- the record of gate number k lies within the table, and its number is small
abbrev pub Placed : List ℕ → ℕ → Type 0
Placed table k = (8 * (k + 1) + 8 ≤ length table) × (k < most_gates)

module _ (table : List ℕ) (k : ℕ) (l : k < length (gates_of table)) where
  abbrev gate : Gate
  gate = gate_at (gates_of table) k

  were_read : gates_read (reading table) ≡ accepted (length (gates_of table))
  unfolding gates_of
  were_read = some_read (reading table) (omega arith)

  gate_read : read_gate (head_of table) k (record_at table k) ≡ accepted gate
  unfolding gates_of
  gate_read =
      let t = table_read table _ were_read in
      rw (zero-add k) at (each_read (head_of table) table 0 _ k t.0.gates (gates_read_lem table _ were_read) l)
      ∙ ap (λ (read : Answer Table). accepted (gate_at (gates_in read) k)) (sym t.1)

  said : Says (head_of table) k (record_at table k) gate
  said = says (head_of table) k (record_at table k) gate gate_read

  pub placed : Placed table k
  placed = omega (arith, long table _ were_read, (count_range table _ were_read).1)

  u16_is : (i : ℕ) → u16_at (record_at table k) i ≡ u16_at table (8 * (k + 1) + i)
  u16_is i =
      let next : 8 * (k + 1) + (i + 1) ≡ 8 * (k + 1) + i + 1 = omega arith in
      rw (get_or-drop (8 * (k + 1)) table i 0, get_or-drop (8 * (k + 1)) table (i + 1) 0, next)

  pub kind_is : (fields gate).kind ≡ byte table (8 * (k + 1) + 2)
  kind_is = said.kind ∙ get_or-drop (8 * (k + 1)) table 2 0

  pub pair_is : ((fields gate).a ≡ u16_at table (8 * (k + 1) + 4)) × ((fields gate).b ≡ u16_at table (8 * (k + 1) + 6))
  pair_is = (said.a ∙ u16_is 4, said.b ∙ u16_is 6)

  pub operands_are : operands_at (lent_at table k) ≡ operands gate
  operands_are = rw (lent_is table k) (says_operands (head_of table) k (record_at table k) gate gate_read)

  reads_lower : Named k gate
  reads_lower = named (head_of table) k gate said.fitted

  -- within a list that has an entry for each gate
  pub operands_within : (size : ℕ) → length (gates_of table) ≤ size → Every (λ (i : ℕ). i < size) (operands_at (lent_at table k))
  operands_within size room = rw operands_are (every_map (λ (i : ℕ) (h : i < k). omega arith) (operands gate) reads_lower)

pub operands_lower : (table : List ℕ) → Lower (gates_of table)
operands_lower table k l m = mul_below k (gate_at (gates_of table) k) (reads_lower table k l) m
