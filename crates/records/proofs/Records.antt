-- The records of a table as the loops meet them: the bytes from one record on, and from the next, and the gates that are left, of which one is next.
-- Assumes nothing.
use Rattle.std.proofs.Common.{◌≡◌, ap₂, ◌∙◌, List, ◌∷◌, ℕ, ◌+◌, ◌-◌, ◌*◌, ◌≤◌, ◌<◌, add-one, arith, length, drop, drop-drop}
use Rattle.answer.specs.Outcome.{accepted}
use Rattle.circuit.specs.Gate.{Gate}
use Rattle.circuit.specs.Reading.{read_gate, read_gates}
use Rattle.circuit.specs.Table.{Head}
use Rattle.circuit.proofs.Reading.{gates_cons}
use Rattle.circuit.proofs.Records.{lent_from, lent_all, lent_whole, one_less}

-- the bytes from the record of gate number k on
abbrev pub record_at : List ℕ → ℕ → List ℕ
record_at table k = drop (8 * (k + 1)) table

-- the same, as the code lends them
abbrev pub lent_at : List ℕ → ℕ → List ℕ
lent_at table k = lent_from table (8 * (k + 1))

pub lent_is : (table : List ℕ) (k : ℕ) → lent_at table k ≡ record_at table k
lent_is table k = lent_all table (8 * (k + 1))

pub lent_long : (table : List ℕ) (count k : ℕ) → 8 * (count + 1) ≤ length table → k < count → 8 ≤ length (lent_at table k)
lent_long table count k l h = lent_whole table (8 * (k + 1)) 8 (omega arith)

pub next_record : (table : List ℕ) (k : ℕ) → record_at table (k + 1) ≡ drop 8 (record_at table k)
next_record table k = let after : 8 * (k + 1 + 1) ≡ 8 * (k + 1) + 8 = omega arith in rw (after, drop-drop)

-- the gates from number k on are one gate and those from the next number on
pub next_gate : (head : Head) (table : List ℕ) (count k : ℕ) (rest : List Gate) → k < count
    → read_gates head k (count - k) (record_at table k) ≡ accepted rest
    → (g : Gate) × (later : List Gate) × (rest ≡ g ∷ later) × (read_gate head k (record_at table k) ≡ accepted g)
    × (read_gates head (k + 1) (count - (k + 1)) (record_at table (k + 1)) ≡ accepted later)
next_gate head table count k rest less e =
    let s = gates_cons head k (count - (k + 1)) (record_at table k) rest (rw (one_less count k less) at e) in (
      s.0,
      s.1,
      s.2,
      s.3,
      ap₂ (λ (j : ℕ) (l : List ℕ). read_gates head j (count - (k + 1)) l) (add-one k) (next_record table k) ∙ s.4,
    )
