-- The gates of Run one after the other: those that are left, run on the values so far, give all values.
-- Assumes nothing.
use Rattle.std.proofs.Common.{◌≡◌, refl, sym, ap, ap₂, ◌∙◌, List, [], ◌∷◌, ◌++◌, ℕ, ◌+◌, ◌-◌, ◌≤◌, ◌<◌, zero-le, arith, add-one, length, take, drop, set, get_or, length-set, take-append-drop, length-take-le, take-suc-set, drop-set-lt}
use native.Mathlib.Nat.{sub-zero}
use lib.ListN.{get_or-append}
use Rattle.answer.specs.Outcome.{Answer, accepted}
use Rattle.answer.proofs.Outcome.{accepted_same}
use Rattle.circuit.specs.Gate.{Gate}
use Rattle.circuit.specs.Meaning.{Algebra, meaning, entry_of, interpret, entries, output}
use Rattle.circuit.specs.Reading.{head_of, read_gate, read_gates, reading}
use Rattle.circuit.specs.Table.{Head}
use Rattle.circuit.specs.Value.{values}
use Rattle.circuit.proofs.Meaning.{interpret_length}
use Rattle.records.specs.Read.{gates_read, gates_in}
use Rattle.records.proofs.Read.{table_read, gates_read_lem}
use Rattle.records.proofs.Records.{record_at, next_gate}
use Rattle.runner.specs.Running.{CanRun, value_in, values_in}

-- k gates have run
pub record Underway (alg : Algebra ℕ) (table : List ℕ) (count : ℕ) (work₀ work : List ℕ) (k : ℕ) : Type 0 where
  pub few : k ≤ count
  pub size : length work ≡ length work₀
  pub kept : drop count work ≡ drop count work₀
  pub rest : List Gate
  pub read : read_gates (head_of table) k (count - k) (record_at table k) ≡ accepted rest
  pub whole : interpret alg (take k work) rest ≡ values_in alg (reading table)

pub begin : (alg : Algebra ℕ) (table : List ℕ) (count : ℕ) (work : List ℕ) → gates_read (reading table) ≡ accepted count
    → Underway alg table count work work 0
begin alg table count work e =
    let t = table_read table count e in
    record {
      few = zero-le;
      size = refl;
      kept = refl;
      rest = t.0.gates;
      read = ap (λ (n : ℕ). read_gates (head_of table) 0 n (drop 8 table)) (sub-zero count) ∙ gates_read_lem table count e;
      whole = ap (values_in alg) (sym t.1);
    }

module _ {alg : Algebra ℕ} {table : List ℕ} {count : ℕ} {work₀ work : List ℕ} {k : ℕ} (u : Underway alg table count work₀ work k) where
  module _ (less : k < count) (room : count ≤ length work₀) where
    -- the next gate, and the later ones
    next : (g : Gate) × (later : List Gate) × (u.rest ≡ g ∷ later) × (read_gate (head_of table) k (record_at table k) ≡ accepted g)
        × (read_gates (head_of table) (k + 1) (count - (k + 1)) (record_at table (k + 1)) ≡ accepted later)
    next = next_gate (head_of table) table count k u.rest less u.read

    -- the record as the code has it, under the head and after the values so far
    module _ (head : Head) (bytes : List ℕ) (same : head ≡ head_of table) (is : bytes ≡ record_at table k) where
      abbrev gate_read : Answer Gate
      gate_read = read_gate head (length (take k work)) bytes

      next_read : gate_read ≡ accepted next.0
      next_read =
          ap (λ (h : Head). read_gate h (length (take k work)) bytes) same
          ∙ ap₂ (read_gate (head_of table)) (length-take-le k work (omega (arith, u.size))) is
          ∙ next.3

      pub ready : CanRun gate_read
      ready = record { value = next.0; accept = next_read }

      pub turn : (value : ℕ) → value ≡ value_in alg (take k work) gate_read → Underway alg table count work₀ (set work k value) (k + 1)
      unfolding interpret
      turn value e =
          let made : value ≡ meaning alg (entry_of alg (take k work)) next.0 = e ∙ ap (value_in alg (take k work)) next_read in
          let more : take (k + 1) (set work k value) ≡ take k work ++ (value ∷ [])
          = rw add-one (take-suc-set work k value (omega (arith, u.size))) in
          record {
            few = omega arith;
            size = simp length-set u.size;
            kept = drop-set-lt count work k value less ∙ u.kept;
            rest = next.1;
            read = next.4;
            whole =
                ap (λ (l : List ℕ). interpret alg l next.1) (more ∙ ap (λ (v : ℕ). take k work ++ (v ∷ [])) made)
                ∙ ap (interpret alg (take k work)) (sym next.2)
                ∙ u.whole;
          }

  pub ended : count ≤ k → work ≡ values_in alg (reading table) ++ drop count work₀
  unfolding interpret read_gates
  ended l =
      let none : count - k ≡ 0 = omega arith in
      let all : k ≡ count = omega (arith, u.few) in
      let over : [] ≡ u.rest = accepted_same (rw none at u.read) in
      sym (take-append-drop k work)
      ∙ ap₂ ◌++◌ (ap (interpret alg (take k work)) over ∙ u.whole) (ap (λ (n : ℕ). drop n work) all ∙ u.kept)

-- the last of the values is the output
pub last_value : (p : ℕ) (left right bytes : List ℕ) (count : ℕ) (work after : List ℕ) → gates_read (reading bytes) ≡ accepted count → 1 ≤ count
    → after ≡ values_in (values p left right) (reading bytes) ++ drop count work
    → get_or after (count - 1) 0 ≡ output (values p left right) (gates_in (reading bytes))
last_value p left right bytes count work after e some made =
    let t = table_read bytes count e in
    let alg : Algebra ℕ = values p left right in
    let gates : List Gate = t.0.gates in
    let all : after ≡ entries alg gates ++ drop count work = rw t.1 at made in
    let below : count - 1 < length (entries alg gates) = omega (arith, interpret_length alg [] gates, t.2) in
    rw (t.1, all) (get_or-append (entries alg gates) (drop count work) 0 (count - 1) below ∙ ap (λ (n : ℕ). get_or (entries alg gates) (n - 1) 0) (sym t.2))
