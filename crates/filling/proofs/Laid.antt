-- The bytes of a table laid over lent ones: a head alone, and gates more under another head, are what the whole table laid at once leaves.
-- Assumes nothing.
use mathlib.Core.Path.{◌≡◌, sym, ap, ap₂, ◌∙◌}
use mathlib.Core.List.{List, [], ◌++◌, append_assoc, append-nil}
use Prim.Native.Nat.{ℕ, ◌+◌, ◌-◌, ◌*◌, ◌≤◌}
use native.Mathlib.Omega.{arith}
use lib.ListN.{length, drop, length-append, length-drop}
use lib.Seq.{sets, sets-eq, take_at, drop_at, drop-drop}
use Rattle.circuit.specs.Gate.{Gate}
use Rattle.circuit.specs.Table.{Head, Table, head_bytes, gates_bytes, table_bytes}
use Rattle.circuit.proofs.Reading.{length_gates, bytes_append, head_length, table_length}
use Rattle.query.specs.Outcomes.{table_room}

-- a head written anew over the old one, and bytes laid after those that stand behind it
relaid : (head head' old new later : List ℕ) (i : ℕ) → length head ≡ length head' → i ≡ length head' + length old → length new ≤ length later
    → sets (sets ((head ++ old) ++ later) 0 head') i new ≡ (head' ++ (old ++ new)) ++ drop (length new) later
relaid head head' old new later i same at fits =
    let long : length ((head ++ old) ++ later) ≡ length head + length old + length later
    = length-append (head ++ old) later ∙ ap (λ (n : ℕ). n + length later) (length-append head old) in
    let front : length (head' ++ old) ≡ i = length-append head' old ∙ sym at in
    let both : length ((head' ++ old) ++ later) ≡ i + length later = length-append (head' ++ old) later ∙ ap (λ (n : ℕ). n + length later) front in
    let first : sets ((head ++ old) ++ later) 0 head' ≡ (head' ++ old) ++ later
    = sets-eq head' ((head ++ old) ++ later) 0 (omega (arith, long, same))
    ∙ ap (λ (t : List ℕ). head' ++ t) (ap (drop (0 + length head')) (append_assoc head old later)
    ∙ drop_at head (old ++ later) (0 + length head') (omega (arith, same)))
    ∙ sym (append_assoc head' old later) in
    ap (λ (t : List ℕ). sets t i new) first
    ∙ sets-eq new ((head' ++ old) ++ later) i (omega (arith, both))
    ∙ ap₂ (λ (a b : List ℕ). (a ++ new) ++ b) (take_at (head' ++ old) later i front)
    (sym (drop-drop (length new) i ((head' ++ old) ++ later)) ∙ ap (drop (length new)) (drop_at (head' ++ old) later i front))
    ∙ ap (λ (t : List ℕ). t ++ drop (length new) later) (append_assoc head' old new)

-- bytes with a table at their start, the later ones as they were lent
abbrev pub over : Table → List ℕ → List ℕ
over table lent = table_bytes table ++ drop (table_room table) lent

pub over_length : (table : Table) (lent : List ℕ) → table_room table ≤ length lent → length (over table lent) ≡ length lent
over_length table lent room =
    length-append (table_bytes table) (drop (table_room table) lent) ∙ omega (arith, table_length table, length-drop (table_room table) lent)

-- gates more, under another head
pub over_more : (head head' : Head) (gates more : List Gate) (lent : List ℕ) → 8 * (length gates + length more + 1) ≤ length lent
    → sets (sets (over (record { head = head; gates = gates }) lent) 0 (head_bytes head' (length gates + length more)))
    (8 * (length gates + 1)) (gates_bytes more)
    ≡ over (record { head = head'; gates = gates ++ more }) lent
over_more head head' gates more lent room =
    let n = length gates in
    let eight = head_length head n in
    let eight' = head_length head' (n + length more) in
    let later = drop (8 * (n + 1)) lent in
    let left : length later ≡ length lent - 8 * (n + 1) = length-drop (8 * (n + 1)) lent in
    let all : length (gates ++ more) ≡ n + length more = length-append gates more in
    let end : 8 * (n + 1) + length (gates_bytes more) ≡ 8 * (length (gates ++ more) + 1) = omega (arith, length_gates more, all) in
    relaid (head_bytes head n) (head_bytes head' (n + length more)) (gates_bytes gates) (gates_bytes more) later (8 * (n + 1))
    (eight ∙ sym eight') (omega (arith, eight', length_gates gates)) (omega (arith, left, length_gates more))
    ∙ ap₂ (λ (a b : List ℕ). a ++ b)
    (ap₂ (λ (k : ℕ) (b : List ℕ). head_bytes head' k ++ b) (sym all) (sym (bytes_append gates more)))
    (drop-drop (length (gates_bytes more)) (8 * (n + 1)) lent ∙ ap (λ (k : ℕ). drop k lent) end)

-- a head alone
pub over_none : (head : Head) (lent : List ℕ) → 8 ≤ length lent → sets lent 0 (head_bytes head 0) ≡ over (record { head = head; gates = [] }) lent
unfolding gates_bytes
over_none head lent room =
    let bytes = head_bytes head 0 in
    let end : 0 + length bytes ≡ 8 = omega (arith, head_length head 0) in
    sets-eq bytes lent 0 (omega (arith, end)) ∙ ap₂ (λ (a : List ℕ) (n : ℕ). a ++ drop n lent) (sym (append-nil bytes)) end
