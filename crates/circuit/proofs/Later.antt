-- Later bytes are not looked at: the head is eight bytes, and each record is the next eight.
-- Assumes nothing.
use mathlib.Core.Path.{◌≡◌, refl, sym, subst}
use mathlib.Core.List.{List, ◌++◌}
use Prim.Native.Nat.{ℕ, zero, suc, ◌+◌, ◌*◌, ◌≤◌, ◌<◌}
use native.Mathlib.Omega.{arith}
use borrow.Author.Tests.{le-ltb}
use lib.ListN.{length, drop, length-append, length-drop, get_or-append}
use lib.Seq.{drop-append-le}
use Rattle.answer.specs.Outcome.{refused}
use Rattle.answer.proofs.Outcome.{on_answer_same}
use Rattle.circuit.specs.Bytes.{byte}
use Rattle.circuit.specs.Promises.{LaterBytes}
use Rattle.circuit.specs.Reading.{read_gate, read_gates, count_of, read_head, read_table}
use Rattle.circuit.specs.Table.{Head}
use Rattle.circuit.proofs.Reading.{eight}

gate_kept : (head : Head) (k : ℕ) (bytes later : List ℕ) → 8 ≤ length bytes → read_gate head k (bytes ++ later) ≡ read_gate head k bytes
gate_kept head k bytes later h =
    subst (λ (l : List ℕ). read_gate head k (l ++ later) ≡ read_gate head k l) (sym (eight bytes h)) refl

gates_kept : (head : Head) (k count : ℕ) (bytes later : List ℕ) → 8 * count ≤ length bytes
    → read_gates head k count (bytes ++ later) ≡ read_gates head k count bytes
unfolding read_gates
gates_kept head k zero bytes later h = refl
gates_kept head k (suc count) bytes later h =
    let room : 8 * count ≤ length (drop 8 bytes) = rw length-drop (omega arith) in
    rw (gate_kept head k bytes later (omega arith), drop-append-le 8 bytes later (omega arith), gates_kept head (suc k) count (drop 8 bytes) later room)

byte_kept : (bytes later : List ℕ) → 8 ≤ length bytes → (i : ℕ) → i < 8 → byte (bytes ++ later) i ≡ byte bytes i
byte_kept bytes later h i l = get_or-append bytes later 0 i (omega arith)

module _ (bytes later : List ℕ) (least : 8 ≤ length bytes) (room : 8 * (count_of bytes + 1) ≤ length bytes) where
  head_kept : read_head (bytes ++ later) ≡ read_head bytes
  head_kept =
      let same = byte_kept bytes later least in
      let size = length-append bytes later in
      let some = le-ltb (length (bytes ++ later)) 8 (omega arith) in
      let enough = le-ltb (length (bytes ++ later)) (8 * (count_of bytes + 1)) (omega arith) in
      rw (same 0 (omega arith), same 1 (omega arith), same 2 (omega arith), same 3 (omega arith), same 4 (omega arith))
      (rw (same 5 (omega arith), same 6 (omega arith), same 7 (omega arith))
      (rw (some, le-ltb (length bytes) 8 least, enough, le-ltb (length bytes) (8 * (count_of bytes + 1)) room)))

  table_kept : (head : Head) → read_table (bytes ++ later) head ≡ read_table bytes head
  table_kept head =
      let same = byte_kept bytes later least in
      let rest : 8 * count_of bytes ≤ length (drop 8 bytes) = rw length-drop (omega arith) in
      let gates = gates_kept head 0 (count_of bytes) (drop 8 bytes) later rest in
      rw (same 6 (omega arith), same 7 (omega arith), drop-append-le 8 bytes later least, gates)

pub later_bytes : LaterBytes
later_bytes bytes later least room =
    rw (head_kept bytes later least room) (on_answer_same (read_head bytes) refused (table_kept bytes later least room))
