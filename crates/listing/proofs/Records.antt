-- The lines of a table's records are those of its gates, and are put one after the other.
-- Assumes nothing.
use Rattle.std.proofs.Common.{◌≡◌, refl, sym, ap, ap₂, ◌∙◌, true, List, [], ◌∷◌, ◌++◌, append_assoc, append-nil, ℕ, zero, suc, ◌+◌, ◌-◌, ◌*◌, ◌/◌, ◌%◌, ◌≤◌, ◌<◌, arith, length, drop, drop-drop}
use Rattle.circuit.specs.Gate.{Gate, Left, Right, Add, Sub, Scale, Flip, Mul, fields, gate_bytes}
use Rattle.circuit.specs.Table.{Head, gates_bytes, fits, all_fit}
use Rattle.circuit.proofs.Constant.{twos_complement}
use Rattle.circuit.proofs.Fitting.{Fitted, fitted, fit_cons}
use Rattle.records.proofs.Records.{lent_at, lent_is}
use Rattle.listing.specs.Lines.{constant_text, operand_text, gate_line, gate_lines}
use Rattle.text.specs.Putting.{Fits}
use Rattle.listing.specs.Records.{name_of, operand_of, record_line, record_lines}
use Rattle.listing.specs.Words.{kind_name}
use Rattle.text.proofs.Putting.{begins}

-- the two bytes of a u16
whole : (x : ℕ) → x % 256 + 256 * (x / 256) ≡ x
whole x = omega arith

name_of_lem : (g : Gate) → name_of (fields g).kind ≡ kind_name g
name_of_lem (Left a) = refl
name_of_lem (Right a) = refl
name_of_lem (Add a b) = refl
name_of_lem (Sub a b) = refl
name_of_lem (Scale a c) = refl
name_of_lem (Flip a) = refl
name_of_lem (Mul a b) = refl

module _ (head : Head) (small : head.prime ≤ 0x10000) where
  -- a constant within its range is read back from its sixteen bits
  operand_of_lem : (k : ℕ) (g : Gate) → Fitted head k g → operand_of (fields g).kind (fields g).b ≡ operand_text g
  operand_of_lem k (Left a) h = refl
  operand_of_lem k (Right a) h = refl
  operand_of_lem k (Add a b) h = refl
  operand_of_lem k (Sub a b) h = refl
  operand_of_lem k (Scale a c) h = ap constant_text (twos_complement.0 head.prime c small h.1).1
  operand_of_lem k (Flip a) h = refl
  operand_of_lem k (Mul a b) h = refl

  line_of : (k : ℕ) (g : Gate) (later : List ℕ) → fits head k g ≡ true → record_line k (gate_bytes g ++ later) ≡ gate_line k g
  line_of k g later t =
      rw (whole (fields g).a, whole (fields g).b, name_of_lem g, operand_of_lem k g (fitted head k g t))

  pub lines_of : (k : ℕ) (gs : List Gate) (later : List ℕ) → all_fit head k gs ≡ true
      → record_lines k (length gs) (gates_bytes gs ++ later) ≡ gate_lines k gs
  unfolding record_lines gate_lines gates_bytes
  lines_of k [] later t = refl
  lines_of k (g ∷ gs) later t =
      let s = fit_cons head k g gs t in
      ap₂ ◌++◌ (line_of k g (gates_bytes gs ++ later) s.0) (lines_of (suc k) gs later s.1)

-- the lines of some records, and of those after them
lines_split : (k m n : ℕ) (bytes : List ℕ)
    → record_lines k (m + n) bytes ≡ record_lines k m bytes ++ record_lines (k + m) n (drop (8 * m) bytes)
unfolding record_lines
lines_split k zero n bytes =
    let same : zero + n ≡ n = omega arith in
    let from : k + zero ≡ k = omega arith in
    rw (same, from)
lines_split k (suc m) n bytes =
    let same : suc m + n ≡ suc (m + n) = omega arith in
    let from : suc k + m ≡ k + suc m = omega arith in
    let far : 8 * suc m ≡ 8 + 8 * m = omega arith in
    rw (same, ← from, far, ← drop-drop (8 * m) 8 bytes, record_lines, lines_split (suc k) m n (drop 8 bytes))
    (sym (append_assoc (record_line k bytes) (record_lines (suc k) m (drop 8 bytes)) _))

-- one record more, as the code lends it
pub lines_more : (table : List ℕ) (k : ℕ)
    → record_lines 0 k (drop 8 table) ++ record_line k (lent_at table k) ≡ record_lines 0 (k + 1) (drop 8 table)
unfolding record_lines
lines_more table k =
    let here : drop (8 * k) (drop 8 table) ≡ lent_at table k
    = drop-drop (8 * k) 8 table ∙ ap (λ (i : ℕ). drop i table) (after k) ∙ sym (lent_is table k) in
    let from : 0 + k ≡ k = omega arith in
    rw (lines_split 0 k 1 (drop 8 table), here, from, append-nil)
  where
    after : (k : ℕ) → 8 + 8 * k ≡ 8 * (k + 1)
    after k = omega arith

-- room for all lines is room for those up to one record
pub lines_room : (out : List ℕ) (place : ℕ) (table : List ℕ) (count k : ℕ) → k < count
    → Fits out place (record_lines 0 count (drop 8 table)) → Fits out place (record_lines 0 k (drop 8 table) ++ record_line k (lent_at table k))
lines_room out place table count k less room =
    let bytes = drop 8 table in
    let parts : count ≡ k + 1 + (count - (k + 1)) = omega arith in
    let whole = rw (parts, lines_split 0 (k + 1) (count - (k + 1)) bytes) at room in
    rw (lines_more table k) (begins out place (record_lines 0 (k + 1) bytes) _ whole)
