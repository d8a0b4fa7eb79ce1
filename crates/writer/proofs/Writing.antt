-- Laws of writing: nothing is written, one gate is, and what is written one after the other. Bytes laid over a table one part after the other
-- are the whole laid over it, and counts add up.
-- Assumes nothing.
use Rattle.std.proofs.lemmas.List.Edits.{sets, sets-eq}
use Rattle.std.proofs.Common.{◌≡◌, refl, sym, ap, ◌∙◌, subst, List, [], ◌∷◌, ◌++◌, ℕ, ◌+◌, ◌*◌, ◌≤◌, length, drop, arith, length-append}
use Rattle.answer.proofs.Lent.{sets_append}
use Rattle.circuit.specs.Count.{count, is_product, is_square}
use Rattle.circuit.specs.Gate.{Gate, gate_bytes}
use Rattle.circuit.specs.Table.{gates_bytes, table_bytes, head_bytes, Table}
use Rattle.circuit.proofs.Count.{count_append}
use Rattle.circuit.proofs.Reading.{length_gates, bytes_append, head_length}
use Rattle.writer.specs.declared.Pen.{Pen}
use Rattle.writer.specs.declared.Writer.{Writer}
use Rattle.writer.specs.Pen.{laid, Wrote}
use Rattle.writer.specs.Writing.{Writes}

-- ---- bytes

pub laid_append : (table : List ℕ) (k : ℕ) (gs hs : List Gate) → laid table k (gs ++ hs) ≡ laid (laid table k gs) (k + length gs) hs
unfolding laid
laid_append table k gs hs =
    let e : 8 * (k + 1) + length (gates_bytes gs) ≡ 8 * (k + length gs + 1) = omega (arith, length_gates gs) in
    ap (sets table (8 * (k + 1))) (bytes_append gs hs)
    ∙ sets_append table (8 * (k + 1)) (gates_bytes gs) (gates_bytes hs)
    ∙ ap (λ (i : ℕ). sets (sets table (8 * (k + 1)) (gates_bytes gs)) i (gates_bytes hs)) e

-- the head, then all gates: the table's bytes, and the later ones as they were
pub whole : (table : Table) (lent : List ℕ) → 8 * (length table.gates + 1) ≤ length lent
    → laid (sets lent 0 (head_bytes table.head (length table.gates))) 0 table.gates
    ≡ table_bytes table ++ drop (8 * (length table.gates + 1)) lent
unfolding laid
whole table lent room =
    let head = head_bytes table.head (length table.gates) in
    let gates = gates_bytes table.gates in
    let eight : length head ≡ 8 = head_length table.head (length table.gates) in
    let size : length (head ++ gates) ≡ 8 * (length table.gates + 1) = length-append head gates ∙ omega (arith, length_gates table.gates) in
    let first : 8 * (0 + 1) ≡ 0 + length head = omega arith in
    let end : 0 + length (head ++ gates) ≡ 8 * (length table.gates + 1) = omega (arith, size) in
    ap (λ (k : ℕ). sets (sets lent 0 head) k gates) first
    ∙ sym (sets_append lent 0 head gates)
    ∙ sets-eq (head ++ gates) lent 0 (omega (arith, size))
    ∙ ap (λ (k : ℕ). (head ++ gates) ++ drop k lent) end

-- ---- writing

-- nothing is written
pub none : {table : List ℕ} {pen : Pen} → Wrote table pen [] table pen
unfolding laid gates_bytes count
none = record { bytes = refl; number = omega arith; products = omega arith; squares = omega arith }

-- one gate
pub one : {table : List ℕ} {pen : Pen} (g : Gate) {table' : List ℕ} {pen' : Pen} → table' ≡ sets table (8 * (pen.next + 1)) (gate_bytes g)
    → (pen'.next ≡ pen.next + 1) × (pen'.products ≡ pen.products + count is_product (g ∷ [])) × (pen'.squares ≡ pen.squares + count is_square (g ∷ []))
    → Wrote table pen (g ∷ []) table' pen'
unfolding laid gates_bytes
one g bytes counts = record { bytes = bytes; number = counts.0; products = counts.1; squares = counts.2 }

-- the same gates, said in another way
pub same_gates : {table table' : List ℕ} {pen pen' : Pen} {gs hs : List Gate} → gs ≡ hs → Wrote table pen gs table' pen'
    → Wrote table pen hs table' pen'
same_gates {table = table} {table' = table'} {pen = pen} {pen' = pen'} e w =
    subst (λ (gates : List Gate). Wrote table pen gates table' pen') e w

-- one after the other
pub then : {table table₁ table₂ : List ℕ} {pen pen₁ pen₂ : Pen} {gs hs : List Gate} → Wrote table pen gs table₁ pen₁
    → Wrote table₁ pen₁ hs table₂ pen₂ → Wrote table pen (gs ++ hs) table₂ pen₂
then {table = table} {pen = pen} {gs = gs} {hs = hs} a b = record {
  bytes = b.bytes ∙ cc (a.bytes, a.number, laid_append table pen.next gs hs);
  number = omega (arith, a.number, b.number, length-append gs hs);
  products = omega (arith, a.products, b.products, count_append is_product gs hs);
  squares = omega (arith, a.squares, b.squares, count_append is_square gs hs);
}

-- ---- a writer

-- one after the other
pub follows : {w w₁ w₂ : Writer} {gs hs : List Gate} → Writes w gs w₁ → Writes w₁ hs w₂ → Writes w (gs ++ hs) w₂
follows {gs = gs} {hs = hs} a b = record {
  wrote = then a.wrote b.wrote;
  moved = omega (arith, a.moved, b.moved, length-append gs hs);
  size = b.size ∙ a.size;
  lent = b.lent ∙ a.lent;
}

-- nothing is written
pub idle : {w : Writer} → w.pen.products ≤ w.pen.next → w.pen.squares ≤ w.pen.next → Writes w [] w
idle products squares = record { wrote = none; moved = omega arith; size = refl; lent = refl }

-- the same gates, said in another way
pub same_writes : {w w' : Writer} {gs hs : List Gate} → gs ≡ hs → Writes w gs w' → Writes w hs w'
same_writes {w = w} {w' = w'} e a = subst (λ (gates : List Gate). Writes w gates w') e a
