-- The terms of a piece as they are written one by one: what is left after each.
-- Assumes nothing.
use Rattle.std.proofs.Common.{◌≡◌, sym, ap, subst, ◌∙◌, List, ◌++◌, ℕ, suc, ◌+◌, ◌-◌, ◌≤◌, ◌<◌, arith, add-one, eqb, length, length-append}
use Rattle.field.specs.Logarithm.{clog}
use Rattle.circuit.specs.Constant.{code, signed, bits_of}
use Rattle.circuit.specs.Gate.{Gate, Scale}
use Rattle.comparison.specs.OrderDigit.{low_power}
use Rattle.writer.specs.declared.Node.{Node}
use Rattle.writer.specs.declared.Writer.{Writer}
use Rattle.writer.specs.Writing.{Writes}
use Rattle.writer.proofs.Writing.{same_writes}
use Rattle.writer.specs.Leaves.{Leaves}
use Rattle.writer.proofs.Leaves.{leaves_as, leaves_then}
use Rattle.writer.specs.Modulus.{Modulus}
use Rattle.step.specs.Coefficient.{coefficient}
use Rattle.step.specs.Pieces.{Sum, Piece, next_term, terms_from}
use Rattle.pieces.proofs.Coefficients.{bits_test, bits_read}

module _ (p step z o : ℕ) where
  -- the terms from exponent e on
  abbrev pub rest : ℕ → ℕ → Sum → Piece
  rest e k sum = terms_from p step z (coefficient p) (step + 1 - e) o e k sum

  -- the next one
  abbrev next : ℕ → ℕ → Sum → Piece
  next e k sum = next_term (eqb (coefficient p (o + e)) 0) k (Scale (low_power z e) (code p (coefficient p (o + e)))) (clog e) sum

  rest_cons : (e k : ℕ) (sum : Sum) → e ≤ step
      → let first = next e k sum in
      let later = rest (e + 1) (k + length first.gates) first.sum in
      rest e k sum ≡ record { gates = first.gates ++ later.gates; sum = later.sum }
  unfolding terms_from
  rest_cons e k sum l =
      let n : step + 1 - e ≡ suc (step + 1 - (e + 1)) = omega arith in
      rw (n, add-one e)

  -- the same by the bits and the power that the code holds
  abbrev next_by : ℕ → Node → ℕ → Sum → Piece
  next_by bits power k sum = next_term (eqb bits 0) k (Scale power.gate (signed bits)) power.depth sum

  module _ (modulus : Modulus p) (e bits : ℕ) (power : Node) (l : e ≤ step) (constant : bits ≡ bits_of p (coefficient p (o + e)))
      (gate : power.gate ≡ low_power z e) (depth : power.depth ≡ clog e) where
    same_next : (k : ℕ) (sum : Sum) → next_by bits power k sum ≡ next e k sum
    same_next k sum = rw (constant, gate, depth, bits_test p modulus (o + e), bits_read p modulus (o + e))

    -- there is room for it
    pub next_room : {w₀ w : Writer} {all : List Gate} (sum : Sum) → Leaves w₀ all w (rest e w.pen.next sum).gates
        → w.pen.next + length (next_by bits power w.pen.next sum).gates ≤ w₀.pen.next + length all
    next_room {w = w} sum r =
        let k = w.pen.next in
        let first = next e k sum in
        let later = rest (e + 1) (k + length first.gates) first.sum in
        let split = ap (λ (t : Piece). length t.gates) (rest_cons e k sum l) in
        let same = ap (λ (t : Piece). length t.gates) (same_next k sum) in
        omega (arith, r.number, split, same, length-append first.gates later.gates)

    -- and after it the others are left
    pub next_written : {w₀ w w' : Writer} {all : List Gate} (sum sum' total : Sum)
        → Leaves w₀ all w (rest e w.pen.next sum).gates → (rest e w.pen.next sum).sum ≡ total
        → Writes w (next_by bits power w.pen.next sum).gates w' → sum' ≡ (next_by bits power w.pen.next sum).sum
        → Leaves w₀ all w' (rest (e + 1) w'.pen.next sum').gates × ((rest (e + 1) w'.pen.next sum').sum ≡ total)
    next_written {w₀} {w} {w'} {all} sum sum' total r t put s =
        let next_gate = w.pen.next in
        let first = next e next_gate sum in
        let same = same_next next_gate sum in
        let split = rest_cons e next_gate sum l in
        let written : Writes w first.gates w' = same_writes (ap (λ (x : Piece). x.gates) same) put in
        let after : next_gate + length first.gates ≡ w'.pen.next = sym written.wrote.number in
        let held : first.sum ≡ sum' = sym (s ∙ ap (λ (x : Piece). x.sum) same) in
        let later : Piece → Type 0 = λ x. Leaves w₀ all w' x.gates × (x.sum ≡ total) in
        subst (λ (k : ℕ). later (rest (e + 1) k sum')) after
        (subst (λ (u : Sum). later (rest (e + 1) (next_gate + length first.gates) u)) held
        (leaves_then (leaves_as (ap (λ (x : Piece). x.gates) split) r) written, sym (ap (λ (x : Piece). x.sum) split) ∙ t))

  -- nothing is left after the last
  pub rest_none : (e k : ℕ) (sum : Sum) → step < e → rest e k sum ≡ terms_from p step z (coefficient p) 0 o e k sum
  rest_none e k sum l = let n : step + 1 - e ≡ 0 = omega arith in rw n
