-- The depth of a piece: over any entries that solve its gates, the sum that it leaves is as deep as its node says.
-- By induction on the exponents of a piece that does not split, and on the level of one that does.
-- Assumes nothing.
use mathlib.Core.Path.{◌≡◌, ap₂, ◌∙◌}
use mathlib.Core.Bool.{Bool, true, false}
use Prim.Native.Nat.{ℕ, zero, suc, ◌+◌, ◌*◌, ◌^◌, ◌≤◌, ◌<◌, max}
use native.Mathlib.Omega.{arith}
use lib.Dec.{eqb}
use lib.ListN.{length}
use Rattle.field.specs.Logarithm.{clog}
use Rattle.circuit.specs.Constant.{Constant, code}
use Rattle.circuit.specs.Depth.{depths}
use Rattle.circuit.specs.Gate.{Scale}
use Rattle.circuit.specs.Segment.{Node}
use Rattle.circuit.specs.Meaning.{Solves}
use Rattle.circuit.proofs.Meaning.{solves_append}
use Rattle.comparison.specs.OrderDigit.{low_power}
use Rattle.step.specs.Pieces.{Sum, none, held, next_term, last_gates, last_sum, terms_from, piece}
use Rattle.step.specs.Powers.{split_node}

module _ (E : ℕ → ℕ) where
  -- a node is as deep as it says
  abbrev pub Told : Sum → Type 0
  Told none = Unit {0}
  Told (held s) = E s.gate ≡ s.depth

  next_told : (k g depth : ℕ) (b : Constant) (test : Bool) (sum : Sum) → E g ≡ depth
      → Solves depths E k (next_term test k (Scale g b) depth sum).gates → Told sum → Told (next_term test k (Scale g b) depth sum).sum
  next_told k g depth b true sum known s t = t
  next_told k g depth b false none known s t = s.0 ∙ known
  next_told k g depth b false (held sum) known s t = s.1.0 ∙ ap₂ max t (s.0 ∙ known)

  last_told : (power : Node) (k : ℕ) (l h : Sum) → E power.gate ≡ power.depth → Solves depths E k (last_gates power k l h)
      → Told l → Told h → Told (last_sum power k l h)
  last_told power k l none known s tl th = tl
  last_told power k none (held h) known s tl th = s.0 ∙ ap₂ (λ (a b : ℕ). suc (max a b)) known th
  last_told power k (held l) (held h) known s tl th = s.1.0 ∙ ap₂ max tl (s.0 ∙ ap₂ (λ (a b : ℕ). suc (max a b)) known th)

  module _ (p step z : ℕ) (c : ℕ → ℕ) (low : (e : ℕ) → 1 ≤ e → e ≤ step → E (low_power z e) ≡ clog e) where
    terms_told : (n o e k : ℕ) (sum : Sum) → 1 ≤ e → e + n ≤ suc step
        → Solves depths E k (terms_from p step z c n o e k sum).gates → Told sum → Told (terms_from p step z c n o e k sum).sum
    unfolding terms_from
    terms_told zero o e k sum one l s t = t
    terms_told (suc n) o e k sum one l s t =
        let a = c (o + e) in
        let first = next_term (eqb a 0) k (Scale (low_power z e) (code p a)) (clog e) sum in
        let parts = solves_append depths E first.gates _ k s in
        terms_told n o (suc e) (k + length first.gates) first.sum (omega arith) (omega arith) parts.1
        (next_told k (low_power z e) (clog e) (code p a) (eqb a 0) sum (low e one (omega arith)) parts.0 t)

    pub piece_told : (levels : ℕ) → ((i : ℕ) → i < levels → E (low_power z step + i) ≡ clog step + i)
        → (o k : ℕ) → Solves depths E k (piece p step z c levels o k).gates → Told (piece p step z c levels o k).sum
    unfolding piece
    piece_told zero split o k s = terms_told step o 1 k none (omega arith) (omega arith) s tt
    piece_told (suc i) split o k s =
        let lower = piece p step z c i o k in
        let upper = piece p step z c i (o + step * 2 ^ i) (k + length lower.gates) in
        let parts = solves_append depths E lower.gates _ k s in
        let rest = solves_append depths E upper.gates _ (k + length lower.gates) parts.1 in
        last_told (split_node z step i) _ lower.sum upper.sum (split i (omega arith)) rest.1
        (piece_told i (λ j l. split j (omega arith)) o k parts.0)
        (piece_told i (λ j l. split j (omega arith)) (o + step * 2 ^ i) _ rest.0)
