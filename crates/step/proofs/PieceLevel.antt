-- A piece by its level: it is no deeper than ceil(log2 k) and its level together, exactly so where its upper half has a term;
-- and above the level that reaches its degree nothing is written.
-- By induction on the exponents of a piece that does not split, and on the level of one that does.
-- Assumes nothing.
use mathlib.Core.Path.{◌≡◌, refl, ap, ◌∙◌}
use mathlib.Core.Bool.{Bool, true, false}
use mathlib.Core.List.{[], append-nil}
use Prim.Native.Nat.{ℕ, zero, suc, ◌+◌, ◌*◌, ◌^◌, ◌≤◌, ◌<◌}
use native.Mathlib.Omega.{arith}
use native.Mathlib.Nat.{add-zero, add-suc, add_assoc, pow-succ', le_refl}
use borrow.Author.Tests.{eq-eqb}
use lib.Dec.{eqb}
use lib.ListN.{length}
use Rattle.field.specs.Logarithm.{clog}
use Rattle.field.proofs.Logarithm.{clog_mono}
use Rattle.circuit.specs.Constant.{code}
use Rattle.circuit.specs.Gate.{Gate, Scale}
use Rattle.circuit.specs.Segment.{Node}
use Rattle.comparison.specs.OrderDigit.{low_power}
use Rattle.step.specs.Pieces.{Sum, none, held, Piece, next_term, last_sum, terms_from, piece}
use Rattle.step.specs.Powers.{split_node}
use Rattle.step.specs.Promises.{SplitsAtDegree}
use Rattle.step.proofs.PieceSome.{Some}

-- ---- depths

-- no deeper than d, where it is there
abbrev pub AtMost : ℕ → Sum → Type 0
AtMost d none = Unit {0}
AtMost d (held s) = s.depth ≤ d

next_shallow : (b : Bool) (k depth d : ℕ) (g : Gate) (sum : Sum) → depth ≤ d → AtMost d sum → AtMost d (next_term b k g depth sum).sum
next_shallow true k depth d g sum l h = h
next_shallow false k depth d g none l h = l
next_shallow false k depth d g (held s) l h = omega arith

last_shallow : (power : Node) (k : ℕ) (l h : Sum) → AtMost power.depth l → AtMost power.depth h
    → AtMost (suc power.depth) (last_sum power k l h)
last_shallow power k none none hl hh = tt
last_shallow power k (held l) none hl hh = omega arith
last_shallow power k none (held h) hl hh = omega arith
last_shallow power k (held l) (held h) hl hh = omega arith

-- exactly so deep
abbrev pub Exactly : ℕ → Sum → Type 0
Exactly d none = ⊥
Exactly d (held s) = s.depth ≡ d

last_exact : (power : Node) (k : ℕ) (l h : Sum) → AtMost power.depth l → AtMost power.depth h → Some h
    → Exactly (suc power.depth) (last_sum power k l h)
last_exact power k l none hl hh there = absurd there
last_exact power k none (held h) hl hh there = omega arith
last_exact power k (held l) (held h) hl hh there = omega arith

module _ (p step z : ℕ) (c : ℕ → ℕ) where
  terms_shallow : (n o e k : ℕ) (sum : Sum) → e + n ≤ suc step → AtMost (clog step) sum
      → AtMost (clog step) (terms_from p step z c n o e k sum).sum
  unfolding terms_from
  terms_shallow zero o e k sum l h = h
  terms_shallow (suc n) o e k sum l h =
      let a = c (o + e) in
      let g = Scale (low_power z e) (code p a) in
      let first = next_term (eqb a 0) k g (clog e) sum in
      terms_shallow n o (suc e) (k + length first.gates) first.sum (omega arith)
      (next_shallow (eqb a 0) k (clog e) (clog step) g sum (clog_mono (omega arith)) h)

  pub piece_shallow : (i o k : ℕ) → AtMost (clog step + i) (piece p step z c i o k).sum
  unfolding piece
  piece_shallow zero o k = rw (add-zero (clog step)) (terms_shallow step o 1 k none (omega arith) tt)
  piece_shallow (suc i) o k =
      let lower = piece p step z c i o k in
      let middle = k + length lower.gates in
      let upper = piece p step z c i (o + step * 2 ^ i) middle in
      rw (add-suc (clog step) i)
      (last_shallow (split_node z step i) (middle + length upper.gates) lower.sum upper.sum
      (piece_shallow i o k) (piece_shallow i (o + step * 2 ^ i) middle))

  pub piece_exact : (i o k : ℕ) → ((k' : ℕ) → Some (piece p step z c i (o + step * 2 ^ i) k').sum)
      → Exactly (clog step + suc i) (piece p step z c (suc i) o k).sum
  unfolding piece
  piece_exact i o k there =
      let lower = piece p step z c i o k in
      let middle = k + length lower.gates in
      let upper = piece p step z c i (o + step * 2 ^ i) middle in
      rw (add-suc (clog step) i)
      (last_exact (split_node z step i) (middle + length upper.gates) lower.sum upper.sum
      (piece_shallow i o k) (piece_shallow i (o + step * 2 ^ i) middle) (there middle))

  -- ---- pieces without a term

  abbrev empty : Piece
  empty = record { gates = []; sum = none }

  terms_empty : (n o e k : ℕ) → ((f : ℕ) → e ≤ f → c (o + f) ≡ 0) → terms_from p step z c n o e k none ≡ empty
  unfolding terms_from
  terms_empty zero o e k zeros = refl
  terms_empty (suc n) o e k zeros =
      let here : eqb (c (o + e)) 0 ≡ true = eq-eqb _ 0 (zeros e (le_refl e)) in
      rw (here, add-zero k) (terms_empty n o (suc e) k (λ f l. zeros f (omega arith)))

  piece_empty : (i o k : ℕ) → ((f : ℕ) → 1 ≤ f → c (o + f) ≡ 0) → piece p step z c i o k ≡ empty
  unfolding piece
  piece_empty zero o k zeros = terms_empty step o 1 k zeros
  piece_empty (suc i) o k zeros =
      let m = step * 2 ^ i in
      rw (
        piece_empty i o k zeros,
        add-zero k,
        piece_empty i (o + m) k (λ f l. ap c (add_assoc o m f) ∙ zeros (m + f) (omega arith)),
      )
      refl

  one_above : (i o k : ℕ) → ((e : ℕ) → step * 2 ^ i < e → c (o + e) ≡ 0) → piece p step z c (suc i) o k ≡ piece p step z c i o k
  unfolding piece
  one_above i o k zeros =
      let m = step * 2 ^ i in
      let lower = piece p step z c i o k in
      rw (piece_empty i (o + m) (k + length lower.gates) (λ f l. ap c (add_assoc o m f) ∙ zeros (m + f) (omega arith)), append-nil lower.gates)
      refl

pub splits_at_degree : SplitsAtDegree
splits_at_degree p step z i zero o k c zeros = rw (add-zero i) refl
splits_at_degree p step z i (suc above) o k c zeros =
    rw (add-suc i above)
    (one_above p step z c (i + above) o k (λ e l. zeros e (higher i above e l))
    ∙ splits_at_degree p step z i above o k c zeros)
  where
    higher : (i above e : ℕ) → step * 2 ^ (i + above) < e → step * 2 ^ i < e
    higher i zero e l = rw (add-zero i) at l
    higher i (suc above) e l =
        higher i above e (let half = pow-succ' 2 (i + above) in omega (arith, ap (λ (t : ℕ). step * t) half, ap (λ (t : ℕ). step * 2 ^ t) (add-suc i above)))
