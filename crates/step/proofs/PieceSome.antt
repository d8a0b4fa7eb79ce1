-- A piece with a term leaves a sum; its gates name only lower gates, and the sum that it leaves is the last of them.
-- By induction on the exponents of a piece that does not split, and on the level of one that does.
-- Assumes nothing.
use mathlib.Core.Path.{◌≡◌, sym, ap, ◌∙◌}
use mathlib.Core.Logic.{◌≢◌}
use mathlib.Core.Bool.{Bool, true, false}
use mathlib.Core.List.{◌++◌}
use Prim.Native.Nat.{ℕ, zero, suc, ◌+◌, ◌-◌, ◌*◌, ◌^◌, ◌≤◌, ◌<◌}
use native.Mathlib.Omega.{arith}
use native.Mathlib.Nat.{pow-succ', lt_of_not-le}
use native.Mathlib.Decide.{dec_le, ℕ_discrete}
use borrow.Author.Tests.{ne_eqb}
use lib.Dec.{eqb}
use lib.ListN.{length, length-append}
use Rattle.field.specs.Logarithm.{clog}
use Rattle.field.proofs.Tests.{cases}
use Rattle.circuit.specs.Constant.{code}
use Rattle.circuit.specs.Gate.{Gate, Scale}
use Rattle.circuit.specs.Segment.{Node}
use Rattle.comparison.specs.OrderDigit.{low_power}
use Rattle.step.specs.Pieces.{Sum, none, held, add_term, next_term, last_gates, last_sum, terms_from, piece}
use Rattle.step.specs.Powers.{split_node}

-- ---- a sum is there

abbrev pub Some : Sum → Type 0
Some none = ⊥
Some (held s) = Unit {0}

next_keeps : (b : Bool) (k depth : ℕ) (g : Gate) (sum : Sum) → Some sum → Some (next_term b k g depth sum).sum
next_keeps true k depth g sum h = h
next_keeps false k depth g none h = tt
next_keeps false k depth g (held s) h = tt

add_some : (k depth : ℕ) (g : Gate) (sum : Sum) → Some (add_term k g depth sum).sum
add_some k depth g none = tt
add_some k depth g (held s) = tt

last_low : (power : Node) (k : ℕ) (l h : Sum) → Some l → Some (last_sum power k l h)
last_low power k l none some = some
last_low power k none (held h) some = tt
last_low power k (held l) (held h) some = tt

last_high : (power : Node) (k : ℕ) (l h : Sum) → Some h → Some (last_sum power k l h)
last_high power k l none some = absurd some
last_high power k none (held h) some = tt
last_high power k (held l) (held h) some = tt

module _ (p step z : ℕ) (c : ℕ → ℕ) where
  terms_keep : (n o e k : ℕ) (sum : Sum) → Some sum → Some (terms_from p step z c n o e k sum).sum
  unfolding terms_from
  terms_keep zero o e k sum h = h
  terms_keep (suc n) o e k sum h = terms_keep n o (suc e) _ _ (next_keeps (eqb (c (o + e)) 0) k (clog e) _ sum h)

  terms_some : (n o e k : ℕ) (sum : Sum) (f : ℕ) → e ≤ f → f < e + n → c (o + f) ≢ 0 → Some (terms_from p step z c n o e k sum).sum
  unfolding terms_from
  terms_some zero o e k sum f l m there = absurd (omega arith)
  terms_some (suc n) o e k sum f l m there =
      cases (ℕ_discrete e f)
      (λ same.
      let e : eqb (c (o + e)) 0 ≡ false = ne_eqb _ 0 (λ q. there (ap (λ (t : ℕ). c (o + t)) (sym same) ∙ q)) in
      terms_keep n o _ _ _ (rw e (add_some k _ _ sum)))
      (λ other. terms_some n o (suc e) _ _ f (omega arith) (omega arith) there)

  pub piece_some : (levels o k e : ℕ) → 1 ≤ e → e ≤ step * 2 ^ levels → c (o + e) ≢ 0 → Some (piece p step z c levels o k).sum
  unfolding piece
  piece_some zero o k e one l there = terms_some step o 1 k none e one (omega arith) there
  piece_some (suc i) o k e one l there =
      let m = step * 2 ^ i in
      let lower = piece p step z c i o k in
      let upper = piece p step z c i (o + m) (k + length lower.gates) in
      let next = k + length lower.gates + length upper.gates in
      cases (dec_le e m)
      (λ low. last_low (split_node z step i) next lower.sum upper.sum (piece_some i o k e one low there))
      (λ high.
      let whole : step * 2 ^ suc i ≡ m + m = omega (arith, ap (λ (t : ℕ). step * t) (pow-succ' 2 i)) in
      let above = lt_of_not-le high in
      let same : o + m + (e - m) ≡ o + e = omega arith in
      last_high (split_node z step i) next lower.sum upper.sum
      (piece_some i (o + m) (k + length lower.gates) (e - m) (omega arith) (omega arith) (λ q. there (ap c (sym same) ∙ q))))

-- ---- and without a gate there is none

abbrev pub Nothing : Sum → Type 0
Nothing none = Unit {0}
Nothing (held s) = ⊥

next_nothing : (b : Bool) (k depth : ℕ) (g : Gate) (sum : Sum) → Nothing sum → length (next_term b k g depth sum).gates ≡ 0
    → Nothing (next_term b k g depth sum).sum
next_nothing true k depth g sum h e = h
next_nothing false k depth g none h e = absurd (omega arith)
next_nothing false k depth g (held s) h e = absurd h

last_nothing : (power : Node) (k : ℕ) (l h : Sum) → Nothing l → Nothing h → Nothing (last_sum power k l h)
last_nothing power k l none hl hh = hl
last_nothing power k l (held h) hl hh = absurd hh

module _ (p step z : ℕ) (c : ℕ → ℕ) where
  terms_nothing : (n o e k : ℕ) (sum : Sum) → Nothing sum → length (terms_from p step z c n o e k sum).gates ≡ 0
      → Nothing (terms_from p step z c n o e k sum).sum
  unfolding terms_from
  terms_nothing zero o e k sum h q = h
  terms_nothing (suc n) o e k sum h q =
      let a = c (o + e) in
      let g = Scale (low_power z e) (code p a) in
      let first = next_term (eqb a 0) k g (clog e) sum in
      let next = k + length first.gates in
      let both = length-append first.gates (terms_from p step z c n o (suc e) next first.sum).gates in
      terms_nothing n o (suc e) next first.sum (next_nothing (eqb a 0) k (clog e) g sum h (omega arith)) (omega arith)

  pub piece_nothing : (i o k : ℕ) → length (piece p step z c i o k).gates ≡ 0 → Nothing (piece p step z c i o k).sum
  unfolding piece
  piece_nothing zero o k q = terms_nothing step o 1 k none tt q
  piece_nothing (suc i) o k q =
      let m = o + step * 2 ^ i in
      let lower = piece p step z c i o k in
      let middle = k + length lower.gates in
      let upper = piece p step z c i m middle in
      let next = middle + length upper.gates in
      let last = last_gates (split_node z step i) next lower.sum upper.sum in
      let all = length-append lower.gates (upper.gates ++ last) in
      let rest = length-append upper.gates last in
      last_nothing (split_node z step i) next lower.sum upper.sum
      (piece_nothing i o k (omega arith)) (piece_nothing i m middle (omega arith))
