-- How many gates a piece has, whether it leaves a sum and how deep, does not depend on where it and its powers are written;
-- and a bound of how many they are.
-- By induction on the exponents of a piece that does not split, and on the level of one that does.
-- Assumes nothing.
use mathlib.Core.Path.{◌≡◌, refl, sym, ap, ap₂, ◌∙◌}
use mathlib.Core.Bool.{Bool, true, false}
use mathlib.Core.List.{◌++◌}
use Prim.Native.Nat.{ℕ, zero, suc, ◌+◌, ◌*◌, ◌^◌, ◌≤◌, max}
use native.Mathlib.Omega.{arith}
use native.Mathlib.Nat.{pow-succ'}
use lib.Dec.{eqb}
use lib.ListN.{length, length-append}
use Rattle.field.specs.Logarithm.{clog}
use Rattle.circuit.specs.Constant.{code}
use Rattle.circuit.specs.Gate.{Gate, Scale}
use Rattle.circuit.specs.Segment.{Node}
use Rattle.comparison.specs.OrderDigit.{low_power}
use Rattle.step.specs.Pieces.{Sum, none, held, Piece, next_term, last_gates, last_sum, terms_from, piece}
use Rattle.step.specs.Powers.{split_node}

-- both are there and equally deep, or none is
abbrev pub Alike : Sum → Sum → Type 0
Alike none none = Unit {0}
Alike none (held t) = ⊥
Alike (held s) none = ⊥
Alike (held s) (held t) = s.depth ≡ t.depth

-- as many gates, and alike sums
abbrev pub SameSize : Piece → Piece → Type 0
SameSize a b = (length a.gates ≡ length b.gates) × Alike a.sum b.sum

next_same : (b : Bool) (j k d : ℕ) (g h : Gate) (s t : Sum) → Alike s t → SameSize (next_term b j g d s) (next_term b k h d t)
next_same false j k d g h (held s) none a = elim a [ ]
next_same false j k d g h none (held t) a = elim a [ ]
next_same true j k d g h s t a = (refl, a)
next_same false j k d g h none none a = (refl, refl)
next_same false j k d g h (held s) (held t) a = (refl, ap (λ (x : ℕ). max x d) a)

last_same : (m n : Node) (j k : ℕ) (l h l' h' : Sum) → m.depth ≡ n.depth → Alike l l' → Alike h h'
    → (length (last_gates m j l h) ≡ length (last_gates n k l' h')) × Alike (last_sum m j l h) (last_sum n k l' h')
last_same m n j k (held l) (held h) (held l') none e a b = elim b [ ]
last_same m n j k (held l) (held h) none _ e a b = elim a [ ]
last_same m n j k l none l' (held h') e a b = elim b [ ]
last_same m n j k none (held h) (held l') _ e a b = elim a [ ]
last_same m n j k none (held h) none none e a b = elim b [ ]
last_same m n j k l none l' none e a b = (refl, a)
last_same m n j k none (held h) none (held h') e a b = (refl, ap₂ (λ (x y : ℕ). suc (max x y)) e b)
last_same m n j k (held l) (held h) (held l') (held h') e a b = (refl, ap₂ max a (ap₂ (λ (x y : ℕ). suc (max x y)) e b))

module _ (p step : ℕ) (c : ℕ → ℕ) (y z : ℕ) where
  terms_same : (n o e j k : ℕ) (s t : Sum) → Alike s t → SameSize (terms_from p step y c n o e j s) (terms_from p step z c n o e k t)
  unfolding terms_from
  terms_same zero o e j k s t a = (refl, a)
  terms_same (suc n) o e j k s t a =
      let b = eqb (c (o + e)) 0 in
      let g = Scale (low_power y e) (code p (c (o + e))) in
      let h = Scale (low_power z e) (code p (c (o + e))) in
      let u = next_term b j g (clog e) s in
      let v = next_term b k h (clog e) t in
      let first = next_same b j k (clog e) g h s t a in
      let later = terms_same n o (suc e) (j + length u.gates) (k + length v.gates) u.sum v.sum first.1 in
      (length-append u.gates _ ∙ ap₂ ◌+◌ first.0 later.0 ∙ sym (length-append v.gates _), later.1)

  pub piece_same : (i o j k : ℕ) → SameSize (piece p step y c i o j) (piece p step z c i o k)
  unfolding piece
  piece_same zero o j k = terms_same step o 1 j k none none tt
  piece_same (suc i) o j k =
      let m = o + step * 2 ^ i in
      let l = piece p step y c i o j in
      let h = piece p step y c i m (j + length l.gates) in
      let l' = piece p step z c i o k in
      let h' = piece p step z c i m (k + length l'.gates) in
      let low = piece_same i o j k in
      let high = piece_same i m (j + length l.gates) (k + length l'.gates) in
      let last = last_same (split_node y step i) (split_node z step i) (j + length l.gates + length h.gates) (k + length l'.gates + length h'.gates)
      l.sum h.sum l'.sum h'.sum refl low.1 high.1 in (
        length-append l.gates _
            ∙ ap₂ ◌+◌ low.0 (length-append h.gates _ ∙ ap₂ ◌+◌ high.0 last.0 ∙ sym (length-append h'.gates _))
            ∙ sym (length-append l'.gates _),
        last.1,
      )

-- ---- and there are not too many

next_few : (b : Bool) (k d : ℕ) (g : Gate) (s : Sum) → length (next_term b k g d s).gates ≤ 2
next_few true k d g s = omega arith
next_few false k d g none = omega arith
next_few false k d g (held s) = omega arith

last_few : (m : Node) (k : ℕ) (l h : Sum) → length (last_gates m k l h) ≤ 2
last_few m k l none = omega arith
last_few m k none (held h) = omega arith
last_few m k (held l) (held h) = omega arith

module _ (p step z : ℕ) (c : ℕ → ℕ) where
  terms_few : (n o e k : ℕ) (s : Sum) → length (terms_from p step z c n o e k s).gates ≤ 2 * n
  unfolding terms_from
  terms_few zero o e k s = omega arith
  terms_few (suc n) o e k s =
      let a = c (o + e) in
      let g = Scale (low_power z e) (code p a) in
      let first = next_term (eqb a 0) k g (clog e) s in
      let later = terms_from p step z c n o (suc e) (k + length first.gates) first.sum in
      omega (
        arith,
        length-append first.gates later.gates,
        next_few (eqb a 0) k (clog e) g s,
        terms_few n o (suc e) (k + length first.gates) first.sum,
      )

  -- two for each exponent, and two for each split
  pub piece_few : (i o k : ℕ) → length (piece p step z c i o k).gates + 2 ≤ 2 * (step * 2 ^ i) + 2 * 2 ^ i
  unfolding piece
  piece_few zero o k = omega (arith, terms_few step o 1 k none)
  piece_few (suc i) o k =
      let m = o + step * 2 ^ i in
      let l = piece p step z c i o k in
      let h = piece p step z c i m (k + length l.gates) in
      let next = k + length l.gates + length h.gates in
      let last = last_gates (split_node z step i) next l.sum h.sum in
      omega (
        arith,
        length-append l.gates (h.gates ++ last),
        length-append h.gates last,
        piece_few i o k,
        piece_few i m (k + length l.gates),
        last_few (split_node z step i) next l.sum h.sum,
        ap (λ (t : ℕ). step * t) (pow-succ' 2 i),
        pow-succ' 2 i,
      )
