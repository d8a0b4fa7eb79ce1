-- The value of a piece: over any entries that solve its gates, the sum that it leaves is its part of the polynomial modulo p.
-- By induction on the exponents of a piece that does not split, and on the level of one that does; a sum that is not there is 0.
-- Assumes nothing.
use mathlib.Core.Path.{◌≡◌, refl, sym, ap, ◌∙◌}
use mathlib.Core.Bool.{Bool, true, false}
use mathlib.Core.List.{List, [], ◌∷◌}
use Prim.Native.Nat.{ℕ, zero, suc, ◌+◌, ◌*◌, ◌%◌, ◌^◌, ◌≤◌, ◌<◌}
use native.Mathlib.Omega.{arith}
use native.Mathlib.Nat.{zero-add, add_assoc, mul_comm, mul-zero, mod-mod, pow-succ'}
use borrow.Author.Tests.{eqb-true}
use lib.Dec.{eqb}
use lib.ListN.{length}
use Rattle.field.specs.Logarithm.{clog}
use Rattle.field.proofs.Modular.{mod_same, add_cong, mul_cong, add_mod_is, mul_mod_is, residue_below}
use Rattle.circuit.specs.Constant.{Constant, code}
use Rattle.circuit.specs.Gate.{Scale}
use Rattle.circuit.specs.Segment.{Node}
use Rattle.circuit.specs.Value.{values}
use Rattle.circuit.proofs.Constant.{code_is}
use Rattle.circuit.specs.Meaning.{Solves}
use Rattle.circuit.proofs.Meaning.{solves_append}
use Rattle.comparison.specs.OrderDigit.{low_power}
use Rattle.step.specs.Pieces.{Sum, none, held, next_term, last_gates, last_sum, terms_from, piece}
use Rattle.step.specs.Powers.{split_node}
use Rattle.step.proofs.Parts.{part_of, part_double}

module _ (left right : List ℕ) (E : ℕ → ℕ) (p : ℕ) (some : 0 < p) where
  -- a sum holds a value
  abbrev pub Holds : Sum → ℕ → Type 0
  Holds none v = v ≡ 0
  Holds (held s) v = E s.gate % p ≡ v % p

  holds_same : (sum : Sum) (v w : ℕ) → v ≡ w → Holds sum v → Holds sum w
  holds_same none v w e h = sym e ∙ h
  holds_same (held s) v w e h = h ∙ mod_same p e

  product_is : (k a b v w : ℕ) → E k ≡ (values p left right).mul (E a) (E b) → E a % p ≡ v % p → E b % p ≡ w % p → E k % p ≡ (v * w) % p
  product_is k a b v w e f g = mod_same p (e ∙ mul_mod_is p _ _ some) ∙ mod-mod _ p ∙ mul_cong p _ v _ w f g

  sum_is : (k a b v w : ℕ) → E k ≡ (values p left right).add (E a) (E b) → E a % p ≡ v % p → E b % p ≡ w % p → E k % p ≡ (v + w) % p
  sum_is k a b v w e f g = mod_same p (e ∙ add_mod_is p _ _ some) ∙ mod-mod _ p ∙ add_cong p _ v _ w f g

  -- ---- a term more

  module _ (k g depth constant power : ℕ) (small : constant < p) (known : E g % p ≡ power % p) where
    scaled : Solves (values p left right) E k (Scale g (code p constant) ∷ []) → E k % p ≡ (constant * power) % p
    scaled s =
        mod_same p (s.0 ∙ mul_mod_is p _ _ some) ∙ mod-mod _ p
        ∙ mul_cong p _ power _ constant known (mod_same p (code_is p constant small)) ∙ mod_same p (mul_comm power constant)

    next_holds : (b : Bool) (sum : Sum) (v : ℕ) → (b ≡ true → constant ≡ 0)
        → Solves (values p left right) E k (next_term b k (Scale g (code p constant)) depth sum).gates → Holds sum v
        → Holds (next_term b k (Scale g (code p constant)) depth sum).sum (v + constant * power)
    next_holds true sum v zeroed s h =
        let none : constant ≡ 0 = zeroed refl in holds_same sum v _ (rw none (omega arith)) h
    next_holds false none v zeroed s h = scaled (s.0, tt) ∙ mod_same p (omega arith)
    next_holds false (held sum) v zeroed s h =
        sum_is (suc k) sum.gate k v (constant * power) s.1.0 h (scaled (s.0, tt))

  -- ---- pieces

  module _ (step z x : ℕ) (c : ℕ → ℕ) (small : (e : ℕ) → c e < p)
      (low : (e : ℕ) → 1 ≤ e → e ≤ step → E (low_power z e) % p ≡ (x ^ e) % p) where
    terms_hold : (n o e k : ℕ) (sum : Sum) (v : ℕ) → 1 ≤ e → e + n ≤ suc step
        → Solves (values p left right) E k (terms_from p step z c n o e k sum).gates → Holds sum v
        → Holds (terms_from p step z c n o e k sum).sum (v + part_of c x n o e)
    unfolding terms_from part_of
    terms_hold zero o e k sum v one l s h = holds_same sum v _ (omega arith) h
    terms_hold (suc n) o e k sum v one l s h =
        let a = c (o + e) in
        let first = next_term (eqb a 0) k (Scale (low_power z e) (code p a)) (clog e) sum in
        let parts = solves_append (values p left right) E first.gates _ k s in
        let here = next_holds k (low_power z e) (clog e) a (x ^ e) (small (o + e)) (low e one (omega arith)) (eqb a 0) sum v (eqb-true a 0) parts.0 h in
        let later = terms_hold n o (suc e) (k + length first.gates) first.sum (v + a * x ^ e) (omega arith) (omega arith) parts.1 here in
        let sum = (terms_from p step z c n o (suc e) (k + length first.gates) first.sum).sum in
        holds_same sum (v + a * x ^ e + part_of c x n o (suc e)) _ (add_assoc v (a * x ^ e) (part_of c x n o (suc e))) later

    -- the last gates of a piece that splits
    last_holds : (power : Node) (y k : ℕ) (l h : Sum) (v w : ℕ) → E power.gate % p ≡ y % p
        → Solves (values p left right) E k (last_gates power k l h) → Holds l v → Holds h w
        → Holds (last_sum power k l h) (v + y * w)
    last_holds power y k l none v w known s hl hh = holds_same l v _ (rw (hh, mul-zero y) (omega arith)) hl
    last_holds power y k none (held h) v w known s hl hh =
        product_is k power.gate h.gate y w s.0 known hh ∙ mod_same p (omega arith)
    last_holds power y k (held l) (held h) v w known s hl hh =
        sum_is (suc k) l.gate k v (y * w) s.1.0 hl (product_is k power.gate h.gate y w s.0 known hh)

    pub piece_holds : (levels : ℕ) → ((i : ℕ) → i < levels → E (low_power z step + i) % p ≡ (x ^ (step * 2 ^ i)) % p)
        → (o k : ℕ) → Solves (values p left right) E k (piece p step z c levels o k).gates
        → Holds (piece p step z c levels o k).sum (part_of c x (step * 2 ^ levels) o 1)
    unfolding piece
    piece_holds zero split o k s =
        holds_same (terms_from p step z c step o 1 k none).sum _ _ (zero-add _ ∙ ap (λ (n : ℕ). part_of c x n o 1) (omega arith))
        (terms_hold step o 1 k none 0 (omega arith) (omega arith) s refl)
    piece_holds (suc i) split o k s =
        let m = step * 2 ^ i in
        let lower = piece p step z c i o k in
        let upper = piece p step z c i (o + m) (k + length lower.gates) in
        let parts = solves_append (values p left right) E lower.gates _ k s in
        let rest = solves_append (values p left right) E upper.gates _ (k + length lower.gates) parts.1 in
        let hl = piece_holds i (λ j l. split j (omega arith)) o k parts.0 in
        let hu = piece_holds i (λ j l. split j (omega arith)) (o + m) _ rest.0 in
        let whole : m + m ≡ step * 2 ^ suc i = omega (arith, ap (λ (t : ℕ). step * t) (pow-succ' 2 i)) in
        let next = k + length lower.gates + length upper.gates in
        let v = part_of c x m o 1 in
        let w = part_of c x m (o + m) 1 in
        holds_same (last_sum (split_node z step i) next lower.sum upper.sum) (v + x ^ m * w) _
        (sym (part_double c x m o) ∙ ap (λ (n : ℕ). part_of c x n o 1) whole)
        (last_holds (split_node z step i) (x ^ m) next lower.sum upper.sum v w (split i (omega arith)) rest.1 hl hu)

  -- ---- and it is below p

  abbrev pub Below : Sum → Type 0
  Below none = Unit {0}
  Below (held s) = E s.gate < p

  next_below : (k g depth : ℕ) (b : Constant) (test : Bool) (sum : Sum) → Solves (values p left right) E k (next_term test k (Scale g b) depth sum).gates
      → Below sum → Below (next_term test k (Scale g b) depth sum).sum
  next_below k g depth b true sum s h = h
  next_below k g depth b false none s h = rw s.0 (residue_below p _ some)
  next_below k g depth b false (held sum) s h = rw s.1.0 (residue_below p _ some)

  last_below : (power : Node) (k : ℕ) (l h : Sum) → Solves (values p left right) E k (last_gates power k l h) → Below l
      → Below (last_sum power k l h)
  last_below power k l none s b = b
  last_below power k none (held h) s b = rw s.0 (residue_below p _ some)
  last_below power k (held l) (held h) s b = rw s.1.0 (residue_below p _ some)

  module _ (step z : ℕ) (c : ℕ → ℕ) where
    terms_below : (n o e k : ℕ) (sum : Sum) → Solves (values p left right) E k (terms_from p step z c n o e k sum).gates → Below sum
        → Below (terms_from p step z c n o e k sum).sum
    unfolding terms_from
    terms_below zero o e k sum s b = b
    terms_below (suc n) o e k sum s b =
        let a = c (o + e) in
        let first = next_term (eqb a 0) k (Scale (low_power z e) (code p a)) (clog e) sum in
        let parts = solves_append (values p left right) E first.gates _ k s in
        terms_below n o (suc e) (k + length first.gates) first.sum parts.1
        (next_below k (low_power z e) (clog e) (code p a) (eqb a 0) sum parts.0 b)

    pub piece_below : (i o k : ℕ) → Solves (values p left right) E k (piece p step z c i o k).gates → Below (piece p step z c i o k).sum
    unfolding piece
    piece_below zero o k s = terms_below step o 1 k none s tt
    piece_below (suc i) o k s =
        let lower = piece p step z c i o k in
        let upper = piece p step z c i (o + step * 2 ^ i) (k + length lower.gates) in
        let parts = solves_append (values p left right) E lower.gates _ k s in
        let rest = solves_append (values p left right) E upper.gates _ (k + length lower.gates) parts.1 in
        last_below (split_node z step i) (k + length lower.gates + length upper.gates) lower.sum upper.sum rest.1
        (piece_below i o k parts.0)
