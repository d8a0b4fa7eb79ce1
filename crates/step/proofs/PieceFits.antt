-- The gates of a piece keep the rules, and the sum that it leaves is the last of them.
-- By induction on the exponents of a piece that does not split, and on the level of one that does.
-- Assumes nothing.
use mathlib.Core.Path.{◌≡◌, refl, sym, subst}
use mathlib.Core.Bool.{Bool, true, false}
use mathlib.Core.List.{◌++◌}
use Prim.Native.Nat.{ℕ, zero, suc, ◌+◌, ◌-◌, ◌*◌, ◌%◌, ◌^◌, ◌≤◌, ◌<◌}
use native.Mathlib.Omega.{arith}
use lib.Dec.{eqb}
use lib.ListN.{length, length-append}
use Rattle.field.specs.Logarithm.{clog}
use Rattle.circuit.specs.Constant.{code, is_constant}
use Rattle.circuit.specs.Gate.{Gate, Scale}
use Rattle.circuit.specs.Segment.{Node}
use Rattle.circuit.specs.Table.{Head, all_fit}
use Rattle.circuit.proofs.Constant.{code_fits}
use Rattle.circuit.proofs.Fitting.{AllFitted, all_fit_lem, fit_append}
use Rattle.comparison.specs.OrderDigit.{low_power}
use Rattle.step.specs.Pieces.{Sum, none, held, next_term, last_gates, last_sum, terms_from, piece}
use Rattle.step.specs.Powers.{split_node}

-- of n gates from number k on the last holds the sum; where no sum is there, there are none
abbrev pub EndsAt : ℕ → ℕ → Sum → Type 0
EndsAt k n none = n ≡ 0
EndsAt k n (held s) = suc s.gate ≡ k + n

ends_same : (k m n : ℕ) (sum : Sum) → m ≡ n → EndsAt k m sum → EndsAt k n sum
ends_same k m n none e h = omega arith
ends_same k m n (held s) e h = omega arith

-- a sum is one of the gates below number k
abbrev pub Within : ℕ → Sum → Type 0
Within k none = Unit {0}
Within k (held s) = s.gate < k

within_later : (j k : ℕ) (sum : Sum) → j ≤ k → Within j sum → Within k sum
within_later j k none l h = tt
within_later j k (held s) l h = omega arith

pub ends_within : (k n : ℕ) (sum : Sum) → EndsAt k n sum → Within (k + n) sum
ends_within k n none h = tt
ends_within k n (held s) h = omega arith

-- ---- the last gate

next_end : (b : Bool) (k n depth : ℕ) (g : Gate) (sum : Sum) → EndsAt k n sum
    → let first = next_term b (k + n) g depth sum in EndsAt k (n + length first.gates) first.sum
next_end true k n depth g sum h = ends_same k n _ sum (omega arith) h
next_end false k n depth g none h = omega arith
next_end false k n depth g (held s) h = omega arith

last_end : (power : Node) (k m n : ℕ) (l h : Sum) → EndsAt k m l → EndsAt (k + m) n h
    → EndsAt k (m + (n + length (last_gates power (k + m + n) l h))) (last_sum power (k + m + n) l h)
last_end power k m n l none el eh = ends_same k m _ l (omega arith) el
last_end power k m n none (held h) el eh = omega arith
last_end power k m n (held l) (held h) el eh = omega arith

module _ (p step z : ℕ) (c : ℕ → ℕ) where
  terms_end : (n o e k m j : ℕ) (sum : Sum) → j ≡ k + m → EndsAt k m sum
      → EndsAt k (m + length (terms_from p step z c n o e j sum).gates) (terms_from p step z c n o e j sum).sum
  unfolding terms_from
  terms_end zero o e k m j sum same h = ends_same k m _ sum (omega arith) h
  terms_end (suc n) o e k m j sum same h =
      let a = c (o + e) in
      let first = next_term (eqb a 0) j (Scale (low_power z e) (code p a)) (clog e) sum in
      let next = j + length first.gates in
      let here : EndsAt k (m + length first.gates) first.sum =
      subst (λ (t : ℕ). EndsAt k (m + length (next_term (eqb a 0) t (Scale (low_power z e) (code p a)) (clog e) sum).gates) (next_term (eqb a 0) t (Scale (low_power z e) (code p a)) (clog e) sum).sum)
      (sym same) (next_end (eqb a 0) k m (clog e) (Scale (low_power z e) (code p a)) sum h) in
      let later = terms_from p step z c n o (suc e) next first.sum in
      ends_same k (m + length first.gates + length later.gates) _ later.sum
      (omega (arith, length-append first.gates later.gates))
      (terms_end n o (suc e) k (m + length first.gates) next first.sum (omega arith) here)

  pub piece_end : (i o k : ℕ) → EndsAt k (length (piece p step z c i o k).gates) (piece p step z c i o k).sum
  unfolding piece
  piece_end zero o k =
      ends_same k _ _ (terms_from p step z c step o 1 k none).sum (omega arith) (terms_end step o 1 k 0 k none (omega arith) refl)
  piece_end (suc i) o k =
      let lower = piece p step z c i o k in
      let upper = piece p step z c i (o + step * 2 ^ i) (k + length lower.gates) in
      let next = k + length lower.gates + length upper.gates in
      let last = last_gates (split_node z step i) next lower.sum upper.sum in
      ends_same k (length lower.gates + (length upper.gates + length last)) _ (last_sum (split_node z step i) next lower.sum upper.sum)
      (omega (arith, length-append lower.gates (upper.gates ++ last), length-append upper.gates last))
      (last_end (split_node z step i) k (length lower.gates) (length upper.gates) lower.sum upper.sum
      (piece_end i o k) (piece_end i (o + step * 2 ^ i) (k + length lower.gates)))

-- ---- the rules

module _ (head : Head) (p step z : ℕ) (c : ℕ → ℕ) (prime : head.prime ≡ p) (odd : p % 2 ≡ 1)
    (small : (e : ℕ) → c e < p) where
  next_fitted : (b : Bool) (k g depth a : ℕ) (sum : Sum) → g < k → is_constant head.prime (code p a) ≡ true → Within k sum
      → let first = next_term b k (Scale g (code p a)) depth sum in
      AllFitted head k first.gates × Within (k + length first.gates) first.sum
  next_fitted true k g depth a sum l fine w = (tt, within_later k _ sum (omega arith) w)
  next_fitted false k g depth a none l fine w = (((l, fine), tt), omega arith)
  next_fitted false k g depth a (held s) l fine w = (((l, fine), ((omega arith, omega arith), tt)), omega arith)

  last_fitted : (power : Node) (k : ℕ) (l h : Sum) → power.gate < k → Within k l → Within k h → AllFitted head k (last_gates power k l h)
  last_fitted power k l none p wl wh = tt
  last_fitted power k none (held h) p wl wh = ((p, wh), tt)
  last_fitted power k (held l) (held h) p wl wh = ((p, wh), ((omega arith, omega arith), tt))

  terms_fit : (n o e k : ℕ) (sum : Sum) → 1 ≤ e → e + n ≤ suc step → z + step ≤ k → Within k sum
      → all_fit head k (terms_from p step z c n o e k sum).gates ≡ true
  unfolding terms_from all_fit
  terms_fit zero o e k sum one l after w = refl
  terms_fit (suc n) o e k sum one l after w =
      let a = c (o + e) in
      let first = next_term (eqb a 0) k (Scale (low_power z e) (code p a)) (clog e) sum in
      let here = next_fitted (eqb a 0) k (low_power z e) (clog e) a sum (omega arith) (rw prime (code_fits p a (small (o + e)) odd)) w in
      fit_append head k first.gates _ (all_fit_lem head k first.gates here.0)
      (terms_fit n o (suc e) (k + length first.gates) first.sum (omega arith) (omega arith) (omega arith) here.1)

  pub piece_fits : (i o k : ℕ) → 1 ≤ step → z + step + (i - 1) ≤ k → all_fit head k (piece p step z c i o k).gates ≡ true
  unfolding piece
  piece_fits zero o k one after = terms_fit step o 1 k none (omega arith) (omega arith) (omega arith) tt
  piece_fits (suc i) o k one after =
      let lower = piece p step z c i o k in
      let middle = k + length lower.gates in
      let upper = piece p step z c i (o + step * 2 ^ i) middle in
      let next = middle + length upper.gates in
      let wl = ends_within k (length lower.gates) lower.sum (piece_end p step z c i o k) in
      let wu = ends_within middle (length upper.gates) upper.sum (piece_end p step z c i (o + step * 2 ^ i) middle) in
      fit_append head k lower.gates _ (piece_fits i o k one (omega arith))
      (fit_append head middle upper.gates _ (piece_fits i (o + step * 2 ^ i) middle one (omega arith))
      (all_fit_lem head next (last_gates (split_node z step i) next lower.sum upper.sum) (last_fitted (split_node z step i) next lower.sum upper.sum (omega arith)
      (within_later middle next lower.sum (omega arith) wl) wu)))
