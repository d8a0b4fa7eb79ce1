-- The order polynomial by its coefficients is document 01's: exponents that are not asked for add 0.
-- 1 apart, then pairs of an even exponent and the odd one after it, then p - 1, then exponents above it.
-- Assumes nothing.
use mathlib.Core.Path.{◌≡◌, refl, sym, ap, ap₂, ◌∙◌}
use mathlib.Core.Bool.{Bool, true, false, ◌&&◌, ◌||◌, false≢true, true≢false}
use mathlib.Core.List.{[], ◌∷◌, map, map-append}
use Prim.Native.Nat.{ℕ, zero, suc, ◌+◌, ◌-◌, ◌*◌, ◌/◌, ◌%◌, ◌^◌, ◌≤◌, ◌<◌}
use native.Mathlib.Omega.{arith}
use native.Mathlib.Nat.{zero-add}
use native.Mathlib.Decide.{ℕ_discrete}
use borrow.Author.Tests.{lt-ltb, le-ltb, eq-eqb, ne_eqb}
use lib.Dec.{eqb, ltb}
use Rattle.field.specs.Polynomials.{every_second, order_exponents, order_constant, order_polynomial}
use Rattle.field.specs.Sum.{total}
use Rattle.field.proofs.Polynomials.{constant_below}
use Rattle.field.proofs.Sum.{total_append}
use Rattle.field.proofs.Tests.{cases}
use Rattle.step.specs.Coefficient.{is_exponent, coefficient}
use Rattle.step.proofs.Parts.{part_of, part_append}

or_true : (b : Bool) → (b || true) ≡ true
or_true true = refl
or_true false = refl

module _ (p : ℕ) (three : 3 ≤ p) (odd : p % 2 ≡ 1) where
  -- where the test of an exponent holds, and where not
  asked : (e : ℕ) → is_exponent p e ≡ true → coefficient p e ≡ order_constant p e
  unfolding coefficient
  asked e h = go (is_exponent p e) h
    where
      go : (b : Bool) → b ≡ true → ◌≡◌ {A = ℕ} (elim b as (λ _. ℕ) [ true ↦ order_constant p e | false ↦ 0 ]) (order_constant p e)
      go true q = refl
      go false q = absurd (false≢true q)

  unasked : (e : ℕ) → is_exponent p e ≡ false → coefficient p e ≡ 0
  unfolding coefficient
  unasked e h = go (is_exponent p e) h
    where
      go : (b : Bool) → b ≡ false → ◌≡◌ {A = ℕ} (elim b as (λ _. ℕ) [ true ↦ order_constant p e | false ↦ 0 ]) 0
      go true q = absurd (true≢false q)
      go false q = refl

  pub at_odd : (e : ℕ) → e % 2 ≡ 1 → e < p - 1 → coefficient p e ≡ order_constant p e
  at_odd e o l = asked e (rw (eq-eqb (e % 2) 1 o, lt-ltb e (p - 1) l))

  pub at_last : coefficient p (p - 1) ≡ order_constant p (p - 1)
  at_last =
      let e : eqb (p - 1) (p - 1) ≡ true = eq-eqb (p - 1) (p - 1) refl in
      asked (p - 1) (ap (λ (b : Bool). (eqb ((p - 1) % 2) 1 && ltb (p - 1) (p - 1)) || b) e ∙ or_true (eqb ((p - 1) % 2) 1 && ltb (p - 1) (p - 1)))

  pub at_even : (e : ℕ) → e % 2 ≡ 0 → e < p - 1 → coefficient p e ≡ 0
  at_even e o l = unasked e (rw (ne_eqb (e % 2) 1 (λ q. omega arith), ne_eqb e (p - 1) (λ q. omega arith)))

  pub at_above : (e : ℕ) → p ≤ e → coefficient p e ≡ 0
  at_above e l = unasked e (go (eqb (e % 2) 1))
    where
      go : (b : Bool) → ((b && ltb e (p - 1)) || eqb e (p - 1)) ≡ false
      go true = rw (le-ltb e (p - 1) (omega arith), ne_eqb e (p - 1) (λ q. omega arith))
      go false = ne_eqb e (p - 1) (λ q. omega arith)

  pub coefficient_below : (e : ℕ) → coefficient p e < p
  unfolding coefficient
  coefficient_below e = go (is_exponent p e)
    where
      go : (b : Bool) → (elim b as (λ _. ℕ) [ true ↦ order_constant p e | false ↦ 0 ]) < p
      go true = constant_below p e (omega arith)
      go false = omega arith

  module _ (x : ℕ) where
    abbrev term : ℕ → ℕ
    term i = order_constant p i * x ^ i

    none_above : (n e : ℕ) → p ≤ e → part_of (coefficient p) x n 0 e ≡ 0
    unfolding part_of
    none_above zero e l = refl
    none_above (suc n) e l = rw (zero-add e, at_above e l) (omega (arith, none_above n (suc e) (omega arith)))

    pairs : (n e : ℕ) → e % 2 ≡ 0 → e + 2 * n ≤ p - 1 → part_of (coefficient p) x (n + n) 0 e ≡ total (map term (every_second n (suc e)))
    unfolding part_of every_second total
    pairs zero e even l = refl
    pairs (suc n) e even l =
        let two : suc n + suc n ≡ suc (suc (n + n)) = omega arith in
        rw (two, zero-add e, zero-add (suc e), at_even e even (omega arith), at_odd (suc e) (omega arith) (omega arith))
        (omega (arith, pairs n (suc (suc e)) (omega arith) (omega arith)))

    abbrev h : ℕ
    h = (p - 1) / 2

    one_term : (e : ℕ) → coefficient p e ≡ order_constant p e → part_of (coefficient p) x 1 0 e ≡ term e
    unfolding part_of
    one_term e known = rw (zero-add e, known) (omega arith)

    -- 1 is odd, and below p - 1 unless p is 3
    at_one : coefficient p 1 ≡ order_constant p 1
    at_one = cases (ℕ_discrete 1 (p - 1)) (λ e. rw (← e) at at_last) (λ n. at_odd 1 refl (omega arith))

    pub order_parts : (n : ℕ) → p - 1 ≤ n → part_of (coefficient p) x n 0 1 ≡ order_polynomial p x
    unfolding order_polynomial order_exponents every_second total
    order_parts n l =
        let m = h - 1 in
        let split : n ≡ 1 + ((m + m) + (1 + (n - (p - 1)))) = omega arith in
        let first : every_second h 1 ≡ 1 ∷ every_second m 3 = (let e : h ≡ suc m = omega arith in ap (λ (t : ℕ). every_second t 1) e) in
        ap (λ (t : ℕ). part_of (coefficient p) x t 0 1) split
        ∙ part_append (coefficient p) x 1 _ 0 1
        ∙ ap₂ ◌+◌ (one_term 1 at_one)
        (part_append (coefficient p) x (m + m) _ 0 2 ∙ ap₂ ◌+◌ (pairs m 2 refl (omega arith))
        (ap (part_of (coefficient p) x (1 + (n - (p - 1))) 0) (omega arith) ∙ part_append (coefficient p) x 1 _ 0 (p - 1)
        ∙ ap₂ ◌+◌ (one_term (p - 1) at_last) (none_above _ (1 + (p - 1)) (omega arith))))
        ∙ sym (ap total (map-append term (every_second h 1) ((p - 1) ∷ [])) ∙ total_append (map term (every_second h 1)) (term (p - 1) ∷ [])
        ∙ rw first (omega arith))
