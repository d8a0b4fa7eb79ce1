-- A part of a polynomial: two parts one after the other, a part divided by a power, and so a part that splits in two halves.
-- By induction on the number of exponents.
-- Assumes nothing.
use mathlib.Core.Path.{◌≡◌, sym, ap, ◌∙◌}
use Prim.Native.Nat.{ℕ, zero, suc, ◌+◌, ◌*◌, ◌^◌}
use native.Mathlib.Omega.{arith}
use native.Mathlib.Nat.{zero-add, add-suc, suc-add, add_assoc, mul-zero}
use lib.Pow.{pow-add}

-- the terms of n exponents from e on, where the constant of z^e is that of the exponent o + e
unfoldable pub part_of : (ℕ → ℕ) → ℕ → ℕ → ℕ → ℕ → ℕ
part_of c x zero o e = 0
part_of c x (suc n) o e = c (o + e) * x ^ e + part_of c x n o (suc e)

module _ (c : ℕ → ℕ) (x : ℕ) where
  pub part_append : (m n o e : ℕ) → part_of c x (m + n) o e ≡ part_of c x m o e + part_of c x n o (m + e)
  unfolding part_of
  part_append zero n o e = rw (zero-add n, zero-add e) (omega arith)
  part_append (suc m) n o e =
      rw (suc-add m n, suc-add m e, ← add-suc m e) (omega (arith, part_append m n o (suc e)))

  pub part_shift : (n m o e : ℕ) → part_of c x n o (m + e) ≡ x ^ m * part_of c x n (o + m) e
  unfolding part_of
  part_shift zero m o e = sym (mul-zero (x ^ m))
  part_shift (suc n) m o e =
      let here : c (o + (m + e)) ≡ c (o + m + e) = ap c (sym (add_assoc o m e)) in
      let later : part_of c x n o (suc (m + e)) ≡ x ^ m * part_of c x n (o + m) (suc e) =
      ap (part_of c x n o) (sym (add-suc m e)) ∙ part_shift n m o (suc e) in
      rw (here, pow-add x m e, later) (omega arith)

  pub part_double : (m o : ℕ) → part_of c x (m + m) o 1 ≡ part_of c x m o 1 + x ^ m * part_of c x m (o + m) 1
  part_double m o = part_append m m o 1 ∙ ap (λ (t : ℕ). part_of c x m o 1 + t) (part_shift m m o 1)
