-- Laws of the first values of a function: how many there are, each of them, equal functions, and their total.
-- Assumes nothing.
use mathlib.Core.Path.{◌≡◌, refl, sym, ap, ap₂, ◌∙◌}
use mathlib.Core.List.{List, [], ◌∷◌, ◌++◌}
use Prim.Native.Nat.{ℕ, zero, suc, ◌<◌}
use native.Mathlib.Omega.{arith}
use native.Mathlib.Decide.{ℕ_discrete}
use lib.ListN.{length, get_or, length-append, get_or-append}
use lib.Seq.{get_or_at}
use Rattle.field.specs.FirstValues.{first_values}
use Rattle.field.specs.Sum.{sum, total}
use Rattle.field.proofs.Sum.{total_append}

pub length_first : (n : ℕ) (f : ℕ → ℕ) → length (first_values n f) ≡ n
unfolding first_values
length_first zero f = refl
length_first (suc n) f = length-append (first_values n f) (f n ∷ []) ∙ omega (arith, length_first n f)

pub first_at : (n : ℕ) (f : ℕ → ℕ) (i : ℕ) → i < n → get_or (first_values n f) i 0 ≡ f i
unfolding first_values
first_at zero f i l = absurd (omega arith)
first_at (suc n) f i l = go (ℕ_discrete i n) (first_at n f i)
  where
    go : Dec (i ≡ n) → (i < n → get_or (first_values n f) i 0 ≡ f i) → get_or (first_values (suc n) f) i 0 ≡ f i
    go (yes e) before = get_or_at (first_values n f) (f n) [] 0 i (length_first n f ∙ sym e) ∙ ap f (sym e)
    go (no e) before =
        get_or-append (first_values n f) (f n ∷ []) 0 i (omega (arith, length_first n f)) ∙ before (omega arith)

pub first_same : (n : ℕ) (f g : ℕ → ℕ) → ((i : ℕ) → i < n → f i ≡ g i) → first_values n f ≡ first_values n g
unfolding first_values
first_same zero f g h = refl
first_same (suc n) f g h =
    ap₂ (λ (l : List ℕ) (x : ℕ). l ++ (x ∷ [])) (first_same n f g (λ i l. h i (omega arith))) (h n (omega arith))

pub total_first : (n : ℕ) (f : ℕ → ℕ) → total (first_values n f) ≡ sum n f
unfolding first_values sum total
total_first zero f = refl
total_first (suc n) f = omega (arith, total_append (first_values n f) (f n ∷ []), total_first n f)
