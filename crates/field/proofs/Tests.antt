-- Laws of tests: what is decided, two that both hold, two of which one or neither does, two that hold together, a range, and comparisons that hold together.
-- Assumes nothing.
use mathlib.Core.Path.{◌≡◌, refl, sym, ◌∙◌}
use mathlib.Core.Logic.{◌↔◌, ◌⊎◌, inl, inr}
use mathlib.Core.Bool.{Bool, true, false, not, ◌&&◌, ◌||◌, false≢true, true≢false}
use Prim.Native.Nat.{ℕ, zero, suc, ◌≤◌, ◌<◌, zero-le}
use native.Mathlib.Omega.{arith}
use borrow.Author.Tests.{ltb-true, ltb-false, lt-ltb, le-ltb, eqb-true, eqb-false, eq-eqb, ne_eqb}
use lib.Dec.{ltb, eqb}

-- what follows either way from what is decided
abbrev pub cases : {P Q : Type 0} → Dec P → (P → Q) → ((P → ⊥) → Q) → Q
cases (yes a) f g = f a
cases (no b) f g = g b

pub both : (a b : Bool) → (a && b) ≡ true → (a ≡ true) × (b ≡ true)
both true b t = (refl, t)
both false b t = absurd (false≢true t)

pub either : (a b : Bool) → (a || b) ≡ true → (a ≡ true) ⊎ (b ≡ true)
either true b t = inl refl
either false b t = inr t

pub neither : (a b : Bool) → (a || b) ≡ false → (a ≡ false) × (b ≡ false)
neither true b t = absurd (true≢false t)
neither false b t = (refl, t)

pub test_same : (a b : Bool) → (a ≡ true) ↔ (b ≡ true) → a ≡ b
test_same true b h = sym (h.0 refl)
test_same false true h = h.1 refl
test_same false false h = refl

-- neither below the range nor above it
pub in_range : (x low high : ℕ) → (ltb x low || ltb high x) ≡ false → (low ≤ x) × (x ≤ high)
in_range x low high t =
    let s = neither (ltb x low) (ltb high x) t in (ltb-false x low s.0, ltb-false high x s.1)

-- and back
pub in_range_false : (x low high : ℕ) → low ≤ x → x ≤ high → (ltb x low || ltb high x) ≡ false
in_range_false x low high l h = rw (le-ltb x low l, le-ltb high x h)

-- a number in the range from 0 to 0
pub zero_only : (x : ℕ) → not (eqb x 0) ≡ (ltb x 0 || ltb 0 x)
zero_only zero = refl
zero_only (suc x) = rw (ne_eqb (suc x) 0 (λ e. omega arith), le-ltb (suc x) 0 zero-le, lt-ltb 0 (suc x) (omega arith))

pub ltb_same : (a b c d : ℕ) → (a < b → c < d) → (b ≤ a → d ≤ c) → ltb a b ≡ ltb c d
ltb_same a b c d less more = go (ltb a b) refl
  where
    go : (t : Bool) → ltb a b ≡ t → ltb a b ≡ ltb c d
    go true e = e ∙ sym (lt-ltb c d (less (ltb-true a b e)))
    go false e = e ∙ sym (le-ltb c d (more (ltb-false a b e)))

pub eqb_same : (a b c d : ℕ) → (a ≡ b) ↔ (c ≡ d) → eqb a b ≡ eqb c d
eqb_same a b c d h = go (eqb a b) refl
  where
    go : (t : Bool) → eqb a b ≡ t → eqb a b ≡ eqb c d
    go true e = e ∙ sym (eq-eqb c d (h.0 (eqb-true a b e)))
    go false e = e ∙ sym (ne_eqb c d (λ q. eqb-false a b e (h.1 q)))
