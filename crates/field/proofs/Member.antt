-- A number that stands in a list: it is the first entry, or stands among the later ones; of two lists put together it stands in one.
-- Assumes nothing.
use mathlib.Core.Path.{◌≡◌, refl, sym}
use mathlib.Core.Bool.{Bool, true, false, ◌||◌, or_assoc}
use mathlib.Core.List.{List, [], ◌∷◌, ◌++◌}
use mathlib.Core.Logic.{◌⊎◌, inl, inr}
use Prim.Native.Nat.{ℕ}
use borrow.Author.Tests.{eqb-true}
use lib.Dec.{eqb}
use Rattle.field.specs.Member.{member}

pub member_cons : (x y : ℕ) (ys : List ℕ) → member x (y ∷ ys) ≡ true → (y ≡ x) ⊎ (member x ys ≡ true)
unfolding member
member_cons x y ys t = go (eqb y x) refl t
  where
    go : (b : Bool) → eqb y x ≡ b → (b || member x ys) ≡ true → (y ≡ x) ⊎ (member x ys ≡ true)
    go true e s = inl (eqb-true y x e)
    go false e s = inr s

pub member_append : (x : ℕ) (xs ys : List ℕ) → member x (xs ++ ys) ≡ (member x xs || member x ys)
unfolding member
member_append x [] ys = refl
member_append x (y ∷ xs) ys = rw (member_append x xs ys) (sym (or_assoc (eqb y x) (member x xs) (member x ys)))
