-- A fact of some entry of a list: of lists put together or rearranged, beside a fact of every entry, and of a number that stands in a list.
-- Assumes nothing.
use mathlib.Core.Path.{◌≡◌, subst}
use mathlib.Core.Bool.{true, or-true}
use mathlib.Core.List.{List, [], ◌∷◌, ◌++◌, map, Permᴰ}
use mathlib.Core.Logic.{◌⊎◌, inl, inr, ⊎_elim}
use Prim.Native.Nat.{ℕ}
use borrow.Author.Tests.{eq-eqb}
use lib.Dec.{eqb}
use Rattle.field.specs.Member.{member}
use Rattle.circuit.specs.Every.{Every, Some}

module _ {X : Type 0} where
  pub some_map : {P Q : X → Type 0} → ((x : X) → P x → Q x) → (xs : List X) → Some P xs → Some Q xs
  some_map turn [] h = h
  some_map turn (x ∷ xs) (inl h) = inl (turn x h)
  some_map turn (x ∷ xs) (inr h) = inr (some_map turn xs h)

  -- of what is made of each entry
  pub some_made : {Y : Type 0} (P : Y → Type 0) (F : X → Y) (xs : List X) → Some (λ x. P (F x)) xs → Some P (map F xs)
  some_made P F [] h = h
  some_made P F (x ∷ xs) (inl h) = inl h
  some_made P F (x ∷ xs) (inr h) = inr (some_made P F xs h)

  -- the entry has what every entry has
  pub some_with : {P Q : X → Type 0} {R : Type 0} → ((x : X) → P x → Q x → R) → (xs : List X) → Every P xs → Some Q xs → R
  some_with turn [] h s = absurd s
  some_with turn (x ∷ xs) h (inl s) = turn x h.0 s
  some_with turn (x ∷ xs) h (inr s) = some_with turn xs h.1 s

  pub some_left : (P : X → Type 0) (xs ys : List X) → Some P xs → Some P (xs ++ ys)
  some_left P [] ys h = absurd h
  some_left P (x ∷ xs) ys (inl h) = inl h
  some_left P (x ∷ xs) ys (inr h) = inr (some_left P xs ys h)

  pub some_right : (P : X → Type 0) (xs ys : List X) → Some P ys → Some P (xs ++ ys)
  some_right P [] ys h = h
  some_right P (x ∷ xs) ys h = inr (some_right P xs ys h)

  pub some_either : (P : X → Type 0) (xs ys : List X) → Some P (xs ++ ys) → Some P xs ⊎ Some P ys
  some_either P [] ys h = inr h
  some_either P (x ∷ xs) ys (inl h) = inl (inl h)
  some_either P (x ∷ xs) ys (inr h) = ⊎_elim (λ s. inl (inr s)) inr (some_either P xs ys h)

  -- of the same entries in another order
  pub same_some : (P : X → Type 0) {xs ys : List X} → Permᴰ xs ys → Some P xs → Some P ys
  same_some P Permᴰ.nil h = h
  same_some P (Permᴰ.cons e rest) (inl h) = inl (subst P e h)
  same_some P (Permᴰ.cons e rest) (inr h) = inr (same_some P rest h)
  same_some P (Permᴰ.swap e f) (inl h) = inr (inl (subst P e h))
  same_some P (Permᴰ.swap e f) (inr (inl h)) = inl (subst P f h)
  same_some P (Permᴰ.swap e f) (inr (inr h)) = inr (inr h)
  same_some P (Permᴰ.trans first second) h = same_some P second (same_some P first h)

-- a number that is some entry stands in the list
pub some_member : (i : ℕ) (xs : List ℕ) → Some (λ (x : ℕ). x ≡ i) xs → member i xs ≡ true
unfolding member
some_member i [] h = absurd h
some_member i (x ∷ xs) (inl e) = rw (eq-eqb x i e)
some_member i (x ∷ xs) (inr h) = rw (some_member i xs h) (or-true (eqb x i))
