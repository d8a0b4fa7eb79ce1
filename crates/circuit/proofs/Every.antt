-- Laws of facts of every entry of a list: from one fact to another, of lists put together, equal entries one by one, and of each number that stands in a list.
-- Assumes nothing.
use mathlib.Core.Path.{◌≡◌, refl, ap₂, subst}
use mathlib.Core.Bool.{true, false≢true}
use mathlib.Core.Logic.{⊎_elim}
use mathlib.Core.List.{List, [], ◌∷◌, ◌++◌, map}
use Prim.Native.Nat.{ℕ, zero, suc}
use lib.ListN.{drop}
use Rattle.field.specs.Member.{member}
use Rattle.field.proofs.Member.{member_cons}
use Rattle.circuit.specs.Every.{Every}

module _ {X : Type 0} where
  pub every_map : {P Q : X → Type 0} → ((x : X) → P x → Q x) → (xs : List X) → Every P xs → Every Q xs
  every_map turn [] h = tt
  every_map turn (x ∷ xs) h = (turn x h.0, every_map turn xs h.1)

  pub every_map₂ : {P Q R : X → Type 0} → ((x : X) → P x → Q x → R x) → (xs : List X) → Every P xs → Every Q xs → Every R xs
  every_map₂ turn [] h k = tt
  every_map₂ turn (x ∷ xs) h k = (turn x h.0 k.0, every_map₂ turn xs h.1 k.1)

  pub map_same : {Y : Type 0} (F G : X → Y) (xs : List X) → Every (λ x. F x ≡ G x) xs → map F xs ≡ map G xs
  map_same F G [] h = refl
  map_same F G (x ∷ xs) h = ap₂ ◌∷◌ h.0 (map_same F G xs h.1)

  -- what is made of each entry
  pub every_made : {Y : Type 0} (P : Y → Type 0) (F : X → Y) (xs : List X) → Every (λ x. P (F x)) xs → Every P (map F xs)
  every_made P F [] h = tt
  every_made P F (x ∷ xs) h = (h.0, every_made P F xs h.1)

  pub every_append : (P : X → Type 0) (xs ys : List X) → Every P xs → Every P ys → Every P (xs ++ ys)
  every_append P [] ys h k = k
  every_append P (x ∷ xs) ys h k = (h.0, every_append P xs ys h.1 k)

  -- those after the first k
  pub every_drop : (P : X → Type 0) (k : ℕ) (xs : List X) → Every P xs → Every P (drop k xs)
  every_drop P zero xs h = h
  every_drop P (suc k) [] h = tt
  every_drop P (suc k) (x ∷ xs) h = every_drop P k xs h.1

  pub every_last : (P : X → Type 0) (xs : List X) (x : X) → Every P (xs ++ (x ∷ [])) → P x
  every_last P [] x h = h.0
  every_last P (y ∷ ys) x h = every_last P ys x h.1

pub every_member : (P : ℕ → Type 0) (i : ℕ) (xs : List ℕ) → Every P xs → member i xs ≡ true → P i
unfolding member
every_member P i [] h t = absurd (false≢true t)
every_member P i (x ∷ xs) h t =
    ⊎_elim (λ e. subst P e h.0) (λ u. every_member P i xs h.1 u) (member_cons i x xs t)
