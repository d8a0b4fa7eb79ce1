-- What a list keeps when it is rearranged: its length, what is true of every entry, and the sum and the product of its entries.
-- By induction on the steps of the rearrangement.
-- Assumes nothing.
use mathlib.Core.Path.{◌≡◌, refl, sym, ap, ap₂, subst, ◌∙◌}
use mathlib.Core.List.Permᴰ
use mathlib.Core.List.{List, [], ◌∷◌, ◌++◌, Permᴰ}
use Prim.Native.Nat.{ℕ, suc, ◌+◌, ◌*◌, ◌^◌}
use native.Mathlib.Nat.{add_left_comm, mul_left_comm}
use lib.ListN.{length}
use Rattle.field.specs.Sum.{total}
use Rattle.circuit.specs.Every.{Every}
use Rattle.circuit.specs.Factors.{breadth, list_product}
use Rattle.circuit.specs.Segment.{Node}

module _ {X : Type 0} where
  pub same_length : {xs ys : List X} → Permᴰ xs ys → length xs ≡ length ys
  same_length Permᴰ.nil = refl
  same_length (Permᴰ.cons e rest) = ap suc (same_length rest)
  same_length (Permᴰ.swap e f) = refl
  same_length (Permᴰ.trans first second) = same_length first ∙ same_length second

  -- back from the new list to the old
  pub same_every : (P : X → Type 0) {xs ys : List X} → Permᴰ xs ys → Every P ys → Every P xs
  same_every P Permᴰ.nil h = tt
  same_every P (Permᴰ.cons e rest) h = (subst P (sym e) h.0, same_every P rest h.1)
  same_every P (Permᴰ.swap e f) h = (subst P (sym e) h.1.0, (subst P (sym f) h.0, h.1.1))
  same_every P (Permᴰ.trans first second) h = same_every P first (same_every P second h)

  -- the last entry, put first
  pub last_first : (xs : List X) (x : X) → Permᴰ (xs ++ (x ∷ [])) (x ∷ xs)
  last_first xs x = Permᴰ.trans (Permᴰ.middle x xs []) (Permᴰ.cons refl (Permᴰ.append-nil xs))

pub same_total : {xs ys : List ℕ} → Permᴰ xs ys → total xs ≡ total ys
unfolding total
same_total Permᴰ.nil = refl
same_total (Permᴰ.cons e rest) = ap₂ ◌+◌ e (same_total rest)
same_total (Permᴰ.swap {a} {b} {l = l} e f) = add_left_comm a b (total l) ∙ ap₂ (λ (u v : ℕ). u + (v + total l)) f e
same_total (Permᴰ.trans first second) = same_total first ∙ same_total second

pub same_breadth : {xs ys : List Node} → Permᴰ xs ys → breadth xs ≡ breadth ys
same_breadth same = same_total (Permᴰ.map (λ (f : Node). 2 ^ f.depth) same)

pub same_product : {xs ys : List ℕ} → Permᴰ xs ys → list_product xs ≡ list_product ys
unfolding list_product
same_product Permᴰ.nil = refl
same_product (Permᴰ.cons e rest) = ap₂ ◌*◌ e (same_product rest)
same_product (Permᴰ.swap {a} {b} {l = l} e f) = mul_left_comm a b (list_product l) ∙ ap₂ (λ (u v : ℕ). u * (v * list_product l)) f e
same_product (Permᴰ.trans first second) = same_product first ∙ same_product second
