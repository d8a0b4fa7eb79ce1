-- The gates of a product tree: what they name, how many there are, their value and their depth.
-- By induction on the number of products, value and depth over any entries that solve the gates; `Choosing` tells a step's two factors.
-- Assumes nothing.
use mathlib.Core.Path.{◌≡◌, refl, sym, ap, ap₂, ◌∙◌}
use mathlib.Core.Bool.{true}
use mathlib.Core.List.Permᴰ
use mathlib.Core.List.{List, [], ◌∷◌, ◌++◌, map}
use Prim.Native.Nat.{ℕ, zero, suc, ◌+◌, ◌-◌, ◌*◌, ◌%◌, ◌≤◌, ◌<◌, max}
use native.Mathlib.Omega.{arith}
use native.Mathlib.Nat.{mul-one, mul_assoc}
use borrow.Author.Tests.{lt-ltb, ne_eqb}
use lib.ListN.{length, length-append}
use Rattle.field.proofs.Modular.{mod_same, mod_mul, mul_mod_is, residue_below}
use Rattle.circuit.specs.Count.{count, is_product, is_square}
use Rattle.circuit.specs.Depth.{depths}
use Rattle.circuit.specs.Every.{Every}
use Rattle.circuit.specs.Gate.{Gate}
use Rattle.circuit.specs.Meaning.{Algebra, entry_at, Solves}
use Rattle.circuit.specs.Factors.{InOrder, list_product}
use Rattle.circuit.specs.ProductTree.{least, multiply, product_tree}
use Rattle.circuit.specs.TreePromises.{TwoLeast, LeastFirst, ProductValue, ProductDepth, ProductCount, ProductFits}
use Rattle.circuit.specs.Segment.{Node}
use Rattle.circuit.specs.Table.{Head, all_fit}
use Rattle.circuit.specs.Value.{values}
use Rattle.circuit.proofs.Choosing.{first_of, second_of, rest_of, next, order_every, one_left, one_is, pair_is, next_same, next_length}
use Rattle.circuit.proofs.Every.{every_map, every_map₂, map_same}
use Rattle.circuit.proofs.Fitting.{AllNamed}
use Rattle.circuit.proofs.Meaning.{later_solved, entries_kept}
use Rattle.circuit.proofs.Rearranged.{same_every, same_product}
use Rattle.circuit.proofs.TreeDepth.{tree_depth}

-- ---- what the gates name

multiply_named : (n k : ℕ) (factors : List Node) → length factors ≡ suc n → InOrder 0 k factors
    → AllNamed k (multiply n k factors).gates
unfolding multiply
multiply_named zero k factors e h = tt
multiply_named (suc n) k factors e h =
    let pair = pair_is n factors e in
    let low = pair.named k h in
    ((low.0, (low.1, tt)), multiply_named n (suc k) (next k factors) (next_length n k factors e) (pair.order k h))

tree_named : (k : ℕ) (factors : List Node) → 1 ≤ length factors → InOrder 0 k factors → AllNamed k (product_tree k factors).gates
tree_named k factors some h = multiply_named (length factors - 1) k factors (omega arith) h

-- the two least of the factors left, one step after the other
multiply_least : (n k : ℕ) (factors : List Node) → length factors ≡ suc n → InOrder 0 k factors
    → TwoLeast k factors (multiply n k factors).gates (multiply n k factors).output
unfolding multiply
multiply_least zero k factors e h = one_left factors e
multiply_least (suc n) k factors e h =
    let pair = pair_is n factors e in (
      first_of factors,
      second_of factors,
      rest_of factors,
      refl,
      pair.same,
      pair.first k h,
      pair.second k h,
      multiply_least n (suc k) (next k factors) (next_length n k factors e) (pair.order k h),
    )

pub least_first : LeastFirst
least_first k factors some h = multiply_least (length factors - 1) k factors (omega arith) h

-- of a single factor at the end of a list, that one is chosen
pub left_over : (factors : List Node) (f : Node) → length (factors ++ (f ∷ [])) ≡ 1 → first_of (factors ++ (f ∷ [])) ≡ f
unfolding least
left_over [] f e = refl
left_over (g ∷ gs) f e = absurd (omega (arith, length-append gs (f ∷ [])))

multiply_last : (n k : ℕ) (factors : List Node) → length factors ≡ suc (suc n) → (multiply (suc n) k factors).output.gate ≡ k + n
unfolding multiply
multiply_last zero k factors e =
    ap (λ (f : Node). f.gate) (left_over (rest_of factors) _ (next_length zero k factors e)) ∙ omega arith
multiply_last (suc n) k factors e = multiply_last n (suc k) (next k factors) (next_length (suc n) k factors e) ∙ omega arith

-- the output is the last gate before number k + (c - 1): the last product, or a single factor that is the last gate before k
pub tree_last : (k : ℕ) (factors : List Node) → 1 ≤ length factors → (length factors ≡ 1 → suc (first_of factors).gate ≡ k)
    → suc (product_tree k factors).output.gate ≡ k + (length factors - 1)
unfolding multiply
tree_last k factors some single = go (length factors - 1) (omega arith)
  where
    go : (n : ℕ) → length factors ≡ suc n → suc (multiply n k factors).output.gate ≡ k + n
    go zero e = omega (arith, single e)
    go (suc n) e = omega (arith, multiply_last n k factors e)

multiply_fit : (head : Head) (n k : ℕ) (factors : List Node) → length factors ≡ suc n → InOrder 0 k factors
    → all_fit head k (multiply n k factors).gates ≡ true
unfolding multiply all_fit
multiply_fit head zero k factors e h = refl
multiply_fit head (suc n) k factors e h =
    let pair = pair_is n factors e in
    let named = pair.named k h in
    rw (lt-ltb _ _ named.0, lt-ltb _ _ named.1)
    (multiply_fit head n (suc k) (next k factors) (next_length n k factors e) (pair.order k h))

pub product_fits : ProductFits
product_fits head k factors some h = multiply_fit head (length factors - 1) k factors (omega arith) h

-- ---- how many there are

pub multiply_length : (n k : ℕ) (factors : List Node) → length (multiply n k factors).gates ≡ n
unfolding multiply
multiply_length zero k factors = refl
multiply_length (suc n) k factors = ap suc (multiply_length n (suc k) (next k factors))

-- no factor is multiplied by itself
multiply_count : (n k : ℕ) (factors : List Node) → length factors ≡ suc n → InOrder 0 k factors
    → (count is_product (multiply n k factors).gates ≡ n) × (count is_square (multiply n k factors).gates ≡ 0)
unfolding multiply count
multiply_count zero k factors e h = (refl, refl)
multiply_count (suc n) k factors e h =
    let pair = pair_is n factors e in
    let later = multiply_count n (suc k) (next k factors) (next_length n k factors e) (pair.order k h) in
    rw (ne_eqb _ _ (pair.apart k h)) (omega (arith, later.0), omega (arith, later.1))

pub product_count : ProductCount
product_count k factors some h =
    let n = length factors - 1 in
    let counts = multiply_count n k factors (omega arith) h in
    (multiply_length n k factors, counts.0, counts.1)

-- ---- value and depth, over any entries that solve the gates

-- the value is the product of the factors' values
pub multiply_value : (p : ℕ) (left right : List ℕ) (E : ℕ → ℕ) (n k : ℕ) (factors : List Node) → 0 < p → length factors ≡ suc n
    → Solves (values p left right) E k (multiply n k factors).gates
    → E (multiply n k factors).output.gate % p ≡ list_product (map (λ (f : Node). E f.gate) factors) % p
unfolding multiply list_product
multiply_value p left right E zero k factors some e h =
    mod_same p (sym (mul-one _) ∙ same_product (Permᴰ.map (λ (f : Node). E f.gate) (one_is factors e)))
multiply_value p left right E (suc n) k factors some e h =
    let value : Node → ℕ = λ f. E f.gate in
    let a = value (first_of factors) in
    let b = value (second_of factors) in
    let rest = list_product (map value (rest_of factors)) in
    multiply_value p left right E n (suc k) (next k factors) some (next_length n k factors e) h.1
    ∙ mod_same p (same_product (Permᴰ.map value (next_same k factors)))
    ∙ mod_same p (ap (λ (x : ℕ). x * rest) (h.0 ∙ mul_mod_is p a b some))
    ∙ mod_mul (a * b) rest p
    ∙ mod_same p (mul_assoc a b rest ∙ same_product (Permᴰ.map value (pair_is n factors e).same))

-- it is a remainder where the factors' values are
pub multiply_below : (p : ℕ) (left right : List ℕ) (E : ℕ → ℕ) (n k : ℕ) (factors : List Node) → 0 < p → length factors ≡ suc n
    → Solves (values p left right) E k (multiply n k factors).gates → Every (λ (f : Node). E f.gate < p) factors
    → E (multiply n k factors).output.gate < p
unfolding multiply
multiply_below p left right E zero k factors some e h below = (same_every _ (one_is factors e) below).0
multiply_below p left right E (suc n) k factors some e h below =
    let old = same_every _ (pair_is n factors e).same below in
    multiply_below p left right E n (suc k) (next k factors) some (next_length n k factors e) h.1
    (same_every _ (next_same k factors) (rw h.0 (residue_below p _ some), old.1.1))

-- where the factors' depths are their entries, so is the output's
pub multiply_entry : (E : ℕ → ℕ) (n k : ℕ) (factors : List Node) → length factors ≡ suc n
    → Solves depths E k (multiply n k factors).gates → Every (λ (f : Node). E f.gate ≡ f.depth) factors
    → E (multiply n k factors).output.gate ≡ (multiply n k factors).output.depth
unfolding multiply
multiply_entry E zero k factors e h known = (same_every _ (one_is factors e) known).0
multiply_entry E (suc n) k factors e h known =
    let old = same_every _ (pair_is n factors e).same known in
    let new = h.0 ∙ ap₂ (λ (a b : ℕ). suc (max a b)) old.0 old.1.0 in
    multiply_entry E n (suc k) (next k factors) (next_length n k factors e) h.1
    (same_every _ (next_same k factors) (new, old.1.1))

-- ---- value and depth, over gates written before

factors_kept : {A : Type 0} (alg : Algebra A) (gates later : List Gate) (factors : List Node) → InOrder 0 (length gates) factors
    → Every (λ (f : Node). entry_at alg (gates ++ later) f.gate ≡ entry_at alg gates f.gate) factors
factors_kept alg gates later factors h =
    every_map (λ (f : Node) bounds. entries_kept _ alg gates later f.gate bounds.1) factors (order_every 0 (length gates) factors h)

pub product_value : ProductValue
product_value p left right gates factors positive some h =
    let alg = values p left right in
    let k = length gates in
    let tree = (product_tree k factors).gates in
    multiply_value p left right (entry_at alg (gates ++ tree)) (length factors - 1) k factors positive (omega arith)
    (later_solved alg gates tree (tree_named k factors some h))
    ∙ mod_same p (ap list_product (map_same _ _ factors (factors_kept alg gates tree factors h)))

pub product_depth : ProductDepth
product_depth gates factors some h known =
    let k = length gates in
    let tree = (product_tree k factors).gates in
    multiply_entry (entry_at depths (gates ++ tree)) (length factors - 1) k factors (omega arith)
    (later_solved depths gates tree (tree_named k factors some h))
    (every_map₂ (λ (f : Node). ◌∙◌) factors (factors_kept depths gates tree factors h) known)
    ∙ tree_depth k factors some
