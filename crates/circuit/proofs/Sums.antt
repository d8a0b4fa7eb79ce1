-- Sums of gates: over any entries that solve them the last gate is the sum of the terms, and as deep as the deepest;
-- how many gates they are, and that they fit.
-- By induction on the terms after the first, from the sum so far.
-- Assumes nothing.
use mathlib.Core.Path.{◌≡◌, refl, sym, ap, ◌∙◌}
use mathlib.Core.Bool.{Bool, true, false}
use mathlib.Core.List.{List, [], ◌∷◌, map, map-map}
use mathlib.Core.Logic.{inl, inr}
use Prim.Native.Nat.{ℕ, suc, ◌+◌, ◌*◌, ◌%◌, ◌≤◌, ◌<◌, max, zero-le}
use native.Mathlib.Omega.{arith}
use native.Mathlib.Decide.{dec_lt}
use native.Mathlib.Nat.{mod-mod, add_assoc}
use lib.ListN.{length, length-map}
use Rattle.field.specs.Logarithm.{clog}
use Rattle.field.specs.Sum.{total}
use Rattle.field.proofs.Logarithm.{clog_max, clog_small}
use Rattle.field.proofs.Modular.{mod_same, add_cong, add_mod_is, residue_below}
use Rattle.circuit.specs.Count.{count, is_product, is_square}
use Rattle.circuit.specs.Depth.{depths}
use Rattle.circuit.specs.Every.{Every, Some}
use Rattle.circuit.specs.Gate.{Gate, Add}
use Rattle.circuit.specs.Meaning.{meaning, Solves}
use Rattle.circuit.specs.SumPromises.{SumValue, SumBelow, SumDepth, SumCount, SumFits}
use Rattle.circuit.specs.Sums.{later_sum, sum_from, sum_gate, largest}
use Rattle.circuit.specs.Table.{Head, fits, all_fit}
use Rattle.circuit.specs.Value.{values}
use Rattle.circuit.proofs.Every.{every_map}
use Rattle.circuit.proofs.Fitting.{one_fits, fits_later}
use Rattle.circuit.proofs.Some.{some_map}

-- ---- values

module _ (p : ℕ) (left right : List ℕ) (E : ℕ → ℕ) (positive : 0 < p) where
  later_value : (sum last : ℕ) (gs : List Gate) → sum + 2 * length gs ≡ last
      → Solves (values p left right) E (suc sum) (later_sum (suc sum) sum gs)
      → E last % p ≡ (E sum + total (map (meaning (values p left right) E) gs)) % p
  unfolding later_sum total
  later_value sum last [] e h =
      let here : last ≡ sum = omega arith in mod_same p (ap E here ∙ omega arith)
  later_value sum last (g ∷ gs) e h =
      let value = meaning (values p left right) E in
      later_value (suc (suc sum)) last gs (omega arith) h.1.1
      ∙ add_cong p _ (E sum + value g) (total (map value gs)) _
      (mod_same p (h.1.0 ∙ add_mod_is p _ _ positive) ∙ mod-mod _ p ∙ mod_same p (ap (λ (x : ℕ). E sum + x) h.0))
      refl
      ∙ mod_same p (add_assoc (E sum) (value g) _)

  later_below : (sum last : ℕ) (gs : List Gate) → sum + 2 * length gs ≡ last
      → Solves (values p left right) E (suc sum) (later_sum (suc sum) sum gs) → E sum < p → E last < p
  unfolding later_sum
  later_below sum last [] e h l =
      let here : last ≡ sum = omega arith in omega (arith, ap E here)
  later_below sum last (g ∷ gs) e h l =
      later_below (suc (suc sum)) last gs (omega arith) h.1.1 (rw h.1.0 (residue_below p _ positive))

pub sum_value : SumValue
unfolding total
sum_value p left right E k [] positive some h = absurd (omega arith)
sum_value p left right E k (g ∷ gs) positive some h =
    later_value p left right E positive k _ gs (omega arith) h.1
    ∙ mod_same p (ap (λ (x : ℕ). x + total (map (meaning (values p left right) E) gs)) h.0)

pub sum_below : SumBelow
sum_below p left right E k [] positive some h l = absurd (omega arith)
sum_below p left right E k (g ∷ gs) positive some h l = later_below p left right E positive k _ gs (omega arith) h.1 l

-- ---- totals

-- congruent entries have congruent totals
pub total_cong : {X : Type 0} (p : ℕ) (F G : X → ℕ) (xs : List X) → Every (λ x. F x % p ≡ G x % p) xs → total (map F xs) % p ≡ total (map G xs) % p
unfolding total
total_cong p F G [] h = refl
total_cong p F G (x ∷ xs) h = add_cong p (F x) (G x) _ _ h.0 (total_cong p F G xs h.1)

-- ---- depths

later_depth : (E : ℕ → ℕ) (sum last : ℕ) (gs : List Gate) → sum + 2 * length gs ≡ last
    → Solves depths E (suc sum) (later_sum (suc sum) sum gs) → E last ≡ max (E sum) (largest (map (meaning depths E) gs))
unfolding later_sum largest
later_depth E sum last [] e h =
    let here : last ≡ sum = omega arith in omega (arith, ap E here)
later_depth E sum last (g ∷ gs) e h = omega (arith, later_depth E (suc (suc sum)) last gs (omega arith) h.1.1, h.0, h.1.0)

pub sum_depth : SumDepth
unfolding largest
sum_depth E k [] some h = absurd (omega arith)
sum_depth E k (g ∷ gs) some h = omega (arith, later_depth E k (sum_gate k (suc (length gs))) gs (omega arith) h.1, h.0)

-- the largest is at least each, and at most what all are within
pub largest_covers : {X : Type 0} (F : X → ℕ) (xs : List X) → Every (λ x. F x ≤ largest (map F xs)) xs
unfolding largest
largest_covers F [] = tt
largest_covers F (x ∷ xs) = (omega arith, every_map (λ y l. omega arith) xs (largest_covers F xs))

pub largest_within : {X : Type 0} (F : X → ℕ) (D : ℕ) (xs : List X) → Every (λ x. F x ≤ D) xs → largest (map F xs) ≤ D
unfolding largest
largest_within F D [] h = zero-le
largest_within F D (x ∷ xs) h = omega (arith, h.0, largest_within F D xs h.1)

-- and of some entries one is the largest
pub largest_reached : {X : Type 0} (F : X → ℕ) (xs : List X) → 1 ≤ length xs → Some (λ x. F x ≡ largest (map F xs)) xs
unfolding largest
largest_reached F [] some = absurd (omega arith)
largest_reached F (x ∷ []) some = inl (omega arith)
largest_reached F (x ∷ y ∷ xs) some = go (dec_lt (F x) (largest (map F (y ∷ xs)))) (largest_reached F (y ∷ xs) (omega arith))
  where
    most : ℕ
    most = largest (map F (y ∷ xs))

    go : Dec (F x < most) → Some (λ z. F z ≡ most) (y ∷ xs) → Some (λ z. F z ≡ max (F x) most) (x ∷ y ∷ xs)
    go (yes l) later = let same : most ≡ max (F x) most = omega arith in inr (some_map (λ z e. e ∙ same) (y ∷ xs) later)
    go (no n) later = inl (omega arith)

-- of entries that are all so much larger, so much larger
pub largest_plus : {X : Type 0} (D : ℕ) (F : X → ℕ) (xs : List X) → 1 ≤ length xs
    → largest (map (λ x. D + F x) xs) ≡ D + largest (map F xs)
unfolding largest
largest_plus D F [] some = absurd (omega arith)
largest_plus D F (x ∷ []) some = omega arith
largest_plus D F (x ∷ y ∷ xs) some = omega (arith, largest_plus D F (y ∷ xs) (omega arith))

-- the largest has the largest logarithm
pub clog_largest : {X : Type 0} (F : X → ℕ) (xs : List X) → clog (largest (map F xs)) ≡ largest (map (λ x. clog (F x)) xs)
unfolding largest
clog_largest F [] = clog_small 0 zero-le
clog_largest F (x ∷ xs) = clog_max (F x) (largest (map F xs)) ∙ ap (max (clog (F x))) (clog_largest F xs)

-- ---- how many gates they are

later_length : (k sum : ℕ) (gs : List Gate) → length (later_sum k sum gs) ≡ 2 * length gs
unfolding later_sum
later_length k sum [] = refl
later_length k sum (g ∷ gs) = omega (arith, later_length (suc (suc k)) (suc k) gs)

-- of those that pass a test which no ADD passes, as many as among the terms
later_count : (test : Gate → Bool) → ((a b : ℕ) → test (Add a b) ≡ false) → (k sum : ℕ) (gs : List Gate)
    → count test (later_sum k sum gs) ≡ count test gs
unfolding later_sum count
later_count test none k sum [] = refl
later_count test none k sum (g ∷ gs) = rw (none sum k) (omega (arith, later_count test none (suc (suc k)) (suc k) gs))

pub sum_count : SumCount
unfolding count
sum_count k [] = (refl, refl, refl)
sum_count k (g ∷ gs) = (
  omega (arith, later_length (suc k) k gs),
  omega (arith, later_count is_product (λ a b. refl) (suc k) k gs),
  omega (arith, later_count is_square (λ a b. refl) (suc k) k gs),
)

-- ---- what they name

later_fit : (head : Head) (k sum : ℕ) (gs : List Gate) → sum < k → Every (λ (g : Gate). fits head k g ≡ true) gs
    → all_fit head k (later_sum k sum gs) ≡ true
unfolding later_sum all_fit
later_fit head k sum [] l h = refl
later_fit head k sum (g ∷ gs) l h =
    rw (h.0, one_fits head (suc k) (Add sum k) (omega arith))
    (later_fit head (suc (suc k)) (suc k) gs (omega arith) (every_map (λ g t. fits_later head k (suc (suc k)) g (omega arith) t) gs h.1))

pub sum_fits : SumFits
unfolding all_fit
sum_fits head k [] h = refl
sum_fits head k (g ∷ gs) h =
    rw h.0 (later_fit head (suc k) k gs (omega arith) (every_map (λ g t. fits_later head k (suc k) g (omega arith) t) gs h.1))

-- ---- terms that are made of other things

module _ {X : Type 0} (term : X → Gate) where
  terms_some : (xs : List X) → 1 ≤ length xs → 1 ≤ length (map term xs)
  terms_some xs some = omega (arith, length-map xs term)

  place_map : (k : ℕ) (xs : List X) → sum_gate k (length xs) ≡ sum_gate k (length (map term xs))
  place_map k xs = ap (sum_gate k) (sym (length-map xs term))

  module _ (p : ℕ) (left right : List ℕ) (E : ℕ → ℕ) (k : ℕ) (xs : List X) (positive : 0 < p) (some : 1 ≤ length xs) where
    pub sum_value_map : Solves (values p left right) E k (sum_from k (map term xs))
        → E (sum_gate k (length xs)) % p ≡ total (map (λ x. meaning (values p left right) E (term x)) xs) % p
    sum_value_map h =
        mod_same p (ap E (place_map k xs))
        ∙ sum_value p left right E k (map term xs) positive (terms_some xs some) h
        ∙ mod_same p (ap total (map-map (meaning (values p left right) E) term xs))

    pub sum_below_map : Solves (values p left right) E k (sum_from k (map term xs)) → E k < p → E (sum_gate k (length xs)) < p
    sum_below_map h l = rw (place_map k xs) (sum_below p left right E k (map term xs) positive (terms_some xs some) h l)

  pub sum_depth_map : (E : ℕ → ℕ) (k : ℕ) (xs : List X) → 1 ≤ length xs → Solves depths E k (sum_from k (map term xs))
      → E (sum_gate k (length xs)) ≡ largest (map (λ x. meaning depths E (term x)) xs)
  sum_depth_map E k xs some h =
      ap E (place_map k xs) ∙ sum_depth E k (map term xs) (terms_some xs some) h ∙ ap largest (map-map (meaning depths E) term xs)
