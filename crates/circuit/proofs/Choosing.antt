-- What the product tree chooses: the factor that precedes all others; what is left is the others, in their order.
-- One induction over the list shows all that `least` keeps; the laws of the tree cite only `one_is`, `pair_is` and `next_length`.
-- Assumes nothing.
use mathlib.Core.Path.{◌≡◌, refl, sym, subst, ◌∙◌}
use mathlib.Core.Logic.{inl, inr, ◌≢◌}
use mathlib.Core.Bool.{true, false}
use mathlib.Core.List.Permᴰ
use mathlib.Core.List.{List, [], ◌∷◌, ◌++◌, Permᴰ}
use Prim.Native.Nat.{ℕ, suc, ◌≤◌, ◌<◌}
use native.Mathlib.Omega.{arith}
use native.Mathlib.Decide.{dec_le}
use native.Mathlib.Nat.{le_refl, le_trans, le_of_lt, lt_of_not-le, suc_inj}
use borrow.Author.Tests.{le-leb, lt-leb}
use lib.ListN.{length}
use Rattle.circuit.specs.Every.{Every}
use Rattle.circuit.specs.Factors.{InOrder, Precedes}
use Rattle.circuit.specs.ProductTree.{Choice, goes_first, least, choose}
use Rattle.circuit.specs.Segment.{Node, times}
use Rattle.circuit.proofs.Every.{every_map, every_map₂}
use Rattle.circuit.proofs.Rearranged.{same_length, same_every, last_first}

-- ---- factors in order

pub order_bounds : (i k : ℕ) (factors : List Node) → InOrder i k factors → i ≤ k
unfolding InOrder
order_bounds i k [] h = h
order_bounds i k (f ∷ fs) h = omega (arith, h.0, order_bounds (suc f.gate) k fs h.1)

-- each gate is between the bounds
pub order_every : (i k : ℕ) (factors : List Node) → InOrder i k factors → Every (λ (f : Node). (i ≤ f.gate) × (f.gate < k)) factors
unfolding InOrder
order_every i k [] h = tt
order_every i k (f ∷ fs) h = (
  (h.0, order_bounds (suc f.gate) k fs h.1),
  every_map (λ (g : Node) bounds. (omega (arith, h.0, bounds.0), bounds.1)) fs (order_every (suc f.gate) k fs h.1),
)

-- the lower bound may be lowered
pub order_lower : (i j k : ℕ) (factors : List Node) → i ≤ j → InOrder j k factors → InOrder i k factors
unfolding InOrder
order_lower i j k [] l h = le_trans l h
order_lower i j k (f ∷ fs) l h = (le_trans l h.0, h.1)

-- a later gate goes to the end
pub order_append : (i k m : ℕ) (factors : List Node) (f : Node) → InOrder i k factors → k ≤ f.gate → f.gate < m
    → InOrder i m (factors ++ (f ∷ []))
unfolding InOrder
order_append i k m [] f h low high = (omega arith, high)
order_append i k m (g ∷ gs) f h low high = (h.0, order_append (suc g.gate) k m gs f h.1 low high)

-- ---- the choice

-- of two in gate order, the first precedes the other unless it is deeper
first_precedes : (x f : Node) → x.depth ≤ f.depth → x.gate < f.gate → Precedes x f
first_precedes x f deep low = go (dec_le f.depth x.depth)
  where
    go : Dec (f.depth ≤ x.depth) → Precedes x f
    go (yes l) = inr (omega arith, low)
    go (no n) = inl (lt_of_not-le n)

-- a precedes f and is another gate
abbrev Before : Node → Node → Type 0
Before a f = Precedes a f × (a.gate ≢ f.gate)

all_precede : (a : Node) (factors : List Node) → Every (Before a) factors → Every (Precedes a) factors
all_precede a = every_map (λ (f : Node) (before : Before a f). before.0)

-- what a choice among factors keeps
record Chosen (factors : List Node) (choice : Choice) : Type 0 where
  -- the chosen one and the others are the factors
  same : Permᴰ (choice.chosen ∷ choice.others) factors
  -- none is less deep
  low : Every (λ (f : Node). choice.chosen.depth ≤ f.depth) factors
  -- the others stay in order
  order : (i k : ℕ) → InOrder i k factors → InOrder i k choice.others
  -- the chosen one is before the others
  first : (i k : ℕ) → InOrder i k factors → Every (Before choice.chosen) choice.others

goes : (x f : Node) → x.depth ≤ f.depth → goes_first x f ≡ true
goes x f shallow = search (le-leb)

waits : (x f : Node) → f.depth < x.depth → goes_first x f ≡ false
waits x f deeper = search (lt-leb)

-- x, where no later factor is less deep
here : (x y : Node) (ys : List Node) (later : Choice) → x.depth ≤ later.chosen.depth → Chosen (y ∷ ys) later
    → Chosen (x ∷ y ∷ ys) (record { chosen = x; others = y ∷ ys })
unfolding InOrder
here x y ys later shallow facts = record {
  same = Permᴰ.refl _;
  low = (le_refl _, every_map (λ (f : Node). le_trans shallow) (y ∷ ys) facts.low);
  order = λ i k h. order_lower i (suc x.gate) k (y ∷ ys) (omega (arith, h.0)) h.1;
  first = λ i k h.
      every_map₂
      (λ (f : Node) low bounds. (first_precedes x f (omega (arith, shallow, low)) bounds.0, λ e. omega (arith, bounds.0)))
      (y ∷ ys) facts.low (order_every (suc x.gate) k (y ∷ ys) h.1);
}

-- or a later one, where it is less deep than x
there : (x y : Node) (ys : List Node) (later : Choice) → later.chosen.depth < x.depth → Chosen (y ∷ ys) later
    → Chosen (x ∷ y ∷ ys) (record { chosen = later.chosen; others = x ∷ later.others })
unfolding InOrder
there x y ys later deeper facts = record {
  same = Permᴰ.trans (Permᴰ.swap refl refl) (Permᴰ.cons refl facts.same);
  low = (le_of_lt deeper, facts.low);
  order = λ i k h. (h.0, facts.order (suc x.gate) k h.1);
  first = λ i k h.
      let bounds = same_every _ facts.same (order_every (suc x.gate) k (y ∷ ys) h.1) in
      ((inl deeper, λ e. omega (arith, bounds.0.0)), facts.first (suc x.gate) k h.1);
}

least_is : (x : Node) (xs : List Node) → Chosen (x ∷ xs) (least x xs)
unfolding least InOrder
least_is x [] = record { same = Permᴰ.refl _; low = (le_refl _, tt); order = λ i k h. omega (arith, h.0, h.1); first = λ i k h. tt }
least_is x (y ∷ ys) = go (dec_le x.depth (least y ys).chosen.depth) (least_is y ys)
  where
    go : Dec (x.depth ≤ (least y ys).chosen.depth) → Chosen (y ∷ ys) (least y ys) → Chosen (x ∷ y ∷ ys) (least x (y ∷ ys))
    go (yes shallow) facts = rw (goes x (least y ys).chosen shallow) (here x y ys (least y ys) shallow facts)
    go (no deep) facts =
        let deeper = lt_of_not-le deep in rw (waits x (least y ys).chosen deeper) (there x y ys (least y ys) deeper facts)

choose_is : (factors : List Node) → 1 ≤ length factors → Chosen factors (choose factors)
choose_is [] h = absurd (omega arith)
choose_is (x ∷ xs) h = least_is x xs

-- ---- what a step of the tree takes

abbrev pub first_of : List Node → Node
first_of factors = (choose factors).chosen

abbrev pub second_of : List Node → Node
second_of factors = (choose (choose factors).others).chosen

abbrev pub rest_of : List Node → List Node
rest_of factors = (choose (choose factors).others).others

-- the factors after the product of two, which is gate number k
abbrev pub next : ℕ → List Node → List Node
next k factors = rest_of factors ++ (times k (first_of factors) (second_of factors) ∷ [])

-- a single factor is the one chosen
pub one_left : (factors : List Node) → length factors ≡ 1 → factors ≡ first_of factors ∷ []
unfolding least
one_left [] e = absurd (omega arith)
one_left (f ∷ []) e = refl
one_left (f ∷ g ∷ fs) e = absurd (omega arith)

pub one_is : (factors : List Node) → length factors ≡ 1 → Permᴰ (first_of factors ∷ []) factors
one_is factors e = subst (Permᴰ (first_of factors ∷ [])) (sym (one_left factors e)) (Permᴰ.refl _)

-- the two that are multiplied, and the rest
pub record Paired (factors : List Node) : Type 0 where
  pub same : Permᴰ (first_of factors ∷ second_of factors ∷ rest_of factors) factors
  -- the second is no less deep than the first, and the rest no less than the second
  pub rising : (first_of factors).depth ≤ (second_of factors).depth
  pub low : Every (λ (f : Node). (second_of factors).depth ≤ f.depth) (rest_of factors)
  -- of factors in order: the first precedes all others and the second the rest, both are lower gates than the product,
  -- they are two gates, and order is kept
  pub first : (k : ℕ) → InOrder 0 k factors → Every (Precedes (first_of factors)) (second_of factors ∷ rest_of factors)
  pub second : (k : ℕ) → InOrder 0 k factors → Every (Precedes (second_of factors)) (rest_of factors)
  pub named : (k : ℕ) → InOrder 0 k factors → ((first_of factors).gate < k) × ((second_of factors).gate < k)
  pub apart : (k : ℕ) → InOrder 0 k factors → (first_of factors).gate ≢ (second_of factors).gate
  pub order : (k : ℕ) → InOrder 0 k factors → InOrder 0 (suc k) (next k factors)
  -- and none of the two is left
  pub alone : (k : ℕ) → InOrder 0 k factors
      → Every (λ (f : Node). ((first_of factors).gate ≢ f.gate) × ((second_of factors).gate ≢ f.gate)) (rest_of factors)

pub pair_is : (n : ℕ) (factors : List Node) → length factors ≡ suc (suc n) → Paired factors
pair_is n factors e =
    let a = choose_is factors (omega arith) in
    let more : length (choose factors).others ≡ suc n = suc_inj (same_length a.same ∙ e) in
    let b = choose_is (choose factors).others (omega arith) in
    let parts = Permᴰ.trans (Permᴰ.cons refl b.same) a.same in
    record {
      same = parts;
      rising = (same_every _ parts a.low).1.0;
      low = (same_every _ b.same b.low).1;
      first = λ k h. all_precede (first_of factors) (second_of factors ∷ rest_of factors) (same_every _ b.same (a.first 0 k h));
      second = λ k h. all_precede (second_of factors) (rest_of factors) (b.first 0 k (a.order 0 k h));
      named = λ k h. let bounds = same_every _ parts (order_every 0 k factors h) in (bounds.0.1, bounds.1.0.1);
      apart = λ k h. (same_every _ b.same (a.first 0 k h)).0.1;
      order = λ k h.
          let product = times k (first_of factors) (second_of factors) in
          order_append 0 k (suc k) (rest_of factors) product (b.order 0 k (a.order 0 k h)) (le_refl _) (le_refl _);
      alone = λ k h.
          every_map₂ (λ (f : Node) first second. (first.1, second.1)) (rest_of factors)
          (same_every _ b.same (a.first 0 k h)).1 (b.first 0 k (a.order 0 k h));
    }

pub next_same : (k : ℕ) (factors : List Node)
    → Permᴰ (next k factors) (times k (first_of factors) (second_of factors) ∷ rest_of factors)
next_same k factors = last_first (rest_of factors) (times k (first_of factors) (second_of factors))

-- one factor fewer
pub next_length : (n k : ℕ) (factors : List Node) → length factors ≡ suc (suc n) → length (next k factors) ≡ suc n
next_length n k factors e = same_length (next_same k factors) ∙ suc_inj (same_length (pair_is n factors e).same ∙ e)
