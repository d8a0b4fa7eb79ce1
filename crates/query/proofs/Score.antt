-- The sum that ends the table of a score card: over entries that solve it, it is the score modulo p and as deep as the deepest output;
-- how many gates it has, that they fit, and that they read every output.
-- What is special to it is that its terms are the outputs by the weights; the rest is so of sums of any gates.
-- Assumes nothing.
use mathlib.Core.Path.{◌≡◌, refl, sym, ap, ap₂, ◌∙◌}
use mathlib.Core.Bool.{Bool, true, false}
use mathlib.Core.List.{List, [], ◌∷◌, map}
use mathlib.Core.Logic.{inl, inr}
use Prim.Native.Nat.{ℕ, suc, ◌-◌, ◌*◌, ◌%◌, ◌≤◌, ◌<◌}
use native.Mathlib.Omega.{arith}
use native.Mathlib.Nat.{mod-mod, mul_comm}
use lib.ListN.{length, length-map, get_or, drop}
use Rattle.field.specs.Bit.{bit}
use Rattle.field.specs.Sum.{total}
use Rattle.field.proofs.Modular.{mod_same, add_cong, mul_mod_is}
use Rattle.circuit.specs.Constant.{Constant, code}
use Rattle.circuit.specs.Count.{count, is_product, is_square}
use Rattle.circuit.specs.Depth.{depths}
use Rattle.circuit.specs.Every.{Every}
use Rattle.circuit.specs.Gate.{Gate, Scale}
use Rattle.circuit.specs.Meaning.{meaning, Solves}
use Rattle.circuit.specs.OldConstants.{old_gate}
use Rattle.circuit.specs.Segment.{Node}
use Rattle.circuit.specs.Sums.{sum_from, sum_gate, largest}
use Rattle.circuit.specs.Table.{Head, fits, all_fit}
use Rattle.circuit.specs.Value.{values}
use Rattle.circuit.proofs.AllCounted.{Read}
use Rattle.circuit.proofs.Constant.{code_fits, code_is}
use Rattle.circuit.proofs.Ends.{sum_network}
use Rattle.circuit.proofs.Fitting.{one_fits}
use Rattle.circuit.proofs.Networks.{Among, Network}
use Rattle.circuit.proofs.OldConstants.{sum_old, old_constant}
use Rattle.circuit.proofs.Sums.{sum_value, sum_depth, sum_count, sum_fits}
use Rattle.circuit.proofs.Unrepeated.{NoMul}
use Rattle.comparison.specs.Condition.{Condition, holds}
use Rattle.query.specs.Card.{total_weight}
use Rattle.query.specs.Holds.{truths, score_of}
use Rattle.query.specs.Score.{weights_of, scaled_outputs, score_sum}
use Rattle.query.specs.ScorePromises.{old_outputs, OldWeights}

-- ---- weights

-- where their total is below p, each is
pub each_below : (p : ℕ) (cs : List Condition) → total_weight cs < p → Every (λ (w : ℕ). w < p) (weights_of cs)
unfolding total
each_below p [] h = tt
each_below p (c ∷ cs) h = (omega arith, each_below p cs (omega arith))

-- a weight that counts or not
pub weight_within : (w : ℕ) (b : Bool) → w * bit b ≤ w
weight_within w true = omega arith
weight_within w false = omega arith

-- the score is at most their total
pub score_most : (B : ℕ) (left right : List ℕ) (cs : List Condition) → score_of B left right cs ≤ total_weight cs
unfolding total
score_most B left right [] = omega arith
score_most B left right (c ∷ cs) = omega (arith, weight_within c.weight (holds B left right c), score_most B left right cs)

-- ---- how many gates it has

module _ (p : ℕ) where
  scaled_length : (ws : List ℕ) (outputs : List Node) → length outputs ≡ length ws → length (scaled_outputs p ws outputs) ≡ length outputs
  unfolding scaled_outputs
  scaled_length [] [] e = refl
  scaled_length [] (f ∷ fs) e = absurd (omega arith)
  scaled_length (w ∷ ws) [] e = refl
  scaled_length (w ∷ ws) (f ∷ fs) e = ap suc (scaled_length ws fs (omega arith))

  -- as many terms as outputs
  terms_length : (cs : List Condition) (outputs : List Node) → length outputs ≡ length cs
      → length (scaled_outputs p (weights_of cs) outputs) ≡ length outputs
  terms_length cs outputs e = scaled_length (weights_of cs) outputs (e ∙ sym (length-map cs (λ (c : Condition). c.weight)))

  -- none of them passes a test that no SCALE passes
  scaled_none : (test : Gate → Bool) → ((a : ℕ) (c : Constant) → test (Scale a c) ≡ false) → (ws : List ℕ) (outputs : List Node)
      → count test (scaled_outputs p ws outputs) ≡ 0
  unfolding scaled_outputs count
  scaled_none test none [] outputs = refl
  scaled_none test none (w ∷ ws) [] = refl
  scaled_none test none (w ∷ ws) (f ∷ fs) = rw (none f.gate (code p w)) (omega (arith, scaled_none test none ws fs))

  pub score_counts : (k : ℕ) (cs : List Condition) (outputs : List Node) → length outputs ≡ length cs
      → let gates = (score_sum p cs k outputs).gates in
      (length gates ≡ 2 * length cs - 1) × (count is_product gates ≡ 0) × (count is_square gates ≡ 0)
  score_counts k cs outputs e =
      let counts = sum_count k (scaled_outputs p (weights_of cs) outputs) in (
        omega (arith, counts.0, terms_length cs outputs e),
        counts.1 ∙ scaled_none is_product (λ a c. refl) (weights_of cs) outputs,
        counts.2 ∙ scaled_none is_square (λ a c. refl) (weights_of cs) outputs,
      )

-- ---- what it names

module _ (head : Head) (odd : head.prime % 2 ≡ 1) (k : ℕ) where
  scaled_fit : (ws : List ℕ) (outputs : List Node) → Every (λ (w : ℕ). w < head.prime) ws
      → Every (λ (f : Node). f.gate < k) outputs → Every (λ (g : Gate). fits head k g ≡ true) (scaled_outputs head.prime ws outputs)
  unfolding scaled_outputs
  scaled_fit [] outputs below named = tt
  scaled_fit (w ∷ ws) [] below named = tt
  scaled_fit (w ∷ ws) (f ∷ fs) below named = (
    one_fits head k (Scale f.gate (code head.prime w)) (named.0, code_fits head.prime w below.0 odd),
    scaled_fit ws fs below.1 named.1,
  )

  pub score_fits : (cs : List Condition) (outputs : List Node) → Every (λ (w : ℕ). w < head.prime) (weights_of cs)
      → Every (λ (f : Node). f.gate < k) outputs → all_fit head k (score_sum head.prime cs k outputs).gates ≡ true
  score_fits cs outputs below named =
      sum_fits head k (scaled_outputs head.prime (weights_of cs) outputs) (scaled_fit (weights_of cs) outputs below named)

-- ---- it reads every output

module _ (p : ℕ) where
  scaled_plain : (ws : List ℕ) (outputs : List Node) → NoMul (scaled_outputs p ws outputs)
  unfolding scaled_outputs
  scaled_plain [] outputs = tt
  scaled_plain (w ∷ ws) [] = tt
  scaled_plain (w ∷ ws) (f ∷ fs) = (tt, scaled_plain ws fs)

  scaled_read : (ws : List ℕ) (outputs : List Node) → length outputs ≡ length ws → (x : ℕ) → Among x outputs → Read x (scaled_outputs p ws outputs)
  unfolding scaled_outputs
  scaled_read ws [] e x a = absurd a
  scaled_read [] (f ∷ fs) e x a = absurd (omega arith)
  scaled_read (w ∷ ws) (f ∷ fs) e x (inl s) = inl (inl s)
  scaled_read (w ∷ ws) (f ∷ fs) e x (inr a) = inr (scaled_read ws fs (omega arith) x a)

  pub score_network : (k : ℕ) (cs : List Condition) (outputs : List Node) → length outputs ≡ length cs → 1 ≤ length cs
      → ((x : ℕ) → Among x outputs → x < k) → Network k outputs (score_sum p cs k outputs).gates ((score_sum p cs k outputs).output ∷ [])
  score_network k cs outputs many some before =
      let long = terms_length p cs outputs many in
      let same = many ∙ sym (length-map cs (λ (c : Condition). c.weight)) in
      sum_network k outputs (scaled_outputs p (weights_of cs) outputs) (score_sum p cs k outputs).output (omega arith)
      (scaled_plain (weights_of cs) outputs) (λ x a. (before x a, scaled_read (weights_of cs) outputs same x a)) (ap (sum_gate k) (sym long))

-- ---- its value

module _ (p : ℕ) (left right : List ℕ) (positive : 0 < p) (E : ℕ → ℕ) (B : ℕ) where
  -- the terms together, where the outputs are the conditions' truths
  scaled_total : (cs : List Condition) (outputs : List Node) → Every (λ (w : ℕ). w < p) (weights_of cs)
      → map (λ (f : Node). E f.gate) outputs ≡ truths B left right cs
      → total (map (meaning (values p left right) E) (scaled_outputs p (weights_of cs) outputs)) % p ≡ score_of B left right cs % p
  unfolding scaled_outputs total
  scaled_total [] outputs below e = refl
  scaled_total (c ∷ cs) [] below e = absurd (omega (arith, ap length e))
  scaled_total (c ∷ cs) (f ∷ fs) below e =
      let truth = bit (holds B left right c) in
      let here : E f.gate ≡ truth = ap (λ (vs : List ℕ). get_or vs 0 0) e in
      let term : (E f.gate * _) % p ≡ (truth * c.weight) % p = mod_same p (ap₂ ◌*◌ here (code_is p c.weight below.0)) in
      add_cong p _ (c.weight * truth) _ (score_of B left right cs)
      (mod_same p (mul_mod_is p _ _ positive) ∙ mod-mod _ p ∙ term ∙ mod_same p (mul_comm truth c.weight))
      (scaled_total cs fs below.1 (ap (drop 1) e))

  pub score_value : (k : ℕ) (cs : List Condition) (outputs : List Node) → length outputs ≡ length cs → 1 ≤ length cs
      → Every (λ (w : ℕ). w < p) (weights_of cs) → map (λ (f : Node). E f.gate) outputs ≡ truths B left right cs
      → Solves (values p left right) E k (score_sum p cs k outputs).gates
      → E (score_sum p cs k outputs).output.gate % p ≡ score_of B left right cs % p
  score_value k cs outputs many some below e h =
      let long = terms_length p cs outputs many in
      mod_same p (ap (λ (n : ℕ). E (sum_gate k n)) (sym long))
      ∙ sum_value p left right E k (scaled_outputs p (weights_of cs) outputs) positive (omega arith) h
      ∙ scaled_total cs outputs below e

-- ---- the constants that its terms had

old_each : (p : ℕ) (ws : List ℕ) (outputs : List Node) → Every (λ (w : ℕ). w < p) ws
    → map (old_gate p) (scaled_outputs p ws outputs) ≡ old_outputs ws outputs
unfolding scaled_outputs old_outputs
old_each p [] outputs below = refl
old_each p (w ∷ ws) [] below = refl
old_each p (w ∷ ws) (f ∷ fs) below =
    ap₂ (λ (g : Gate) (gs : List Gate). g ∷ gs) (old_constant p f.gate w below.0) (old_each p ws fs below.1)

pub old_weights : OldWeights
old_weights p k cs outputs below =
    sum_old p k (scaled_outputs p (weights_of cs) outputs) ∙ ap (sum_from k) (old_each p (weights_of cs) outputs (each_below p cs below))

-- ---- its depth

-- a term is as deep as its output
scaled_depths : (p : ℕ) (E : ℕ → ℕ) (ws : List ℕ) (outputs : List Node) → length outputs ≡ length ws
    → map (meaning depths E) (scaled_outputs p ws outputs) ≡ map (λ (f : Node). E f.gate) outputs
unfolding scaled_outputs
scaled_depths p E [] [] e = refl
scaled_depths p E [] (f ∷ fs) e = absurd (omega arith)
scaled_depths p E (w ∷ ws) [] e = refl
scaled_depths p E (w ∷ ws) (f ∷ fs) e = ap (λ (ds : List ℕ). E f.gate ∷ ds) (scaled_depths p E ws fs (omega arith))

pub score_deep : (p : ℕ) (E : ℕ → ℕ) (k : ℕ) (cs : List Condition) (outputs : List Node) → length outputs ≡ length cs → 1 ≤ length cs
    → Solves depths E k (score_sum p cs k outputs).gates
    → E (score_sum p cs k outputs).output.gate ≡ largest (map (λ (f : Node). E f.gate) outputs)
score_deep p E k cs outputs many some h =
    let long = terms_length p cs outputs many in
    ap (λ (n : ℕ). E (sum_gate k n)) (sym long)
    ∙ sum_depth E k (scaled_outputs p (weights_of cs) outputs) (omega arith) h
    ∙ ap largest (scaled_depths p E (weights_of cs) outputs (many ∙ sym (length-map cs (λ (c : Condition). c.weight))))
