-- Networks: gates over some inputs; each input and each gate but the outputs is read, and no pair is repeated.
-- A network followed by one over its outputs is a network again, and so are two beside each other, each over its own inputs;
-- so a table whose parts are networks is one, and all its gates count.
-- Assumes nothing.
use mathlib.Core.Path.{◌≡◌}
use mathlib.Core.Bool.{true}
use mathlib.Core.List.{List, [], ◌∷◌, ◌++◌}
use mathlib.Core.Logic.{◌⊎◌, inl, inr, ⊎_elim}
use Prim.Native.Nat.{ℕ, suc, ◌+◌, ◌≤◌, ◌<◌}
use native.Mathlib.Omega.{arith}
use native.Mathlib.Decide.{dec_lt, ℕ_discrete}
use lib.ListN.{length, length-append}
use Rattle.circuit.specs.Count.{counted}
use Rattle.circuit.specs.Every.{Some}
use Rattle.circuit.specs.Gate.{Gate}
use Rattle.circuit.specs.Segment.{Node}
use Rattle.circuit.specs.Table.{Head, all_fit}
use Rattle.circuit.proofs.AllCounted.{Read, all_counted}
use Rattle.circuit.proofs.Every.{every_append}
use Rattle.circuit.proofs.Some.{some_left, some_right, some_either}
use Rattle.circuit.proofs.Unrepeated.{EachFactor, NoMul, Unrepeated, factors_map, none_has, unrepeated_append, none_unrepeated}

-- number x is the gate of one of the nodes
abbrev pub Among : ℕ → List Node → Type 0
Among x nodes = Some (λ (f : Node). f.gate ≡ x) nodes

-- it is that of an input, or one of n gates from number k on
abbrev pub Within : List Node → ℕ → ℕ → ℕ → Type 0
Within inputs k n x = Among x inputs ⊎ ((k ≤ x) × (x < k + n))

-- gates from number k on
pub record Network (k : ℕ) (inputs : List Node) (gs : List Gate) (outputs : List Node) : Type 0 where
  -- the inputs stand before the gates, and each output is an input or a gate
  pub before : (x : ℕ) → Among x inputs → x < k
  pub from : (x : ℕ) → Among x outputs → Within inputs k (length gs) x
  -- each input and each gate is read or is an output
  pub read : (x : ℕ) → Within inputs k (length gs) x → Read x gs ⊎ Among x outputs
  -- no pair is repeated, and the MULs multiply inputs and gates, but no outputs
  pub pairs : Unrepeated gs
  pub inner : EachFactor (λ x. Within inputs k (length gs) x × (Among x outputs → ⊥)) gs

-- the outputs stand before the next gate
pub outputs_before : {k : ℕ} {inputs outputs : List Node} {gs : List Gate} → Network k inputs gs outputs
    → (x : ℕ) → Among x outputs → x < k + length gs
outputs_before {k} {inputs} {outputs} {gs} network x a = go (network.from x a)
  where
    go : Within inputs k (length gs) x → x < k + length gs
    go (inl h) = omega (arith, network.before x h)
    go (inr l) = l.1

-- ---- simple ones

-- no gates: the inputs are the outputs
pub wires : (k : ℕ) (nodes : List Node) → ((x : ℕ) → Among x nodes → x < k) → Network k nodes [] nodes
wires k nodes low = record {
  before = low;
  from = λ x h. inl h;
  read = λ x. ⊎_elim inr (λ l. absurd (omega (arith, l.0, l.1)));
  pairs = tt;
  inner = tt;
}

-- gates without a MUL
pub plain : (k : ℕ) (inputs outputs : List Node) (gs : List Gate) → NoMul gs → ((x : ℕ) → Among x inputs → x < k)
    → ((x : ℕ) → Among x outputs → Within inputs k (length gs) x) → ((x : ℕ) → Within inputs k (length gs) x → Read x gs ⊎ Among x outputs)
    → Network k inputs gs outputs
plain k inputs outputs gs none low from read = record {
  before = low;
  from = from;
  read = read;
  pairs = none_unrepeated gs none;
  inner = none_has _ gs none;
}

-- gates that follow their only input at once
module _ (input : Node) (gs : List Gate) (outputs : List Node) where
  abbrev z : ℕ
  z = input.gate

  -- the input or one of the gates
  abbrev pub FromInput : ℕ → Type 0
  FromInput x = (z ≤ x) × (x < suc z + length gs)

  is_within : (x : ℕ) → FromInput x → Within (input ∷ []) (suc z) (length gs) x
  is_within x l = go (ℕ_discrete z x)
    where
      go : Dec (z ≡ x) → Within (input ∷ []) (suc z) (length gs) x
      go (yes e) = inl (inl e)
      go (no n) = inr (omega (arith, l.0), l.1)

  within_is : (x : ℕ) → Within (input ∷ []) (suc z) (length gs) x → FromInput x
  within_is x (inl (inl e)) = (omega arith, omega arith)
  within_is x (inl (inr none)) = absurd none
  within_is x (inr l) = (omega (arith, l.0), l.1)

  pub over_one : ((x : ℕ) → Among x outputs → FromInput x) → ((x : ℕ) → FromInput x → Read x gs ⊎ Among x outputs) → Unrepeated gs
      → EachFactor (λ x. FromInput x × (Among x outputs → ⊥)) gs → Network (suc z) (input ∷ []) gs outputs
  over_one from read pairs inner = record {
    before = λ x. ⊎_elim (λ e. omega arith) (λ none. absurd none);
    from = λ x a. is_within x (from x a);
    read = λ x w. read x (within_is x w);
    pairs = pairs;
    inner = factors_map (λ x h. (is_within x h.0, h.1)) gs inner;
  }

-- ---- one after the other

module _ {k m : ℕ} {inputs middle outputs : List Node} {gs hs : List Gate}
    (first : Network k inputs gs middle) (next : m ≡ k + length gs) (second : Network m middle hs outputs) where
  abbrev whole : List Gate
  whole = gs ++ hs

  size : length whole ≡ length gs + length hs
  size = length-append gs hs

  first_within : (x : ℕ) → Within inputs k (length gs) x → Within inputs k (length whole) x
  first_within x (inl h) = inl h
  first_within x (inr l) = inr (l.0, omega (arith, l.1, size))

  second_within : (x : ℕ) → Within middle m (length hs) x → Within inputs k (length whole) x
  second_within x (inl h) = first_within x (first.from x h)
  second_within x (inr l) = inr (omega (arith, l.0), omega (arith, l.1, size))

  below : (x : ℕ) → Within inputs k (length gs) x → x < m
  below x (inl h) = omega (arith, first.before x h)
  below x (inr l) = omega (arith, l.1)

  -- nothing that the first multiplies can the second multiply
  apart : (x : ℕ) → Within inputs k (length gs) x × (Among x middle → ⊥) → Within middle m (length hs) x → ⊥
  apart x h (inl a) = h.1 a
  apart x h (inr l) = omega (arith, below x h.0, l.0)

  sequence_read : (x : ℕ) → Within inputs k (length whole) x → Read x whole ⊎ Among x outputs
  sequence_read x h = go h (dec_lt x m)
    where
      later : Within middle m (length hs) x → Read x whole ⊎ Among x outputs
      later h = ⊎_elim (λ r. inl (some_right _ gs hs r)) inr (second.read x h)

      early : Within inputs k (length gs) x → Read x whole ⊎ Among x outputs
      early h = ⊎_elim (λ r. inl (some_left _ gs hs r)) (λ a. later (inl a)) (first.read x h)

      go : Within inputs k (length whole) x → Dec (x < m) → Read x whole ⊎ Among x outputs
      go (inl a) d = early (inl a)
      go (inr l) (yes low) = early (inr (l.0, omega (arith, l.0)))
      go (inr l) (no high) = later (inr (omega arith, omega (arith, l.1, size)))

  pub in_sequence : Network k inputs whole outputs
  in_sequence = record {
    before = first.before;
    from = λ x h. second_within x (second.from x h);
    read = sequence_read;
    pairs =
        unrepeated_append _ _ (λ a b q. (λ r. apart a q.0 r.0.0, λ r. apart a q.0 r.1.0)) gs hs
        first.inner second.inner first.pairs second.pairs;
    inner =
        every_append _ gs hs
        (factors_map (λ x h. (first_within x h.0, λ a. apart x h (second.from x a))) gs first.inner)
        (factors_map (λ x h. (second_within x h.0, h.1)) hs second.inner);
  }

-- ---- one beside the other

module _ {k m : ℕ} {inputs inputs' outputs outputs' : List Node} {gs hs : List Gate}
    (first : Network k inputs gs outputs) (next : m ≡ k + length gs) (second : Network m inputs' hs outputs')
    (early : (x : ℕ) → Among x inputs' → (x < k) × (Among x inputs → ⊥)) where
  abbrev both : List Gate
  both = gs ++ hs

  abbrev all_inputs : List Node
  all_inputs = inputs ++ inputs'

  abbrev all_outputs : List Node
  all_outputs = outputs ++ outputs'

  sizes : length both ≡ length gs + length hs
  sizes = length-append gs hs

  left_within : (x : ℕ) → Within inputs k (length gs) x → Within all_inputs k (length both) x
  left_within x (inl h) = inl (some_left _ inputs inputs' h)
  left_within x (inr l) = inr (l.0, omega (arith, l.1, sizes))

  right_within : (x : ℕ) → Within inputs' m (length hs) x → Within all_inputs k (length both) x
  right_within x (inl h) = inl (some_right _ inputs inputs' h)
  right_within x (inr l) = inr (omega (arith, l.0), omega (arith, l.1, sizes))

  -- no gate is of both
  sides_apart : (x : ℕ) → Within inputs k (length gs) x → Within inputs' m (length hs) x → ⊥
  sides_apart x (inl h) (inl a) = (early x a).1 h
  sides_apart x (inl h) (inr l) = omega (arith, first.before x h, l.0)
  sides_apart x (inr l) (inl a) = omega (arith, l.0, (early x a).0)
  sides_apart x (inr l) (inr u) = omega (arith, l.1, u.0)

  -- and so no output of the other is multiplied
  left_inner : (x : ℕ) → Within inputs k (length gs) x × (Among x outputs → ⊥) → Among x all_outputs → ⊥
  left_inner x h a = ⊎_elim h.1 (λ o. sides_apart x h.0 (second.from x o)) (some_either _ outputs outputs' a)

  right_inner : (x : ℕ) → Within inputs' m (length hs) x × (Among x outputs' → ⊥) → Among x all_outputs → ⊥
  right_inner x h a = ⊎_elim (λ o. sides_apart x (first.from x o) h.0) h.1 (some_either _ outputs outputs' a)

  beside_read : (x : ℕ) → Within all_inputs k (length both) x → Read x both ⊎ Among x all_outputs
  beside_read x h = go h (dec_lt x m)
    where
      left : Within inputs k (length gs) x → Read x both ⊎ Among x all_outputs
      left h = ⊎_elim (λ r. inl (some_left _ gs hs r)) (λ a. inr (some_left _ outputs outputs' a)) (first.read x h)

      right : Within inputs' m (length hs) x → Read x both ⊎ Among x all_outputs
      right h = ⊎_elim (λ r. inl (some_right _ gs hs r)) (λ a. inr (some_right _ outputs outputs' a)) (second.read x h)

      go : Within all_inputs k (length both) x → Dec (x < m) → Read x both ⊎ Among x all_outputs
      go (inl a) d = ⊎_elim (λ h. left (inl h)) (λ h. right (inl h)) (some_either _ inputs inputs' a)
      go (inr l) (yes low) = left (inr (l.0, omega (arith, l.0)))
      go (inr l) (no high) = right (inr (omega arith, omega (arith, l.1, sizes)))

  pub side_by_side : Network k all_inputs both all_outputs
  side_by_side = record {
    before = λ x h. ⊎_elim (first.before x) (λ a. (early x a).0) (some_either _ inputs inputs' h);
    from = λ x h.
        ⊎_elim (λ a. left_within x (first.from x a)) (λ a. right_within x (second.from x a)) (some_either _ outputs outputs' h);
    read = beside_read;
    pairs =
        unrepeated_append _ _ (λ a b q. (λ r. sides_apart a q.0.0 r.0.0, λ r. sides_apart a q.0.0 r.1.0)) gs hs
        first.inner second.inner first.pairs second.pairs;
    inner =
        every_append _ gs hs
        (factors_map (λ x h. (left_within x h.0, left_inner x h)) gs first.inner)
        (factors_map (λ x h. (right_within x h.0, right_inner x h)) hs second.inner);
  }

-- ---- a table whose only output is its last gate

pub network_counted : (head : Head) (gates : List Gate) (output : Node) → all_fit head 0 gates ≡ true → Network 0 [] gates (output ∷ [])
    → suc output.gate ≡ length gates → counted gates ≡ gates
network_counted head gates output fit network last =
    all_counted head gates fit
    (λ i l. ⊎_elim (λ r. r) (⊎_elim (λ e. absurd (omega arith)) (λ n. absurd n)) (network.read i (inr (omega arith, omega arith))))
    network.pairs
