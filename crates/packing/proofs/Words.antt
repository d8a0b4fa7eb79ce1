-- The build's state as words, and back. The numbers stand one by one, the outputs in two parts of eight words: a part that is padded with zeros
-- begins with the list that it was made of.
-- Assumes nothing.
use mathlib.Core.Path.{◌≡◌, refl, sym, ap, ap₂, ◌∙◌}
use mathlib.Core.Bool.{Bool, true, false, not, ◌&&◌}
use mathlib.Core.List.{List, [], ◌∷◌, ◌++◌, map}
use Prim.Native.Nat.{ℕ, zero, suc, ◌+◌, ◌≤◌}
use native.Mathlib.Omega.{arith}
use borrow.Author.Tests.{le-ltb, ltb-false, not-false}
use lib.Dec.{ltb, eqb}
use lib.ListN.{length, get_or, take, drop, replicate, length-append, length-drop, length-map}
use lib.Seq.{slice, slice-cons, slice_empty, take_at, drop_at, take_all, length-take-le}
use Rattle.field.specs.Bit.{bit}
use Rattle.field.specs.Primes.{listed}
use Rattle.field.proofs.Primes.{listed_is_odd_prime}
use Rattle.field.proofs.Tests.{neither, in_range}
use Rattle.digits.specs.Number.{most_digits}
use Rattle.circuit.specs.Segment.{Node}
use Rattle.circuit.specs.Table.{least_weight, most_weight, wrong_weight}
use Rattle.query.specs.Card.{most_conditions}
use Rattle.filling.proofs.Filled.{opened}
use Rattle.filling.proofs.Promises.{stays_open}
use Rattle.writer.specs.Nodes.{node_is}
use Rattle.writer.specs.declared.Node as code
use Rattle.state.specs.State.{state_is}
use Rattle.state.specs.declared.build.BuildState as declared
use Rattle.packing.specs.Outputs.{gates_of, depths_of, outputs_in}
use Rattle.packing.specs.Words.{padded, words_of, nodes, word, wrong_words, state_in, WordsBack, OpenedWords, FreshWords}

-- ---- entries one by one

-- n entries of a list from a place on
abbrev pub entries_from : List ℕ → ℕ → ℕ → List ℕ
entries_from list f zero = []
entries_from list f (suc n) = get_or list f 0 ∷ entries_from list (suc f) n

pub entries_from_lem : (list : List ℕ) (f n t : ℕ) → f + n ≡ t → t ≤ length list → entries_from list f n ≡ slice f t list
entries_from_lem list f zero t e l = let end : t ≡ f = omega arith in sym (slice_empty t list) ∙ ap (λ (k : ℕ). slice k t list) end
entries_from_lem list f (suc n) t e l =
    ap (λ (later : List ℕ). get_or list f 0 ∷ later) (entries_from_lem list (suc f) n t (omega arith) l) ∙ sym (slice-cons f t list 0 (omega arith) l)

-- all of them
pub entries_all : (list : List ℕ) (n : ℕ) → length list ≡ n → entries_from list 0 n ≡ list
entries_all list n l = entries_from_lem list 0 n n (omega arith) (omega arith) ∙ take_all n list (omega arith)

-- ---- eight words

pub padded_length : (list : List ℕ) → length list ≤ most_conditions → length (padded list) ≡ 8
padded_length list l =
    let zeros : List ℕ = replicate most_conditions 0 in
    length-append list (drop (length list) zeros) ∙ omega (arith, length-drop (length list) zeros, l)

padded_take : (list : List ℕ) (n : ℕ) → length list ≡ n → take n (padded list) ≡ list
padded_take list n l = take_at list (drop (length list) (replicate most_conditions 0)) n l

-- ---- words as the code writes them

also_true : (b : Bool) → (b && true) ≡ b
also_true true = refl
also_true false = refl

-- the gates and the depths of outputs, by those of the code
gates_same : (outputs : List code.Node) → map (λ (f : Node). f.gate) (map node_is outputs) ≡ gates_of outputs
gates_same [] = refl
gates_same (f ∷ fs) = ap (λ (t : List ℕ). f.gate ∷ t) (gates_same fs)

depths_same : (outputs : List code.Node) → map (λ (f : Node). f.depth) (map node_is outputs) ≡ depths_of outputs
depths_same [] = refl
depths_same (f ∷ fs) = ap (λ (t : List ℕ). f.depth ∷ t) (depths_same fs)

-- the words of a state: its numbers, then its outputs' gates and their depths
pub words_are : (state : declared.BuildState) (told : ℕ) (o d : List ℕ) → state.count ≤ most_conditions
    → length state.outputs ≡ 8 → told ≡ bit state.begun
    → o ≡ padded (gates_of (take state.count state.outputs)) → d ≡ padded (depths_of (take state.count state.outputs))
    → told
    ∷ state.prime
    ∷ state.weight
    ∷ state.count
    ∷ state.slots
    ∷ state.gates
    ∷ state.products
    ∷ state.squares
    ∷ (entries_from o 0 8 ++ entries_from d 0 8)
    ≡ words_of (state_is state)
words_are state told o d few long ey eo ed =
    let n = state.count in
    let outputs = take n state.outputs in
    let count : length outputs ≡ n = length-take-le n state.outputs (omega arith) in
    let gates = gates_of outputs in
    let depths = depths_of outputs in
    let a : length gates ≡ n = length-map outputs (λ (f : code.Node). f.gate) ∙ count in
    let b : length depths ≡ n = length-map outputs (λ (f : code.Node). f.depth) ∙ count in
    let first : entries_from o 0 8 ≡ padded gates = entries_all o 8 (ap length eo ∙ padded_length gates (omega arith)) ∙ eo in
    let second : entries_from d 0 8 ≡ padded depths = entries_all d 8 (ap length ed ∙ padded_length depths (omega arith)) ∙ ed in
    ap₂
    (λ (x y : List ℕ).
    told ∷ state.prime ∷ state.weight ∷ n ∷ state.slots ∷ state.gates ∷ state.products ∷ state.squares ∷ (x ++ y)) first second
    ∙ rw (
      ey,
      le-ltb most_conditions n few,
      also_true state.begun,
      length-map outputs node_is ∙ count,
      gates_same outputs,
      depths_same outputs,
    )

-- ---- words as the code reads them

pub record Ranges (words : List ℕ) : Type 0 where
  pub prime : word words 1 ≤ 255
  pub weight : word words 2 ≤ 255
  pub count : word words 3 ≤ most_conditions
  pub slots : word words 4 ≤ 255

pub ranges : (words : List ℕ) → wrong_words words ≡ false → Ranges words
ranges words t =
    let a = neither (ltb 1 (word words 0)) _ t in
    let b = neither (ltb 255 (word words 1)) _ a.1 in
    let c = neither (ltb 255 (word words 2)) _ b.1 in
    let d = neither (ltb most_conditions (word words 3)) (ltb 255 (word words 4)) c.1 in
    record {
      prime = ltb-false 255 (word words 1) b.0;
      weight = ltb-false 255 (word words 2) c.0;
      count = ltb-false most_conditions (word words 3) d.0;
      slots = ltb-false 255 (word words 4) d.1;
    }

-- the struct that is made of words
abbrev pub made_of : List ℕ → declared.BuildState
made_of words = record {
  begun = eqb (word words 0) 1;
  prime = word words 1;
  weight = word words 2;
  count = word words 3;
  slots = word words 4;
  gates = word words 5;
  products = word words 6;
  squares = word words 7;
  outputs = outputs_in words;
  room = refl;
}

-- the first of n outputs whose gates and depths stand from two places on
abbrev outputs_from : List ℕ → ℕ → ℕ → ℕ → List code.Node
outputs_from words f g zero = []
outputs_from words f g (suc n) = record { gate = get_or words f 0; depth = get_or words g 0 } ∷ outputs_from words (suc f) (suc g) n

paired : (words : List ℕ) (f g n k : ℕ) → map node_is (take k (outputs_from words f g n)) ≡ nodes (take k (entries_from words f n)) (take k (entries_from words g n))
unfolding nodes
paired words f g n zero = refl
paired words f g zero (suc k) = refl
paired words f g (suc n) (suc k) =
    ap (λ (t : List Node). record { gate = get_or words f 0; depth = get_or words g 0 } ∷ t) (paired words (suc f) (suc g) n k)

pub made_of_lem : (words : List ℕ) → length words ≡ 24 → wrong_words words ≡ false → state_is (made_of words) ≡ state_in words
made_of_lem words l right =
    let few = le-ltb most_conditions (word words 3) (ranges words right).count in
    let first = entries_from_lem words 8 8 16 refl (omega arith) in
    let second = entries_from_lem words 16 8 24 refl (omega arith) in
    rw (right, few, also_true (eqb (word words 0) 1), paired words 8 16 8 (word words 3), first, second)

-- ---- the promises

-- two parts of eight words
parts : (a b : List ℕ) → length a ≡ 8 → length b ≡ 8 → (take 8 (a ++ b) ≡ a) × (drop 8 (take 16 (a ++ b)) ≡ b)
parts a b la lb =
    (take_at a b 8 la, ap (drop 8) (take_all 16 (a ++ b) (omega (arith, length-append a b))) ∙ drop_at a b 8 la)

nodes_back : (factors : List Node) → nodes (map (λ (f : Node). f.gate) factors) (map (λ (f : Node). f.depth) factors) ≡ factors
unfolding nodes
nodes_back [] = refl
nodes_back (f ∷ factors) = ap (λ (t : List Node). f ∷ t) (nodes_back factors)

pub words_back : WordsBack
words_back state t few =
    let begun = neither (not state.begun) _ t in
    let prime = neither (not (listed state.prime)) _ begun.1 in
    let weight = neither (wrong_weight state.weight) _ prime.1 in
    let slots = neither (ltb most_digits state.slots) _ weight.1 in
    let open' : state.begun ≡ true = not-false _ begun.0 in
    let high = ((listed_is_odd_prime state.prime).0 (not-false _ prime.0)).high in
    let most = (in_range state.weight least_weight most_weight weight.0).1 in
    let n = length state.outputs in
    let gates = map (λ (f : Node). f.gate) state.outputs in
    let depths = map (λ (f : Node). f.depth) state.outputs in
    let a : length gates ≡ n = length-map state.outputs (λ (f : Node). f.gate) in
    let b : length depths ≡ n = length-map state.outputs (λ (f : Node). f.depth) in
    let both = parts (padded gates) (padded depths) (padded_length gates (omega arith)) (padded_length depths (omega arith)) in
    rw (
      open',
      le-ltb 255 state.prime (omega (arith, high)),
      le-ltb 255 state.weight (omega (arith, most)),
      le-ltb most_conditions n few,
      le-ltb 255 state.slots (omega (arith, ltb-false most_digits state.slots slots.0)),
      both.0,
      both.1,
      padded_take gates n a,
      padded_take depths n b,
      nodes_back state.outputs,
    )

pub opened_words : OpenedWords
opened_words p s records found table state o =
    let begun = stays_open p s records found table state o in
    let f = opened p s records found table state o in
    words_back state begun.0 (omega (arith, begun.1, f.3, f.1.fillable.few))

pub fresh_words : FreshWords
unfolding nodes
fresh_words = (refl, refl)
