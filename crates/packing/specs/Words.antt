-- The build's state as programs in Rust and C keep it between calls (document 02, E8): 24 words of 16 bits. Proved in `proofs/Words.antt`.
use Rattle.std.specs.Prelude.{◌≡◌, Bool, false, ◌||◌, List, [], ◌∷◌, ◌++◌, map, ℕ, ◌≤◌, ltb, eqb, length, get_or, take, drop, replicate}
use Rattle.std.proofs.Math.Seq.{slice}
use Rattle.answer.specs.Outcome.{refuse, on_answer}
use Rattle.field.specs.Bit.{bit}
use Rattle.circuit.specs.Segment.{Node}
use Rattle.query.specs.Card.{most_conditions}
use Rattle.filling.specs.Filling.{Step}
use Rattle.filling.specs.Promises.{Opened}
use Rattle.filling.specs.State.{BuildState, no_build, is_closed}

-- ---- from a state to words

-- 8 words: those of a list, and 0 after them
abbrev pub padded : List ℕ → List ℕ
padded list = list ++ drop (length list) (replicate most_conditions 0)

-- whether a build was begun, p, s, how many conditions were added, their slots, gates, products and squares,
-- then the gate of each condition's output, and then its depth
abbrev pub words_of : BuildState → List ℕ
words_of state =
    bit state.begun
    ∷ state.prime
    ∷ state.weight
    ∷ length state.outputs
    ∷ state.slots
    ∷ state.gates
    ∷ state.products
    ∷ state.squares
    ∷ (padded (map (λ (f : Node). f.gate) state.outputs) ++ padded (map (λ (f : Node). f.depth) state.outputs))

-- ---- from words to a state

-- gate numbers and depths, in pairs
unfoldable pub nodes : List ℕ → List ℕ → List Node
nodes [] depths = []
nodes (g ∷ gates) [] = []
nodes (g ∷ gates) (d ∷ depths) = record { gate = g; depth = d } ∷ nodes gates depths

abbrev pub word : List ℕ → ℕ → ℕ
word words k = get_or words k 0

-- one of the first words is too large for what it tells
abbrev pub wrong_words : List ℕ → Bool
wrong_words words =
    ltb 1 (word words 0)
    || (ltb 255 (word words 1) || (ltb 255 (word words 2) || (ltb most_conditions (word words 3) || ltb 255 (word words 4))))

-- no accepted call leaves such words, so by them no build is open
abbrev pub state_in : List ℕ → BuildState
state_in words =
    refuse (wrong_words words) no_build
    (record {
      begun = eqb (word words 0) 1;
      prime = word words 1;
      weight = word words 2;
      slots = word words 4;
      gates = word words 5;
      products = word words 6;
      squares = word words 7;
      outputs = nodes (take (word words 3) (slice 8 16 words)) (take (word words 3) (slice 16 24 words));
    })

-- ---- words from call to call

-- after a call: the words of the state that it leaves; "A refused call in between changes nothing", no word either
abbrev pub words_after : {A : Type 0} → List ℕ → Step A → List ℕ
words_after words step = on_answer step.answer (λ number. words) (λ value. words_of step.state)

-- "given the build's state as the last accepted begin, add or finish left it": the words of an open build are read back as its state
abbrev pub WordsBack : Type 0
WordsBack = (state : BuildState) → is_closed state ≡ false → length state.outputs ≤ most_conditions → state_in (words_of state) ≡ state

-- so those of every build that accepted calls have begun
abbrev pub OpenedWords : Type 0
OpenedWords =
    (p s : ℕ) (records : List (List ℕ)) (found table : List ℕ) (state : BuildState) → Opened p s records found state table
    → state_in (words_of state) ≡ state

-- "at the start no build is open": the words are 24 zeros then, and after an accepted finish again
abbrev pub FreshWords : Type 0
FreshWords = (words_of no_build ≡ replicate 24 0) × (state_in (replicate 24 0) ≡ no_build)
