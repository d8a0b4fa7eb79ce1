-- What begin, add and finish answer, the state that they leave, and every lent byte afterwards (document 02, E8). Each is decided by the state,
-- by what the call is given and by the length of the lent table: no byte of the table is read.
use Rattle.std.specs.Prelude.{ℕ, ◌+◌, ◌*◌, Bool, true, not, List, [], ◌∷◌, ◌++◌, ltb, leb, eqb, length}
use Rattle.std.proofs.lemmas.List.Edits.{sets}
use Rattle.answer.specs.Outcome.{Answer, refused, accepted, refuse, on_answer}
use Rattle.answer.specs.Report.{Report, cost_of}
use Rattle.field.specs.Primes.{listed}
use Rattle.digits.specs.Number.{most_digits}
use Rattle.circuit.specs.Count.{count, is_product, is_square}
use Rattle.circuit.specs.Gate.{Gate}
use Rattle.circuit.specs.ProductTree.{product_tree}
use Rattle.circuit.specs.Segment.{Segment}
use Rattle.circuit.specs.Table.{Both, Head, head_bytes, gates_bytes, wrong_weight}
use Rattle.comparison.specs.Condition.{Condition}
use Rattle.comparison.specs.Writing.{condition_segment}
use Rattle.query.specs.Card.{most_conditions}
use Rattle.query.specs.Form.{Plain, record_size}
use Rattle.query.specs.Reading.{read_condition}
use Rattle.filling.specs.State.{BuildState, no_build, started, is_closed}

-- the answer, the state afterwards, and every lent byte afterwards
pub record Step (A : Type 0) : Type 0 where
  pub answer : Answer A
  pub state : BuildState
  pub lent : List ℕ

-- "A refused call in between changes nothing and the build stays open"
abbrev pub unchanged : {A : Type 0} → BuildState → List ℕ → ℕ → Step A
unchanged state table number = record { answer = refused number; state = state; lent = table }

-- "accepted begins and adds answer no counts"
abbrev pub settled : BuildState → List ℕ → Step Unit
settled state table = record { answer = accepted tt; state = state; lent = table }

-- ---- the table

-- the head of a plain card's table
abbrev pub head_of : ℕ → ℕ → ℕ → Head
head_of p s slots = record { prime = p; weight = s; slots = Both slots }

-- "the table's head tells the gates and slots added so far": gates laid after those so far, and the head anew; no other byte is written
abbrev pub extended : BuildState → ℕ → List Gate → List ℕ → List ℕ
extended state slots gates table =
    sets (sets table 0 (head_bytes (head_of state.prime state.weight slots) (state.gates + length gates)))
    (8 * (state.gates + 1)) (gates_bytes gates)

-- 11: the table is lent under the 8(G+1) bytes that it has with these gates more
abbrev pub lacks_room : BuildState → List Gate → List ℕ → Bool
lacks_room state gates table = ltb (length table) (8 * (state.gates + length gates + 1))

-- ---- begin

-- "Begin gives 3, 4, or 11 under 8 bytes"; "an accepted begin starts afresh, also over an open build"
abbrev pub beginning : BuildState → ℕ → ℕ → List ℕ → Step Unit
beginning state p s table =
    refuse (not (listed p)) (unchanged state table 3)
    (refuse (wrong_weight s) (unchanged state table 4)
    (refuse (ltb (length table) 8) (unchanged state table 11)
    (settled (started p s) (sets table 0 (head_bytes (head_of p s 0) 0)))))

-- ---- add

-- a condition more: its slots, its gates, the products and squares among them, and its output
abbrev pub added_to : BuildState → Condition → BuildState
added_to state c =
    let written = condition_segment state.prime c state.gates in
    record {
      begun = true;
      prime = state.prime;
      weight = state.weight;
      slots = state.slots + c.digits;
      gates = state.gates + length written.gates;
      products = state.products + count is_product written.gates;
      squares = state.squares + count is_square written.gates;
      outputs = state.outputs ++ (written.output ∷ []);
    }

-- "10, and 11 where its gates do not fit", of a record that was read
abbrev pub adding_condition : BuildState → List ℕ → Condition → Step Unit
adding_condition state table c =
    let gates = (condition_segment state.prime c state.gates).gates in
    refuse (ltb most_digits (state.slots + c.digits)) (unchanged state table 10)
    (refuse (lacks_room state gates table) (unchanged state table 11)
    (settled (added_to state c) (extended state (state.slots + c.digits) gates table)))

-- "31, add or finish with no build open .. before all else; 30, a ninth condition, next";
-- "add gives 7 for a length not 4, then 2, 8, 9, 10, and 11"
abbrev pub adding : BuildState → List ℕ → List ℕ → Step Unit
adding state bytes table =
    refuse (is_closed state) (unchanged state table 31)
    (refuse (leb most_conditions (length state.outputs)) (unchanged state table 30)
    (refuse (not (eqb (length bytes) (record_size Plain))) (unchanged state table 7)
    (on_answer (read_condition Plain state.prime state.slots bytes) (unchanged state table) (adding_condition state table))))

-- ---- finish

-- "Success answers G, products, squares, cost, depth" (document 01): of the gates so far and of the product tree
abbrev pub report_with : BuildState → Segment → Report
report_with state tree =
    let products = state.products + count is_product tree.gates in
    let squares = state.squares + count is_square tree.gates in
    record {
      gates = state.gates + length tree.gates;
      products = products;
      squares = squares;
      cost = cost_of state.weight products squares;
      depth = tree.output.depth;
    }

-- "31, add or finish with no build open, or finish with none added"; "finish gives 11 likewise"; "An accepted finish closes the build."
abbrev pub finishing : BuildState → List ℕ → Step Report
finishing state table =
    let tree = product_tree state.gates state.outputs in
    refuse (is_closed state) (unchanged state table 31)
    (refuse (eqb (length state.outputs) 0) (unchanged state table 31)
    (refuse (lacks_room state tree.gates table) (unchanged state table 11)
    (record {
      answer = accepted (report_with state tree);
      state = no_build;
      lent = extended state state.slots tree.gates table;
    })))
