-- What ends a table, by what its card asks: the product tree over the outputs of a sound draft, or their sum. It fits, so many gates it has,
-- its output is the last gate, it reads every other gate and all outputs, and its node tells the depth. Of each law a question more is a clause more.
-- Assumes nothing.
use mathlib.Core.Path.{◌≡◌, refl, sym, ap, ◌∙◌}
use mathlib.Core.Bool.{true}
use mathlib.Core.List.{List, [], ◌∷◌, ◌++◌}
use Prim.Native.Nat.{ℕ, suc, ◌-◌, ◌%◌, ◌≤◌, ◌<◌}
use native.Mathlib.Omega.{arith}
use lib.ListN.{length, length-append}
use Rattle.circuit.specs.Count.{count, is_product, is_square}
use Rattle.circuit.specs.Depth.{depths, depth}
use Rattle.circuit.specs.Every.{Every}
use Rattle.circuit.specs.Gate.{Gate}
use Rattle.circuit.specs.Meaning.{Algebra, entry_at, Solves}
use Rattle.circuit.specs.Segment.{Node, Segment}
use Rattle.circuit.specs.Sums.{largest}
use Rattle.circuit.specs.Table.{Head, all_fit}
use Rattle.circuit.proofs.Choosing.{order_every}
use Rattle.circuit.proofs.Ends.{tree_network}
use Rattle.circuit.proofs.Every.{every_map, every_map₂, map_same}
use Rattle.circuit.proofs.Fitting.{all_named}
use Rattle.circuit.proofs.InOrder.{order_before}
use Rattle.circuit.proofs.Meaning.{later_solved}
use Rattle.circuit.proofs.Networks.{Network}
use Rattle.circuit.proofs.ProductTree.{tree_last, product_fits, product_count, product_depth}
use Rattle.circuit.proofs.TreeDepth.{tree_depth}
use Rattle.comparison.specs.Condition.{Condition}
use Rattle.query.specs.Card.{total_weight}
use Rattle.query.specs.Form.{Question, YesOrNo, Score}
use Rattle.query.specs.Formulas.{end_size, end_products}
use Rattle.query.specs.Whole.{Draft, end_by}
use Rattle.query.proofs.Score.{each_below, score_counts, score_fits, score_network, score_deep}
use Rattle.query.proofs.Whole.{Sound, outputs_kept}

module _ (head : Head) (cs : List Condition) (draft : Draft) (sound : Sound head draft) (many : length draft.outputs ≡ length cs)
    (some : 1 ≤ length cs) where
  abbrev p : ℕ
  p = head.prime

  abbrev k : ℕ
  k = length draft.gates

  abbrev outputs : List Node
  outputs = draft.outputs

  abbrev end : Question → Segment
  end q = end_by q p cs k outputs

  abbrev gates_by : Question → List Gate
  gates_by q = draft.gates ++ (end q).gates

  -- the weights of a score are within the field
  abbrev Weighed : Question → Type 0
  Weighed q = q ≡ Score → total_weight cs < p

  abbrev some_output : 1 ≤ length outputs
  some_output = omega arith

  pub end_fits : p % 2 ≡ 1 → (q : Question) → Weighed q → all_fit head k (end q).gates ≡ true
  end_fits odd YesOrNo w = product_fits head k outputs some_output sound.order
  end_fits odd Score w =
      score_fits head odd k cs outputs (each_below p cs (w refl))
      (every_map (λ (f : Node) bounds. bounds.1) outputs (order_every 0 k outputs sound.order))

  pub end_counts : (q : Question)
      → let gates = (end q).gates in
      (length gates ≡ end_size q (length cs)) × (count is_product gates ≡ end_products q (length cs)) × (count is_square gates ≡ 0)
  end_counts YesOrNo =
      let c = product_count k outputs some_output sound.order in (omega (arith, c.0), omega (arith, c.1), c.2)
  end_counts Score = score_counts p k cs outputs many

  -- the output is the last gate
  pub end_last : (q : Question) → suc (end q).output.gate ≡ length (gates_by q)
  end_last YesOrNo =
      omega (arith, tree_last k outputs some_output sound.single, length-append draft.gates (end YesOrNo).gates, (end_counts YesOrNo).0)
  end_last Score =
      omega (arith, length-append draft.gates (end Score).gates, (end_counts Score).0)

  pub last_gate : (q : Question) → length (gates_by q) - 1 ≡ (end q).output.gate
  last_gate q = omega (arith, end_last q)

  -- its gates are a network over the outputs
  pub end_network : (q : Question) → Network k outputs (end q).gates ((end q).output ∷ [])
  end_network YesOrNo = tree_network k outputs some_output sound.order
  end_network Score = score_network p k cs outputs many some (order_before 0 k outputs sound.order)

  -- entries of all gates solve those of the end
  pub end_solved : {A : Type 0} (alg : Algebra A) → p % 2 ≡ 1 → (q : Question) → Weighed q
      → Solves alg (entry_at alg (gates_by q)) k (end q).gates
  end_solved alg odd q w =
      later_solved alg draft.gates (end q).gates (all_named head k (end q).gates (end_fits odd q w))

  -- each output's node tells the depth of its gate in the whole table
  pub output_depths : (q : Question) → Every (λ (f : Node). entry_at depths (gates_by q) f.gate ≡ f.depth) outputs
  output_depths q =
      every_map₂ (λ (f : Node) kept node. kept ∙ node) outputs
      (outputs_kept head depths draft (end q).gates sound) sound.nodes

  -- and the node of the end tells that of the table
  pub end_depth : p % 2 ≡ 1 → (q : Question) → Weighed q → (end q).output.depth ≡ depth (gates_by q)
  end_depth odd YesOrNo w =
      tree_depth k outputs some_output
      ∙ sym (product_depth draft.gates outputs some_output sound.order sound.nodes)
      ∙ ap (entry_at depths (gates_by YesOrNo)) (sym (last_gate YesOrNo))
  end_depth odd Score w =
      let E = entry_at depths (gates_by Score) in
      ap largest (sym (map_same (λ (f : Node). E f.gate) (λ (f : Node). f.depth) outputs (output_depths Score)))
      ∙ sym (score_deep p E k cs outputs many some (end_solved depths odd Score w))
      ∙ ap E (sym (last_gate Score))
