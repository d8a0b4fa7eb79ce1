-- The table of an accepted card by any lawful tests of its order digits: its draft is sound (`Whole`), and its product tree or its score
-- ends the table (`Ending`); so the table's last gate is the tree's output or the sum, and their laws give value, depth and rules.
-- Assumes nothing.
use mathlib.Core.Path.{◌≡◌, refl, sym, ap, subst, ◌∙◌}
use mathlib.Core.Bool.{true}
use mathlib.Core.List.{List, [], ◌∷◌, ◌++◌, map, map-map}
use Prim.Native.Nat.{ℕ, suc, ◌+◌, ◌-◌, ◌%◌, ◌^◌, ◌≤◌, ◌<◌}
use native.Mathlib.Omega.{arith}
use native.Mathlib.Nat.{zero-add, mod-eq_of_lt, le_refl}
use lib.ListN.{length, length-append}
use Rattle.answer.specs.Outcome.{accepted, Outcome}
use Rattle.field.specs.Bit.{bit}
use Rattle.field.specs.Logarithm.{clog}
use Rattle.field.proofs.Logarithm.{clog_mono}
use Rattle.field.specs.Sum.{total}
use Rattle.field.proofs.Tests.{in_range_false}
use Rattle.field.proofs.Bit.{bit_and, bit_below}
use Rattle.digits.specs.Number.{base, all_below}
use Rattle.digits.proofs.Number.{below_at, below_weaken}
use Rattle.circuit.specs.Count.{count, is_product, is_square}
use Rattle.circuit.specs.Depth.{depths, depth}
use Rattle.circuit.specs.Every.{Every}
use Rattle.circuit.specs.Factors.{breadth, list_product}
use Rattle.circuit.specs.Gate.{Gate}
use Rattle.circuit.specs.Meaning.{Algebra, entries, entry_at, output, Solves}
use Rattle.circuit.specs.ProductTree.{product_tree}
use Rattle.circuit.specs.Segment.{Node, Segment}
use Rattle.circuit.specs.Table.{Head, left_slots, right_slots, all_fit, well_formed, most_gates}
use Rattle.circuit.specs.Value.{values}
use Rattle.circuit.proofs.Bounds.{values_below, depths_below}
use Rattle.circuit.proofs.Choosing.{order_every}
use Rattle.circuit.proofs.Every.{every_map, every_map₂, map_same}
use Rattle.circuit.proofs.Fitting.{fit_append}
use Rattle.circuit.proofs.Kraft.{at_least}
use Rattle.circuit.proofs.ProductTree.{product_value}
use Rattle.circuit.proofs.TreeDepth.{tree_depth}
use Rattle.circuit.proofs.Promises.{run_accepts}
use Rattle.circuit.proofs.WellFormed.{slot_range_false, is_well_formed}
use Rattle.comparison.specs.Condition.{Condition, holds}
use Rattle.comparison.specs.Lawful.{Lawful}
use Rattle.comparison.specs.Tests.{Tests}
use Rattle.query.specs.Card.{Card, AsksYesOrNo, AsksScore}
use Rattle.query.specs.Form.{Question, question_of}
use Rattle.query.specs.Formulas.{end_size, end_products}
use Rattle.query.specs.Holds.{all_hold, truths, score_of}
use Rattle.query.specs.AnyTests.{LawfulAnswer, LawfulScore, LawfulOutputs, LawfulSizes, LawfulFits, LawfulTable, LawfulRun, LawfulDepth, LawfulDeeper}
use Rattle.query.specs.Reading.{read_card}
use Rattle.query.specs.Whole.{Draft, begin, end_by, end_of, filled_by, table_by, table_of}
use Rattle.query.proofs.CardFacts.{Accepted, accepted_card}
use Rattle.query.proofs.Ending.{end_counts, end_fits, end_last, last_gate, end_solved, output_depths, end_depth}
use Rattle.query.proofs.Score.{each_below, score_most, score_value}
use Rattle.query.proofs.Whole.{Good, Sound, begin_sound, outputs_kept, all_outputs, all_sound, all_value, all_differ, all_deeper}

-- the truths' product tells whether all conditions hold
truths_product : (B : ℕ) (left right : List ℕ) (cs : List Condition) → list_product (truths B left right cs) ≡ bit (all_hold B left right cs)
unfolding list_product
truths_product B left right [] = refl
truths_product B left right (c ∷ cs) =
    rw (truths_product B left right cs) (sym (bit_and (holds B left right c) (all_hold B left right cs)))

-- ---- the draft and the tree

module _ (bytes : List ℕ) (card : Card) (e : read_card bytes ≡ accepted card) where
  pub known : Accepted card
  known = accepted_card bytes card e

  pub good : Every (Good (table_of card).head) card.conditions
  good = known.each

  module _ (t : Tests) (law : Lawful card.prime t) where
    abbrev p : ℕ
    p = card.prime

    abbrev three : 3 ≤ p
    three = known.prime.low

    abbrev odd : p % 2 ≡ 1
    odd = known.prime.odd

    abbrev head : Head
    head = (table_by t card).head

    abbrev draft : Draft
    draft = filled_by t card

    abbrev gates : List Gate
    gates = (table_by t card).gates

    pub sound : Sound head draft
    sound = all_sound t head law three begin card.conditions (begin_sound head) good

    pub outputs_length : length draft.outputs ≡ length card.conditions
    outputs_length = all_outputs t p begin card.conditions ∙ zero-add _

    pub some : 1 ≤ length draft.outputs
    some = omega (arith, outputs_length, known.count.0)

    -- ---- both endings

    -- the output is the last gate, and its node tells the depth
    pub output_last : suc (end_of card draft).output.gate ≡ length gates
    output_last = end_last head card.conditions draft sound outputs_length known.count.0 (question_of card.form)

    pub depth_told : (end_of card draft).output.depth ≡ depth gates
    depth_told = end_depth head card.conditions draft sound outputs_length known.count.0 odd (question_of card.form) known.weights

    pub gates_fit : all_fit head 0 gates ≡ true
    gates_fit =
        fit_append head 0 draft.gates (end_of card draft).gates sound.fitted
        (rw (zero-add (length draft.gates))
        (end_fits head card.conditions draft sound outputs_length known.count.0 odd (question_of card.form) known.weights))

    pub formed : length gates ≤ most_gates → well_formed (table_by t card) ≡ true
    formed few =
        is_well_formed (table_by t card) (record {
          prime = known.listed;
          weight = known.weight_test;
          slots = slot_range_false head.slots known.sides;
          count = in_range_false (length gates) 1 most_gates (omega (arith, output_last)) few;
          fitted = gates_fit;
        })

    -- how many gates, products and squares the end has
    pub end_has : (length (end_of card draft).gates ≡ end_size (question_of card.form) (length card.conditions))
        × (count is_product (end_of card draft).gates ≡ end_products (question_of card.form) (length card.conditions))
        × (count is_square (end_of card draft).gates ≡ 0)
    end_has = end_counts head card.conditions draft sound outputs_length known.count.0 (question_of card.form)

    whole_length : length gates ≡ length draft.gates + end_size (question_of card.form) (length card.conditions)
    whole_length = omega (arith, length-append draft.gates (end_of card draft).gates, end_has.0)

    -- the outputs are gates of the draft, and none is deeper than its number
    pub outputs_low : Every (λ (f : Node). (f.depth ≤ f.gate) × (f.gate < length draft.gates)) draft.outputs
    outputs_low =
        every_map₂ (λ (f : Node) told bounds. (omega (arith, told, depths_below head draft.gates f.gate sound.fitted bounds.1), bounds.1))
        draft.outputs sound.nodes (order_every 0 (length draft.gates) draft.outputs sound.order)

    -- ---- the product tree

    -- the table of a card that asks for a yes or no
    module _ (asks : AsksYesOrNo card) where
      pub tree_ends : end_of card draft ≡ product_tree (length draft.gates) draft.outputs
      tree_ends = ap (λ (q : Question). end_by q p card.conditions (length draft.gates) draft.outputs) asks

      depth_is : depth gates ≡ clog (breadth draft.outputs)
      depth_is =
          sym depth_told ∙ ap (λ (end : Segment). end.output.depth) tree_ends ∙ tree_depth (length draft.gates) draft.outputs some

    gates_breadth : total (map (λ (g : ℕ). 2 ^ entry_at depths gates g) (map (λ (f : Node). f.gate) draft.outputs)) ≡ breadth draft.outputs
    gates_breadth =
        ap total
        (map-map _ (λ (f : Node). f.gate) draft.outputs
        ∙ map_same _ _ draft.outputs
        (every_map (λ (f : Node) told. ap (λ (d : ℕ). 2 ^ d) told) draft.outputs
        (output_depths head card.conditions draft sound outputs_length known.count.0 (question_of card.form))))

    -- ---- values

    module _ (left right : List ℕ) (l : length left ≡ left_slots head) (r : length right ≡ right_slots head)
        (hl : all_below (base p) left ≡ true) (hr : all_below (base p) right ≡ true) where
      abbrev alg : Algebra ℕ
      alg = values p left right

      abbrev bits : List ℕ
      bits = truths (base p) left right card.conditions

      -- the outputs' values in the draft are the conditions' truths
      draft_values : map (λ (f : Node). entry_at alg draft.gates f.gate) draft.outputs ≡ bits
      draft_values =
          all_value t head law three known.prime.prime known.prime.odd left right (omega arith) (omega arith) hl hr
          begin card.conditions (begin_sound head) good

      -- and so they are in the table: the gates after the draft change none of them
      output_values : map (λ (f : Node). entry_at alg gates f.gate) draft.outputs ≡ bits
      output_values = map_same _ _ draft.outputs (outputs_kept head alg draft (end_of card draft).gates sound) ∙ draft_values

      below : output alg gates < p
      below =
          let low : base p ≤ p = omega (arith, three) in
          below_at p (entries alg gates) (length gates - 1) (omega (arith, three))
          (values_below p left right gates (omega (arith, three))
          (below_weaken (base p) p left low hl) (below_weaken (base p) p right low hr))

      -- a number below p that the output is modulo p is the output
      output_is : (x : ℕ) → x < p → entry_at alg gates (end_of card draft).output.gate % p ≡ x % p → output alg gates ≡ x
      output_is x l e =
          let last = last_gate head card.conditions draft sound outputs_length known.count.0 (question_of card.form) in
          sym (mod-eq_of_lt below) ∙ ap (λ (g : ℕ). entry_at alg gates g % p) last ∙ e ∙ mod-eq_of_lt l

      right_value : AsksYesOrNo card → output alg gates ≡ bit (all_hold (base p) left right card.conditions)
      right_value asks =
          let answer = all_hold (base p) left right card.conditions in
          output_is (bit answer) (bit_below p (omega (arith, three)) answer)
          (ap (λ (end : Segment). entry_at alg (draft.gates ++ end.gates) end.output.gate % p) (tree_ends asks)
          ∙ product_value p left right draft.gates draft.outputs (omega (arith, three)) some sound.order
          ∙ ap (λ (v : ℕ). v % p) (ap list_product draft_values ∙ truths_product (base p) left right card.conditions))

      score_is : AsksScore card → output alg gates ≡ score_of (base p) left right card.conditions
      score_is asks =
          let cs = card.conditions in
          let k = length draft.gates in
          let ends = ap (λ (q : Question). end_by q p cs k draft.outputs) asks in
          let solved = end_solved head cs draft sound outputs_length known.count.0 alg odd (question_of card.form) known.weights in
          let most : score_of (base p) left right cs < p = omega (arith, score_most (base p) left right cs, known.weights asks) in
          output_is (score_of (base p) left right cs) most
          (ap (λ (end : Segment). entry_at alg gates end.output.gate % p) ends
          ∙ score_value p left right (omega (arith, three)) (entry_at alg gates) (base p) k cs draft.outputs
          outputs_length known.count.0 (each_below p cs (known.weights asks)) output_values
          (subst (λ (end : Segment). Solves alg (entry_at alg gates) k end.gates) ends solved))

-- ---- the promises

pub lawful_answer : LawfulAnswer
lawful_answer bytes left right card t e law asks l r = right_value bytes card e t law left right l.0 r.0 l.1 r.1 asks

pub lawful_score : LawfulScore
lawful_score bytes left right card t e law asks l r = score_is bytes card e t law left right l.0 r.0 l.1 r.1 asks

pub lawful_outputs : LawfulOutputs
lawful_outputs bytes left right card t e law l r = output_values bytes card e t law left right l.0 r.0 l.1 r.1

pub lawful_sizes : LawfulSizes
lawful_sizes bytes card t u e lt lu =
    let head = (table_of card).head in
    let two : 2 ≤ card.prime = omega (arith, (known bytes card e).prime.low) in
    omega (
      arith,
      whole_length bytes card e t lt,
      whole_length bytes card e u lu,
      all_differ head t u lt lu two begin begin card.conditions (good bytes card e),
    )

pub lawful_fits : LawfulFits
lawful_fits bytes card t e law = gates_fit bytes card e t law

pub lawful_table : LawfulTable
lawful_table bytes card t e law few = formed bytes card e t law few

pub lawful_run : LawfulRun
lawful_run bytes later left right work card t e law l r few enough =
    let p = card.prime in
    let low : base p ≤ p = omega (arith, (known bytes card e).prime.low) in
    let hl = below_weaken (base p) p left low l.1 in
    let hr = below_weaken (base p) p right low r.1 in
    ap (λ (o : Outcome ℕ). o.answer)
    (run_accepts (table_by t card) later left right work (formed bytes card e t law few) l.0 r.0 hl hr enough)

pub lawful_depth : LawfulDepth
lawful_depth bytes card t tree e law asks same =
    let outputs = map (λ (f : Node). f.gate) (filled_by t card).outputs in
    rw (depth_is bytes card e t law asks, ← gates_breadth bytes card e t law) (at_least (entry_at depths (table_by t card).gates) outputs tree same)

pub lawful_deeper : LawfulDeeper
lawful_deeper bytes card t u e lt lu asks l m =
    let two : 2 ≤ card.prime = omega (arith, (known bytes card e).prime.low) in
    let broader = all_deeper (table_of card).head t u two l m begin begin card.conditions (good bytes card e) (le_refl _) in
    omega (arith, depth_is bytes card e t lt asks, depth_is bytes card e u lu asks, clog_mono broader)
