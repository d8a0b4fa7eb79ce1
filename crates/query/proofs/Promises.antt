-- Demand 3: the promises of the table of every accepted card.
-- The laws of tables by any lawful tests (`AnyTests`), which document 01's are, and the formulas of its own.
-- Assumes nothing.
use mathlib.Core.Path.{◌≡◌, refl, sym, ap, ap₂, subst, ◌∙◌}
use mathlib.Core.Bool.{true}
use mathlib.Core.List.{List, [], ◌++◌, map, map-map, append-nil}
use Prim.Native.Nat.{ℕ, suc, ◌+◌, ◌-◌, ◌*◌, ◌%◌, ◌^◌, ◌≤◌, zero-le}
use native.Mathlib.Omega.{arith}
use native.Mathlib.Nat.{le_refl}
use borrow.Author.Tests.{ltb-false}
use lib.Dec.{ltb}
use lib.ListN.{length, length-append, drop}
use Rattle.answer.specs.Outcome.{Answer, accepted, Outcome, unaltered}
use Rattle.answer.specs.Report.{Report, cost_of}
use Rattle.answer.proofs.Outcome.{passed, accepted_same}
use Rattle.field.specs.Logarithm.{clog}
use Rattle.field.specs.Sum.{total}
use Rattle.field.proofs.Logarithm.{clog_factor}
use Rattle.circuit.specs.Count.{count, is_product, is_square, products, squares, cost}
use Rattle.circuit.specs.Depth.{depth}
use Rattle.circuit.specs.Every.{Every}
use Rattle.circuit.specs.Factors.{breadth}
use Rattle.circuit.specs.Gate.{Gate}
use Rattle.circuit.specs.Meaning.{output}
use Rattle.circuit.specs.Outcomes.{trimming, running}
use Rattle.circuit.specs.Report.{report}
use Rattle.circuit.specs.Segment.{Node, Segment}
use Rattle.circuit.specs.Sums.{largest}
use Rattle.circuit.specs.Table.{Head, Table, table_bytes, well_formed, most_gates}
use Rattle.circuit.specs.TreePromises.{TwoLeast}
use Rattle.circuit.specs.Value.{values}
use Rattle.circuit.proofs.Count.{count_append}
use Rattle.circuit.proofs.Every.{every_map}
use Rattle.circuit.proofs.ProductTree.{least_first}
use Rattle.circuit.proofs.Promises.{table_reads_back, checks_tables, trims_tables, runs_tables, run_accepts}
use Rattle.circuit.proofs.Sums.{largest_plus}
use Rattle.circuit.proofs.TreeDepth.{tree_depth}
use Rattle.comparison.specs.Condition.{Condition}
use Rattle.comparison.specs.Formulas.{condition_size, condition_products, condition_squares, condition_cost, cost_summand}
use Rattle.comparison.specs.Lawful.{Lawful}
use Rattle.comparison.specs.Tests.{base_tests}
use Rattle.comparison.proofs.Condition.{order_cost, cost_within}
use Rattle.comparison.proofs.Lawful.{base_lawful}
use Rattle.query.specs.Card.{Card, over_conditions}
use Rattle.query.specs.Form.{Question, YesOrNo, Score, question_of}
use Rattle.query.specs.Formulas.{end_size, end_products, gate_count, levels_above, depth_formula, product_count, square_count, cost_sum}
use Rattle.query.specs.Outcomes.{table_room, building}
use Rattle.query.specs.Promises.{gates_of, LeftSide, RightSide, ended, RightAnswer, ExactDepth, OutputsAreLast, CardTree, CardOutput, NoShallowerTree, BoundedCost, ExactCost, ExactCounts, ExactSize, SameReport, ReportedNumbers, TrimsToTable, RunsTheTable, RightRun, SameRun, BuiltRun, Built, BuildsWithRoom, BuiltValue, BuiltDepth, BuiltCost}
use Rattle.query.specs.Reading.{read_card}
use Rattle.query.specs.Whole.{Draft, begin, end_by, filled, table_of}
use Rattle.query.proofs.AnyTests.{known, good, sound, some, output_last, depth_told, end_has, tree_ends, lawful_answer, lawful_table, lawful_run, lawful_depth}
use Rattle.query.proofs.Building.{built}
use Rattle.query.proofs.BuiltCounted.{built_counts}
use Rattle.query.proofs.CardFacts.{Accepted}
use Rattle.query.proofs.OverConditions.{over_mono, over_times, over_cost, over_some, over_powers, size_within}
use Rattle.query.proofs.Whole.{Good, Sound, all_length, all_last, all_counts, all_depths}

-- ---- what may come after the conditions

-- a product each but one, or none
products_most : (q : Question) (c : ℕ) → end_products q c ≤ c - 1
products_most YesOrNo c = le_refl _
products_most Score c = zero-le

end_most : (q : Question) (c : ℕ) → end_size q c ≤ 2 * c
end_most YesOrNo c = omega arith
end_most Score c = omega arith

-- ---- document 01's table of an accepted card

module _ (bytes : List ℕ) (card : Card) (e : read_card bytes ≡ accepted card) where
  abbrev p : ℕ
  p = card.prime

  abbrev head : Head
  head = (table_of card).head

  abbrev all : Accepted card
  all = known bytes card e

  three : 3 ≤ p
  three = all.prime.low

  odd : p % 2 ≡ 1
  odd = all.prime.odd

  abbrev law : Lawful p (base_tests p)
  law = base_lawful p three odd

  abbrev conditions_good : Every (Good head) card.conditions
  conditions_good = good bytes card e

  abbrev draft : Draft
  draft = filled card

  abbrev gates : List Gate
  gates = gates_of card

  -- ---- the draft and the end

  abbrev draft_sound : Sound head draft
  draft_sound = sound bytes card e (base_tests p) law

  abbrev draft_some : 1 ≤ length draft.outputs
  draft_some = some bytes card e (base_tests p) law

  abbrev last_output : suc (ended card).output.gate ≡ length gates
  last_output = output_last bytes card e (base_tests p) law

  -- ---- depth

  output_levels : map (λ (f : Node). f.depth) draft.outputs ≡ map (λ (c : Condition). clog (p - 1) + clog c.digits) card.conditions
  output_levels = all_depths head three odd begin card.conditions conditions_good

  wide : breadth draft.outputs ≡ 2 ^ clog (p - 1) * over_conditions (λ (c : Condition). 2 ^ clog c.digits) card.conditions
  wide =
      let power : ℕ → ℕ = λ d. 2 ^ d in
      ap total
      (sym (map-map power (λ (f : Node). f.depth) draft.outputs) ∙ ap (map power) output_levels
      ∙ map-map power (λ (c : Condition). clog (p - 1) + clog c.digits) card.conditions)
      ∙ over_powers (clog (p - 1)) (λ (c : Condition). clog c.digits) card.conditions

  -- the node of the end tells the formula's depth
  end_levels : (q : Question) → (end_by q p card.conditions (length draft.gates) draft.outputs).output.depth ≡ clog (p - 1) + levels_above q card.conditions
  end_levels YesOrNo =
      let sum = over_conditions (λ (c : Condition). 2 ^ clog c.digits) card.conditions in
      let some_sum = over_some (λ (c : Condition). clog c.digits) card.conditions all.count.0 in
      tree_depth (length draft.gates) draft.outputs draft_some ∙ ap clog wide ∙ clog_factor (clog (p - 1)) sum some_sum
  end_levels Score =
      ap largest output_levels ∙ largest_plus (clog (p - 1)) (λ (c : Condition). clog c.digits) card.conditions all.count.0

  formula_depth : depth gates ≡ depth_formula card
  formula_depth = sym (depth_told bytes card e (base_tests p) law) ∙ end_levels (question_of card.form)

  -- ---- cost and size

  formula_counts : (products gates ≡ product_count card) × (squares gates ≡ square_count card)
  unfolding count
  formula_counts =
      let conditions = all_counts head three odd begin card.conditions conditions_good in
      let counted = built_counts bytes card e in
      let later = (ended card).gates in
      let has = end_has bytes card e (base_tests p) law in (
        omega (arith, counted.0, count_append is_product draft.gates later, has.1, conditions.0),
        omega (arith, counted.1, count_append is_square draft.gates later, has.2, conditions.1),
      )

  -- so the cost is that of the products of the end and that of each condition
  cost_is : cost card.weight gates ≡ cost_sum card
  cost_is =
      let s = card.weight in
      let parts = over_cost s (condition_products p) (condition_squares p) card.conditions in
      omega (arith, ap₂ (cost_of s) formula_counts.0 formula_counts.1, parts)

  costs_within : over_conditions (condition_cost p card.weight) card.conditions
      ≤ over_conditions (λ (c : Condition). cost_summand p card.weight c.digits) card.conditions
  costs_within =
      over_mono _ _ card.conditions
      (every_map (λ (c : Condition) h. cost_within p card.weight c three odd h.0) card.conditions conditions_good)

  formula_size : length gates ≡ gate_count card
  formula_size =
      omega (
        arith,
        length-append draft.gates (ended card).gates,
        (end_has bytes card e (base_tests p) law).0,
        all_length head three odd begin card.conditions conditions_good,
      )

  pub sizes_within : over_conditions (condition_size p) card.conditions ≤ over_conditions (λ (c : Condition). 445 * c.digits) card.conditions
  sizes_within =
      over_mono _ _ card.conditions
      (every_map (λ (c : Condition) h. size_within p c three odd all.prime.high h.0) card.conditions conditions_good)

  -- 2c - 1 gates at most, and 445 for each of at most 16 digits
  size_fits : length gates ≤ most_gates
  size_fits =
      omega (
        arith,
        formula_size,
        sizes_within,
        over_times 445 (λ (c : Condition). c.digits) card.conditions,
        all.slots.1,
        all.count.1,
        end_most (question_of card.form) (length card.conditions),
      )

  formed : well_formed (table_of card) ≡ true
  formed = lawful_table bytes card (base_tests p) e law size_fits

-- ---- the promises

pub right_answer : RightAnswer
right_answer bytes left right card e asks l r = lawful_answer bytes left right card (base_tests card.prime) e (law bytes card e) asks l r

pub exact_depth : ExactDepth
exact_depth bytes card e = formula_depth bytes card e

pub outputs_are_last : OutputsAreLast
outputs_are_last bytes card e =
    all_last (table_of card).head (three bytes card e) (odd bytes card e) begin card.conditions (good bytes card e)

pub card_tree : CardTree
card_tree bytes card e asks =
    let tree = least_first (length (filled card).gates) (filled card).outputs (draft_some bytes card e) (draft_sound bytes card e).order in
    subst (λ (end : Segment). TwoLeast (length (filled card).gates) (filled card).outputs end.gates end.output)
    (sym (tree_ends bytes card e (base_tests card.prime) (law bytes card e) asks)) tree

pub card_output : CardOutput
card_output bytes card e = (last_output bytes card e, depth_told bytes card e (base_tests card.prime) (law bytes card e))

pub no_shallower_tree : NoShallowerTree
no_shallower_tree bytes card tree e asks same = lawful_depth bytes card (base_tests card.prime) tree e (law bytes card e) asks same

pub bounded_cost : BoundedCost
bounded_cost bytes card e =
    omega (arith, cost_is bytes card e, costs_within bytes card e, products_most (question_of card.form) (length card.conditions))

pub exact_cost : ExactCost
exact_cost bytes card e = (
  cost_is bytes card e,
  every_map (λ (c : Condition) h. order_cost card.prime card.weight c (three bytes card e) (odd bytes card e) h.0)
      card.conditions (good bytes card e),
)

pub exact_counts : ExactCounts
exact_counts bytes card e = formula_counts bytes card e

pub exact_size : ExactSize
exact_size bytes card e = (formula_size bytes card e, size_fits bytes card e, formed bytes card e)

pub same_report : SameReport
same_report bytes lent later card e room =
    let table = table_of card in
    let b = built bytes lent card e room in (
      ap (λ (o : Outcome Report). o.answer) b,
      rw e,
      checks_tables table later (formed bytes card e),
      rw b (checks_tables table (drop (table_room table) lent) (formed bytes card e)),
    )

pub reported_numbers : ReportedNumbers
reported_numbers bytes card e =
    let size = formula_size bytes card e in
    let counts = formula_counts bytes card e in
    let paid = cost_is bytes card e in
    let deep = formula_depth bytes card e in cc

pub trims_to_table : TrimsToTable
trims_to_table bytes lent card e room =
    let table = table_of card in rw (built bytes lent card e room) (trims_tables table (drop (table_room table) lent) (formed bytes card e))

pub runs_the_table : RunsTheTable
runs_the_table bytes later left right work card e l r hl hr enough =
    ap (λ (o : Outcome ℕ). o.answer) (run_accepts (table_of card) later left right work (formed bytes card e) l r hl hr enough)

pub runs_digits : (bytes later left right work : List ℕ) (card : Card) → read_card bytes ≡ accepted card → LeftSide card left
    → RightSide card right → length (gates_of card) ≤ length work
    → (running (table_bytes (table_of card) ++ later) left right work).answer
    ≡ accepted (output (values card.prime left right) (gates_of card))
runs_digits bytes later left right work card e l r enough =
    lawful_run bytes later left right work card (base_tests card.prime) e (law bytes card e) l r (size_fits bytes card e) enough

pub right_run : RightRun
right_run bytes later left right work card e asks l r enough =
    runs_digits bytes later left right work card e l r enough ∙ ap accepted (right_answer bytes left right card e asks l r)

pub same_run : SameRun
same_run bytes lent left right work card e room =
    let table = table_of card in
    let run : List ℕ → Outcome ℕ = λ given. running given left right work in
    let alone = ap run (append-nil (table_bytes table)) in
    let same : (later : List ℕ) → run (table_bytes table ++ later) ≡ run (table_bytes table)
    = λ later.
    runs_tables table later left right work (formed bytes card e) ∙ sym (runs_tables table [] left right work (formed bytes card e)) ∙ alone in
    (rw (built bytes lent card e room) (same (drop (table_room table) lent)), ap run (trims_to_table bytes lent card e room))

-- whatever Run answers of the table alone, it answers of what Build left, and of what Trim hands back of that
pub runs_built : (bytes lent left right work : List ℕ) (card : Card) (answer : Answer ℕ) → read_card bytes ≡ accepted card
    → table_room (table_of card) ≤ length lent → (running (table_bytes (table_of card) ++ []) left right work).answer ≡ answer
    → ((running (building bytes lent).lent left right work).answer ≡ answer)
    × ((running (trimming (building bytes lent).lent) left right work).answer ≡ answer)
runs_built bytes lent left right work card answer e room told =
    let both = same_run bytes lent left right work card e room in
    let alone = ap (λ given. (running given left right work).answer) (sym (append-nil (table_bytes (table_of card)))) ∙ told in
    (ap (λ (o : Outcome ℕ). o.answer) both.0 ∙ alone, ap (λ (o : Outcome ℕ). o.answer) both.1 ∙ alone)

pub built_run : BuiltRun
built_run bytes lent left right work card e asks room l r enough =
    runs_built bytes lent left right work card _ e room (right_run bytes [] left right work card e asks l r enough)

-- ---- Build's outcome

pub builds_with_room : BuildsWithRoom
builds_with_room bytes lent card e room =
    let table = table_of card in
    let b = built bytes lent card e room in
    (e, ap (λ (o : Outcome Report). o.answer) b, rw b (table_reads_back table (drop (table_room table) lent) (formed bytes card e)))

-- a report is answered only with room, and then it is that of the card's table, which the bytes left hold
pub built_is : (bytes lent : List ℕ) (card : Card) (told : Report) (table : Table) → Built bytes lent card told table
    → (told ≡ report (table_of card)) × (table ≡ table_of card)
built_is bytes lent card told table b =
    let e = b.0 in
    let test = ltb (length lent) (table_room (table_of card)) in
    let answered = rw e at b.1 in
    let room = passed (λ (o : Outcome Report). o.answer) test (unaltered lent 11) _ refl answered in
    let whole = builds_with_room bytes lent card e (ltb-false (length lent) (table_room (table_of card)) room.0) in
    (accepted_same (sym b.1 ∙ whole.1), accepted_same (sym b.2 ∙ whole.2))

pub built_value : BuiltValue
built_value bytes lent left right card told table b asks l r =
    rw (built_is bytes lent card told table b).1 (right_answer bytes left right card b.0 asks l r)

pub built_depth : BuiltDepth
built_depth bytes lent card told table b =
    let same = built_is bytes lent card told table b in
    rw (same.0, same.1) (refl, exact_depth bytes card b.0, λ tree asks leaves. no_shallower_tree bytes card tree b.0 asks leaves)

pub built_cost : BuiltCost
built_cost bytes lent card told table b =
    let same = built_is bytes lent card told table b in
    rw (same.0, same.1) (refl, refl, refl, bounded_cost bytes card b.0)
