-- Conditions added one after the other to a draft: what a sound draft keeps (`Sound`), and how gates, outputs, cost and values grow.
-- By induction on the conditions; each step is a promise of one condition.
-- Assumes nothing.
use mathlib.Core.Path.{◌≡◌, refl, sym, ap, ap₂, ◌∙◌}
use mathlib.Core.Bool.{true}
use mathlib.Core.List.{List, [], ◌∷◌, ◌++◌, map, map-append, append_assoc, append-nil}
use Prim.Native.Nat.{ℕ, suc, ◌+◌, ◌-◌, ◌%◌, ◌^◌, ◌≤◌}
use native.Mathlib.Omega.{arith}
use native.Mathlib.Nat.{le_refl, zero-add, pow-le-pow_right}
use lib.ListN.{length, length-append}
use Rattle.field.specs.Logarithm.{clog}
use Rattle.field.specs.Primes.{Prime}
use Rattle.field.specs.Sum.{total}
use Rattle.digits.specs.Number.{base, all_below}
use Rattle.field.proofs.Sum.{total_append}
use Rattle.circuit.specs.Count.{is_product, is_square, count}
use Rattle.circuit.specs.Depth.{depths}
use Rattle.circuit.specs.Every.{Every}
use Rattle.circuit.specs.Factors.{InOrder, breadth}
use Rattle.circuit.specs.Gate.{Gate}
use Rattle.circuit.specs.Meaning.{Algebra, entry_at}
use Rattle.circuit.specs.Segment.{Node}
use Rattle.circuit.specs.Table.{Head, left_slots, right_slots, all_fit}
use Rattle.circuit.specs.Value.{values}
use Rattle.circuit.proofs.Choosing.{first_of, order_every, order_append}
use Rattle.circuit.proofs.Count.{count_append}
use Rattle.circuit.proofs.Every.{every_map, every_map₂, every_append, map_same}
use Rattle.circuit.proofs.Fitting.{fit_append}
use Rattle.circuit.proofs.Meaning.{entries_kept}
use Rattle.circuit.proofs.ProductTree.{left_over}
use Rattle.comparison.specs.Condition.{Condition, HasSlots}
use Rattle.comparison.specs.Formulas.{test_gates, condition_size, condition_products, condition_squares}
use Rattle.comparison.specs.Lawful.{Lawful}
use Rattle.comparison.specs.Tests.{Tests, base_tests}
use Rattle.comparison.specs.Writing.{condition_by, condition_segment}
use Rattle.comparison.proofs.Condition.{output_is_last, condition_writes, condition_sized, condition_fits, condition_counts, condition_holds, condition_tells, condition_depth, sizes_differ}
use Rattle.comparison.proofs.Deeper.{deeper_tests}
use Rattle.comparison.proofs.Lawful.{base_lawful}
use Rattle.query.specs.Card.{over_conditions}
use Rattle.query.specs.Formulas.{last_gates}
use Rattle.query.specs.Holds.{truths}
use Rattle.query.specs.Whole.{Draft, begin, add, add_all}

-- a condition's slots are among those of a head
abbrev pub Good : Head → Condition → Type 0
Good head c = HasSlots (left_slots head) (right_slots head) c

-- what a draft keeps
pub record Sound (head : Head) (draft : Draft) : Type 0 where
  pub fitted : all_fit head 0 draft.gates ≡ true
  -- each output's node tells the depth of its gate
  pub nodes : Every (λ (f : Node). entry_at depths draft.gates f.gate ≡ f.depth) draft.outputs
  -- the outputs are gates of the draft, in order
  pub order : InOrder 0 (length draft.gates) draft.outputs
  -- a single one is the last gate
  pub single : length draft.outputs ≡ 1 → suc (first_of draft.outputs).gate ≡ length draft.gates

pub begin_sound : (head : Head) → Sound head begin
unfolding all_fit InOrder
begin_sound head = record { fitted = refl; order = le_refl _; nodes = tt; single = λ one. absurd (omega arith) }

-- earlier outputs keep what they are
pub outputs_kept : (head : Head) {A : Type 0} (alg : Algebra A) (draft : Draft) (later : List Gate) → Sound head draft
    → Every (λ (f : Node). entry_at alg (draft.gates ++ later) f.gate ≡ entry_at alg draft.gates f.gate) draft.outputs
outputs_kept head alg draft later sound =
    every_map (λ (f : Node) bounds. entries_kept _ alg draft.gates later f.gate bounds.1) draft.outputs
    (order_every 0 (length draft.gates) draft.outputs sound.order)

-- ---- by any lawful tests

module _ (t : Tests) (head : Head) (law : Lawful head.prime t) (three : 3 ≤ head.prime) where
  abbrev p : ℕ
  p = head.prime

  abbrev two : 2 ≤ p
  two = omega arith

  -- ---- one condition more

  add_sound : (draft : Draft) (c : Condition) → Sound head draft → Good head c → Sound head (add t p draft c)
  add_sound draft c sound good =
      let k = length draft.gates in
      let written = condition_by t p c k in
      let last = output_is_last p k t c law two good.0 in
      let some = condition_writes p k t c law two good.0 in
      let whole = length-append draft.gates written.gates in
      record {
        fitted = fit_append head 0 draft.gates written.gates sound.fitted
            (rw (zero-add k) (condition_fits head k t c law two good));
        nodes = every_append _ draft.outputs (written.output ∷ [])
            (every_map₂ (λ (f : Node). ◌∙◌) draft.outputs (outputs_kept head depths draft written.gates sound) sound.nodes)
            (condition_tells p t draft.gates c law two good.0, tt);
        order = order_append 0 k _ draft.outputs written.output sound.order (omega arith) (omega arith);
        single = λ one. ap (λ (f : Node). suc f.gate) (left_over draft.outputs written.output one) ∙ omega arith;
      }

  pub all_sound : (draft : Draft) (cs : List Condition) → Sound head draft → Every (Good head) cs → Sound head (add_all t p draft cs)
  unfolding add_all
  all_sound draft [] sound good = sound
  all_sound draft (c ∷ cs) sound good = all_sound (add t p draft c) cs (add_sound draft c sound good.0) good.1

  -- ---- values

  module _ (prime : Prime p) (odd : p % 2 ≡ 1) (left right : List ℕ) (l : left_slots head ≤ length left) (r : right_slots head ≤ length right)
      (hl : all_below (base p) left ≡ true) (hr : all_below (base p) right ≡ true) where
    abbrev output_values : Draft → List ℕ
    output_values draft = map (λ (f : Node). entry_at (values p left right) draft.gates f.gate) draft.outputs

    add_value : (draft : Draft) (c : Condition) → Sound head draft → Good head c
        → output_values (add t p draft c) ≡ output_values draft ++ truths (base p) left right (c ∷ [])
    add_value draft c sound good =
        let alg = values p left right in
        let written = condition_by t p c (length draft.gates) in
        let slots : HasSlots (length left) (length right) c = (good.0, omega (arith, good.1), omega (arith, good.2)) in
        let here = condition_holds p t left right draft.gates c law prime three odd slots hl hr in
        map-append _ draft.outputs (written.output ∷ [])
        ∙ ap₂ (λ (vs : List ℕ) (v : ℕ). vs ++ (v ∷ [])) (map_same _ _ draft.outputs (outputs_kept head alg draft written.gates sound)) here

    -- the outputs of before keep their values, and the conditions' truths follow
    pub all_value : (draft : Draft) (cs : List Condition) → Sound head draft → Every (Good head) cs
        → output_values (add_all t p draft cs) ≡ output_values draft ++ truths (base p) left right cs
    unfolding add_all
    all_value draft [] sound good = sym (append-nil _)
    all_value draft (c ∷ cs) sound good =
        let more = truths (base p) left right cs in
        all_value (add t p draft c) cs (add_sound draft c sound good.0) good.1
        ∙ ap (λ (vs : List ℕ). vs ++ more) (add_value draft c sound good.0)
        ∙ append_assoc (output_values draft) _ more

-- ---- by any tests: how a draft grows

pub all_outputs : (t : Tests) (p : ℕ) (draft : Draft) (cs : List Condition)
    → length (add_all t p draft cs).outputs ≡ length draft.outputs + length cs
unfolding add_all
all_outputs t p draft [] = omega arith
all_outputs t p draft (c ∷ cs) =
    let written = condition_by t p c (length draft.gates) in
    omega (arith, all_outputs t p (add t p draft c) cs, length-append draft.outputs (written.output ∷ []))

-- conditions added after others
pub all_append : (t : Tests) (p : ℕ) (draft : Draft) (cs ds : List Condition) → add_all t p draft (cs ++ ds) ≡ add_all t p (add_all t p draft cs) ds
unfolding add_all
all_append t p draft [] ds = refl
all_append t p draft (c ∷ cs) ds = all_append t p (add t p draft c) cs ds

-- a draft keeps its gates
pub all_more : (t : Tests) (p : ℕ) (draft : Draft) (cs : List Condition) → length draft.gates ≤ length (add_all t p draft cs).gates
unfolding add_all
all_more t p draft [] = le_refl _
all_more t p draft (c ∷ cs) =
    let written = condition_by t p c (length draft.gates) in
    omega (arith, all_more t p (add t p draft c) cs, length-append draft.gates written.gates)

-- ---- by document 01's tests: how gates, products, squares and depths grow

module _ (head : Head) (three : 3 ≤ head.prime) (odd : head.prime % 2 ≡ 1) where
  abbrev prime : ℕ
  prime = head.prime

  abbrev tests : Tests
  tests = base_tests prime

  abbrev at_least_two : 2 ≤ prime
  at_least_two = omega arith

  pub all_length : (draft : Draft) (cs : List Condition) → Every (Good head) cs
      → length (add_all tests prime draft cs).gates ≡ length draft.gates + over_conditions (condition_size prime) cs
  unfolding add_all total
  all_length draft [] good = omega arith
  all_length draft (c ∷ cs) good =
      let k = length draft.gates in
      omega (
        arith,
        all_length (add tests prime draft c) cs good.1,
        length-append draft.gates (condition_segment prime c k).gates,
        condition_sized prime k c three odd good.0.0,
      )

  pub all_last : (draft : Draft) (cs : List Condition) → Every (Good head) cs
      → map (λ (f : Node). f.gate) (add_all tests prime draft cs).outputs
      ≡ map (λ (f : Node). f.gate) draft.outputs ++ last_gates prime (length draft.gates) cs
  unfolding add_all last_gates
  all_last draft [] good = sym (append-nil _)
  all_last draft (c ∷ cs) good =
      let gate : Node → ℕ = λ f. f.gate in
      let k = length draft.gates in
      let written = condition_segment prime c k in
      let size = condition_sized prime k c three odd good.0.0 in
      let end : length (draft.gates ++ written.gates) ≡ k + condition_size prime c = length-append draft.gates written.gates ∙ omega arith in
      let last : written.output.gate ≡ k + condition_size prime c - 1 = omega (arith, output_is_last prime k tests c (base_lawful prime three odd) at_least_two good.0.0) in
      all_last (add tests prime draft c) cs good.1
      ∙ rw (map-append gate draft.outputs (written.output ∷ []), end, last)
      (append_assoc (map gate draft.outputs) ((k + condition_size prime c - 1) ∷ []) (last_gates prime (k + condition_size prime c) cs))

  pub all_counts : (draft : Draft) (cs : List Condition) → Every (Good head) cs
      → (count is_product (add_all tests prime draft cs).gates ≡ count is_product draft.gates + over_conditions (condition_products prime) cs)
      × (count is_square (add_all tests prime draft cs).gates ≡ count is_square draft.gates + over_conditions (condition_squares prime) cs)
  unfolding add_all total
  all_counts draft [] good = (omega arith, omega arith)
  all_counts draft (c ∷ cs) good =
      let k = length draft.gates in
      let gates = (condition_segment prime c k).gates in
      let here = condition_counts prime k c three odd good.0.0 in
      let later = all_counts (add tests prime draft c) cs good.1 in (
        omega (arith, later.0, count_append is_product draft.gates gates, here.0),
        omega (arith, later.1, count_append is_square draft.gates gates, here.1),
      )

  pub all_depths : (draft : Draft) (cs : List Condition) → Every (Good head) cs
      → map (λ (f : Node). f.depth) (add_all tests prime draft cs).outputs
      ≡ map (λ (f : Node). f.depth) draft.outputs ++ map (λ (c : Condition). clog (prime - 1) + clog c.digits) cs
  unfolding add_all
  all_depths draft [] good = sym (append-nil _)
  all_depths draft (c ∷ cs) good =
      let level : Node → ℕ = λ f. f.depth in
      let written = condition_segment prime c (length draft.gates) in
      let here = condition_depth prime (length draft.gates) c at_least_two good.0.0 in
      all_depths (add tests prime draft c) cs good.1
      ∙ rw (map-append level draft.outputs (written.output ∷ []), here) (append_assoc (map level draft.outputs) _ _)

-- ---- by two tests

-- the drafts grow alike but for the gates of the digits' tests
pub all_differ : (head : Head) (t u : Tests) → Lawful head.prime t → Lawful head.prime u → 2 ≤ head.prime
    → (d e : Draft) (cs : List Condition) → Every (Good head) cs
    → length (add_all t head.prime d cs).gates + length e.gates + over_conditions (test_gates u) cs
    ≡ length (add_all u head.prime e cs).gates + length d.gates + over_conditions (test_gates t) cs
unfolding add_all total
all_differ head t u lt lu two d e [] good = omega arith
all_differ head t u lt lu two d e (c ∷ cs) good =
    let p = head.prime in
    let j = length d.gates in
    let k = length e.gates in
    omega (
      arith,
      all_differ head t u lt lu two (add t p d c) (add u p e c) cs good.1,
      length-append d.gates (condition_by t p c j).gates,
      length-append e.gates (condition_by u p c k).gates,
      sizes_differ p j k t u c lt lu two good.0.0,
    )

-- by deeper tests the outputs are at least as broad
pub all_deeper : (head : Head) (t u : Tests) → 2 ≤ head.prime → t.less.depth ≤ u.less.depth → t.equal.depth ≤ u.equal.depth
    → (d e : Draft) (cs : List Condition) → Every (Good head) cs → breadth d.outputs ≤ breadth e.outputs
    → breadth (add_all t head.prime d cs).outputs ≤ breadth (add_all u head.prime e cs).outputs
unfolding add_all total
all_deeper head t u above l m d e [] good h = h
all_deeper head t u above l m d e (c ∷ cs) good h =
    let p = head.prime in
    let j = length d.gates in
    let k = length e.gates in
    let deep = pow-le-pow_right {n = 2} (omega arith) (deeper_tests p j k t u c above good.0.0 l m) in
    all_deeper head t u above l m (add t p d c) (add u p e c) cs good.1
    (omega (arith, h, deep, one_broader d.outputs (condition_by t p c j).output, one_broader e.outputs (condition_by u p c k).output))
  where
    one_broader : (fs : List Node) (f : Node) → breadth (fs ++ (f ∷ [])) ≡ breadth fs + 2 ^ f.depth
    one_broader fs f =
        let power : Node → ℕ = λ g. 2 ^ g.depth in
        ap total (map-append power fs (f ∷ [])) ∙ total_append (map power fs) (2 ^ f.depth ∷ []) ∙ omega arith
