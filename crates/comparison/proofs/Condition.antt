-- The promises of one condition: an order or an equality condition, and its FLIP.
-- Assumes nothing.
use mathlib.Core.Path.{◌≡◌, refl, sym, ap, ap₂, ◌∙◌}
use mathlib.Core.Bool.{Bool, true, false}
use mathlib.Core.List.{List, [], ◌++◌}
use Prim.Native.Nat.{ℕ, zero, suc, ◌+◌, ◌-◌, ◌*◌, ◌/◌, ◌%◌, ◌≤◌}
use native.Mathlib.Omega.{arith}
use native.Mathlib.Nat.{le_of_eq, mul-le-mul_left, suc-mul}
use lib.ListN.{length, length-append}
use Rattle.answer.specs.Report.{cost_of}
use Rattle.field.specs.Bit.{bit}
use Rattle.field.specs.Logarithm.{clog, flog}
use Rattle.field.specs.Primes.{Prime}
use Rattle.field.proofs.Bit.{flip_bit}
use Rattle.field.proofs.Logarithm.{flog_less}
use Rattle.digits.specs.Number.{base, all_below}
use Rattle.circuit.specs.Count.{count, is_product, is_square}
use Rattle.circuit.specs.Depth.{depths}
use Rattle.circuit.specs.Gate.{Gate}
use Rattle.circuit.specs.Meaning.{Algebra, entry_at, Solves}
use Rattle.circuit.specs.Segment.{Segment, followed_by}
use Rattle.circuit.specs.Table.{Each, Head, left_slots, right_slots, all_fit}
use Rattle.circuit.specs.Value.{values}
use Rattle.circuit.proofs.Count.{count_append}
use Rattle.circuit.proofs.Fitting.{all_fit_lem, fit_append, all_named}
use Rattle.circuit.proofs.Meaning.{solves_append, later_solved}
use Rattle.comparison.specs.Bits.{ones}
use Rattle.comparison.specs.Condition.{Condition, unweighed, number_in}
use Rattle.comparison.specs.Digits.{order_digit_size}
use Rattle.comparison.specs.Formulas.{digit_size, gates_before_flip, products_of, squares_of, cost_summand}
use Rattle.comparison.specs.Lawful.{Lawful}
use Rattle.comparison.specs.Promises.{WeighsNothing, OutputIsLast, SizesDiffer, ConditionWrites, ConditionFits, ConditionHolds, ConditionTells, ConditionDepth, ConditionSized, ConditionCounts, OrderCost, CostWithin, EqualityTree}
use Rattle.comparison.specs.Relation.{is_order, is_backward, is_flipped, minuend, subtrahend, tested, flipped_if}
use Rattle.comparison.specs.Tests.{Tests, base_tests}
use Rattle.comparison.specs.Writing.{order_segment, equality_segment, segment_of, ending, condition_by}
use Rattle.comparison.proofs.Bits.{ones_below, flog_below}
use Rattle.comparison.proofs.EqualityCondition.{equality_length, equality_counts, equality_last, equality_least, equality_fits, equality_value, equality_node, equality_tells}
use Rattle.comparison.proofs.Lawful.{base_lawful}
use Rattle.comparison.proofs.OrderCondition.{order_size, order_length, order_counts, order_last, order_fits, order_value, order_node, order_tells}
use Rattle.comparison.proofs.Relations.{relation_tested, sides, in_base}

-- what FLIP makes of an entry where there is one
abbrev flip_if : {A : Type 0} → Algebra A → Bool → A → A
flip_if alg true a = alg.flip a
flip_if alg false a = a

-- ---- the FLIP at the end, over any segment whose output is its last gate

module _ (k : ℕ) (s : Segment) (last : suc s.output.gate ≡ k + length s.gates) where
  abbrev ended : Bool → Segment
  ended b = followed_by k s.gates (ending b s.output)

  end_length : (b : Bool) → length (ended b).gates ≡ length s.gates + bit b
  end_length true = length-append s.gates _ ∙ omega arith
  end_length false = length-append s.gates _ ∙ omega arith

  end_last : (b : Bool) → suc (ended b).output.gate ≡ k + length (ended b).gates
  end_last true = omega (arith, end_length true)
  end_last false = omega (arith, end_length false)

  end_fits : (head : Head) (b : Bool) → all_fit head k s.gates ≡ true → all_fit head k (ended b).gates ≡ true
  end_fits head true t = fit_append head k s.gates _ t (all_fit_lem head _ _ (omega (arith, last), tt))
  end_fits head false t = fit_append head k s.gates _ t (all_fit_lem head _ [] tt)

  end_count : (b : Bool) → (count is_product (ended b).gates ≡ count is_product s.gates)
      × (count is_square (ended b).gates ≡ count is_square s.gates)
  unfolding count
  end_count b =
      let flip = (ending b s.output (k + length s.gates)).gates in
      let none = go b in (
        omega (arith, count_append is_product s.gates flip, none.0),
        omega (arith, count_append is_square s.gates flip, none.1),
      )
    where
      go : (b : Bool) → let flip = (ending b s.output (k + length s.gates)).gates in (count is_product flip ≡ 0) × (count is_square flip ≡ 0)
      go true = (refl, refl)
      go false = (refl, refl)

  end_node : (b : Bool) → (ended b).output.depth ≡ s.output.depth
  end_node true = refl
  end_node false = refl

  -- over any entries: the segment, and its FLIP
  end_solved : {A : Type 0} (alg : Algebra A) (E : ℕ → A) (b : Bool) → Solves alg E k (ended b).gates
      → Solves alg E k s.gates × (E (ended b).output.gate ≡ flip_if alg b (E s.output.gate))
  end_solved alg E true h = let parts = solves_append alg E s.gates _ k h in (parts.0, parts.1.0)
  end_solved alg E false h = ((solves_append alg E s.gates [] k h).0, refl)

-- ---- the condition before its FLIP, by any lawful tests

module _ (p : ℕ) (t : Tests) (law : Lawful p t) (two : 2 ≤ p) (c : Condition) (some : 1 ≤ c.digits) (k : ℕ) where
  abbrev body_of : Bool → Segment
  body_of b = segment_of b t p c k

  body_last : (b : Bool) → suc (body_of b).output.gate ≡ k + length (body_of b).gates
  unfolding order_segment equality_segment
  body_last true = order_last p t law c some k
  body_last false = equality_last p two c some k

  -- each digit has its LEFT, RIGHT and z
  body_some : (b : Bool) → 1 ≤ length (body_of b).gates
  unfolding order_segment equality_segment
  body_some true = omega (arith, order_size p t law c some k, mul-le-mul_left (order_digit_size t) some, flog_less c.digits some)
  body_some false = omega (arith, equality_length p two c some k, mul-le-mul_left c.digits (digit_some false))
    where
      digit_some : (b : Bool) → 1 ≤ digit_size b p
      digit_some true = omega arith
      digit_some false = omega arith

  body_fits : (head : Head) → head.prime ≡ p → c.left + c.digits ≤ left_slots head → c.right + c.digits ≤ right_slots head
      → (b : Bool) → all_fit head k (body_of b).gates ≡ true
  unfolding order_segment equality_segment
  body_fits head prime l r true = order_fits p t law c some k head prime l r
  body_fits head prime l r false = equality_fits p two c some k head prime l r

  body_tells : (E : ℕ → ℕ) (b : Bool) → Solves depths E k (body_of b).gates → E (body_of b).output.gate ≡ (body_of b).output.depth
  unfolding order_segment equality_segment
  body_tells E true h = order_tells p t law c some k E h
  body_tells E false h = equality_tells p two c some k E h

  body_value : Prime p → 3 ≤ p → p % 2 ≡ 1 → (left right : List ℕ) → c.left + c.digits ≤ length left → c.right + c.digits ≤ length right
      → all_below (base p) left ≡ true → all_below (base p) right ≡ true → (E : ℕ → ℕ) (b : Bool)
      → Solves (values p left right) E k (body_of b).gates
      → let back = is_backward c.relation in
      let x = number_in (base p) c.left c.digits left in
      let y = number_in (base p) c.right c.digits right in
      E (body_of b).output.gate ≡ bit (tested b (minuend back x y) (subtrahend back x y))
  unfolding order_segment equality_segment
  body_value prime three odd left right l r hl hr E true h =
      let both = sides (base p) left right c l r in
      order_value p t law c some k prime three odd left right E h (in_base p left right c (omega arith) hl hr)
      ∙ ap₂ (λ (x y : ℕ). bit (tested true x y)) both.0 both.1
  body_value prime three odd left right l r hl hr E false h =
      let both = sides (base p) left right c l r in
      equality_value p two c some k prime three odd left right E h (in_base p left right c (omega arith) hl hr)
      ∙ ap₂ (λ (x y : ℕ). bit (tested false x y)) both.0 both.1

-- ---- the promises: any lawful tests

pub output_is_last : OutputIsLast
unfolding condition_by
output_is_last p k t c law two some =
    let order = is_order c.relation in
    end_last k (body_of p t law two c some k order) (body_last p t law two c some k order) (is_flipped c.relation)

pub condition_writes : ConditionWrites
unfolding condition_by
condition_writes p k t c law two some =
    let order = is_order c.relation in
    let b = is_flipped c.relation in
    omega (
      arith,
      end_length k (body_of p t law two c some k order) (body_last p t law two c some k order) b,
      body_some p t law two c some k order,
    )

pub condition_fits : ConditionFits
unfolding condition_by
condition_fits head k t c law two slots =
    let p = head.prime in
    let order = is_order c.relation in
    end_fits k (body_of p t law two c slots.0 k order) (body_last p t law two c slots.0 k order) head (is_flipped c.relation)
    (body_fits p t law two c slots.0 k head refl slots.1 slots.2 order)

-- over the entries of all gates written so far: the condition before its FLIP, and its FLIP
written_solved : {A : Type 0} (alg : Algebra A) (p : ℕ) (t : Tests) (gates : List Gate) (c : Condition)
    (law : Lawful p t) (two : 2 ≤ p) (some : 1 ≤ c.digits)
    → let k = length gates in
    let written = condition_by t p c k in
    let body = body_of p t law two c some k (is_order c.relation) in
    let E = entry_at alg (gates ++ written.gates) in
    Solves alg E k body.gates × (E written.output.gate ≡ flip_if alg (is_flipped c.relation) (E body.output.gate))
unfolding condition_by
written_solved alg p t gates c law two some =
    let k = length gates in
    let order = is_order c.relation in
    let written = (condition_by t p c k).gates in
    let head : Head = record { prime = p; weight = 0; slots = Each (c.left + c.digits) (c.right + c.digits) } in
    let named = all_named head k written (condition_fits head k t c law two (some, omega arith, omega arith)) in
    end_solved k (body_of p t law two c some k order) (body_last p t law two c some k order) alg _ (is_flipped c.relation)
    (later_solved alg gates written named)

pub condition_holds : ConditionHolds
condition_holds p t left right gates c law prime three odd slots hl hr =
    let two : 2 ≤ p = omega arith in
    let some = slots.0 in
    let end = written_solved (values p left right) p t gates c law two some in
    let order = is_order c.relation in
    end.1
    ∙ go (is_flipped c.relation) _ (body_value p t law two c some (length gates) prime three odd left right slots.1 slots.2 hl hr _ order end.0)
    ∙ ap bit (relation_tested c.relation _ _)
  where
    go : (b u : Bool) {v : ℕ} → v ≡ bit u → flip_if (values p left right) b v ≡ bit (flipped_if b u)
    go true u e = ap (values p left right).flip e ∙ flip_bit p (omega arith) u
    go false u e = e

pub condition_tells : ConditionTells
unfolding condition_by
condition_tells p t gates c law two some =
    let k = length gates in
    let order = is_order c.relation in
    let b = is_flipped c.relation in
    let end = written_solved depths p t gates c law two some in
    end.1 ∙ same b _ ∙ body_tells p t law two c some k _ order end.0
    ∙ sym (end_node k (body_of p t law two c some k order) (body_last p t law two c some k order) b)
  where
    same : (b : Bool) (v : ℕ) → flip_if depths b v ≡ v
    same true v = refl
    same false v = refl

-- one digit apart from the others
one_apart : (n e : ℕ) → 1 ≤ n → (n - 1) * e + e ≡ n * e
one_apart zero e some = absurd (omega arith)
one_apart (suc n) e some =
    let less : suc n - 1 ≡ n = omega arith in
    let more : suc n * e ≡ n * e + e = suc-mul n e in
    omega (arith, ap (λ (m : ℕ). m * e) less)

body_differs : (p k j : ℕ) (t u : Tests) (c : Condition) (lt : Lawful p t) (lu : Lawful p u) (two : 2 ≤ p) (some : 1 ≤ c.digits) (order : Bool)
    → let d = elim order as (λ _. ℕ) [ true ↦ c.digits | false ↦ 0 ] in
    length (body_of p t lt two c some k order).gates + (d * u.less.count + (d - 1) * u.equal.count)
    ≡ length (body_of p u lu two c some j order).gates + (d * t.less.count + (d - 1) * t.equal.count)
unfolding order_segment equality_segment
body_differs p k j t u c lt lu two some true =
    omega (
      arith,
      order_size p t lt c some k,
      order_size p u lu c some j,
      one_apart c.digits t.equal.count some,
      one_apart c.digits u.equal.count some,
    )
body_differs p k j t u c lt lu two some false = omega (arith, equality_length p two c some k, equality_length p two c some j)

pub sizes_differ : SizesDiffer
unfolding condition_by
sizes_differ p k j t u c lt lu two some =
    let order = is_order c.relation in
    let b = is_flipped c.relation in
    omega (
      arith,
      end_length k (body_of p t lt two c some k order) (body_last p t lt two c some k order) b,
      end_length j (body_of p u lu two c some j order) (body_last p u lu two c some j order) b,
      body_differs p k j t u c lt lu two some order,
    )

-- ---- the promises: document 01's tests

pub condition_depth : ConditionDepth
unfolding condition_by equality_segment
condition_depth p k c two some = end (is_flipped c.relation) (is_order c.relation) ∙ node (is_order c.relation)
  where
    end : (b order : Bool)
        → let s = segment_of order (base_tests p) p c k in (followed_by k s.gates (ending b s.output)).output.depth ≡ s.output.depth
    end true order = refl
    end false order = refl

    node : (order : Bool) → (segment_of order (base_tests p) p c k).output.depth ≡ clog (p - 1) + clog c.digits
    node true = order_node p c k some
    node false = equality_node p two c some k

module _ (p k : ℕ) (c : Condition) (three : 3 ≤ p) (odd : p % 2 ≡ 1) (some : 1 ≤ c.digits) where
  abbrev two : 2 ≤ p
  two = omega arith

  abbrev base_of : Bool → Segment
  base_of = body_of p (base_tests p) (base_lawful p three odd) two c some k

  base_last : (order : Bool) → suc (base_of order).output.gate ≡ k + length (base_of order).gates
  base_last = body_last p (base_tests p) (base_lawful p three odd) two c some k

  base_length : (order : Bool) → length (base_of order).gates ≡ gates_before_flip order p c.digits
  unfolding equality_segment
  base_length true = order_length p three odd c some k
  base_length false = equality_length p two c some k

  base_counts : (order : Bool)
      → (count is_product (base_of order).gates ≡ products_of order p c.digits)
      × (count is_square (base_of order).gates ≡ squares_of order p c.digits)
  unfolding equality_segment
  base_counts true = order_counts p three odd c some k
  base_counts false = equality_counts p two c some k

pub condition_sized : ConditionSized
unfolding condition_by
condition_sized p k c three odd some =
    let order = is_order c.relation in
    end_length k (base_of p k c three odd some order) (base_last p k c three odd some order) (is_flipped c.relation)
    ∙ ap (λ (n : ℕ). n + bit (is_flipped c.relation)) (base_length p k c three odd some order)

pub condition_counts : ConditionCounts
unfolding condition_by
condition_counts p k c three odd some =
    let order = is_order c.relation in
    let end = end_count k (base_of p k c three odd some order) (base_last p k c three odd some order) (is_flipped c.relation) in
    let counts = base_counts p k c three odd some order in
    (end.0 ∙ counts.0, end.1 ∙ counts.1)

summand_is : (p s n : ℕ) → p % 2 ≡ 1 → cost_of s (products_of true p n) (squares_of true p n) ≡ cost_summand p s n
summand_is p s n odd =
    let half : 100 * ((p - 3) / 2) ≡ 50 * (p - 3) = omega arith in omega (arith, ap (λ (t : ℕ). n * t) half)

pub order_cost : OrderCost
order_cost p s c three odd some order = rw order (summand_is p s c.digits odd)

-- an equality condition costs no more than an order condition
pub cost_within : CostWithin
cost_within p s c three odd some = go (is_order c.relation)
  where
    go : (b : Bool) → cost_of s (products_of b p c.digits) (squares_of b p c.digits) ≤ cost_summand p s c.digits
    go true = le_of_eq (summand_is p s c.digits odd)
    go false =
        let n = c.digits in
        let t = p - 1 in
        let few = ones_below t (omega arith) (omega arith) in
        let odds : n * (100 * (ones t - 1)) ≤ n * (50 * (p - 3)) = mul-le-mul_left n (omega (arith, few)) in
        let evens : n * (s * flog t) ≤ n * (s * (t / 4 + 1)) = mul-le-mul_left n (mul-le-mul_left s (flog_below t (omega arith))) in
        omega (arith, odds, evens, flog_less n some)

pub equality_tree : EqualityTree
equality_tree p k c two some = equality_least p two c some k

-- ---- weights

pub weighs_nothing : WeighsNothing
unfolding condition_by order_segment equality_segment
weighs_nothing t p c k =
    ap (λ (s : Segment). followed_by k s.gates (ending (is_flipped c.relation) s.output)) (before_flip (is_order c.relation))
  where
    before_flip : (order : Bool) → segment_of order t p (unweighed c) k ≡ segment_of order t p c k
    before_flip true = refl
    before_flip false = refl
