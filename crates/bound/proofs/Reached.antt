-- Zero tests that are as deep as the bound and no deeper: LEFT, and 1 - x^(p-1) over it; and what Build writes for "=" of one digit,
-- LEFT, RIGHT, their difference z, and 1 - z^(p-1). That power tests every z below p, not only those between digits.
-- Assumes nothing.
use mathlib.Core.Path.{◌≡◌, refl, sym, ap, ap₂, subst, ◌∙◌}
use mathlib.Core.Bool.{Bool, true, false}
use mathlib.Core.List.{List, [], ◌∷◌, append-nil}
use Prim.Native.Nat.{ℕ, suc, ◌-◌, ◌≤◌}
use native.Mathlib.Omega.{arith}
use native.Mathlib.Nat.{le_refl}
use lib.ListN.{length}
use Rattle.field.specs.Logarithm.{clog}
use Rattle.field.specs.Modular.{sub_mod}
use Rattle.field.specs.Polynomials.{zero_test}
use Rattle.field.specs.Primes.{Prime, OddPrime, listed}
use Rattle.field.specs.Sum.{total}
use Rattle.field.proofs.Logarithm.{clog_small, flog_less}
use Rattle.field.proofs.Polynomials.{zero_test_lem}
use Rattle.field.proofs.Primes.{listed_is_odd_prime}
use Rattle.field.proofs.Tests.{in_range_false}
use Rattle.digits.proofs.Comparing.{equal_test}
use Rattle.circuit.specs.Depth.{depths, depth}
use Rattle.circuit.specs.Gate.{Gate}
use Rattle.circuit.specs.Meaning.{Algebra, entry_at, Solves}
use Rattle.circuit.specs.ProductTree.{multiply}
use Rattle.circuit.specs.Table.{Table, wrong_weight, most_gates, all_fit}
use Rattle.circuit.specs.Value.{values}
use Rattle.circuit.proofs.Fitting.{all_named}
use Rattle.circuit.proofs.Meaning.{solved}
use Rattle.circuit.proofs.Reading.{read_table_lem}
use Rattle.circuit.proofs.WellFormed.{WellFormed}
use Rattle.comparison.specs.Bits.{bits}
use Rattle.comparison.specs.Digits.{digits_from, equality_digit, equality_start}
use Rattle.comparison.specs.EqualityDigit.{Collected, nothing, power, chain, zero_chain}
use Rattle.comparison.specs.Tests.{equality_test}
use Rattle.comparison.specs.Writing.{equality_factors, equality_segment, condition_by}
use Rattle.comparison.proofs.Bits.{ones_below}
use Rattle.comparison.proofs.DigitPromises.{equality_solved}
use Rattle.comparison.proofs.EqualityDigit.{chain_value, chain_depth, chain_fits, chain_size}
use Rattle.query.specs.Card.{Card, AsksYesOrNo}
use Rattle.query.specs.Formulas.{depth_formula}
use Rattle.query.specs.Promises.{gates_of}
use Rattle.query.specs.Whole.{add_all}
use Rattle.query.proofs.CardFacts.{accepted_card}
use Rattle.query.proofs.Promises.{exact_depth}
use Rattle.bound.specs.Reached.{zero_test_table, BoundReached, equal_of_one_digit, BuildReaches}
use Rattle.bound.specs.ZeroTests.{TestsZero, WithoutRight}

-- ---- LEFT, and the power

chain_unread : (bs : List Bool) (k running : ℕ) (c : Collected) → WithoutRight (chain bs k running c)
unfolding chain
chain_unread [] k running c = (refl, tt)
chain_unread (false ∷ bs) k running c = (refl, chain_unread bs (suc k) k c)
chain_unread (true ∷ bs) k running nothing = (refl, chain_unread bs (suc k) k (power k))
chain_unread (true ∷ bs) k running (power collected) = (refl, (refl, chain_unread bs (suc (suc k)) k (power (suc k))))

start_unread : (bs : List Bool) (k z : ℕ) → WithoutRight (zero_chain bs k z)
start_unread [] k z = chain_unread [] k z nothing
start_unread (false ∷ bs) k z = chain_unread bs k z nothing
start_unread (true ∷ bs) k z = chain_unread bs k z (power z)

module _ (p s : ℕ) (odd : OddPrime p) where
  abbrev table : Table
  table = zero_test_table p s

  abbrev gates : List Gate
  gates = table.gates

  test_fits : all_fit table.head 0 gates ≡ true
  unfolding all_fit
  test_fits = chain_fits table.head p 1 0 (le_refl 1)

  test_size : length gates ≤ most_gates
  test_size =
      let few = ones_below (p - 1) (omega (arith, odd.odd)) (omega (arith, odd.low)) in
      omega (arith, odd.high, chain_size p 1 0 odd.prime.two, flog_less (p - 1) (omega (arith, odd.low)), few)

  test_formed : listed p ≡ true → wrong_weight s ≡ false → WellFormed table
  test_formed l w = record {
    prime = l;
    weight = w;
    slots = refl;
    count = in_range_false (length gates) 1 most_gates (omega arith) test_size;
    fitted = test_fits;
  }

  test_solved : {A : Type 0} (alg : Algebra A) → Solves alg (entry_at alg gates) 0 gates
  test_solved alg = solved alg gates [] 0 refl (all_named table.head 0 gates test_fits)

  test_value : (right : List ℕ) → TestsZero p right gates
  test_value right x l =
      let t = test_solved (values p (x ∷ []) right) in
      chain_value p (x ∷ []) right _ 1 0 _ odd.prime.two t.1 (omega arith)
      ∙ ap (zero_test p) t.0 ∙ zero_test_lem p x odd.prime l

  test_depth : depth gates ≡ clog (p - 1)
  test_depth = let t = test_solved depths in chain_depth _ p 1 0 _ odd.prime.two t.1 (omega arith) t.0

pub bound_reached : BoundReached
bound_reached p s right later l w =
    let odd = (listed_is_odd_prime p).0 l in (
      record {
        checked = read_table_lem (zero_test_table p s) later (test_formed p s odd l w);
        one_slot = refl;
        without_right = (refl, start_unread (bits (p - 1)) 1 0);
        tests = test_value p s odd right;
      },
      test_depth p s odd,
    )

-- ---- what Build writes for "=" of one digit

-- one digit adds no level
formula_is : (card : Card) → AsksYesOrNo card → card.conditions ≡ equal_of_one_digit ∷ [] → depth_formula card ≡ clog (card.prime - 1)
unfolding total
formula_is card asks e = rw (asks, e, clog_small 1 (le_refl 1)) (omega (arith, clog_small 1 (le_refl 1)))

-- the gates of the one digit, and no product tree after it
gates_are : (card : Card) → AsksYesOrNo card → card.conditions ≡ equal_of_one_digit ∷ []
    → gates_of card ≡ equality_digit card.prime equal_of_one_digit 0 0
unfolding add_all condition_by equality_segment digits_from equality_factors multiply
gates_are card asks e =
    let start : equality_start card.prime 0 0 ≡ 0 = omega arith in
    let whole = append-nil ((equality_test card.prime).gates 0) in rw (asks, e, start, whole, whole, whole, whole)

digit_tests : (p : ℕ) → Prime p → TestsZero p (0 ∷ []) (equality_digit p equal_of_one_digit 0 0)
digit_tests p prime x l =
    let alg = values p (x ∷ []) (0 ∷ []) in
    let t = equality_solved p [] equal_of_one_digit 0 alg prime.two in
    chain_value p (x ∷ []) (0 ∷ []) _ 3 2 _ prime.two t.1.1.1 (omega arith)
    ∙ ap (zero_test p) (t.1.1.0 ∙ ap₂ (sub_mod p) t.0 t.1.0) ∙ equal_test p x 0 prime l (omega arith)

pub build_reaches : BuildReaches
build_reaches bytes card e asks one =
    let p = card.prime in (
      subst (TestsZero p (0 ∷ [])) (sym (gates_are card asks one)) (digit_tests p (accepted_card bytes card e).prime.prime),
      exact_depth bytes card e ∙ formula_is card asks one,
    )
