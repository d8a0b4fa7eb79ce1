-- No zero test is shallower than ceil(log2(p-1)).
-- Of gates that are, the output is a polynomial of degree below p - 1 in the left value, so the outputs at the values below p add up to 0 modulo p.
-- Those of a zero test add up to 1.
-- Assumes nothing.
use mathlib.Core.Path.{◌≡◌, sym, ap, ◌∙◌}
use mathlib.Core.List.{List, [], ◌∷◌}
use Prim.Native.Nat.{ℕ, ◌-◌, ◌%◌, ◌^◌, ◌≤◌, ◌<◌, zero-le}
use native.Mathlib.Omega.{arith}
use native.Mathlib.Decide.{dec_lt}
use native.Mathlib.Nat.{mod-eq_of_lt, zero-mod}
use borrow.Author.Tests.{ne_eqb}
use lib.Dec.{eqb}
use lib.ListN.{length}
use Rattle.answer.specs.Outcome.{accepted}
use Rattle.answer.proofs.Outcome.{accepted_same}
use Rattle.field.specs.Bit.{bit}
use Rattle.field.specs.Half.{half}
use Rattle.field.specs.Logarithm.{clog}
use Rattle.field.specs.Modular.{sub_mod}
use Rattle.field.specs.Sum.{sum}
use Rattle.field.proofs.Logarithm.{clog_is_ceiling}
use Rattle.field.proofs.Modular.{mod_same, sub_down, sub_up}
use Rattle.field.proofs.Primes.{listed_is_odd_prime}
use Rattle.field.proofs.Sum.{sum_cong, sum_single}
use Rattle.field.proofs.Tests.{cases}
use Rattle.digits.specs.Number.{base}
use Rattle.circuit.specs.Depth.{depth}
use Rattle.circuit.specs.Gate.{Gate}
use Rattle.circuit.specs.Meaning.{output}
use Rattle.circuit.specs.Reading.{reading}
use Rattle.circuit.specs.Table.{Table}
use Rattle.circuit.specs.Value.{values}
use Rattle.circuit.proofs.Promises.{run_answers}
use Rattle.circuit.proofs.Reading.{reads}
use Rattle.bound.specs.GatePolynomial.{polynomials}
use Rattle.bound.specs.Polynomial.{evaluate}
use Rattle.bound.specs.PolynomialPromises.{ShallowCancels}
use Rattle.bound.specs.Promises.{ZeroTestDepth, DifferenceTestDepth, NothingShallower, NothingShallowerTold, NothingShallowerRun}
use Rattle.bound.specs.ZeroTests.{TestsZero, TestsDifferences}
use Rattle.bound.proofs.GatePolynomial.{gates_are_polynomials, degrees_by_depth}
use Rattle.bound.proofs.Polynomial.{values_cancel}

pub shallow_cancels : ShallowCancels
shallow_cancels p right gates prime shallow =
    let q = output (polynomials p right) gates in
    let last = length gates - 1 in
    sum_cong p p _ (evaluate q) (λ x l. sym (gates_are_polynomials p x right gates last (omega arith)))
    ∙ values_cancel p q prime (omega (arith, degrees_by_depth p right gates last, low))
  where
    low : 2 ^ depth gates < p - 1
    low =
        cases (dec_lt (2 ^ depth gates) (p - 1)) (λ l. l)
        (λ h. absurd (omega (arith, (clog_is_ceiling (p - 1) (depth gates)).0 (omega arith))))

pub zero_test_depth : ZeroTestDepth
zero_test_depth p right gates prime test =
    cases (dec_lt (depth gates) (clog (p - 1)))
    (λ shallow. absurd (omega (arith, sum_is_one, shallow_cancels p right gates prime shallow)))
    (λ deep. omega arith)
  where
    sum_is_one : sum p (λ x. output (values p (x ∷ []) right) gates) % p ≡ 1
    sum_is_one =
        sum_single p p 0 1 _ (omega (arith, prime.two)) (mod_same p (test 0 (omega (arith, prime.two))))
        (λ x l n. mod_same p (test x l ∙ ap bit (ne_eqb x 0 n)) ∙ zero-mod p)
        ∙ mod-eq_of_lt prime.two

-- a value up to (p-1)/2 is the difference of itself and 0, and one above it that of 0 and a digit
tests_all : (p : ℕ) (right : List ℕ) (gates : List Gate) → p % 2 ≡ 1 → TestsDifferences p right gates → TestsZero p right gates
tests_all p right gates odd test z l = cases (dec_lt (half p) z) above below
  where
    at : (x y : ℕ) → sub_mod p x y ≡ z → x < base p → y < base p → output (values p (z ∷ []) right) gates ≡ bit (eqb x y)
    at x y e hx hy = ap (λ (v : ℕ). output (values p (v ∷ []) right) gates) (sym e) ∙ test x y hx hy

    below : (half p < z → ⊥) → output (values p (z ∷ []) right) gates ≡ bit (eqb z 0)
    below h = at z 0 (sub_down p z 0 zero-le l ∙ omega arith) (omega arith) (omega arith)

    above : half p < z → output (values p (z ∷ []) right) gates ≡ bit (eqb z 0)
    above h =
        at 0 (p - z) (sub_up p 0 (p - z) (omega arith) (omega arith) ∙ omega arith) (omega arith) (omega arith)
        ∙ ap bit (ne_eqb 0 (p - z) (λ e. omega arith) ∙ sym (ne_eqb z 0 (λ e. omega arith)))

pub difference_test_depth : DifferenceTestDepth
difference_test_depth p right gates prime odd test = zero_test_depth p right gates prime (tests_all p right gates odd test)

-- ---- of the table that bytes are read as

read_depth : (bytes right : List ℕ) (table : Table) → reading bytes ≡ accepted table → TestsZero table.head.prime right table.gates
    → clog (table.head.prime - 1) ≤ depth table.gates
read_depth bytes right table e test =
    let p = table.head.prime in
    zero_test_depth p right table.gates ((listed_is_odd_prime p).0 (reads bytes table e).formed.prime).prime test

pub nothing_shallower : NothingShallower
nothing_shallower bytes right table test = read_depth bytes right table test.checked test.tests

pub nothing_shallower_told : NothingShallowerTold
nothing_shallower_told bytes right table told test t =
    rw (← accepted_same (rw test.checked at t)) (nothing_shallower bytes right table test)

pub nothing_shallower_run : NothingShallowerRun
nothing_shallower_run bytes right work table told e t test =
    rw (← accepted_same (rw e at t))
    (read_depth bytes right table e (λ x l. run_answers table (x ∷ []) right (work x) _ (rw e at (test x l))))
