-- The promises of one digit: the laws of its tests, over the entries of all gates written so far.
-- Assumes nothing.
use mathlib.Core.Path.{◌≡◌, refl, ap, ◌∙◌}
use mathlib.Core.Bool.{true}
use mathlib.Core.List.{List, ◌++◌}
use Prim.Native.Nat.{ℕ, suc, ◌+◌, ◌-◌, ◌≤◌}
use native.Mathlib.Omega.{arith}
use lib.ListN.{length, length-append}
use Rattle.circuit.specs.Depth.{depths}
use Rattle.circuit.specs.Gate.{Gate}
use Rattle.circuit.specs.Meaning.{Algebra, entry_at, Solves}
use Rattle.circuit.specs.Table.{Each, Head, all_fit}
use Rattle.circuit.specs.Value.{values}
use Rattle.circuit.proofs.Fitting.{all_named}
use Rattle.circuit.proofs.Meaning.{later_solved}
use Rattle.comparison.specs.Condition.{Condition}
use Rattle.comparison.specs.DigitPromises.{DigitsFollow, TermPowers, OrderDigitHolds, OrderDigitDepth, EqualityDigitHolds, EqualityDigitDepth}
use Rattle.comparison.specs.Digits.{order_digit, equality_digit}
use Rattle.comparison.specs.Lawful.{Lawful}
use Rattle.comparison.specs.Tests.{no_test, test_node, Tests, base_tests, equality_test}
use Rattle.comparison.proofs.DigitTests.{order_follows, order_first, equality_follows, equality_first, order_digit_fits, equality_digit_fits, powers_of, less_is, zero_is, equal_is, less_deep, zero_deep, equal_deep}
use Rattle.comparison.proofs.Lawful.{base_lawful, equality_lawful}

pub digits_follow : DigitsFollow
digits_follow p k j t c =
    (λ law. (order_first t k, order_follows p t law c k j), λ two. (equality_first p k, equality_follows p two c k j))

module _ (p : ℕ) (gates : List Gate) (c : Condition) (j : ℕ) where
  abbrev k : ℕ
  k = length gates

  -- any head with slots enough
  abbrev head : Head
  head = record { prime = p; weight = 0; slots = Each (suc (c.left + j)) (suc (c.right + j)) }

  -- gates that fit name only earlier ones, so their entries solve them
  solved : {A : Type 0} (alg : Algebra A) (digit : List Gate) → all_fit head k digit ≡ true
      → Solves alg (entry_at alg (gates ++ digit)) k digit
  solved alg digit fits = later_solved alg gates digit (all_named head k digit fits)

  order_solved : {A : Type 0} (alg : Algebra A) (t : Tests) → Lawful p t
      → Solves alg (entry_at alg (gates ++ order_digit t c j k)) k (order_digit t c j k)
  order_solved alg t law = solved alg (order_digit t c j k) (order_digit_fits head p refl c j k (omega arith) (omega arith) t law)

  pub equality_solved : {A : Type 0} (alg : Algebra A) → 2 ≤ p
      → Solves alg (entry_at alg (gates ++ equality_digit p c j k)) k (equality_digit p c j k)
  equality_solved alg two = solved alg (equality_digit p c j k) (equality_digit_fits head p refl c j k (omega arith) (omega arith) two)

  -- the last gate of an equality digit
  zero_last : 2 ≤ p → length (gates ++ equality_digit p c j k) - 1 ≡ (test_node no_test (equality_test p) k).gate
  zero_last two = omega (arith, length-append gates (equality_digit p c j k), (equality_lawful p two).size k)

-- ---- the order digit

pub term_powers : TermPowers
term_powers p left right gates c j three odd =
    powers_of p three odd left right _ c j (length gates)
    (order_solved p gates c j (values p left right) (base_tests p) (base_lawful p three odd))

pub order_digit_holds : OrderDigitHolds
order_digit_holds p t left right gates c j law prime three odd low =
    let s = order_solved p gates c j (values p left right) t law in (
      less_is p left right _ c j (length gates) prime three odd low t law s,
      λ some. equal_is p left right _ c j (length gates) prime three odd low some t law s,
    )

pub order_digit_depth : OrderDigitDepth
order_digit_depth p t gates c j law =
    let s = order_solved p gates c j depths t law in
    (less_deep p _ c t law j (length gates) s, λ some. equal_deep p _ c t law j (length gates) some s)

-- ---- the equality digit

pub equality_digit_holds : EqualityDigitHolds
equality_digit_holds p left right gates c j prime three odd low =
    let alg = values p left right in
    let two : 2 ≤ p = omega arith in
    ap (entry_at alg (gates ++ equality_digit p c j (length gates))) (zero_last p gates c j two)
    ∙ zero_is p left right _ c j (length gates) prime three odd low (equality_solved p gates c j alg two)

pub equality_digit_depth : EqualityDigitDepth
equality_digit_depth p gates c j two =
    ap (entry_at depths (gates ++ equality_digit p c j (length gates))) (zero_last p gates c j two)
    ∙ zero_deep p _ c two j (length gates) (equality_solved p gates c j depths two)
