-- The digits of an order condition one after the other: the next one has room, the one after it begins where it ends,
-- and the list of tests holds one digit more.
-- Assumes nothing.
use Rattle.std.proofs.Common.{◌≡◌, sym, ap, ◌∙◌, List, ℕ, ◌+◌, ◌-◌, ◌≤◌, ◌<◌, arith, add-one, length, length-append, set, get_or-set_same, get_or-set_other}
use Rattle.std.proofs.Math.Decide.{dec_lt}
use Rattle.circuit.specs.Segment.{Node}
use Rattle.comparison.specs.Condition.{Condition}
use Rattle.comparison.specs.Digits.{order_digit, order_start, order_digits}
use Rattle.comparison.specs.Lawful.{Lawful}
use Rattle.comparison.specs.Tests.{Tests}
use Rattle.comparison.specs.Writing.{less_of, equal_of}
use Rattle.comparison.proofs.Digits.{digits_cons}
use Rattle.comparison.proofs.DigitTests.{order_follows}
use Rattle.joining.specs.Listed.{tests_at}
use Rattle.writer.specs.declared.Tests as writer
use Rattle.writer.specs.Nodes.{node_is}
use Rattle.order.specs.TestsListed.{TestsListed}

-- ---- gates

module _ (t : Tests) (c : Condition) (k n j next : ℕ) (l : j < n) (here : next ≡ order_start t k j) where
  -- the next digit and the later ones are what is left
  pub digit_room : next + length (order_digits t c k (n - j) j) ≡ k + length (order_digits t c k n 0)
      → next + length (order_digit t c j next) + length (order_digits t c k (n - (j + 1)) (j + 1)) ≡ k + length (order_digits t c k n 0)
  digit_room all =
      omega (
        arith,
        ap length (digits_cons (order_digit t c) (order_start t k) n j l) ∙ length-append (order_digit t c j (order_start t k j)) _,
        ap (λ (x : ℕ). length (order_digit t c j x)) here,
      )

  -- the digit after it begins where it ends
  pub digit_next : {p : ℕ} → Lawful p t → {next' : ℕ} → next' ≡ next + length (order_digit t c j next) → next' ≡ order_start t k (j + 1)
  digit_next {p} law more =
      more
      ∙ ap (λ (x : ℕ). x + length (order_digit t c j x)) here
      ∙ order_follows p t law c k j
      ∙ ap (order_start t k) (sym (add-one j))

-- ---- the list of tests

-- where a list holds the nodes f from a number on up to j, it does up to j + 1 with the next of them set
set_next : (part : writer.Tests → Node) (f : ℕ → Node) (from j : ℕ) (list : List writer.Tests) (new : writer.Tests) → j < length list
    → ((i : ℕ) → from ≤ i → i < j → part (tests_at list i) ≡ f i) → (from ≤ j → part new ≡ f j)
    → (i : ℕ) → from ≤ i → i < j + 1 → part (tests_at (set list j new) i) ≡ f i
set_next part f from j list new long before now i low to = go (dec_lt i j)
  where
    go : Dec (i < j) → part (tests_at (set list j new) i) ≡ f i
    go (yes l) = rw (get_or-set_other list j i new _ (λ e. absurd (omega arith))) (before i low l)
    go (no other) = let e : i ≡ j = omega arith in rw (e, get_or-set_same list j new _ long) (now (omega arith))

pub listed_none : (t : Tests) (k : ℕ) {list : List writer.Tests} → TestsListed t k 0 list
listed_none t k = record { less = λ j l. absurd (omega arith); equal = λ j low l. absurd (omega arith) }

pub listed_next : (t : Tests) (k j : ℕ) {list : List writer.Tests} {new : writer.Tests} → j < length list → TestsListed t k j list
    → node_is new.less ≡ less_of t k j → (0 < j → node_is new.equal ≡ equal_of t k j) → TestsListed t k (j + 1) (set list j new)
listed_next t k j {list} {new} long listed l e = record {
  less = λ i to.
      set_next (λ x. node_is x.less) (less_of t k) 0 j list new long (λ i low to. listed.less i to) (λ low. l) i (omega arith) to;
  equal = set_next (λ x. node_is x.equal) (equal_of t k) 1 j list new long listed.equal e;
}
