-- "Digits go low to high." (document 01, "Writing one condition"): the digits of a condition, each from its first gate on.
use Rattle.std.specs.Prelude.{ℕ, zero, suc, ◌+◌, ◌-◌, ◌*◌, List, [], ◌++◌}
use Rattle.circuit.specs.Gate.{Gate}
use Rattle.comparison.specs.Condition.{Condition}
use Rattle.comparison.specs.Difference.{difference}
use Rattle.comparison.specs.Tests.{Tests, equality_test}

-- n digits from number j on; digit number j is written from gate number start j on
unfoldable pub digits_from : (ℕ → ℕ → List Gate) → (ℕ → ℕ) → ℕ → ℕ → List Gate
digits_from digit start zero j = []
digits_from digit start (suc n) j = digit j (start j) ++ digits_from digit start n (suc j)

-- the difference of digit number j, from gate number k on
abbrev pub digit_difference : Condition → ℕ → ℕ → List Gate
digit_difference c j k = difference c.relation (c.left + j) (c.right + j) k

-- ---- order digits

-- "Every digit but the lowest", which is number 0
abbrev pub unless_lowest : ℕ → List Gate → List Gate
unless_lowest zero gates = []
unless_lowest (suc j) gates = gates

-- the tests of digit number j: L, and E unless it is the lowest
abbrev pub order_tests : Tests → ℕ → ℕ → List Gate
order_tests t j k = t.less.gates k ++ unless_lowest j (t.equal.gates k)

-- digit number j, from gate number k on
abbrev pub order_digit : Tests → Condition → ℕ → ℕ → List Gate
order_digit t c j k = digit_difference c j k ++ order_tests t j k

-- how many gates one with E has
abbrev pub order_digit_size : Tests → ℕ
order_digit_size t = 3 + t.less.count + t.equal.count

-- the first gate of digit number j, where the lowest, which lacks E, is written from gate number k on
abbrev pub order_start : Tests → ℕ → ℕ → ℕ
order_start t k j = k + (order_digit_size t * j - t.equal.count)

-- n of them, from number j on
abbrev pub order_digits : Tests → Condition → ℕ → ℕ → ℕ → List Gate
order_digits t c k n j = digits_from (order_digit t c) (order_start t k) n j

-- ---- equality digits

-- digit number j, from gate number k on
abbrev pub equality_digit : ℕ → Condition → ℕ → ℕ → List Gate
equality_digit p c j k = digit_difference c j k ++ (equality_test p).gates k

-- how many gates it has
abbrev pub equality_digit_size : ℕ → ℕ
equality_digit_size p = 3 + (equality_test p).count

-- the first gate of digit number j, where the lowest is written from gate number k on
abbrev pub equality_start : ℕ → ℕ → ℕ → ℕ
equality_start p k j = k + equality_digit_size p * j

-- n of them, from number j on
abbrev pub equality_digits : ℕ → Condition → ℕ → ℕ → ℕ → List Gate
equality_digits p c k n j = digits_from (equality_digit p c) (equality_start p k) n j
