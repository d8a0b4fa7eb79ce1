-- Numbers as digits (document 01, "Field and digits").
use Rattle.std.specs.Prelude.{ℕ, zero, suc, ◌+◌, ◌*◌, ◌/◌, ◌%◌, ◌^◌, Bool, true, ◌&&◌, ◌||◌, List, [], ◌∷◌, ltb, length, get_or}
use Rattle.field.specs.Sum.{sum}

-- "B = (p+1)/2"
abbrev pub base : ℕ → ℕ
base p = (p + 1) / 2

-- "n (1 to 16)"
abbrev pub most_digits : ℕ
most_digits = 16

-- n is not 1 to 16
abbrev pub wrong_count : ℕ → Bool
wrong_count n = ltb n 1 || ltb most_digits n

-- "stands for the sum of digit j times B^j", lowest first
unfoldable pub number : ℕ → List ℕ → ℕ
number B digits = sum (length digits) (λ j. get_or digits j 0 * B ^ j)

-- "each below B"
unfoldable pub all_below : ℕ → List ℕ → Bool
all_below B [] = true
all_below B (d ∷ ds) = ltb d B && all_below B ds

-- the n lowest digits of x, lowest first
unfoldable pub digits_of : ℕ → ℕ → ℕ → List ℕ
digits_of B zero x = []
digits_of B (suc n) x = x % B ∷ digits_of B n (x / B)
