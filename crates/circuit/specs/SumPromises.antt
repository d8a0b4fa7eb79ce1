-- What is proved of sums of gates, over any terms and any entries that solve the gates.
-- Proved in `proofs/Sums.antt`.
use Rattle.std.specs.Prelude.{◌≡◌, true, List, map, ℕ, ◌-◌, ◌*◌, ◌%◌, ◌≤◌, ◌<◌, length}
use Rattle.field.specs.Sum.{total}
use Rattle.circuit.specs.Count.{is_square, is_product, count}
use Rattle.circuit.specs.Depth.{depths}
use Rattle.circuit.specs.Every.{Every}
use Rattle.circuit.specs.Gate.{Gate}
use Rattle.circuit.specs.Meaning.{meaning, Solves}
use Rattle.circuit.specs.Sums.{sum_from, sum_gate, largest}
use Rattle.circuit.specs.Table.{Head, fits, all_fit}
use Rattle.circuit.specs.Value.{values}

-- modulo p the value is the sum of the terms' values
abbrev pub SumValue : Type 0
SumValue =
    (p : ℕ) (left right : List ℕ) (E : ℕ → ℕ) (k : ℕ) (terms : List Gate) → 0 < p → 1 ≤ length terms
    → let alg = values p left right in
    Solves alg E k (sum_from k terms) → E (sum_gate k (length terms)) % p ≡ total (map (meaning alg E) terms) % p

-- and it is below p where the first term's is
abbrev pub SumBelow : Type 0
SumBelow =
    (p : ℕ) (left right : List ℕ) (E : ℕ → ℕ) (k : ℕ) (terms : List Gate) → 0 < p → 1 ≤ length terms
    → Solves (values p left right) E k (sum_from k terms) → E k < p → E (sum_gate k (length terms)) < p

-- the depth is the largest of the terms' depths
abbrev pub SumDepth : Type 0
SumDepth =
    (E : ℕ → ℕ) (k : ℕ) (terms : List Gate) → 1 ≤ length terms → Solves depths E k (sum_from k terms)
    → E (sum_gate k (length terms)) ≡ largest (map (meaning depths E) terms)

-- an ADD for each term but the first; no product and no square but those among the terms
abbrev pub SumCount : Type 0
SumCount =
    (k : ℕ) (terms : List Gate)
    → let gates = sum_from k terms in
    (length gates ≡ 2 * length terms - 1)
    × (count is_product gates ≡ count is_product terms)
    × (count is_square gates ≡ count is_square terms)

-- where every term keeps the rules as gate number k, the gates do
abbrev pub SumFits : Type 0
SumFits =
    (head : Head) (k : ℕ) (terms : List Gate) → Every (λ (g : Gate). fits head k g ≡ true) terms → all_fit head k (sum_from k terms) ≡ true
