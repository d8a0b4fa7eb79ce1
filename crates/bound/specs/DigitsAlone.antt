-- Why a zero test has to be right at every value below p: gates that are right at digits alone can be shallower.
-- Proved in `proofs/DigitsAlone.antt`.
use Rattle.std.specs.Prelude.{◌≡◌, List, [], ◌∷◌, map, ◌-◌, ◌<◌}
use Rattle.field.specs.Logarithm.{clog}
use Rattle.circuit.specs.Constant.{plus}
use Rattle.circuit.specs.Depth.{depth}
use Rattle.circuit.specs.Gate.{Gate, Left, Sub, Scale, Flip, Mul}
use Rattle.circuit.specs.Meaning.{output}
use Rattle.circuit.specs.Value.{values}

-- 1 - (2x^2 - x), for p = 5
abbrev pub digits_alone : List Gate
digits_alone = Left 0 ∷ Mul 0 0 ∷ Scale 1 (plus 2) ∷ Sub 2 0 ∷ Flip 3 ∷ []

-- where digits are below 3: right at 0, 1 and 2, wrong at 3 and 4, and less than ceil(log2(p-1)) deep
abbrev pub DigitsAlone : Type 0
DigitsAlone =
    (map (λ x. output (values 5 (x ∷ []) []) digits_alone) (0 ∷ 1 ∷ 2 ∷ 3 ∷ 4 ∷ []) ≡ 1 ∷ 0 ∷ 0 ∷ 1 ∷ 3 ∷ [])
    × (depth digits_alone < clog (5 - 1))
