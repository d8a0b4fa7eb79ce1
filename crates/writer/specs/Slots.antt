-- Conditions as the code holds them: a relation, and the slots of the digits.
use Rattle.comparison.specs.Condition.{Condition}
use Rattle.comparison.specs.Relation.{Relation}
use Rattle.writer.specs.declared.Slots.{Slots}

-- of weight 0, as its gates are the same whatever it weighs (`WeighsNothing`)
abbrev pub condition_on : Relation → Slots → Condition
condition_on relation slots =
    record { relation = relation; digits = slots.count; left = slots.left; right = slots.right; weight = 0 }
