-- An equality condition but for its last FLIP, as the code holds it: the slots of its digits.
use Rattle.comparison.specs.Condition.{Condition}
use Rattle.comparison.specs.Relation.{Equal}
use Rattle.writer.specs.declared.Slots.{Slots}
use Rattle.writer.specs.Slots.{condition_on}

abbrev pub equality_condition : Slots → Condition
equality_condition slots = condition_on Equal slots
