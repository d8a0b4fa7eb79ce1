-- One condition, as the code holds it.
use Rattle.comparison.specs.Condition.{Condition}
use Rattle.relations.specs.Relations.{relation_is}
use Rattle.relations.specs.declared.Relation.{Relation}
use Rattle.writer.specs.declared.Slots.{Slots}
use Rattle.writer.specs.Slots.{condition_on}

-- the condition that the code holds as a relation and slots
abbrev pub condition_is : Relation → Slots → Condition
condition_is relation slots = condition_on (relation_is relation) slots
