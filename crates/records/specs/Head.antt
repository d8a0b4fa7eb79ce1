-- A table's head, as the code holds it.
use Rattle.circuit.specs.Table as circuit
use Rattle.records.specs.declared.SlotCounts.{SlotCounts}
use Rattle.records.specs.declared.SlotCounts.TheVariants.{Both, Each}
use Rattle.records.specs.declared.TableHead.{TableHead}

-- the slot counts that the code's enum stands for
abbrev pub slots_is : SlotCounts → circuit.SlotCounts
slots_is (Both n) = circuit.Both n
slots_is (Each l r) = circuit.Each l r

-- the head that the code's struct stands for
abbrev pub head_is : TableHead → circuit.Head
head_is head = record { prime = head.prime; weight = head.weight; slots = slots_is head.slots }
