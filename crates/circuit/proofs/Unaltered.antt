-- A refused Run leaves work as it was: rule by rule, as they stand in `running_table`.
-- Assumes nothing.
use mathlib.Core.Bool.{not, ◌&&◌, ◌||◌}
use lib.Dec.{ltb, eqb}
use lib.ListN.{length}
use Rattle.answer.proofs.Outcome.{accepted_keeps, refuse_keeps, on_answer_keeps}
use Rattle.digits.specs.Number.{all_below}
use Rattle.circuit.specs.Promises.{RunKeeps}
use Rattle.circuit.specs.Reading.{reading}
use Rattle.circuit.specs.Table.{left_slots, right_slots}

pub run_keeps : RunKeeps
run_keeps bytes left right work =
    on_answer_keeps (reading bytes) (λ table.
    let p = table.head.prime in
    refuse_keeps (not (eqb (length left) (left_slots table.head)) || not (eqb (length right) (right_slots table.head))) 18
    (refuse_keeps (not (all_below p left && all_below p right)) 19 (refuse_keeps (ltb (length work) (length table.gates)) 20 accepted_keeps)))
