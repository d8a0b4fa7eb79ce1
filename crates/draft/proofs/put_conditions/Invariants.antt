-- `draft::put_conditions` meets its contract. The invariant is `Adds`: what is written is the draft so far, and the conditions that are
-- left make it the draft of all.
-- Assumes nothing.
use Rattle.std.proofs.Common.{◌≡◌, length}
use Rattle.step.specs.Digit.{tests_by}
use Rattle.card.specs.Conditions.{conditions_of}
use Rattle.draft.proofs.Adding.{Adds}
use Rattle.draft.proofs.put_conditions.Given as goal

abbrev pub invariant-loop-k : goal.invariant-loop-k
invariant-loop-k l =
    Adds (tests_by l.fn.card.head.prime l.step) l.fn.card.head.prime (conditions_of l.fn.card.bytes.now) l.initial.out l.out (length l.yielded) l.outputs
    × (length l.outputs ≡ length l.initial.outputs)
