use Rattle.std.proofs.Common.{zero-le}
use Rattle.card.specs.Conditions.{conditions_of}
use Rattle.card.proofs.ReadAs.{slots_none}
use Rattle.card.proofs.accepted.Card.conditions.Goals as goal

pub invariant_of-result : goal.invariant_of-result
invariant_of-result c = record { few = zero-le; taken = slots_none (conditions_of c.args.self.bytes.now) }
