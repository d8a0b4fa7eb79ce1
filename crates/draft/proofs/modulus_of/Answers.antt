use Rattle.draft.proofs.Prime.{prime_usable}
use Rattle.draft.proofs.modulus_of.Goals as goal

pub invariant_of-result : goal.invariant_of-result
invariant_of-result c =
    let odd = prime_usable c.args.card.bytes.now c.args.card.head c.args.card.read in
    record { least = rw c.from.ensures odd.0; odd = rw c.from.ensures odd.1; byte = rw c.from.ensures odd.2 }
