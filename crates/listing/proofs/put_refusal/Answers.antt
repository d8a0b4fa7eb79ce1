use Rattle.text.proofs.Putting.{then}
use Rattle.listing.proofs.put_refusal.Goals as goal

pub returns : goal.returns
returns c = let line = then c.put_labelled.ensures c.put.ensures in rw (c.from.ensures, c.from-number.ensures) at line
