-- Five words with their numbers, one after the other, then the end of the line.
use Rattle.text.proofs.Putting.{then}
use Rattle.listing.proofs.put_summary.Goals as goal

pub returns : goal.returns
returns c =
    let products = then c.put_labelled.ensures c.put_labelled-2.ensures in
    let squares = then products c.put_labelled-3.ensures in
    let cost = then squares c.put_labelled-4.ensures in
    let depth = then cost c.put_labelled-5.ensures in
    let line = then depth c.put.ensures in
    rw (c.from.ensures, c.from-2.ensures, c.from-3.ensures, c.from-4.ensures) at line
