-- The word, then the number.
use Rattle.text.proofs.Putting.{then, left}
use Rattle.text.proofs.Writer.put_labelled.Goals as goal

pub put_decimal-requires : goal.put_decimal-requires
put_decimal-requires c = left c.put.ensures _ c.requires

pub returns : goal.returns
returns c = then c.put.ensures c.put_decimal.ensures
