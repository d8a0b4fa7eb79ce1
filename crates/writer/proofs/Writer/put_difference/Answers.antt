use Rattle.writer.proofs.Writing.{follows}
use Rattle.writer.proofs.Writer.put_difference.Goals as goal

pub returns : goal.returns
returns c = follows c.put.ensures (follows c.put-2.ensures c.put_minus.ensures)
