use Rattle.writer.proofs.Writing.{follows}
use Rattle.writer.proofs.Writer.add_term.Goals as goal

pub returns-clause-wrote : goal.returns-clause-wrote
returns-clause-wrote c = follows c.put.ensures c.put-2.ensures
