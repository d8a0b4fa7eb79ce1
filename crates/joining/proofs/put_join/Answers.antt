use Rattle.writer.proofs.Writing.{follows}
use Rattle.joining.proofs.put_join.Goals as goal

pub returns-clause-wrote : goal.returns-clause-wrote
returns-clause-wrote c = follows c.put_less-less.ensures.wrote c.multiply-equal.ensures.wrote
