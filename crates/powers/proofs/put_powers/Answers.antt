use Rattle.writer.proofs.Writing.{follows}
use Rattle.powers.proofs.put_powers.Goals as goal

pub returns-clause-wrote : goal.returns-clause-wrote
returns-clause-wrote c = follows c.put_low_powers.ensures.wrote (follows c.put_odd_powers.ensures.wrote c.put_power.ensures)
