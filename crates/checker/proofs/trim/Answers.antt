use Rattle.reader.proofs.Outlines.{reading_refused}
use Rattle.checker.proofs.trim.Goals as goal

pub returns-in-Err : goal.returns-in-Err
returns-in-Err c = rw (reading_refused c.args.table.now _ c.in-Err.ensures.answers)
