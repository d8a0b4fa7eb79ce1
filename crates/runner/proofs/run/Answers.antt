use Rattle.std.proofs.Common.{rules}
use Rattle.reader.proofs.Outlines.{reading_refused}
use Rattle.runner.proofs.run.Goals as goal

pub returns-in_err-read-clause-answers : goal.returns-in_err-read-clause-answers
returns-in_err-read-clause-answers c =
    rw (reading_refused c.args.table.now _ c.in_err-read.ensures.answers) (search rules)

pub returns-in_err-read-clause-leaves : goal.returns-in_err-read-clause-leaves
returns-in_err-read-clause-leaves c = rw (reading_refused c.args.table.now _ c.in_err-read.ensures.answers)
