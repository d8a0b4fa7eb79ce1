use Rattle.std.proofs.Common.{rules}
use Rattle.reader.proofs.Outlines.{reading_refused}
use Rattle.checker.proofs.check.Goals as goal

pub returns-in_err-read : goal.returns-in_err-read
returns-in_err-read c = rw (reading_refused c.args.table.now _ c.in_err-read.ensures.answers) (search rules)
