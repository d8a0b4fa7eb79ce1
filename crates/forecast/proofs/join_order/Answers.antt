use Rattle.std.proofs.Common.{ap, ◌∙◌, arith}
use Rattle.field.specs.Logarithm.{flog}
use Rattle.field.proofs.Logarithm.{flog_less}
use Rattle.forecast.proofs.join_order.Goals as goal

pub overflow_sub-result-2 : goal.overflow_sub-result-2
overflow_sub-result-2 c =
    let log = c.from-log.ensures ∙ c.floor_log2.ensures ∙ ap flog c.from.ensures in
    omega (arith, c.from-digits.ensures, log, flog_less c.args.n c.requires.0)

pub overflow_sub-result-4 : goal.overflow_sub-result-4
overflow_sub-result-4 c =
    let log = c.from-log.ensures ∙ c.floor_log2.ensures ∙ ap flog c.from.ensures in
    omega (arith, c.from-digits.ensures, log, flog_less c.args.n c.requires.0)
