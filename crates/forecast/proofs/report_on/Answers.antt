use Rattle.std.proofs.Common.{◌-◌, ap, ◌∙◌, arith}
use Rattle.field.specs.Logarithm.{clog}
use Rattle.field.proofs.Logarithm.{clog_is_ceiling}
use Rattle.forecast.proofs.report_on.Goals as goal

-- the levels of a digit and those above it
pub overflow_add-result : goal.overflow_add-result
overflow_add-result c =
    let low = (clog_is_ceiling (c.args.head.prime - 1) 16).0 (omega (arith, c.requires.0.1)) in
    omega (arith, c.ceil_log2-levels.ensures ∙ ap clog c.from.ensures, low, c.levels_of.ensures.1)
