use Rattle.std.proofs.Common.{ap, ◌∙◌, arith}
use Rattle.field.specs.Logarithm.{clog}
use Rattle.field.proofs.Logarithm.{clog_is_ceiling}
use Rattle.forecast.proofs.levels_of.Goals as goal

pub returns-in-YesOrNo : goal.returns-in-YesOrNo
returns-in-YesOrNo c =
    let low = (clog_is_ceiling c.args.totals.breadth 16).0 (omega (arith, c.requires)) in
    rw c.in-YesOrNo.is (c.ceil_log2.ensures, omega (arith, c.ceil_log2.ensures, low))

pub returns-in-Score : goal.returns-in-Score
returns-in-Score c =
    let low = (clog_is_ceiling c.args.totals.longest 16).0 (omega (arith, c.requires)) in
    let levels = c.ceil_log2-in-Score.ensures ∙ ap clog c.from.ensures in
    rw c.in-Score.is (levels, omega (arith, levels, low))
