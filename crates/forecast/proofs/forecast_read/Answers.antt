use Rattle.std.proofs.Common.{ap, ◌∙◌}
use Rattle.answer.specs.Outcome.{accepted}
use Rattle.forecast.specs.Counting.{report_from}
use Rattle.card.specs.Parts.{head_is}
use Rattle.forecast.proofs.Forecasting.{says}
use Rattle.forecast.proofs.forecast_read.Goals as goal

pub report_on-requires : goal.report_on-requires
report_on-requires c =
    let card = c.args.card in
    ((says card.bytes.now card.head card.read).ranges, c.count_conditions.ensures.1)

pub returns : goal.returns
returns c =
    let card = c.args.card in
    c.report_on.ensures ∙ ap (λ t. accepted (report_from (head_is card.head) t)) c.count_conditions.ensures.0
    ∙ (says card.bytes.now card.head card.read).forecast
