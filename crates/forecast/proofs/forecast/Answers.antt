use Rattle.std.proofs.Common.{rules}
use Rattle.forecast.proofs.Forecasting.{refused_too}
use Rattle.forecast.proofs.forecast.Goals as goal

pub returns-in_err-read : goal.returns-in_err-read
returns-in_err-read c =
    let told = refused_too c.args.card.now _ c.in_err-read.ensures.answer in
    search rules
