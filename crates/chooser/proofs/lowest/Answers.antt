use Rattle.chooser.proofs.NoSearch.{takes_lowest, takes_none}
use Rattle.chooser.proofs.lowest.Goals as goal

pub returns-then-base-cap : goal.returns-then-base-cap
returns-then-base-cap c bytes card e none told = let a = c.args in takes_lowest bytes card e none a.base told a.cap.0 c.if-base-cap.true

pub returns : goal.returns
returns c bytes card e none told = let a = c.args in (takes_none bytes card e none a.base told a.cap.0 c.if-base-cap.false, tt)
