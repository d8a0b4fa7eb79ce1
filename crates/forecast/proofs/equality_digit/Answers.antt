use Rattle.std.specs.Int.RustNames.{count_ones}
use Rattle.std.proofs.Common.{◌-◌, ap, ◌∙◌, arith}
use Rattle.std.proofs.lemmas.Nat.{ones_le_self}
use Rattle.field.specs.Logarithm.{flog}
use Rattle.comparison.proofs.Bits.{ones_some, flog_below}
use Rattle.forecast.proofs.Counting.{ones_are}
use Rattle.forecast.proofs.equality_digit.Goals as goal

pub overflow_sub-result : goal.overflow_sub-result
overflow_sub-result c =
    let t = c.args.prime - 1 in
    omega (arith, c.from-t.ensures, ones_are c.from-t.result, ones_some c.from-t.result (omega (arith, c.requires, c.from-t.ensures)))

pub returns : goal.returns
returns c =
    let t = c.args.prime - 1 in
    let log = c.from-log.ensures ∙ c.floor_log2.ensures ∙ ap flog c.from-t.ensures in
    let set = ap count_ones c.from-t.ensures ∙ ones_are t in
    let low = flog_below t (omega (arith, c.requires)) in
    let few = ones_le_self c.from-t.result in
    (rw (log, set), (omega (arith, c.ranges.prime.fits, few, c.from-t.ensures, log, low), omega (arith, c.ranges.prime.fits, few, c.from-t.ensures), omega (arith, c.ranges.prime.fits, log, low)))
