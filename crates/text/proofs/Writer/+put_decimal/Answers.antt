-- A digit, or the digits of the tenth and the last digit.
use Rattle.std.proofs.Common.{◌/◌, sym, arith}
use Rattle.text.specs.Text.{decimal}
use Rattle.text.proofs.Putting.{begins, same_text, then, left}
use Rattle.text.proofs.Text.{decimal_one, decimal_more}
use Rattle.text.proofs.Writer.+put_decimal.Goals as goal

pub put-requires : goal.put-requires
put-requires t c = rw (decimal_one c.args.n c.if-n-lt10.true) at c.requires

pub returns-then-n-lt10 : goal.returns-then-n-lt10
returns-then-n-lt10 t c = same_text (sym (decimal_one c.args.n c.if-n-lt10.true)) c.put.ensures

pub put_decimal-requires : goal.put_decimal-requires
put_decimal-requires t c =
    let a = c.args in
    let w = a.self.now in
    (omega arith, begins w.bytes.now w.end (decimal (a.n / 10)) _ (rw (decimal_more a.n c.if-n-lt10.false) at c.requires))

-- there is room for the last digit
pub put-requires-2 : goal.put-requires-2
put-requires-2 t c = left c.put_decimal.ensures _ (rw (decimal_more c.args.n c.if-n-lt10.false) at c.requires)

pub returns : goal.returns
returns t c = same_text (sym (decimal_more c.args.n c.if-n-lt10.false)) (then c.put_decimal.ensures c.put-2.ensures)
