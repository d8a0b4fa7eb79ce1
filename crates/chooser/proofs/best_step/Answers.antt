use Rattle.std.proofs.Common.{sym, ap, ◌∙◌}
use Rattle.answer.specs.Report.{report_of}
use Rattle.offer.specs.Digits.{order_digits}
use Rattle.card.proofs.ReadAs.{conditions_are}
use Rattle.chooser.proofs.CardRead.{base_told, searching}
use Rattle.chooser.proofs.best_step.Goals as goal

pub returns-then-digits-eq0 : goal.returns-then-digits-eq0
returns-then-digits-eq0 c card e =
    let bytes = c.args.card.bytes.now in
    let none = ap order_digits (sym (conditions_are bytes card e)) ∙ sym c.count_digits-digits.ensures.0 ∙ c.if-digits-eq0.true in
    c.lowest.ensures bytes card e none (base_told bytes card e (report_of c.args.base) c.requires.1)

pub invariant_of-search : goal.invariant_of-search
invariant_of-search c =
    let equal = rw c.modulus_of.ensures at c.count_equal-equal.ensures in
    record { known = searching (report_of c.args.base) c.requires.0 c.requires.1 c.count_digits-digits.ensures c.if-digits-eq0.false equal }
