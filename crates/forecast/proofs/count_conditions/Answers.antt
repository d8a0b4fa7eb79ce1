use Rattle.std.proofs.Common.{ap₂, ◌∙◌, arith}
use Rattle.std.proofs.lemmas.List.{length_push}
use Rattle.card.specs.Parts.{record_is}
use Rattle.card.proofs.Iteration.{turn, ended}
use Rattle.card.proofs.ReadAs.{as_many}
use Rattle.forecast.specs.Counting.{condition_counts}
use Rattle.forecast.proofs.AddingUp.{finishes, adds}
use Rattle.forecast.proofs.Counting.{power_is}
use Rattle.forecast.proofs.Forecasting.{says}
use Rattle.forecast.proofs.count_conditions.Goals as goal

pub order_digit-order-requires : goal.order_digit-order-requires
order_digit-order-requires c = let card = c.args.card in (says card.bytes.now card.head card.read).ranges.0

pub equality_digit-equality-requires : goal.equality_digit-equality-requires
equality_digit-equality-requires c = let card = c.args.card in (says card.bytes.now card.head card.read).ranges.0

pub count_condition-own-requires : goal.count_condition-own-requires
count_condition-own-requires c =
    let this = turn c.args.card c.into_iter-condition-iterator.result (cc) _ _ c.loop-condition.yielded_by c.in-Some.condition _ c.in-Some.ensures.steps in
    (this.slots.0, omega (arith, this.slots), c.order_digit-order.ensures.1, c.equality_digit-equality.ensures.1)

pub next_power_of_two-requires : goal.next_power_of_two-requires
next_power_of_two-requires c =
    let this = turn c.args.card c.into_iter-condition-iterator.result (cc) _ _ c.loop-condition.yielded_by c.in-Some.condition _ c.in-Some.ensures.steps in
    omega (arith, this.slots)

pub loop-condition-preserved : goal.loop-condition-preserved
loop-condition-preserved c =
    let this = turn c.args.card c.into_iter-condition-iterator.result (cc) _ _ c.loop-condition.yielded_by c.in-Some.condition _ c.in-Some.ensures.steps in
    let r = record_is c.in-Some.condition in
    let own = c.count_condition-own.ensures.0 ∙ ap₂ (condition_counts r.relation r.digits) c.order_digit-order.ensures.0 c.equality_digit-equality.ensures.0 in
    let next = c.next_power_of_two.ensures in
    let power = c.from.ensures ∙ power_is r.digits _ (next.power, next.lower_bound, next.upper_bound) in
    rw (length_push c.loop-condition.yielded c.in-Some.condition) (
      adds _ _ _ _ c.loop-condition.invariant.0 r _ _ _ this.is own c.count_condition-own.ensures.1 power
          (omega (arith, c.from.ensures, next.upper_bound, this.slots)) c.max.ensures (omega (arith, this.slots)),
      omega (arith, this.few),
    )

pub returns : goal.returns
returns c =
    let many = ended c.args.card c.into_iter-condition-iterator.result (cc) _ _ c.loop-condition.yielded_by c.in-None.ensures.steps.0 in
    (finishes _ _ _ _ (omega (arith, many, as_many c.args.card.bytes.now c.args.card.head c.args.card.read)) c.loop-condition.invariant.0, omega (arith, c.loop-condition.invariant))
