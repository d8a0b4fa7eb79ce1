use Rattle.std.proofs.Common.{arith, zero-le}
use Rattle.std.proofs.lemmas.List.{length_push}
use Rattle.card.specs.Conditions.{conditions_of}
use Rattle.card.proofs.Iteration.{turn, ended}
use Rattle.card.proofs.ReadAs.{as_many}
use Rattle.rating.proofs.Counting.{counts_none, counts_next, counts_all, digits_few}
use Rattle.rating.proofs.count_digits.Goals as goal

pub loop-condition-init : goal.loop-condition-init
loop-condition-init c = (counts_none (conditions_of c.args.card.bytes.now), zero-le)

pub digits_in-own-requires : goal.digits_in-own-requires
digits_in-own-requires c =
    let card = c.args.card in
    (turn card c.into_iter-condition-iterator.result (cc) _ _ c.loop-condition.yielded_by c.in-Some.condition _ c.in-Some.ensures.steps).slots.0

pub overflow_add-all : goal.overflow_add-all
overflow_add-all c =
    let card = c.args.card in
    let this = turn card c.into_iter-condition-iterator.result (cc) _ _ c.loop-condition.yielded_by c.in-Some.condition _ c.in-Some.ensures.steps in
    let own = c.digits_in-own.ensures in
    let next = counts_next _ _ _ _ _ _ c.in-Some.condition this.is own.0 own.1 c.loop-condition.invariant.0 in
    omega (arith, next.all_left, digits_few card)

pub overflow_add-higher : goal.overflow_add-higher
overflow_add-higher c =
    let card = c.args.card in
    let this = turn card c.into_iter-condition-iterator.result (cc) _ _ c.loop-condition.yielded_by c.in-Some.condition _ c.in-Some.ensures.steps in
    let own = c.digits_in-own.ensures in
    let next = counts_next _ _ _ _ _ _ c.in-Some.condition this.is own.0 own.1 c.loop-condition.invariant.0 in
    omega (arith, next.all_left, own.1, c.loop-condition.invariant.1, digits_few card)

pub loop-condition-preserved : goal.loop-condition-preserved
loop-condition-preserved c =
    let card = c.args.card in
    let this = turn card c.into_iter-condition-iterator.result (cc) _ _ c.loop-condition.yielded_by c.in-Some.condition _ c.in-Some.ensures.steps in
    let own = c.digits_in-own.ensures in
    rw (length_push c.loop-condition.yielded c.in-Some.condition)
    (counts_next _ _ _ _ _ _ c.in-Some.condition this.is own.0 own.1 c.loop-condition.invariant.0, omega (arith, own, c.loop-condition.invariant.1))

pub returns : goal.returns
returns c =
    let card = c.args.card in
    let many = ended card c.into_iter-condition-iterator.result (cc) _ _ c.loop-condition.yielded_by c.in-None.ensures.steps.0 in
    let told = counts_all (conditions_of card.bytes.now) _ _ _ (omega (arith, many, as_many card.bytes.now card.head card.read)) c.loop-condition.invariant.0 in
    (told.0, told.1, omega (arith, told.0, digits_few card), c.loop-condition.invariant.1)
