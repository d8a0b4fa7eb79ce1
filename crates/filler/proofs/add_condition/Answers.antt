use Rattle.std.proofs.Common.{◌+◌, ◌≤◌, refl, arith}
use Rattle.digits.specs.Number.{most_digits}
use Rattle.comparison.specs.Condition.{Condition}
use Rattle.filling.specs.Filling.{added_to, adding_condition}
use Rattle.filling.specs.State.{BuildState}
use Rattle.relations.specs.Relations.{relation_is}
use Rattle.state.specs.State.{state_is}
use Rattle.state.proofs.Open.{open_facts}
use Rattle.filler.specs.Steps.{condition_next, added_bytes, Addable}
use Rattle.filler.proofs.Adding.{add_short, add_settled}
use Rattle.filler.proofs.Steps.{refused_step, settled_step}
use Rattle.filler.proofs.add_condition.Goals as goal

pub condition_size-size-requires : goal.condition_size-size-requires
condition_size-size-requires c =
    (c.requires.digits.0, c.requires.digits.1, (open_facts (state_is c.args.state.now) c.requires.is_open).prime.low)

pub returns-then-table-from : goal.returns-then-table-from
returns-then-table-from c =
    let state : BuildState = state_is c.args.state.now in
    let table = c.args.table.now in
    let condition : Condition = condition_next state (relation_is c.args.relation) c.args.digits in
    let sized = c.condition_size-size.ensures state.slots state.slots 0 in
    let fits : state.slots + c.args.digits ≤ most_digits = omega (arith, c.if-from-gt-MOST_DIGITS.false, c.from.ensures, c.from-2.ensures) in
    let told = refused_step state 11 table (adding_condition state table condition)
    (add_short state condition c.condition_size-size.result table c.requires.is_open c.requires.digits.0 sized fits
    (omega (arith, c.if-table-from.true, c.from-3.ensures, c.from-4.ensures))) in
    record { answers = told.answers; next = told.next; kept = refl; leaves = told.leaves }

pub returns : goal.returns
returns c =
    let state : BuildState = state_is c.args.state.now in
    let table = c.args.table.now in
    let condition : Condition = condition_next state (relation_is c.args.relation) c.args.digits in
    let sized = c.condition_size-size.ensures state.slots state.slots 0 in
    let addable : Addable state c.args.state.now.count condition c.condition_size-size.result table = record {
      takes = c.requires;
      slots = omega (arith, c.if-from-gt-MOST_DIGITS.false, c.from.ensures, c.from-2.ensures);
      sized = sized;
      room = omega (arith, c.if-table-from.false, c.from-3.ensures, c.from-4.ensures);
    } in
    let e = c.write_condition.ensures in
    let told = settled_step _ (added_to state condition) _ (added_bytes state condition table) _ (adding_condition state table condition)
    (add_settled addable) e.next e.leaves in
    record { answers = told.answers; next = told.next; kept = tt; leaves = told.leaves }
