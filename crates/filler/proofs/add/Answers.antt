use Rattle.std.proofs.Common.{◌≡◌, false, ◌<◌, sym, ap, ◌∙◌, length, arith}
use Rattle.query.specs.Card.{most_conditions}
use Rattle.filling.specs.Filling.{adding_condition}
use Rattle.filling.specs.State.{BuildState, is_closed}
use Rattle.state.specs.State.{state_is}
use Rattle.state.proofs.Open.{outputs_open}
use Rattle.filler.proofs.Adding.{add_read, read_next}
use Rattle.filler.proofs.Steps.{same_step}
use Rattle.filler.proofs.add.Goals as goal

pub add_condition-requires : goal.add_condition-requires
add_condition-requires c =
    let s = c.args.state.now in
    let state : BuildState = state_is s in
    let is_open : is_closed state ≡ false = sym c.is_closed.ensures ∙ c.if-is_closed.false in
    let next = read_next state c.args.bytes.now _ (sym c.in_ok-condition.ensures) in
    record { is_open = is_open; few = omega (arith, c.if-is_full.false, c.from-is_full.ensures); digits = (next.1, next.2) }

pub returns : goal.returns
returns c =
    let s = c.args.state.now in
    let state : BuildState = state_is s in
    let bytes = c.args.bytes.now in
    let table = c.args.table.now in
    let is_open : is_closed state ≡ false = sym c.is_closed.ensures ∙ c.if-is_closed.false in
    let few : length state.outputs < most_conditions = omega (arith, c.if-is_full.false, c.from-is_full.ensures, outputs_open s is_open) in
    let took = sym c.in_ok-condition.ensures in
    let same = add_read state bytes table is_open few _ c.if-bytes-ne-PLAIN_SIZE.false took ∙ ap (adding_condition state table) (read_next state bytes _ took).0 in
    let e = c.add_condition.ensures in
    let told = same_step same (record { answers = e.answers; next = e.next; leaves = e.leaves }) in
    record { answers = told.answers; next = told.next; kept = e.kept; leaves = told.leaves }
