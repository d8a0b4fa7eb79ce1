use Rattle.std.proofs.Common.{◌≡◌, false, refl, sym, ◌∙◌, arith}
use Rattle.filling.specs.Filling.{finishing}
use Rattle.filling.specs.State.{BuildState, is_closed}
use Rattle.state.specs.State.{state_is}
use Rattle.state.proofs.Open.{outputs_open}
use Rattle.filler.proofs.Finishing.{finish_short}
use Rattle.filler.proofs.Steps.{refused_step}
use Rattle.filler.proofs.finish.Goals as goal

pub returns-then-table-from : goal.returns-then-table-from
returns-then-table-from c =
    let s = c.args.state.now in
    let state : BuildState = state_is s in
    let table = c.args.table.now in
    let is_open : is_closed state ≡ false = sym c.is_closed.ensures ∙ c.if-is_closed.false in
    let told = refused_step state 11 table (finishing state table)
    (finish_short state s.count table is_open (outputs_open s is_open) (omega (arith, c.if-is_empty.false, c.from-count.ensures))
    (omega (arith, c.if-table-from.true, c.from-count.ensures, c.from.ensures))) in
    record { answers = told.answers; next = told.next; kept = refl; leaves = told.leaves }
