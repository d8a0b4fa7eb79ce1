use Rattle.std.proofs.Common.{◌∙◌, ◌+◌, ◌*◌, ◌≤◌, length, arith, rules}
use Rattle.builder.proofs.Building.{drawable, answers, leaves, counts, no_room, refused_too}
use Rattle.builder.proofs.build.Goals as goal

pub returns-in_err-card-clause-answers : goal.returns-in_err-card-clause-answers
returns-in_err-card-clause-answers c =
    let told = refused_too c.args.card.now c.args.table.now _ c.in_err-card.ensures.answer in
    search rules

pub returns-in_err-card-clause-leaves : goal.returns-in_err-card-clause-leaves
returns-in_err-card-clause-leaves c =
    (refused_too c.args.card.now c.args.table.now _ c.in_err-card.ensures.answer).1

pub returns-then-table-from : goal.returns-then-table-from
returns-then-table-from c =
    let card = c.in_ok-card.card in
    let told = no_room card.bytes.now c.args.table.now card.head _ card.read c.forecast_read-told.ensures (omega (arith, c.if-table-from.true, c.from.ensures)) in
    let given = c.in_ok-card.ensures.given in
    record { answers = rw given at told.0; leaves = rw given at told.1 }

pub write_table-written-requires : goal.write_table-written-requires
write_table-written-requires c =
    let card = c.in_ok-card.card in
    rw (c.lists.ensures.0, c.lists.ensures.1)
    (drawable card.bytes.now c.args.table.now card.head _ card.read c.forecast_read-told.ensures (omega (arith, c.if-table-from.false, c.from.ensures))
    c.prepare_order-tables.ensures)

pub report_of-requires : goal.report_of-requires
report_of-requires c =
    let card = c.in_ok-card.card in
    counts card.bytes.now c.args.table.now card.head _ card.read c.forecast_read-told.ensures (omega (arith, c.if-table-from.false, c.from.ensures)) c.write_table-written.ensures

pub returns : goal.returns
returns c =
    let card = c.in_ok-card.card in
    let room : 8 * (c.forecast_read-told.result.gates + 1) ≤ length c.args.table.now = omega (arith, c.if-table-from.false, c.from.ensures) in
    let told = c.forecast_read-told.ensures in
    let draws = c.write_table-written.ensures in
    let given = c.in_ok-card.ensures.given in
    record {
      answers = rw given at (c.report_of.ensures ∙ answers card.bytes.now c.args.table.now card.head _ card.read told room draws);
      leaves = rw given at (leaves card.bytes.now c.args.table.now card.head _ card.read told room draws);
    }
