use Rattle.std.proofs.Common.{arith}
use Rattle.circuit.proofs.Records.{lent_whole}
use Rattle.card.proofs.ReadAs.{record_long}
use Rattle.card.proofs.accepted.Card.records_from.Goals as goal

pub slice_bounds-result-count : goal.slice_bounds-result-count
slice_bounds-result-count c =
    let card = c.args.self in
    omega (arith, record_long card.bytes.now card.head c.args.k card.read c.requires _ c.record_size.ensures)

pub returns-clause-whole : goal.returns-clause-whole
returns-clause-whole c =
    let card = c.args.self in
    lent_whole card.bytes.now _ _ (record_long card.bytes.now card.head c.args.k card.read c.requires _ c.record_size.ensures)

pub slice_bounds-result-start : goal.slice_bounds-result-start
slice_bounds-result-start c =
    let card = c.args.self in
    omega (arith, record_long card.bytes.now card.head c.args.k card.read c.requires _ c.record_size.ensures)
