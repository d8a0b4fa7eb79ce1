use Rattle.records.proofs.Records.{lent_is, lent_long}
use Rattle.reader.proofs.Table.record.Goals as goal

pub returns : goal.returns
returns c =
    let table = c.args.self in
    (lent_is table.bytes.now c.args.k, lent_long table.bytes.now _ c.args.k table.room c.requires)
