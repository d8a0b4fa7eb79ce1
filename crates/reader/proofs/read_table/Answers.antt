use Rattle.std.proofs.Common.{sym}
use Rattle.records.proofs.Read.{count_range, long}
use Rattle.reader.proofs.Outlines.{readable, outlined, outline_counts}
use Rattle.reader.proofs.read_table.Goals as goal

pub invariant_of-unread : goal.invariant_of-unread
invariant_of-unread c =
    record { readable = readable c.args.table.now _ _ (sym c.in_ok-head.ensures) c.u16_at-count.ensures.0 }

pub invariant_of-result : goal.invariant_of-result
invariant_of-result c =
    let bytes = c.args.table.now in
    let whole = outlined bytes _ _ (sym c.in_ok-head.ensures) c.u16_at-count.ensures.0 _ c.in_ok-depth.ensures in
    let counts = outline_counts bytes _ whole in
    record { outlined = whole; counted = counts; some = (count_range bytes _ counts).0; room = long bytes _ counts }
