use Rattle.records.proofs.Records.{lent_long}
use Rattle.listing.specs.Records.{record_lines}
use Rattle.text.proofs.Putting.{nothing, same_text, then, left}
use Rattle.listing.proofs.Records.{lines_more, lines_room}
use Rattle.listing.proofs.put_gate_lines.Goals as goal

pub loop-k-init : goal.loop-k-init
unfolding record_lines
loop-k-init c = nothing

pub put_gate_line-requires : goal.put_gate_line-requires
put_gate_line-requires c =
    let a = c.args in
    let w = a.out.now in
    let less = c.loop-k-test.true in
    rw c.from.ensures (
      lent_long a.table.now a.count c.loop-k.k c.requires.0 less,
      left c.loop-k.invariant _ (lines_room w.bytes.now w.end a.table.now a.count c.loop-k.k less c.requires.1),
    )

pub loop-k-preserved : goal.loop-k-preserved
loop-k-preserved c =
    same_text (lines_more c.args.table.now c.loop-k.k) (then c.loop-k.invariant (rw c.from.ensures at c.put_gate_line.ensures))
