use Rattle.std.proofs.Common.{refl, ap, ◌∙◌, length}
use lib.Seq.{length-sets}
use Rattle.text.proofs.Putting.{copied}
use Rattle.text.proofs.Writer.put.Goals as goal

pub returns : goal.returns
returns c =
    let w = c.args.self.now in
    let text = c.args.text.now in
    let put = copied w.bytes.now text w.end c.copy_from_slice.ensures.after c.requires in
    record { bytes = put; size = ap length put ∙ length-sets w.bytes.now w.end text; after = refl; lent = refl }
