use Rattle.std.proofs.Common.{[], ◌∷◌, ap, ◌∙◌, refl, length, arith}
use Rattle.std.proofs.Math.Seq.{length-sets}
use Rattle.circuit.specs.Gate.{gate_bytes}
use Rattle.circuit.proofs.Bounds.{counts_below}
use Rattle.writer.specs.Gates.{gate_is}
use Rattle.writer.proofs.Writing.{one}
use Rattle.writer.proofs.Writer.put.Goals as goal

pub returns : goal.returns
returns c =
    let w = c.args.self.now in
    let n = c.after-self.ensures in
    let g = gate_is c.args.gate in
    let put = c.record.ensures in
    record {
      wrote = one g put (n.number, n.products, n.squares);
      moved = omega (arith, n.number, n.products, n.squares, counts_below (g ∷ []));
      size = ap length put ∙ length-sets w.table.now _ (gate_bytes g);
      lent = refl;
    }
