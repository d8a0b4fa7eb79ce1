use Rattle.std.proofs.Common.{◌∙◌}
use Rattle.records.specs.Head.{head_is}
use Rattle.gates.proofs.GateDepth.{scale_depth}
use Rattle.gates.proofs.Place.gate_depth.Goals as goal

pub returns-in-Scale : goal.returns-in-Scale
returns-in-Scale c =
    rw c.in-Scale.is (c.scale_gate.ensures ∙ scale_depth (head_is c.args.self.head) c.args.self.earlier.now c.args.a c.args.b c.requires)
