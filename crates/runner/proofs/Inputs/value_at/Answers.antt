use Rattle.std.proofs.Common.{ap, length, ◌∙◌}
use Rattle.circuit.specs.Value.{values}
use Rattle.records.specs.Head.{head_is}
use Rattle.runner.specs.Running.{value_in}
use Rattle.runner.proofs.Value.{same_read, has_kind}
use Rattle.runner.proofs.Inputs.value_at.Goals as goal

pub returns-in-Ok : goal.returns-in-Ok
returns-in-Ok c =
    let s = c.args.self in
    let earlier = c.args.earlier.now in
    c.value_of.ensures
    ∙ ap (value_in (values s.head.prime s.left.now s.right.now) earlier)
    (same_read (head_is s.head) (length earlier) c.args.bytes.now c.requires.1 _ _ _ c.in-Ok.ensures c.u16_at-a.ensures.0 c.u16_at-b.ensures.0)

pub returns-in-Err : goal.returns-in-Err
returns-in-Err c =
    absurd (has_kind (head_is c.args.self.head) (length c.args.earlier.now) c.args.bytes.now c.requires.1 _ c.in-Err.ensures)
