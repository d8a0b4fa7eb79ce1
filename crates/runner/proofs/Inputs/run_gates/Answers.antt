use Rattle.circuit.specs.Value.{values}
use Rattle.runner.proofs.Running.{begin, ready, turn, ended}
use Rattle.runner.proofs.Inputs.run_gates.Goals as goal

pub loop-k-init : goal.loop-k-init
loop-k-init c =
    let s = c.args.self in
    begin (values s.head.prime s.left.now s.right.now) s.table.bytes.now s.table.outline.gates c.args.work.now s.table.counted

pub value_at-value-requires : goal.value_at-value-requires
value_at-value-requires c =
    let less = rw c.from-k-end.ensures at c.loop-k-test.true in
    (c.record.ensures.1, ready c.loop-k.invariant less c.requires _ _ c.args.self.same c.record.ensures.0)

pub loop-k-preserved : goal.loop-k-preserved
loop-k-preserved c =
    let less = rw c.from-k-end.ensures at c.loop-k-test.true in
    turn c.loop-k.invariant less c.requires _ _ c.args.self.same c.record.ensures.0 _ c.value_at-value.ensures

pub returns : goal.returns
returns c = ended c.loop-k.invariant (rw c.from-k-end.ensures at c.loop-k-test.false)
