use Rattle.std.proofs.Common.{List, ℕ, ap, length-set}
use Rattle.records.specs.Operands.{entered}
use Rattle.records.proofs.Operands.{none, one, two, first_below, second_below}
use Rattle.records.proofs.enter_operands.Goals as goal

pub returns-then-n-eq0 : goal.returns-then-n-eq0
returns-then-n-eq0 c =
    ap (λ (places : List ℕ). entered c.args.number places c.args.list.now) (none c.args.bytes.now _ c.arity-n.ensures c.if-n-eq0.true)

pub bounds-list-a : goal.bounds-list-a
bounds-list-a c = rw c.u16_at-a.ensures.0 (first_below c.args.bytes.now _ c.arity-n.ensures _ c.if-n-eq0.false c.requires.1)

pub returns-then-n-eq1 : goal.returns-then-n-eq1
returns-then-n-eq1 c =
    rw c.u16_at-a.ensures.0
    (ap (λ (places : List ℕ). entered c.args.number places c.args.list.now) (one c.args.bytes.now _ c.arity-n.ensures c.if-n-eq1.true))

pub bounds-list-b : goal.bounds-list-b
bounds-list-b c =
    rw (length-set, c.u16_at-b.ensures.0)
    (second_below c.args.bytes.now _ c.arity-n.ensures _ c.if-n-eq0.false c.requires.1 c.if-n-eq1.false)

pub returns : goal.returns
returns c =
    rw (c.u16_at-a.ensures.0, c.u16_at-b.ensures.0)
    (ap (λ (places : List ℕ). entered c.args.number places c.args.list.now)
    (two c.args.bytes.now _ c.arity-n.ensures c.if-n-eq0.false c.if-n-eq1.false))
