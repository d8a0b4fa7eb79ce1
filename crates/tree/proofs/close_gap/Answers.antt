use Rattle.std.specs.List.{remove}
use Rattle.std.proofs.Common.{◌≡◌, sym, ap, ◌∙◌, ◌+◌, ◌-◌, length, arith}
use Rattle.writer.specs.declared.Node.{Node}
use Rattle.tree.proofs.Factors.{gap_on, gap_last}
use Rattle.tree.proofs.close_gap.Goals as goal

pub loop-i-init : goal.loop-i-init
loop-i-init c = let e : c.args.place + 1 - 1 ≡ c.args.place = omega arith in ap (remove c.args.nodes.now) e

pub loop-i-preserved : goal.loop-i-preserved
loop-i-preserved c =
    let l = c.loop-i in
    let none : Node = record { gate = 0; depth = 0 } in
    let last : l.i + 1 - 1 ≡ l.i = omega arith in
    rw last (gap_on l.nodes none (l.i - 1) l.i (omega (arith, l.auto)) (omega (arith, l.auto)) ∙ l.invariant)

pub returns : goal.returns
returns c =
    let l = c.loop-i in
    let n = length c.args.nodes.now - 1 in
    let end : l.i - 1 ≡ n = omega (arith, l.auto) in
    sym (gap_last l.nodes n (omega (arith, l.auto))) ∙ rw end at l.invariant
