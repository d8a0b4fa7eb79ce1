use Rattle.std.proofs.Common.{ap, ◌∙◌, ◌-◌, arith}
use Rattle.circuit.specs.Segment.{Node}
use Rattle.step.specs.Pieces.{Piece}
use Rattle.step.proofs.Digit.{step_sum_lem}
use Rattle.step.proofs.Levels.{top_some}
use Rattle.writer.specs.Nodes.{node_is}
use Rattle.powers.proofs.Modulus.{is_modulus}
use Rattle.steps.proofs.Digit.{less_length, whole_is, less_wrote}
use Rattle.steps.proofs.Sums.{unwrap_held}
use Rattle.steps.proofs.put_step_less.Goals as goal

pub put_low_powers-requires : goal.put_low_powers-requires
put_low_powers-requires c =
    let a = c.args in
    omega (arith, less_length a.m.p a.step (is_modulus a.m) c.requires.le_next.1 (a.out.now.pen.next - 1), c.requires.provided.room, c.requires.le_next, a.m)

-- it is doubled at least once
pub overflow_sub-whole : goal.overflow_sub-whole
overflow_sub-whole c =
    let a = c.args in
    omega (arith, c.levels-whole.ensures.0, top_some a.m.p a.step c.requires.le_next.1.0 (omega (arith, c.requires, a.m)))

pub put_squares-requires : goal.put_squares-requires
put_squares-requires c =
    let a = c.args in
    let size = less_length a.m.p a.step (is_modulus a.m) c.requires.le_next.1 (a.out.now.pen.next - 1) in
    omega (arith, size, c.requires.provided.room, c.requires.le_next, c.levels-whole.ensures, c)

pub returns : goal.returns
returns c =
    let a = c.args in
    let p = a.m.p in
    let z = a.out.now.pen.next - 1 in
    let odd = is_modulus a.m in
    let is = c.requires.le_next.1 in
    let count = c.levels-whole.result.count in
    let q = c.put_squares.ensures in
    let r = c.put_low_powers.ensures in
    let e = c.put_piece-sum.ensures in
    let whole = whole_is p a.step odd is z count c.put_squares.new.out.pen.next c.levels-whole.ensures.0 (omega (arith, q.moves, r.moves, c.requires.le_next)) in
    let wrote = less_wrote p a.step odd is z count c.levels-whole.ensures.0 (omega (arith, c.requires.le_next)) r.wrote r.moves.0 q.wrote q.moves.0 e.wrote in
    let sum = e.sums ∙ ap (λ (x : Piece). x.sum) whole ∙ step_sum_lem p a.step odd.0 odd.1 is.0 is.1 z in
    let node = ap node_is c.unwrap_or.ensures ∙ unwrap_held c.put_piece-sum.result (record { gate = z; depth = 0 }) sum in
    record {
      wrote = wrote;
      output = (omega (arith, wrote.wrote.number, ap (λ (n : Node). n.gate) node, c.requires.le_next), ap (λ (n : Node). n.depth) node);
    }
