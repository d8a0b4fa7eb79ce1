use Rattle.std.proofs.Common.{ap, ℕ, ◌+◌, arith}
use Rattle.field.proofs.Logarithm.{clog_is_ceiling}
use Rattle.circuit.proofs.Segment.{node_same}
use Rattle.powers.proofs.Powers.{place_within}
use Rattle.pieces.proofs.Sums.{power_read}
use Rattle.pieces.proofs.Polynomial.split_power.Goals as goal

pub power_at-first-requires : goal.power_at-first-requires
power_at-first-requires c =
    let s = c.args.self in
    omega (arith, s.is_step, s.m, s.low, s.prepared.long, place_within s.m.p s.step (omega (arith, s.is_step, s.m)))

pub overflow_add-result : goal.overflow_add-result
overflow_add-result c =
    let s = c.args.self in
    let read = power_read s.m.p s.step s.is_step.0 s.is_step.1 s.z _ _ s.prepared c.power_at-first.ensures in
    omega (arith, read, s.low, s.is_step, s.m)

pub overflow_add-result-2 : goal.overflow_add-result-2
overflow_add-result-2 c =
    let s = c.args.self in
    let read = power_read s.m.p s.step s.is_step.0 s.is_step.1 s.z _ _ s.prepared c.power_at-first.ensures in
    omega (arith, read, (clog_is_ceiling s.step 8).0 (omega (arith, s.is_step, s.m)))

pub returns : goal.returns
returns c =
    let s = c.args.self in
    let i = c.args.i in
    let read = power_read s.m.p s.step s.is_step.0 s.is_step.1 s.z _ _ s.prepared c.power_at-first.ensures in (
      node_same (ap (λ (g : ℕ). g + i) read.0) (ap (λ (d : ℕ). d + i) read.1),
      omega (arith, read, (clog_is_ceiling s.step 8).0 (omega (arith, s.is_step, s.m))),
    )
