use Rattle.std.proofs.Common.{sym, ap, ◌∙◌, arith}
use Rattle.powers.proofs.Modulus.{is_modulus}
use Rattle.powers.proofs.Powers.{place_within}
use Rattle.writer.proofs.Leaves.{leaves_as, leaves_none}
use Rattle.step.specs.Pieces.{Piece, terms_from}
use Rattle.pieces.specs.Sums.{sum_is}
use Rattle.pieces.proofs.Sums.{power_read}
use Rattle.pieces.proofs.Terms.{next_room, next_written, rest_none}
use Rattle.pieces.proofs.Polynomial.put_terms.Goals as goal

pub power_at-power-requires : goal.power_at-power-requires
power_at-power-requires c =
    let s = c.args.self in
    let few = place_within s.m.p c.loop-e.e (omega (arith, s.is_step, s.m)) in
    omega (arith, s.is_step, s.m, s.low, s.prepared.long, few)

pub next_term-sum-requires : goal.next_term-sum-requires
next_term-sum-requires c =
    let s = c.args.self in
    let l = c.loop-e in
    let read = power_read s.m.p l.e (omega arith) (omega (arith, s.is_step)) s.z _ _ s.prepared c.power_at-power.ensures in
    let room = next_room s.m.p s.step s.z c.args.o (is_modulus s.m) l.e _ _ (omega arith)
    c.coefficient_at-bits.ensures read.0 read.1 (sum_is l.sum) l.invariant.0 in
    omega (arith, room, c.requires.room, l.invariant.0)

pub loop-e-preserved : goal.loop-e-preserved
loop-e-preserved c =
    let s = c.args.self in
    let l = c.loop-e in
    let w = c.next_term-sum in
    let read = power_read s.m.p l.e (omega arith) (omega (arith, s.is_step)) s.z _ _ s.prepared c.power_at-power.ensures in
    let later = next_written s.m.p s.step s.z c.args.o (is_modulus s.m) l.e _ _ (omega arith)
    c.coefficient_at-bits.ensures read.0 read.1 (sum_is l.sum) (sum_is w.result) _ l.invariant.0 l.invariant.1
    w.ensures.wrote w.ensures.sums in
    (later.0, later.1)

pub returns : goal.returns
unfolding terms_from
returns c =
    let l = c.loop-e in
    let s = c.args.self in
    let end = rest_none s.m.p s.step s.z c.args.o l.e l.out.pen.next (sum_is l.sum) (omega arith) in
    record { wrote = leaves_none (leaves_as (ap (λ (x : Piece). x.gates) end) l.invariant.0); sums = sym (ap (λ (x : Piece). x.sum) end) ∙ l.invariant.1 }
