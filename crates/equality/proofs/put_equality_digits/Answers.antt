use Rattle.std.proofs.Common.{◌≡◌, ap₂, ℕ, arith}
use Rattle.equality.proofs.Digits.{after_digit, digit_room, outputs_next, no_digits, no_outputs}
use Rattle.writer.proofs.Leaves.{leaves_as, leaves_none, leaves_room}
use Rattle.equality.proofs.put_equality_digits.Goals as goal

pub put_equality_digit-requires : goal.put_equality_digit-requires
put_equality_digit-requires c =
    let l = c.loop-j in
    let a = c.args in
    leaves_room _ c.requires.room l.invariant.1
    (digit_room a.modulus.p a.slots a.out.now.pen.next a.slots.count l.j c.loop-j-test.true l.out.pen.next (omega arith) l.invariant.0)

pub loop-j-preserved : goal.loop-j-preserved
loop-j-preserved c =
    let w = c.put_equality_digit in
    let l = c.loop-j in
    let a = c.args in
    let p = a.modulus.p in
    let n = a.slots.count in
    let k = a.out.now.pen.next in (
      omega arith,
      after_digit p a.slots k n l.j c.loop-j-test.true l.invariant.0 l.invariant.1 w.ensures.wrote,
      rw c.from.ensures
          (outputs_next p a.slots k n l.j c.loop-j-test.true l.nodes w.result (omega arith)
          (ap₂ (λ (g d : ℕ). record { gate = g; depth = d }) (omega arith) w.ensures.deepens.1) l.invariant.2),
    )

pub returns : goal.returns
returns c =
    let l = c.loop-j in
    let a = c.args in
    let p = a.modulus.p in
    let n = a.slots.count in
    let k = a.out.now.pen.next in
    let end : l.j ≡ n = omega arith in record {
      wrote = leaves_none (leaves_as (no_digits p a.slots k n l.j (omega arith)) l.invariant.1);
      outputs = no_outputs p k n l.j l.nodes end (omega arith) l.invariant.2;
    }
