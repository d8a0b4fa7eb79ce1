use Rattle.std.proofs.Common.{ap, List, ◌+◌, ◌-◌, arith, length}
use Rattle.circuit.specs.Gate.{Gate}
use Rattle.comparison.specs.Bits.{bits}
use Rattle.comparison.specs.Digits.{unless_lowest}
use Rattle.comparison.specs.EqualityDigit.{zero_chain}
use Rattle.writer.proofs.Writing.{same_writes}
use Rattle.circuit.proofs.Segment.{node_same}
use Rattle.comparison.proofs.Digits.{upper_all}
use Rattle.equality.proofs.Chain.{chain_size}
use Rattle.powers.proofs.Modulus.{is_modulus}
use Rattle.steps.proofs.Digit.{less_size_here, equal_here, tests_length, tests_wrote}
use Rattle.steps.proofs.put_step_tests.Goals as goal

pub put_step_equal-equal-requires : goal.put_step_equal-equal-requires
put_step_equal-equal-requires c =
    let a = c.args in
    let odd = is_modulus a.m in
    let is = c.requires.next_value.1 in
    let here = c.requires.next_value.0 in
    let equal = equal_here a.m.p a.step odd is a.k a.out.now.pen.next here _ c.put_step_less-less.ensures.wrote.moved.0 in
    let size = tests_length a.m.p a.step odd is a.k a.out.now.pen.next here a.j in
    let same = ap (λ (gates : List Gate). length (unless_lowest a.j gates)) equal in
    omega (arith, same, size, c.requires.provided.room, c)

pub returns : goal.returns
returns c =
    let a = c.args in
    let p = a.m.p in
    let odd = is_modulus a.m in
    let is = c.requires.next_value.1 in
    let here = c.requires.next_value.0 in
    let l = c.put_step_less-less.ensures in
    let e = c.put_step_equal-equal.ensures in
    let end = c.put_step_less-less.new.out.pen.next in
    let equal = equal_here p a.step odd is a.k a.out.now.pen.next here end l.wrote.moved.0 in
    let wrote = tests_wrote p a.step odd is a.k a.out.now.pen.next here a.j l.wrote (same_writes (ap (unless_lowest a.j) equal) e.wrote) in
    let count = less_size_here p a.step odd is a.k a.out.now.pen.next here in
    let chain = zero_chain (bits (p - 1)) end (a.k + 2) in
    let many = chain_size (p - 1) end (a.k + 2) (omega (arith, odd)) in record {
      wrote = wrote;
      less = node_same (omega (arith, l, count, here)) l.output.1;
      equal = λ upper.
          let all = ap length (upper_all a.j chain upper) in
          node_same (omega (arith, l, count, here, e.wrote.moved, (e.output upper).0, all, many)) (e.output upper).1;
    }
