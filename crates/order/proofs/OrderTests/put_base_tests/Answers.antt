use Rattle.std.proofs.Common.{◌-◌, refl, sym, ap, ◌∙◌, length, arith}
use Rattle.comparison.specs.Digits.{unless_lowest}
use Rattle.writer.proofs.Writing.{same_writes}
use Rattle.powers.proofs.Modulus.{is_modulus}
use Rattle.powers.proofs.Powers.{place_within}
use Rattle.order.proofs.Digit.{flip_is, tests_length, tests_wrote}
use Rattle.order.proofs.OrderTests.put_base_tests.Goals as goal

pub put_powers-requires : goal.put_powers-requires
put_powers-requires c =
    let a = c.args in
    let m = a.self.m in
    omega (arith, tests_length m.p a.j a.k (is_modulus m), c)

pub put_terms-less-requires : goal.put_terms-less-requires
put_terms-less-requires c =
    let a = c.args in
    let m = a.self.m in
    omega (arith, tests_length m.p a.j a.k (is_modulus m), c)

pub power_at-top-requires : goal.power_at-top-requires
power_at-top-requires c =
    let s = c.args.self in
    omega (arith, s.m, s.prepared.long, place_within s.m.p (s.m.p - 1) (omega arith), c)

pub returns-clause-wrote : goal.returns-clause-wrote
returns-clause-wrote c =
    let a = c.args in
    let p = a.self.m.p in
    let q = c.put_powers.ensures in
    let flip = ap (unless_lowest a.j) (flip_is p a.k c.power_at-top.ensures.0) in
    let own = tests_wrote p a.j a.k c.requires.next_value q.wrote q.moves.0 c.put_terms-less.ensures.wrote (same_writes flip c.put_equal-equal.ensures.wrote) in
    let back = c.out-2-1.given.1 (sym own.lent) in
    record {
      wrote = record { bytes = back ∙ own.wrote.bytes; number = own.wrote.number; products = own.wrote.products; squares = own.wrote.squares };
      moved = own.moved;
      size = ap length back ∙ own.size;
      lent = refl;
    }
