use Rattle.std.proofs.Common.{arith}
use Rattle.joining.specs.Listed.{less_at, equal_at}
use Rattle.joining.proofs.Joins.{lowest_one}
use Rattle.joining.proofs.join_digits.Goals as goal

pub returns-then-tests-eq1 : goal.returns-then-tests-eq1
returns-then-tests-eq1 c =
    let tests = c.args.tests.now in
    let one = lowest_one (less_at tests) (equal_at tests) _ (omega arith) (omega arith) (omega arith) in
    record { wrote = one.0; output = one.1 }
