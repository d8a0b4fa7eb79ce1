use Rattle.equality.proofs.Digits.{digit_wrote}
use Rattle.equality.proofs.put_equality_digit.Goals as goal

pub returns-clause-wrote : goal.returns-clause-wrote
returns-clause-wrote c =
    digit_wrote c.args.modulus.p c.args.left c.args.right c.put_difference.ensures c.put_zero_test.ensures.wrote
