use Rattle.step.specs.Digit.{tests_by}
use Rattle.order.proofs.Digit.{digit_wrote}
use Rattle.order.proofs.OrderTests.put_digit.Goals as goal

pub returns-clause-wrote : goal.returns-clause-wrote
returns-clause-wrote c =
    let a = c.args in
    digit_wrote (tests_by a.self.m.p a.self.step) a.backward a.slots a.j c.put_difference.ensures c.put_tests.ensures.wrote
