-- Every broken rule of begin, add and finish gives its number, in the request's order, by computing the definitions.
-- Assumes nothing.
use mathlib.Core.Path.{refl}
use Rattle.field.specs.Polynomials.{order_exponents}
use Rattle.field.specs.Member.{member}
use Rattle.field.specs.Primes.{primes, listed}
use Rattle.circuit.specs.ProductTree.{multiply}
use Rattle.circuit.specs.Sums.{later_sum}
use Rattle.comparison.specs.Digits.{digits_from}
use Rattle.comparison.specs.Joining.{halves, join_lowest}
use Rattle.comparison.specs.OrderDigit.{ascending}
use Rattle.comparison.specs.Writing.{order_segment, condition_by}
use Rattle.filling.specs.FillingOrder.{BeginOrder, AddOrder, FinishOrder}
use Rattle.filling.specs.State.{too_deep}

pub begin_order : BeginOrder
unfolding listed member primes
begin_order = refl

pub add_order : AddOrder
unfolding listed member primes too_deep condition_by order_segment digits_from ascending order_exponents later_sum halves join_lowest
add_order = refl

pub finish_order : FinishOrder
unfolding listed member primes too_deep multiply
finish_order = refl
