-- Every broken rule of a card gives its number, in document 01's order, and of score cards and shared cards in document 02's, by computing the definitions.
-- Assumes nothing.
use mathlib.Core.Path.{refl}
use Rattle.field.specs.Polynomials.{order_exponents}
use Rattle.field.specs.Member.{member}
use Rattle.field.specs.Primes.{primes, listed}
use Rattle.field.specs.Sum.{total}
use Rattle.circuit.specs.ProductTree.{multiply}
use Rattle.circuit.specs.Sums.{later_sum}
use Rattle.comparison.specs.Bits.{ones}
use Rattle.comparison.specs.Digits.{digits_from}
use Rattle.comparison.specs.EqualityDigit.{chain}
use Rattle.comparison.specs.Joining.{halves, join_lowest}
use Rattle.comparison.specs.OrderDigit.{ascending}
use Rattle.comparison.specs.Writing.{equality_factors, order_segment, equality_segment, condition_by}
use Rattle.query.specs.BuildOrder.{BuildOrder, ScoreOrder, SharedOrder}
use Rattle.query.specs.Reading.{read_conditions}
use Rattle.query.specs.Score.{scaled_outputs}
use Rattle.query.specs.Whole.{add_all}

pub build_order : BuildOrder
unfolding listed member primes read_conditions total add_all condition_by order_segment equality_segment digits_from ascending order_exponents later_sum chain ones halves join_lowest equality_factors multiply
build_order = refl

pub score_order : ScoreOrder
unfolding listed member primes read_conditions total add_all condition_by order_segment equality_segment digits_from ascending order_exponents later_sum chain ones halves join_lowest equality_factors multiply scaled_outputs
score_order = refl

pub shared_order : SharedOrder
unfolding listed member primes read_conditions total add_all condition_by order_segment equality_segment digits_from ascending order_exponents later_sum chain ones halves join_lowest equality_factors multiply
shared_order = refl
