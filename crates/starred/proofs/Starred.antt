-- Every case of the table comes out as document 01 says, by computing the definitions.
-- Assumes nothing.
use mathlib.Core.Path.{refl}
use Rattle.field.specs.Logarithm.{clog, flog}
use Rattle.field.specs.Modular.{residue}
use Rattle.field.specs.Polynomials.{order_constants}
use Rattle.field.specs.Member.{member}
use Rattle.field.specs.Primes.{primes, listed}
use Rattle.field.specs.Sum.{sum, total}
use Rattle.digits.specs.Number.{number, all_below, digits_of}
use Rattle.circuit.specs.Constant.{code, signed}
use Rattle.circuit.specs.Count.{repeated, distinct, counted, count}
use Rattle.circuit.specs.Meaning.{interpret}
use Rattle.circuit.specs.ProductTree.{least, multiply}
use Rattle.circuit.specs.Reading.{read_gates}
use Rattle.circuit.specs.Sums.{later_sum}
use Rattle.circuit.specs.Table.{gates_bytes}
use Rattle.circuit.specs.Used.{needed, pick}
use Rattle.comparison.specs.Bits.{ones}
use Rattle.comparison.specs.Digits.{digits_from}
use Rattle.comparison.specs.EqualityDigit.{chain}
use Rattle.comparison.specs.Joining.{halves, join_lowest}
use Rattle.comparison.specs.OrderDigit.{ascending, power_gate}
use Rattle.comparison.specs.Writing.{equality_factors, order_segment, equality_segment, condition_by}
use Rattle.query.specs.Reading.{read_conditions}
use Rattle.query.specs.Whole.{add_all}
use Rattle.starred.specs.Starred.{starred, StarredCases, FullRangeRun}

pub starred_cases : StarredCases
unfolding starred order_constants listed member primes number sum all_below digits_of read_conditions total add_all condition_by order_segment equality_segment digits_from ascending power_gate code signed later_sum chain ones halves join_lowest equality_factors multiply least flog clog needed pick repeated distinct counted count interpret gates_bytes read_gates residue
starred_cases = refl

pub full_range_run : FullRangeRun
unfolding order_constants listed member primes number sum all_below digits_of read_conditions total add_all condition_by order_segment equality_segment digits_from ascending power_gate code signed later_sum chain ones halves join_lowest equality_factors multiply least flog clog counted count interpret gates_bytes read_gates residue
full_range_run = refl
