-- The listing of the first bench card, by computing the definitions.
-- Assumes nothing.
use mathlib.Core.Path.{refl}
use Rattle.field.specs.Logarithm.{clog, flog}
use Rattle.field.specs.Modular.{residue}
use Rattle.field.specs.Polynomials.{order_constants}
use Rattle.field.specs.Member.{member}
use Rattle.field.specs.Primes.{primes, listed}
use Rattle.field.specs.Sum.{sum, total}
use Rattle.circuit.specs.Constant.{code}
use Rattle.circuit.specs.Count.{repeated, distinct, counted, count}
use Rattle.circuit.specs.Meaning.{interpret}
use Rattle.circuit.specs.ProductTree.{least, multiply}
use Rattle.circuit.specs.Sums.{later_sum}
use Rattle.circuit.specs.Used.{needed, pick}
use Rattle.comparison.specs.Digits.{digits_from}
use Rattle.comparison.specs.Joining.{halves, join_lowest}
use Rattle.comparison.specs.OrderDigit.{ascending, power_gate}
use Rattle.comparison.specs.Writing.{order_segment, condition_by}
use Rattle.query.specs.Reading.{read_conditions}
use Rattle.query.specs.Whole.{add_all}
use Rattle.listing.specs.Bench.{FirstListing}
use Rattle.listing.specs.Lines.{gate_lines}
use Rattle.text.specs.Text.{spell, decimal}

pub first_listing : FirstListing
unfolding spell decimal gate_lines order_constants listed member primes sum read_conditions total add_all condition_by order_segment digits_from ascending power_gate code later_sum halves join_lowest multiply least flog clog needed pick repeated distinct counted count interpret residue
first_listing = refl
