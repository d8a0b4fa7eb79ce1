-- Refusals come in the order of document 01, and of heads with two slot counts in document 02's, by computing the definitions.
-- Assumes nothing.
use mathlib.Core.Path.{refl}
use Rattle.field.specs.Member.{member}
use Rattle.field.specs.Primes.{primes, listed}
use Rattle.digits.specs.Number.{all_below}
use Rattle.circuit.specs.Constant.{signed}
use Rattle.circuit.specs.Reading.{read_gates}
use Rattle.circuit.specs.RefusalOrder.{CheckOrder, RunOrder, EachOrder}
use Rattle.circuit.specs.Table.{gates_bytes}

pub check_order : CheckOrder
unfolding listed member primes read_gates
check_order = refl

pub run_order : RunOrder
unfolding listed member primes all_below signed gates_bytes read_gates
run_order = (refl, refl)

pub each_order : EachOrder
unfolding listed member primes all_below read_gates
each_order = (refl, refl)
