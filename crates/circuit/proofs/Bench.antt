-- Document 01's tables come out as it says, by computing the definitions.
-- Assumes nothing.
use mathlib.Core.Path.{refl}
use Rattle.field.specs.Modular.{residue}
use Rattle.field.specs.Member.{member}
use Rattle.field.specs.Primes.{primes, listed}
use Rattle.digits.specs.Number.{all_below}
use Rattle.circuit.specs.Bench.{BenchReports, BenchOutputs, BenchRun}
use Rattle.circuit.specs.Constant.{signed}
use Rattle.circuit.specs.Count.{repeated, distinct, counted, count}
use Rattle.circuit.specs.Meaning.{interpret}
use Rattle.circuit.specs.Reading.{read_gates}
use Rattle.circuit.specs.Table.{gates_bytes}
use Rattle.circuit.specs.Used.{needed, pick}

pub bench_reports : BenchReports
unfolding listed member primes signed gates_bytes read_gates interpret needed pick repeated distinct counted count
bench_reports = (refl, refl)

pub bench_outputs : BenchOutputs
unfolding interpret residue
bench_outputs = (refl, refl)

pub bench_run : BenchRun
unfolding listed member primes all_below signed gates_bytes read_gates interpret residue
bench_run = refl
