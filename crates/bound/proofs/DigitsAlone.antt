-- Gates that are right at the digits of p = 5 and shallower than a zero test: by computing their outputs and their depth.
-- Assumes nothing.
use mathlib.Core.Path.{refl}
use native.Mathlib.Omega.{arith}
use Rattle.field.specs.Logarithm.{clog_in, clog}
use Rattle.field.specs.Modular.{residue}
use Rattle.circuit.specs.Meaning.{interpret}
use Rattle.bound.specs.DigitsAlone.{DigitsAlone}

pub digits_alone : DigitsAlone
unfolding residue interpret clog_in clog
digits_alone = (refl, omega arith)
