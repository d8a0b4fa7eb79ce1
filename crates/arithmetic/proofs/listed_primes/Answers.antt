use Rattle.std.proofs.Common.{refl}
use Rattle.field.specs.Primes.{primes}
use Rattle.arithmetic.proofs.listed_primes.Goals as goal

pub returns : goal.returns
unfolding primes
returns c = refl
