-- The order of refusals, by computing the definitions.
-- Assumes nothing.
use mathlib.Core.Path.{refl}
use Rattle.field.specs.Member.{member}
use Rattle.field.specs.Primes.{primes, listed}
use Rattle.field.specs.Sum.{sum}
use Rattle.digits.specs.Number.{number, all_below, digits_of}
use Rattle.digits.specs.RefusalOrder.{EncodeOrder, DecodeOrder}

pub encode_order : EncodeOrder
unfolding listed member primes digits_of
encode_order = refl

pub decode_order : DecodeOrder
unfolding listed member primes all_below number sum
decode_order = refl
