-- Bytes, in which primes, digits and records are kept.
use Rattle.std.specs.Prelude.{ℕ}

-- how many values a byte has
abbrev pub byte_values : ℕ
byte_values = 256
