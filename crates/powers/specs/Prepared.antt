-- What order digits go by, as it is lent to each of them, and what they ask.
use Rattle.std.specs.Prelude.{◌≡◌, List, map, ℕ, ◌<◌, length, take}
use Rattle.field.specs.Polynomials.{order_constants}
use Rattle.circuit.specs.Constant.{bits_of}
use Rattle.circuit.specs.Gate.{Gate}
use Rattle.comparison.specs.OrderDigit.{power_count}
use Rattle.powers.specs.Powers.{Deep}
use Rattle.writer.specs.declared.Writer.{Writer}
use Rattle.writer.specs.Writing.{HasRoom}

-- a list that begins with the constants of p, as SCALEs have them
pub record Constants (p : ℕ) (list : List ℕ) : Type 0 where
  pub begins : take (length (order_constants p)) list ≡ map (bits_of p) (order_constants p)

-- the constants of p, and the depths of z and its powers
pub record Prepared (p : ℕ) (constants depths : List ℕ) : Type 0 where
  pub scaled : Constants p constants
  pub long : power_count p < length depths
  pub deep : Deep p depths p

-- a writer has room for the gates, and what order digits go by is prepared for p
pub record Provided (w : Writer) (gates : List Gate) (p : ℕ) (constants depths : List ℕ) : Type 0 where
  pub room : HasRoom w (length gates)
  pub prepared : Prepared p constants depths
