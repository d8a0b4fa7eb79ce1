-- A modulus as the code holds it is one.
-- Assumes nothing.
use Rattle.arithmetic.specs.declared.Modulus as arithmetic
use Rattle.writer.specs.Modulus.{Modulus}

pub is_modulus : (m : arithmetic.Modulus) → Modulus m.p
is_modulus m = (m.least, m.odd, m.byte)
