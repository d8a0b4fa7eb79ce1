-- What is asked of p where gates are written.
use Rattle.std.specs.Prelude.{◌≡◌, ℕ, ◌%◌, ◌≤◌, ◌<◌}
use Rattle.field.specs.Byte.{byte_values}

-- odd, from 3 on, and a byte
abbrev pub Modulus : ℕ → Type 0
Modulus p = (3 ≤ p) × (p % 2 ≡ 1) × (p < byte_values)
