-- What pieces ask of their numbers, so that none is too large for the code.
use Rattle.std.specs.Prelude.{◌≡◌, ℕ, ◌+◌, ◌*◌, ◌^◌, ◌≤◌}
use Rattle.field.specs.Byte.{byte_values}

-- span is step·2^level, and the exponents o + 1 to o + span stay below twice a byte, as those of the whole polynomial's level do
pub record Spanned (step level o span : ℕ) : Type 0 where
  pub doubled : span ≡ step * 2 ^ level
  pub bounded : o + span ≤ 2 * byte_values
