-- (p-1)/2, as the documents write it: half of the numbers from 1 to p-1.
use Rattle.std.specs.Prelude.{ℕ, ◌-◌, ◌/◌}

abbrev pub half : ℕ → ℕ
half p = (p - 1) / 2
