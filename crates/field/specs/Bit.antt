-- A truth value as a number of the field: 1 for yes and 0 for no (demand 3: "is 1 exactly when .., and 0 otherwise").
use Rattle.std.specs.Prelude.{ℕ, Bool, true, false}

abbrev pub bit : Bool → ℕ
bit true = 1
bit false = 0
