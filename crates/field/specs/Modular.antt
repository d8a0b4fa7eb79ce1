-- Addition, subtraction and product modulo p (document 01, "Gate table": "All modulo p").
use Rattle.std.specs.Prelude.{ℕ, zero, suc, ◌+◌, ◌-◌, ◌*◌, ◌%◌}

-- x modulo p; a modulus of 0, which no prime is, gives 0
unfoldable pub residue : ℕ → ℕ → ℕ
residue zero x = 0
residue (suc m) x = x % suc m

abbrev pub add_mod : ℕ → ℕ → ℕ → ℕ
add_mod p a b = residue p (a + b)

-- a - b: what is added to b to give a
abbrev pub sub_mod : ℕ → ℕ → ℕ → ℕ
sub_mod p a b = residue p (a + (p - residue p b))

abbrev pub mul_mod : ℕ → ℕ → ℕ → ℕ
mul_mod p a b = residue p (a * b)
