-- The value of each gate (document 01, "Gate table"): "All modulo p."
use Rattle.std.specs.Prelude.{ℕ, List, get_or}
use Rattle.field.specs.Modular.{add_mod, sub_mod, mul_mod}
use Rattle.circuit.specs.Constant.{constant}
use Rattle.circuit.specs.Meaning.{Algebra}

-- over the two lists of slots
abbrev pub values : ℕ → List ℕ → List ℕ → Algebra ℕ
values p left right = record {
  none = 0;
  -- "1 LEFT slot a"
  left = λ a. get_or left a 0;
  -- "2 RIGHT slot a"
  right = λ a. get_or right a 0;
  -- "3 ADD a+b"
  add = add_mod p;
  -- "4 SUB a-b"
  sub = sub_mod p;
  -- "5 SCALE gate a times constant", by what the constant is modulo p
  scale = λ a c. mul_mod p a (constant p c);
  -- "6 FLIP 1-a"
  flip = sub_mod p 1;
  -- "7 MUL a times b"
  mul = mul_mod p;
}
