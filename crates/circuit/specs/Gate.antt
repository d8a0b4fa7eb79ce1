-- The gates (document 01, "Gate table"): one constructor for each kind.
use Rattle.std.specs.Prelude.{ℕ, List, [], ◌∷◌}
use Rattle.answer.specs.Outcome.{Answer, numbered}
use Rattle.circuit.specs.Bytes.{Mark, marked, u16}
use Rattle.circuit.specs.Constant.{Constant, sixteen_bits, signed}

pub data Gate : Type 0 where
  -- the value in slot a of the left list
  Left : ℕ → Gate
  -- the value in slot a of the right list
  Right : ℕ → Gate
  -- gate a plus gate b
  Add : ℕ → ℕ → Gate
  -- gate a minus gate b
  Sub : ℕ → ℕ → Gate
  -- gate a times a constant
  Scale : ℕ → Constant → Gate
  -- 1 minus gate a
  Flip : ℕ → Gate
  -- gate a times gate b
  Mul : ℕ → ℕ → Gate

-- what a record says: "kind, spare 0, a as u16, b as u16"
pub record Fields : Type 0 where
  pub kind : ℕ
  pub a : ℕ
  pub b : ℕ

abbrev pub row : ℕ → ℕ → ℕ → Fields
row kind a b = record { kind = kind; a = a; b = b }

-- "Kinds: 1 LEFT slot a, b=0; 2 RIGHT slot a, b=0; 3 ADD a+b; 4 SUB a-b; 5 SCALE gate a times constant ..; 6 FLIP 1-a, b=0; 7 MUL a times b."
-- "SCALE's b becomes a signed 16-bit number" (document 02, E3)
abbrev pub fields : Gate → Fields
fields (Left a) = row 1 a 0
fields (Right a) = row 2 a 0
fields (Add a b) = row 3 a b
fields (Sub a b) = row 4 a b
fields (Scale a c) = row 5 a (sixteen_bits c)
fields (Flip a) = row 6 a 0
fields (Mul a b) = row 7 a b

-- the gates over a and b, in the order of their kinds
abbrev pub kinds : ℕ → ℕ → List Gate
kinds a b = Left a ∷ Right a ∷ Add a b ∷ Sub a b ∷ Scale a (signed b) ∷ Flip a ∷ Mul a b ∷ []

-- the gate of a kind over a and b, or 16
abbrev pub gate_of : ℕ → ℕ → ℕ → Answer Gate
gate_of kind a b = numbered 16 kind (kinds a b)

-- the byte pair 0x47 0x54
abbrev pub gate_mark : Mark
gate_mark = record { opening = 0x47; closing = 0x54 }

-- "Gate: 0x47 0x54, kind, spare 0, a as u16, b as u16"
abbrev pub record_bytes : Fields → List ℕ
record_bytes f = marked gate_mark (f.kind ∷ 0 ∷ u16 f.a (u16 f.b []))

abbrev pub gate_bytes : Gate → List ℕ
gate_bytes g = record_bytes (fields g)
