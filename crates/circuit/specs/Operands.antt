-- Which gates a gate reads (document 01, "Gate table"): its a and b, where its kind names gates by them.
use Rattle.std.specs.Prelude.{◌≡◌, Bool, true, List, [], ◌∷◌, ℕ, zero, suc}
use Rattle.field.specs.Member.{member}
use Rattle.circuit.specs.Gate.{Gate, Left, Right, Add, Sub, Scale, Flip, Mul}

-- the gates that a gate reads; a slot and a constant are no gates
abbrev pub operands : Gate → List ℕ
operands (Left a) = []
operands (Right a) = []
operands (Add a b) = a ∷ b ∷ []
operands (Sub a b) = a ∷ b ∷ []
operands (Scale a c) = a ∷ []
operands (Flip a) = a ∷ []
operands (Mul a b) = a ∷ b ∷ []

-- whether a gate reads gate number i
abbrev pub reads : ℕ → Gate → Bool
reads i g = member i (operands g)

-- gate number k of a list is g: "Gates count from 0"
abbrev pub GateIs : List Gate → ℕ → Gate → Type 0
GateIs [] k g = ⊥
GateIs (h ∷ hs) zero g = h ≡ g
GateIs (h ∷ hs) (suc k) g = GateIs hs k g

-- gate number k of a list reads gate number i
pub record Reads (gates : List Gate) (k i : ℕ) : Type 0 where
  pub gate : Gate
  pub is : GateIs gates k gate
  pub does : reads i gate ≡ true
