-- The words of a listing, in ASCII codes.
use Rattle.std.specs.Prelude.{ℕ, List, [], ◌∷◌}
use Rattle.circuit.specs.Gate.{Gate, Left, Right, Add, Sub, Scale, Flip, Mul}

-- "Kinds: 1 LEFT ..; 2 RIGHT ..; 3 ADD ..; 4 SUB ..; 5 SCALE ..; 6 FLIP ..; 7 MUL .." (document 01, "Gate table")
abbrev pub kind_name : Gate → List ℕ
-- LEFT
kind_name (Left a) = 76 ∷ 69 ∷ 70 ∷ 84 ∷ []
-- RIGHT
kind_name (Right a) = 82 ∷ 73 ∷ 71 ∷ 72 ∷ 84 ∷ []
-- ADD
kind_name (Add a b) = 65 ∷ 68 ∷ 68 ∷ []
-- SUB
kind_name (Sub a b) = 83 ∷ 85 ∷ 66 ∷ []
-- SCALE
kind_name (Scale a c) = 83 ∷ 67 ∷ 65 ∷ 76 ∷ 69 ∷ []
-- FLIP
kind_name (Flip a) = 70 ∷ 76 ∷ 73 ∷ 80 ∷ []
-- MUL
kind_name (Mul a b) = 77 ∷ 85 ∷ 76 ∷ []

-- "gates "
abbrev pub gates_word : List ℕ
gates_word = 103 ∷ 97 ∷ 116 ∷ 101 ∷ 115 ∷ 32 ∷ []

-- " products "
abbrev pub products_word : List ℕ
products_word = 32 ∷ 112 ∷ 114 ∷ 111 ∷ 100 ∷ 117 ∷ 99 ∷ 116 ∷ 115 ∷ 32 ∷ []

-- " squares "
abbrev pub squares_word : List ℕ
squares_word = 32 ∷ 115 ∷ 113 ∷ 117 ∷ 97 ∷ 114 ∷ 101 ∷ 115 ∷ 32 ∷ []

-- " cost "
abbrev pub cost_word : List ℕ
cost_word = 32 ∷ 99 ∷ 111 ∷ 115 ∷ 116 ∷ 32 ∷ []

-- " depth "
abbrev pub depth_word : List ℕ
depth_word = 32 ∷ 100 ∷ 101 ∷ 112 ∷ 116 ∷ 104 ∷ 32 ∷ []

-- "refused "
abbrev pub refused_word : List ℕ
refused_word = 114 ∷ 101 ∷ 102 ∷ 117 ∷ 115 ∷ 101 ∷ 100 ∷ 32 ∷ []
