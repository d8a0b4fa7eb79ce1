-- The lines of a listing (document 01, "Bench cards").
use Rattle.std.specs.Prelude.{ℕ, suc, List, [], ◌∷◌, ◌++◌}
use Rattle.answer.specs.Report.{Report}
use Rattle.circuit.specs.Constant.{Constant, plus, minus}
use Rattle.circuit.specs.Gate.{Gate, Left, Right, Add, Sub, Scale, Flip, Mul, fields}
use Rattle.text.specs.Text.{decimal, space, minus_sign, line_feed, labelled}
use Rattle.listing.specs.Words.{kind_name, gates_word, products_word, squares_word, cost_word, depth_word, refused_word}

abbrev pub ended : List ℕ
ended = line_feed ∷ []

-- a number, after a space
abbrev pub number_text : ℕ → List ℕ
number_text n = labelled (space ∷ []) n

-- a constant with its sign, after a space: "5 SCALE 3 -1" (document 02, E3)
abbrev pub constant_text : Constant → List ℕ
constant_text (plus n) = number_text n
constant_text (minus n) = labelled (space ∷ minus_sign ∷ []) n

-- b of a gate, after a space
abbrev pub operand_text : Gate → List ℕ
operand_text (Left a) = number_text 0
operand_text (Right a) = number_text 0
operand_text (Add a b) = number_text b
operand_text (Sub a b) = number_text b
operand_text (Scale a c) = constant_text c
operand_text (Flip a) = number_text 0
operand_text (Mul a b) = number_text b

-- number, name, a and the text of b, with a space between them
abbrev pub line_of : ℕ → List ℕ → ℕ → List ℕ → List ℕ
line_of k name a b = decimal k ++ (space ∷ []) ++ name ++ number_text a ++ b ++ ended

-- "A gate line is number, kind, a, b."
abbrev pub gate_line : ℕ → Gate → List ℕ
gate_line k g = line_of k (kind_name g) (fields g).a (operand_text g)

-- gates of which the first has number k
unfoldable pub gate_lines : ℕ → List Gate → List ℕ
gate_lines k [] = []
gate_lines k (g ∷ gs) = gate_line k g ++ gate_lines (suc k) gs

-- "gates 7 products 0 squares 1 cost 75 depth 1"
abbrev pub summary_line : Report → List ℕ
summary_line told =
    labelled gates_word told.gates
    ++ labelled products_word told.products
    ++ labelled squares_word told.squares
    ++ labelled cost_word told.cost
    ++ labelled depth_word told.depth
    ++ ended

-- "A refusal prints one line, as `refused 7`."
abbrev pub refusal_line : ℕ → List ℕ
refusal_line number = labelled refused_word number ++ ended
