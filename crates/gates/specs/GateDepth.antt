-- The depth of one gate, from those of the gates before it.
use Rattle.std.specs.Prelude.{ℕ, ◌≤◌, max, Bool, not, List, ltb, length, get_or, Result}
use Rattle.answer.specs.Outcome.{Answer, refused, accepted, refuse, on_answer}
use Rattle.answer.specs.Settled.{answer_of}
use Rattle.answer.specs.declared.Refusal.{Refusal}
use Rattle.circuit.specs.Depth.{depths}
use Rattle.circuit.specs.Gate.{Gate}
use Rattle.circuit.specs.Meaning.{meaning, entry_of}
use Rattle.circuit.specs.Table.{most_gates}

-- the depth of a gate
abbrev pub depth_of : List ℕ → Gate → ℕ
depth_of earlier g = meaning depths (entry_of depths earlier) g

-- "name only gates with lower numbers"
abbrev pub is_earlier : List ℕ → ℕ → Bool
is_earlier earlier a = ltb a (length earlier)

-- the depth of the deeper operand
abbrev pub deeper_of : List ℕ → ℕ → ℕ → ℕ
deeper_of earlier a b = max (get_or earlier a 0) (get_or earlier b 0)

-- "17 an operand against its kind", or the depth
abbrev pub depth_if : Bool → ℕ → Answer ℕ
depth_if fit depth = refuse (not fit) (refused 17) (accepted depth)

-- the depth of the gate that was read, or its refusal
abbrev pub depth_read : List ℕ → Answer Gate → Answer ℕ
depth_read earlier read = on_answer read refused (λ g. accepted (depth_of earlier g))

-- no gate is deeper than its number, and there are at most 8191
abbrev pub AreLow : List ℕ → Type 0
AreLow earlier = (length earlier ≤ most_gates) × ((i : ℕ) → get_or earlier i 0 ≤ i)

-- the refusal's number, or the depth
abbrev pub gate_answer : Result ℕ Refusal → Answer ℕ
gate_answer = answer_of (λ depth. depth)
