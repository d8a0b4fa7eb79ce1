-- The forms of cards, told by the mark of the head (document 01, "Card"; document 02, E1 and E6): for each form its marks,
-- the size of its records, and what a record has after n; and what a card of the form asks.
use Rattle.std.specs.Prelude.{ℕ, ◌+◌, Bool, not, ◌&&◌, ◌||◌, List, [], ◌∷◌, ltb, leb, eqb}
use Rattle.answer.specs.Outcome.{Answer, refused, accepted, refuse}
use Rattle.digits.specs.Number.{most_digits}
use Rattle.circuit.specs.Bytes.{Mark, byte, wrong_mark}
use Rattle.comparison.specs.Condition.{Condition}
use Rattle.comparison.specs.Relation.{Relation}

-- "Head, 6 bytes", of every form
abbrev pub head_size : ℕ
head_size = 6

pub data Form : Type 0 where
  -- document 01's: a yes or no
  Plain : Form
  -- document 02's E1: '"how bad", not yes or no'
  Scored : Form
  -- document 02's E6: a yes or no; "Left slots may be shared"
  Shared : Form

-- what a card asks for
pub data Question : Type 0 where
  YesOrNo : Question
  Score : Question

abbrev pub question_of : Form → Question
question_of Plain = YesOrNo
question_of Scored = Score
question_of Shared = YesOrNo

-- "Head, 6 bytes: mark 0xC5 0x48"; "A score card has head mark 0xC5 0x53"; "With head mark 0xC5 0x4A"
abbrev pub head_mark_of : Form → Mark
head_mark_of Plain = record { opening = 0xC5; closing = 0x48 }
head_mark_of Scored = record { opening = 0xC5; closing = 0x53 }
head_mark_of Shared = record { opening = 0xC5; closing = 0x4A }

-- "condition records of 4 bytes: mark 0xC5 0x51"; "condition records of 6 bytes: mark 0xC5 0x57"; "condition records of 6 bytes: mark 0xC5 0x52"
abbrev pub record_mark_of : Form → Mark
record_mark_of Plain = record { opening = 0xC5; closing = 0x51 }
record_mark_of Scored = record { opening = 0xC5; closing = 0x57 }
record_mark_of Shared = record { opening = 0xC5; closing = 0x52 }

-- "c condition records of 4 bytes"; "condition records of 6 bytes", of score cards and of shared cards
abbrev pub record_size : Form → ℕ
record_size Plain = 4
record_size Scored = 6
record_size Shared = 6

-- the bytes of the longest record
abbrev pub most_record : ℕ
most_record = record_size Scored

abbrev pub forms : List Form
forms = Plain ∷ Scored ∷ Shared ∷ []

-- the first of these forms whose mark the bytes open with, or "2 head mark"
abbrev pub form_among : List Form → List ℕ → Answer Form
form_among [] bytes = refused 2
form_among (form ∷ others) bytes = refuse (wrong_mark (head_mark_of form) bytes) (form_among others bytes) (accepted form)

abbrev pub form_of : List ℕ → Answer Form
form_of bytes = form_among forms bytes

-- ---- what a record has after relation and n, and what a condition owes to it; a form's rules may go by p

-- a condition of this weight that takes the n slots from these on, on the left and on the right
abbrev pub condition_at : ℕ → ℕ → Relation → ℕ → ℕ → Condition
condition_at left right r n weight = record { relation = r; digits = n; left = left; right = right; weight = weight }

-- "mark 0xC5 0x51, relation, n": nothing more; "mark 0xC5 0x57, relation, n, weight, spare 0";
-- "mark 0xC5 0x52, relation, n, first left slot, spare 0"
abbrev pub tail_bytes : Form → Condition → List ℕ
tail_bytes Plain c = []
tail_bytes Scored c = c.weight ∷ 0 ∷ []
tail_bytes Shared c = c.left ∷ 0 ∷ []

-- "25, a weight of 0 or of p and more"
abbrev pub wrong_score_weight : ℕ → ℕ → Bool
wrong_score_weight p weight = ltb weight 1 || leb p weight

-- "28, first slot plus n above 16"
abbrev pub wrong_left : ℕ → ℕ → Bool
wrong_left first n = ltb most_digits (first + n)

-- "Each condition takes the next n slots on both sides."
abbrev pub takes_next : ℕ → Condition → Bool
takes_next slot c = eqb c.left slot && eqb c.right slot

-- what a condition owes to its form beside relation and n: its slots, where slot is the next that is free, and its weight;
-- of a shared card "Left slots may be shared; right slots are still handed out in order."
abbrev pub keeps_tail : Form → ℕ → ℕ → Condition → Bool
keeps_tail Plain p slot c = takes_next slot c && eqb c.weight 0
keeps_tail Scored p slot c = takes_next slot c && not (wrong_score_weight p c.weight)
keeps_tail Shared p slot c = not (wrong_left c.left c.digits) && (eqb c.right slot && eqb c.weight 0)

-- the condition of a record with this relation and n, or the number of a rule that its form adds; the bytes begin with the record.
-- "25, .. after 9 for its record"; "A spare that is not 0 gives 5, after 25"; "28, .. after 9 of its record and before a spare's 5"
abbrev pub read_tail : Form → ℕ → ℕ → Relation → ℕ → List ℕ → Answer Condition
read_tail Plain p slot r n bytes = accepted (condition_at slot slot r n 0)
read_tail Scored p slot r n bytes =
    refuse (wrong_score_weight p (byte bytes 4)) (refused 25)
    (refuse (not (eqb (byte bytes 5) 0)) (refused 5)
    (accepted (condition_at slot slot r n (byte bytes 4))))
read_tail Shared p slot r n bytes =
    refuse (wrong_left (byte bytes 4) n) (refused 28)
    (refuse (not (eqb (byte bytes 5) 0)) (refused 5)
    (accepted (condition_at (byte bytes 4) slot r n 0)))
