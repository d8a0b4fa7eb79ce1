-- The conditions of a card as they are written one after the other (document 01, "Whole card": "Conditions in order").
use Rattle.std.specs.Prelude.{◌≡◌, Bool, true, false, ◌||◌, List, [], ◌∷◌, ℕ, length}
use Rattle.comparison.specs.Condition.{Condition}
use Rattle.comparison.specs.Relation.{is_order}
use Rattle.step.specs.Digit.{tests_by, Suits}
use Rattle.powers.specs.Prepared.{Prepared}
use Rattle.query.specs.Whole.{Draft, draft_of}
use Rattle.card.specs.declared.CardHead.{CardHead}
use Rattle.card.specs.Conditions.{conditions_of}
use Rattle.writer.specs.declared.Node.{Node}
use Rattle.writer.specs.declared.Writer.{Writer}
use Rattle.writer.specs.Pen.{fresh}
use Rattle.writer.specs.Writing.{HasRoom}

-- the draft of conditions by a step size, or by none, which 0 stands for
abbrev pub drafted : ℕ → ℕ → List Condition → Draft
drafted p step cs = draft_of (tests_by p step) p cs

-- whether one of the conditions compares by order
unfoldable pub any_order : List Condition → Bool
any_order [] = false
any_order (c ∷ cs) = is_order c.relation || any_order cs

-- what order digits go by is lent, where a condition asks for it
abbrev pub Ready : ℕ → List Condition → List ℕ → List ℕ → Type 0
Ready p cs constants depths = any_order cs ≡ true → Prepared p constants depths

-- of what a card says, a step size of its prime or none, a writer that has written nothing yet, with room for the conditions, what order
-- digits go by, and an entry for the output of each condition
pub record Writable (card : List ℕ) (head : CardHead) (step : ℕ) (out : Writer) (constants depths : List ℕ) (nodes : List Node) : Type 0 where
  pub suits : Suits head.prime step
  pub starts : out.pen ≡ fresh
  pub room : HasRoom out (length (drafted head.prime step (conditions_of card)).gates)
  pub ready : Ready head.prime (conditions_of card) constants depths
  pub outputs : length nodes ≡ head.count
