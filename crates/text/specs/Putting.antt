-- Texts that are put into lent bytes.
use Rattle.std.specs.Prelude.{◌≡◌, List, ℕ, ◌+◌, ◌≤◌, length}
use Rattle.std.proofs.lemmas.List.Edits.{sets}
use Rattle.text.specs.declared.Writer.{Writer}

-- there is room for a text at a place
abbrev pub Fits : List ℕ → ℕ → List ℕ → Type 0
Fits out place text = place + length text ≤ length out

-- there is room for a text after a writer's
abbrev pub HasRoom : Writer → List ℕ → Type 0
HasRoom w text = Fits w.bytes.now w.end text

-- a text is put after a writer's: every byte that is then lent, none more or less, and the place after the text; and the same bytes are lent
pub record Adds (w : Writer) (text : List ℕ) (w' : Writer) : Type 0 where
  pub bytes : w'.bytes.now ≡ sets w.bytes.now w.end text
  pub size : length w'.bytes.now ≡ length w.bytes.now
  pub after : w'.end ≡ w.end + length text
  pub lent : w'.bytes.ghost_name ≡ w.bytes.ghost_name
