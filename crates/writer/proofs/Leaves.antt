-- Laws of what a writer leaves: at first all, and after some gates the later ones; and where nothing is left, all is written.
-- Assumes nothing.
use Rattle.std.proofs.Common.{◌≡◌, refl, subst, ◌∙◌, List, [], ◌++◌, ℕ, ◌≤◌, length, arith, length-append}
use Rattle.circuit.specs.Gate.{Gate}
use Rattle.writer.specs.declared.Writer.{Writer}
use Rattle.writer.specs.Writing.{HasRoom, Writes}
use Rattle.writer.proofs.Writing.{follows, idle}
use Rattle.writer.specs.Leaves.{Leaves}

-- nothing is written yet
pub leaves_all : {w : Writer} {all : List Gate} → w.pen.products ≤ w.pen.next → w.pen.squares ≤ w.pen.next → Leaves w all w all
leaves_all products squares = record { number = refl; products = products; squares = squares; size = refl; gives = λ w₂ e. e }

-- the same gates
pub leaves_as : {w w₁ : Writer} {all gs hs : List Gate} → gs ≡ hs → Leaves w all w₁ gs → Leaves w all w₁ hs
leaves_as {w} {w₁} {all} e l = subst (Leaves w all w₁) e l

-- the first of what is left is written
pub leaves_then : {w w₁ w₂ : Writer} {all gs hs : List Gate} → Leaves w all w₁ (gs ++ hs) → Writes w₁ gs w₂ → Leaves w all w₂ hs
leaves_then {gs = gs} {hs = hs} l e = record {
  number = omega (arith, l.number, e.moved, length-append gs hs);
  products = e.moved.1;
  squares = e.moved.2;
  size = e.size ∙ l.size;
  gives = λ w₃ v. l.gives w₃ (follows e v);
}

-- nothing is left
pub leaves_none : {w w₁ : Writer} {all : List Gate} → Leaves w all w₁ [] → Writes w all w₁
leaves_none {w₁ = w₁} l = l.gives w₁ (idle l.products l.squares)

-- room for all is room for what is left
pub leaves_room : {w w₁ : Writer} {all some : List Gate} (n : ℕ) → HasRoom w (length all) → Leaves w all w₁ some → n ≤ length some → HasRoom w₁ n
leaves_room n room l few = omega (arith, room, l.number, l.products, l.squares, l.size, few)
