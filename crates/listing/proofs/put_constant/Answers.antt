-- A constant's sixteen bits below 0x8000 are its digits' number, and from there on what lacks to 0x10000, with a minus.
use Rattle.std.proofs.Common.{◌≡◌, ℕ, ◌-◌, ◌<◌, ◌≤◌, sym, ap, subst}
use Rattle.circuit.specs.Constant.{plus, minus, signed}
use Rattle.circuit.proofs.Constant.{signed_plus, signed_minus}
use Rattle.text.specs.Putting.{HasRoom}
use Rattle.text.proofs.Putting.{same_text}
use Rattle.listing.specs.Lines.{constant_text}
use Rattle.listing.proofs.put_constant.Goals as goal

up : (b : ℕ) → b < 0x8000 → constant_text (signed b) ≡ constant_text (plus b)
up b h = ap constant_text (signed_plus b h)

down : (b : ℕ) → 0x8000 ≤ b → constant_text (signed b) ≡ constant_text (minus (0x10000 - b))
down b h = ap constant_text (signed_minus b h)

pub put_labelled-requires : goal.put_labelled-requires
put_labelled-requires c = let a = c.args in subst (HasRoom a.out.now) (up a.b c.if-b-lt32768.true) c.requires.1

pub returns-then-b-lt32768 : goal.returns-then-b-lt32768
returns-then-b-lt32768 c = same_text (sym (up c.args.b c.if-b-lt32768.true)) c.put_labelled.ensures

pub put_labelled-requires-2 : goal.put_labelled-requires-2
put_labelled-requires-2 c = let a = c.args in subst (HasRoom a.out.now) (down a.b c.if-b-lt32768.false) c.requires.1

pub returns : goal.returns
returns c = same_text (sym (down c.args.b c.if-b-lt32768.false)) c.put_labelled-2.ensures
