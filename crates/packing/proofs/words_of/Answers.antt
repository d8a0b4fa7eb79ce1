use Rattle.std.proofs.Common.{◌≡◌, Bool, true, false, refl, ◌∙◌}
use mir.Val.{bool_byte}
use Rattle.field.specs.Bit.{bit}
use Rattle.packing.proofs.Words.{words_are}
use Rattle.packing.proofs.words_of.Goals as goal

bit_is : (yes : Bool) → bool_byte yes ≡ bit yes
bit_is true = refl
bit_is false = refl

pub returns : goal.returns
returns c =
    let s = c.args.state.now in
    let count = c.from-count.ensures in
    let same = words_are s c.from.result c.spread.result.0 c.spread.result.1 c.requires s.room (c.from.ensures ∙ bit_is s.begun)
    (rw count at c.spread.ensures.gates) (rw count at c.spread.ensures.depths) in
    rw (c.from-2.ensures, c.from-3.ensures, c.from-4.ensures, c.from-5.ensures) same
