use Rattle.std.proofs.Common.{◌≡◌, false, sym, ◌∙◌, arith}
use Rattle.packing.specs.Words.{wrong_words}
use Rattle.packing.proofs.Words.{made_of_lem}
use Rattle.packing.proofs.state_in.Goals as goal

pub returns : goal.returns
returns c =
    let right : wrong_words c.args.words.now ≡ false = sym c.are_wrong.ensures ∙ c.if-are_wrong.false in
    rw c.outputs_in.ensures (made_of_lem c.args.words.now (omega arith) right)
