use Rattle.std.proofs.Common.{sym, ◌∙◌, arith}
use Rattle.field.specs.Modular.{residue}
use Rattle.field.proofs.Modular.{residue_is, sub_mod_is}
use Rattle.arithmetic.proofs.sub_mod.Goals as goal

pub returns-then-p-eq0 : goal.returns-then-p-eq0
unfolding residue
returns-then-p-eq0 c = rw c.if-p-eq0.true

pub returns : goal.returns
returns c =
    let remainder = rw (c.from.ensures, c.from-2.ensures, c.from-3.ensures) at c.remainder.ensures in
    remainder ∙ residue_is _ _ (omega arith) ∙ sym (sub_mod_is _ _ _ (omega arith))
