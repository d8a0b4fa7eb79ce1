use Rattle.std.proofs.Common.{sym, arith}
use Rattle.field.specs.Modular.{residue}
use Rattle.field.proofs.Modular.{residue_is}
use Rattle.arithmetic.proofs.remainder.Goals as goal

pub returns-then-p-eq0 : goal.returns-then-p-eq0
unfolding residue
returns-then-p-eq0 c = rw c.if-p-eq0.true

pub returns : goal.returns
returns c = rw c.from.ensures (sym (residue_is _ _ (omega arith)))
