-- The invariant: the entries before i are filled in, and the others are as they were.
use Rattle.std.proofs.Common.{suc, ◌^◌}
use Rattle.field.specs.Modular.{residue}
use Rattle.constants.proofs.Constants.{Filled}
use Rattle.constants.proofs.put_squares.Given as goal

abbrev pub invariant-loop-i : goal.invariant-loop-i
invariant-loop-i l = Filled (λ b. residue l.p (suc b ^ 2)) l.initial.list l.list l.i
