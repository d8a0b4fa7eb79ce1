-- `powers::put_power_depths` meets its contract. The invariant: the entries of the powers below z^i are depths.
-- Assumes nothing.
use Rattle.powers.specs.Powers.{Deep}
use Rattle.powers.proofs.put_power_depths.Given as goal

abbrev pub invariant-loop-i : goal.invariant-loop-i
invariant-loop-i l = Deep l.m.p l.depths l.i
