-- The invariant: the sum is the number of the digits so far, which are those from the highest one down. Where one more digit passes 64 bits, so does the whole number,
-- for the number of the higher digits is no larger.
use Rattle.std.proofs.Common.{◌≡◌, ◌-◌, length, drop}
use Rattle.digits.specs.Number.{number}
use Rattle.coding.proofs.Base.total.Given as goal

abbrev pub invariant-loop-entry : goal.invariant-loop-entry
invariant-loop-entry l = l.sum ≡ number l.self.b (drop (length l.digits - length l.yielded) l.digits)
