-- The invariant: power is base^i. A power above the largest u64 over base passes every u64 with one factor more, and any other has room for it.
use Rattle.std.proofs.Common.{◌≡◌, ◌^◌}
use Rattle.coding.proofs.Base.has_digits.Given as goal

abbrev pub invariant-loop : goal.invariant-loop
invariant-loop l = l.power ≡ l.self.b ^ l.counter
