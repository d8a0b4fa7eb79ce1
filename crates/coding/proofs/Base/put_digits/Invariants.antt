-- The invariant: what is written, then the digits of the rest that are to come, make the digits of x. A turn moves one digit from what is to come to what is written.
use Rattle.std.proofs.Common.{◌≡◌, ◌++◌, ◌-◌, length, take}
use Rattle.digits.specs.Number.{digits_of}
use Rattle.coding.proofs.Base.put_digits.Given as goal

abbrev pub invariant-loop-place : goal.invariant-loop-place
invariant-loop-place l =
    (length l.place-items ≡ l.n) × (take l.place-index l.place-items ++ digits_of l.self.b (l.n - l.place-index) l.rest ≡ digits_of l.self.b l.n l.x)
