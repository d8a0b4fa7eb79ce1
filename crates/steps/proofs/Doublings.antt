-- How often a number is doubled until it reaches another: once more than its double, where it does not reach it yet.
-- Assumes nothing.
use Rattle.std.proofs.Common.{◌≡◌, ℕ, zero, suc, ◌+◌, ◌*◌, ◌^◌, ◌≤◌, ◌<◌, arith, add-one, le-leb}
use Rattle.std.proofs.Math.Nat.{pow-succ'}
use Rattle.std.proofs.lemmas.Bool.{lt-leb}
use Rattle.step.specs.Powers.{doublings}

pub doublings_none : (most m t : ℕ) → t ≤ m → doublings most m t ≡ 0
unfolding doublings
doublings_none zero m t l = omega arith
doublings_none (suc most) m t l = rw (le-leb t m l, doublings)

pub doublings_more : (most next m t : ℕ) → most ≡ suc next → m < t → doublings most m t ≡ suc (doublings next (2 * m) t)
unfolding doublings
doublings_more most next m t e l = rw (e, lt-leb t m l, doublings)

-- a number that was doubled so often, doubled once more
pub doubled_next : (step span count : ℕ) → span ≡ step * 2 ^ count → 2 * span ≡ step * 2 ^ (count + 1)
doubled_next step span count e = rw (add-one count, pow-succ' 2 count) (omega (arith, e))
