use Rattle.std.proofs.Common.{◌≡◌, ℕ, ◌+◌, ◌≤◌, ◌<◌, Bool, ◌||◌, List, length, drop, get_or, eqb, drop-cons, add-one, drop_of_length-le}
use mathlib.Core.Bool.{or_assoc, or-false}
use Rattle.field.specs.Member.{member}
use Rattle.arithmetic.proofs.contains.Goals as goal

module _ (found : Bool) (list : List ℕ) (x i : ℕ) (e : (found || member x (drop i list)) ≡ member x list) where
  turn : i < length list → ((found || eqb (get_or list i 0) x) || member x (drop (i + 1) list)) ≡ member x list
  unfolding member
  turn inside = rw (or_assoc, add-one) (rw (drop-cons list i 0 inside) at e)

  ended : length list ≤ i → found ≡ member x list
  unfolding member
  ended over = rw (drop_of_length-le list {i = i} over, or-false) at e

pub loop-entry-preserved : goal.loop-entry-preserved
loop-entry-preserved c = turn _ _ _ _ c.loop-entry.invariant c.loop-entry-test.true

pub returns : goal.returns
returns c = ended _ _ _ _ c.loop-entry.invariant c.loop-entry-test.false
