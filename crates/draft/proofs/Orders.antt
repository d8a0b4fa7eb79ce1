-- Order conditions: one of all compares by order where one of those that are left does.
-- Assumes nothing.
use mathlib.Core.Path.{◌≡◌, refl, ap, ◌∙◌}
use mathlib.Core.Bool.{Bool, true, ◌||◌, or-true}
use mathlib.Core.List.{List, [], ◌∷◌}
use Prim.Native.Nat.{ℕ, zero, suc}
use Rattle.std.specs.List.{list_any}
use lib.ListN.{drop}
use Rattle.comparison.specs.Condition.{Condition}
use Rattle.comparison.specs.Relation.{is_order}
use Rattle.relations.specs.Relations.{relation_is}
use Rattle.card.specs.declared.Record.{Record}
use Rattle.card.specs.Conditions.{IsRecord}
use Rattle.draft.specs.Conditions.{any_order}

-- one after the other
pub any_order_is : (cs : List Condition) → list_any (λ (c : Condition). is_order c.relation) cs ≡ any_order cs
unfolding any_order
any_order_is [] = refl
any_order_is (c ∷ cs) = ap (λ (b : Bool). is_order c.relation || b) (any_order_is cs)

-- a condition after the first k is one of all
any_drop : (cs : List Condition) (k : ℕ) → any_order (drop k cs) ≡ true → any_order cs ≡ true
unfolding any_order
any_drop cs zero h = h
any_drop [] (suc k) h = h
any_drop (c ∷ cs) (suc k) h = rw (any_drop cs k h) (or-true (is_order c.relation))

-- an order condition at hand is among all
pub own_order : (cs : List Condition) (k : ℕ) (r : Record) → IsRecord cs k r → is_order (relation_is r.relation) ≡ true → any_order cs ≡ true
unfolding any_order
own_order cs k r is h = any_drop cs k (ap any_order is ∙ rw h)
