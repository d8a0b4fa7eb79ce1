-- A product tree over outputs of which none is deeper than a condition.
-- Assumes nothing.
use Rattle.std.proofs.Common.{◌≡◌, Bool, false, ◌||◌, List, [], ◌∷◌, map, ltb, refl, ap, ℕ, ◌≤◌, arith}
use Rattle.std.specs.List.{list_any}
use borrow.Author.Tests.{ltb-false}
use Rattle.field.proofs.Tests.{neither}
use Rattle.circuit.specs.Segment.{Node}
use Rattle.query.specs.Card.{most_conditions}
use Rattle.filling.specs.State.{most_levels, too_deep}
use Rattle.tree.specs.Factors.{Shallow}
use Rattle.writer.specs.Nodes.{node_is}
use Rattle.writer.specs.declared.Node as declared

pub shallow : (n : ℕ) (fs : List Node) → n ≤ most_conditions → too_deep fs ≡ false → Shallow n fs
unfolding too_deep
shallow n [] few t = tt
shallow n (f ∷ fs) few t =
    let s = neither (ltb most_levels f.depth) (too_deep fs) t in
    let own = ltb-false most_levels f.depth s.0 in
    (omega (arith, own, few), shallow n fs few s.1)

-- the outputs one by one
pub any_deep : (outputs : List declared.Node) → list_any (λ (o : declared.Node). ltb most_levels o.depth) outputs ≡ too_deep (map node_is outputs)
unfolding too_deep
any_deep [] = refl
any_deep (o ∷ os) = ap (λ (b : Bool). ltb most_levels o.depth || b) (any_deep os)
