use Rattle.std.proofs.Common.{◌≡◌, ℕ, List, [], ◌∷◌, ltb, refl, ap, ◌∙◌, ◌&&◌, rules, tests}
use Rattle.std.specs.List.{list_all}
use Rattle.std.proofs.lemmas.Iterator.{YieldsList-from_slice}
use Rattle.std.proofs.lemmas.Iterator.Search.{all_from_yields_List}
use Rattle.digits.specs.Number.{all_below}
use Rattle.coding.proofs.are_below.Goals as goal

all_below_is : (base : ℕ) (digits : List ℕ) → list_all (λ d. ltb d base) digits ≡ all_below base digits
unfolding all_below
all_below_is base [] = refl
all_below_is base (d ∷ digits) = ap (λ t. ltb d base && t) (all_below_is base digits)

pub returns : goal.returns
returns c =
    all_from_yields_List (λ d. ltb d c.args.base) _ _ _ c.all.ensures.ran (YieldsList-from_slice c.args.digits.now cc) (λ x b q k. search (rules, tests))
    ∙ all_below_is _ _
