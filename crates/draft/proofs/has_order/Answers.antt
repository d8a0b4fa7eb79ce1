use Rattle.std.proofs.Common.{◌∙◌, rules, tests}
use Rattle.std.proofs.lemmas.Iterator.Consumers.{YieldsList-from_first}
use Rattle.std.proofs.lemmas.Iterator.Search.{any_from_yields_List}
use Rattle.comparison.specs.Condition.{Condition}
use Rattle.comparison.specs.Relation.{is_order}
use Rattle.card.specs.Accepted.{conditions_left}
use Rattle.card.specs.Conditions.{conditions_of}
use Rattle.card.specs.Parts.{record_is}
use Rattle.draft.proofs.Orders.{any_order_is}
use Rattle.draft.proofs.has_order.Goals as goal

pub returns : goal.returns
returns c =
    any_from_yields_List (λ (d : Condition). is_order d.relation) c.any.new.self _ c.any.result c.any.ensures.ran
    (YieldsList-from_first record_is conditions_left (conditions_of c.args.card.bytes.now) c.conditions.ensures) (λ x b q k. search (rules, tests))
    ∙ any_order_is (conditions_of c.args.card.bytes.now)
