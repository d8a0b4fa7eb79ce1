use Rattle.std.proofs.Common.{◌+◌, ◌∷◌, refl, sym, ap, ◌∙◌, drop}
use Rattle.answer.specs.Settled.{answer_of}
use Rattle.answer.proofs.Outcome.{refused≢accepted}
use Rattle.comparison.specs.Condition.{Condition}
use Rattle.relations.specs.Relations.{relation_is}
use Rattle.card.specs.Conditions.{conditions_of}
use Rattle.card.specs.Parts.{form_is}
use Rattle.card.proofs.ReadAs.{record_told, relation_told, is_condition}
use Rattle.card.proofs.accepted.Card.condition.Goals as goal

pub unreachable-requires : goal.unreachable-requires
unreachable-requires c =
    let card = c.args.self in
    let own = record_told card.bytes.now card.head c.args.k card.read c.requires.0 _ _ c.requires.1 c.records_from-bytes.ensures.bytes in
    let told = relation_told (form_is card.head.form) card.head.prime _ _ own.0 c.records_from-bytes.ensures.whole own.2 in
    refused≢accepted (sym (ap (answer_of relation_is) c.in_default.is) ∙ c.try_from.ensures ∙ told)

pub returns : goal.returns
returns c =
    let card = c.args.self in
    let own = record_told card.bytes.now card.head c.args.k card.read c.requires.0 _ _ c.requires.1 c.records_from-bytes.ensures.bytes in
    let number = sym (ap (answer_of relation_is) c.in-Ok.is) ∙ c.try_from.ensures in
    let same = is_condition (form_is card.head.form) card.head.prime c.args.slot _ own.0 c.records_from-bytes.ensures.whole own.2 (record { relation = c.in-Ok.relation; digits = _; left = _; right = _; weight = _ }) number refl c.left_in.ensures refl c.weight_in.ensures in
    own.1 ∙ ap (λ (d : Condition). d ∷ drop (c.args.k + 1) (conditions_of card.bytes.now)) (sym same)
