use Rattle.std.proofs.Common.{sym, ◌∙◌, refl}
use Rattle.card.specs.Conditions.{conditions_of}
use Rattle.card.specs.Parts.{form_is}
use Rattle.card.proofs.ReadAs.{record_told, weight_told, weight_is}
use Rattle.card.proofs.accepted.Card.weight.Goals as goal

pub returns : goal.returns
returns c =
    let card = c.args.self in
    let own = record_told card.bytes.now card.head c.args.k card.read c.requires _ _ refl c.records_from.ensures.bytes in
    let weight = weight_told (form_is card.head.form) card.head.prime _ _ own.0 c.records_from.ensures.whole own.2 in
    weight_is (conditions_of card.bytes.now) c.args.k own.0 _ own.1 (weight ∙ sym c.weight_in.ensures)
