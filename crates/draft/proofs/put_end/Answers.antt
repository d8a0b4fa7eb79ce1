use Rattle.std.proofs.Common.{◌≡◌, sym, ap, ◌∙◌, arith}
use Rattle.query.specs.Form.{Question, YesOrNo, question_of}
use Rattle.query.specs.Formulas.{end_size}
use Rattle.card.specs.Parts.{form_is, question_is}
use Rattle.card.proofs.ReadAs.{as_many}
use Rattle.draft.proofs.put_end.Goals as goal

pub put_product_tree-requires-clause-room : goal.put_product_tree-requires-clause-room
put_product_tree-requires-clause-room c =
    let card = c.args.card in
    let asks : question_of (form_is card.head.form) ≡ YesOrNo = sym c.question.ensures ∙ ap question_is c.in-YesOrNo.is in
    let size = ap (λ (q : Question). end_size q card.head.count) asks in
    let all = as_many card.bytes.now card.head card.read in
    omega (arith, c.requires.endable.room, c.requires.endable.outputs, size, all)
