use Rattle.std.proofs.Common.{◌∙◌, arith}
use Rattle.std.proofs.lemmas.Grind.{common_steps}
use Rattle.answer.specs.Numbers.{refusal_number}
use Rattle.records.specs.Head.{head_is}
use Rattle.records.specs.Kind.{kind_number}
use Rattle.gates.proofs.Record.{word_refused, word_kind}
use Rattle.gates.proofs.Place.read_gate.Goals as goal

pub returns-in_err-kind : goal.returns-in_err-kind
returns-in_err-kind c =
    let place = c.args.self in
    grind (arith, common_steps, word_refused (head_is place.head) place.earlier.now c.args.bytes.now _ c.word_at.ensures (refusal_number c.in_err-kind.field-0.0) c.in_err-kind.ensures)

pub returns : goal.returns
returns c =
    let place = c.args.self in
    c.gate_depth.ensures
    ∙ word_kind (head_is place.head) place.earlier.now c.args.bytes.now _ c.word_at.ensures (kind_number c.in_ok-kind.kind) _ _ c.in_ok-kind.ensures c.u16_at.ensures.0 c.u16_at-2.ensures.0
