-- Number, kind, a and b, one after the other with a space between them, then the end of the line.
use Rattle.std.proofs.Common.{[], ◌∷◌, ap}
use Rattle.circuit.specs.Bytes.{byte}
use Rattle.text.specs.Text.{decimal, labelled, space}
use Rattle.listing.specs.Records.{operand_of}
use Rattle.text.proofs.Putting.{same_text, then}
use Rattle.listing.proofs.put_gate_line.Goals as goal

pub returns : goal.returns
returns c =
    let number = same_text (ap decimal c.from.ensures) c.put_decimal.ensures in
    let spaced = then number c.put.ensures in
    let kind = then spaced (same_text c.name_of.ensures c.put-2.ensures) in
    let first = then kind (same_text (ap (labelled (space ∷ [])) c.u16_at-a.ensures.0) c.put_labelled.ensures) in
    let second = then first (same_text (ap (operand_of (byte c.args.bytes.now 2)) c.u16_at-b.ensures.0) c.put_operand.ensures) in
    then second c.put-3.ensures
