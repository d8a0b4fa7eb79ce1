use Rattle.std.proofs.lemmas.List.Edits.{sets}
use Rattle.std.proofs.Common.{◌+◌, ◌*◌, sym, ap, ◌∙◌, arith}
use Rattle.circuit.specs.Gate.{row, record_bytes}
use Rattle.circuit.proofs.Constant.{twos_complement}
use Rattle.writer.proofs.Gate.record.Goals as goal

pub returns-in-Scale : goal.returns-in-Scale
returns-in-Scale c =
    let a = c.args in
    let bits = sym (twos_complement.1 c.in-Scale.b (omega arith)) in
    let bytes = ap (λ x. sets a.table.now (8 * (a.k + 1)) (record_bytes (row 5 c.in-Scale.a x))) bits in
    rw c.in-Scale.is (c.put_record-in-Scale.ensures ∙ bytes)
