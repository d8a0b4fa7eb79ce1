use Rattle.std.proofs.Common.{◌≡◌, sym, ap, ◌∙◌}
use Rattle.digits.specs.Number.{wrong_count}
use Rattle.circuit.specs.Bytes.{byte}
use Rattle.card.proofs.read_counted.Goals as goal

pub returns-in-Shared : goal.returns-in-Shared
returns-in-Shared c =
    let wrong : wrong_count (byte c.args.bytes.now 3) ≡ c.outside.result = ap wrong_count (sym c.from.ensures) ∙ sym c.outside.ensures in
    rw (wrong ∙ c.if-outside.false, c.in-Shared.is) (c.read_shared.ensures c.args.prime)
