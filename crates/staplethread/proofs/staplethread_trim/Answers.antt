use Rattle.std.proofs.Common.{List, ℕ, ap, ◌∙◌, length, take}
use Rattle.circuit.proofs.Promises.{trims_start}
use Rattle.staplethread.proofs.staplethread_trim.Goals as goal

pub returns : goal.returns
returns c =
    let table = c.args.table.now in
    let part = c.trim-part.ensures in record { counts = ap length part; part = ap (λ (part : List ℕ). take (length part) table) part ∙ trims_start table }
