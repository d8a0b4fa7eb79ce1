-- `card::read_conditions` meets its contract. The invariant is `AddsUp`: the sums over the k records read so far,
-- with those over the records that are left to read, give the whole answer.
-- Assumes nothing.
use Rattle.card.specs.Parts.{form_is, read_sums}
use Rattle.card.proofs.Records.{AddsUp}
use Rattle.card.proofs.read_conditions.Given as goal

abbrev pub invariant-loop-k : goal.invariant-loop-k
invariant-loop-k l =
    AddsUp (form_is l.form) l.prime l.records l.count l.k l.sums (read_sums (form_is l.form) l.prime l.count l.records)
