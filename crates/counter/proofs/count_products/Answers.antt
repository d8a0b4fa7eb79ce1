use Rattle.counter.proofs.Counting.{told}
use Rattle.counter.proofs.Gates.{countable}
use Rattle.counter.proofs.count_products.Goals as goal

pub invariant_of-read : goal.invariant_of-read
invariant_of-read c = record { read = countable c.args.table.now c.args.count c.requires }

pub returns : goal.returns
returns c = told c.args.table.now c.args.count c.requires c.counts.ensures
