use Rattle.std.proofs.Common.{ap, ◌∙◌}
use Rattle.field.specs.Member.{member}
use Rattle.field.specs.Primes.{listed}
use Rattle.arithmetic.proofs.is_listed.Goals as goal

pub returns : goal.returns
unfolding listed
returns c = c.contains.ensures ∙ ap (member _) c.listed_primes-list.ensures
