use Rattle.std.proofs.Common.{ltb, ◌∙◌, rules, tests}
use Rattle.std.proofs.lemmas.Iterator.{YieldsList-from_slice}
use Rattle.std.proofs.lemmas.Iterator.Search.{any_from_yields_List}
use Rattle.filling.specs.State.{most_levels}
use Rattle.writer.specs.declared.Node as declared
use Rattle.state.proofs.Deep.{any_deep}
use Rattle.state.proofs.is_deep.Goals as goal

pub returns : goal.returns
returns c =
    any_from_yields_List (λ (o : declared.Node). ltb most_levels o.depth) _ _ _ c.any.ensures.ran (YieldsList-from_slice c.args.outputs.now cc) (λ x b q k. search (rules, tests))
    ∙ any_deep c.args.outputs.now
