use Rattle.std.proofs.Common.{sym, ap, ◌∙◌, arith, length}
use Rattle.field.specs.Modular.{residue}
use Rattle.field.proofs.FirstValues.{length_first}
use Rattle.circuit.specs.Constant.{bits_of}
use Rattle.constants.proofs.Constants.{descend_begin, length_powers, descend_one}
use Rattle.constants.proofs.put_odd_constants.Goals as goal

pub loop-k-init : goal.loop-k-init
loop-k-init c = descend_begin _ _ _ c.requires.0

pub sum_of-requires : goal.sum_of-requires
sum_of-requires c = let l = c.loop-k in omega (arith, length_powers _ _ _ _ _ l.invariant)

pub multiply_each-requires : goal.multiply_each-requires
multiply_each-requires c =
    length_powers _ _ _ _ _ c.loop-k.invariant ∙ sym (ap length c.requires.1 ∙ length_first _ _)

pub loop-k-preserved : goal.loop-k-preserved
loop-k-preserved c =
    let p = c.args.reducer.p in
    descend_one p _ _ _ c.loop-k.k _ c.args.squares.now _ c.requires.3 c.requires.2 c.requires.1 (omega arith) c.loop-k.invariant
    (c.bits_of.ensures ∙ ap (λ x. bits_of p (residue p x)) c.sum_of.ensures.0) c.multiply_each.ensures
