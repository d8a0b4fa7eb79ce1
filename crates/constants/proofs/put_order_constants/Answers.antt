use Rattle.std.proofs.Common.{ap, ◌∙◌, arith, length-set}
use Rattle.field.proofs.Modular.{residue_small}
use Rattle.circuit.specs.Constant.{bits_of}
use Rattle.constants.specs.Constants.{powers_mod}
use Rattle.constants.proofs.Constants.{filled_part_is, counting_powers, constants_with_last}
use Rattle.constants.proofs.put_order_constants.Goals as goal

pub put_odd_constants-requires : goal.put_odd_constants-requires
put_odd_constants-requires c =
    let p = c.of-reducer.result.p in (
      filled_part_is _ _ _ _ (omega arith) c.put_ascending.ensures
          ∙ counting_powers p _ (omega arith)
          ∙ ap (powers_mod p 1) c.from-half.ensures,
      filled_part_is _ _ _ _ (omega arith) c.put_squares.ensures ∙ ap (powers_mod p 2) c.from-half.ensures,
      rw length-set (omega arith),
      rw c.of-reducer.ensures c.args.m.odd,
    )

pub returns : goal.returns
returns c =
    let p = c.of-reducer.result.p in
    rw (← c.of-reducer.ensures)
    (constants_with_last p (rw c.of-reducer.ensures c.args.m.odd) c.from-half.result c.bits_of.result _ _ c.from-half.ensures
    (c.bits_of.ensures ∙ ap (bits_of p) (residue_small p _ (omega arith) ∙ c.from.ensures))
    (omega arith) c.put_odd_constants.ensures)
