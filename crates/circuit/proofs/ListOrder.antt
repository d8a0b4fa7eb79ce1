-- Pairing in list order is deeper than the product tree on an example, by computing both.
-- Assumes nothing.
use mathlib.Core.Path.{refl}
use Rattle.circuit.specs.ListOrder.{list_order, ListOrderDeeper}
use Rattle.circuit.specs.ProductTree.{least, multiply}

pub list_order_deeper : ListOrderDeeper
unfolding list_order multiply least
list_order_deeper = (refl, refl)
