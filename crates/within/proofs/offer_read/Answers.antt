use Rattle.within.proofs.Choosing.{chosen_known, chosen_step}
use Rattle.within.proofs.offer_read.Goals as goal

pub both_tables-requires : goal.both_tables-requires
both_tables-requires c =
    let a = c.args in
    record {
      ready = (rw (c.lists-lists.ensures.0, c.lists-lists.ensures.1) c.prepare_order-tables.ensures, c.forecast_read-base.ensures);
      step = (
        chosen_step a.card.bytes.now a.cap.0 a.card.head _ _ a.card.read c.in-Some.is c.best_step.ensures,
        chosen_known a.card.bytes.now a.cap.0 _ _ c.in-Some.is c.best_step.ensures,
      );
    }
