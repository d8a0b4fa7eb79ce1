-- Cards without an order digit, as the code meets them: the base table's report decides, and is that of the step size chosen.
-- Assumes nothing.
use mathlib.Core.Path.{◌≡◌, sym, ap, ◌∙◌}
use mathlib.Core.Bool.{Bool}
use mathlib.Core.List.{List}
use Prim.Native.Nat.{ℕ, ◌≤◌, ◌<◌}
use borrow.Author.Tests.{le-ltb, le-leb, lt-leb}
use lib.Dec.{ltb, leb}
use lib.ListN.{length}
use Rattle.answer.specs.Outcome.{refused, accepted, refuse}
use Rattle.answer.specs.Report.{Report, report_of}
use Rattle.answer.specs.declared.Report as declared
use Rattle.circuit.specs.Report.{report}
use Rattle.circuit.specs.Table.{Table, most_gates}
use Rattle.query.specs.Card.{Card}
use Rattle.query.specs.Reading.{read_card}
use Rattle.query.specs.Whole.{table_of}
use Rattle.query.proofs.Promises.{exact_size}
use Rattle.offer.specs.Best.{nothing, chosen, taken}
use Rattle.offer.specs.Digits.{order_digits}
use Rattle.offer.specs.Offer.{step_cost, step_depth, counts, best_step}
use Rattle.offer.proofs.NoOrder.{same_table, no_search}
use Rattle.rating.specs.Rated.{rated}

module _ (bytes : List ℕ) (c : Card) (e : read_card bytes ≡ accepted c) (none : order_digits c.conditions ≡ 0) (base : declared.Report)
    (told : report_of base ≡ report (table_of c)) (cap : ℕ) where
  -- every step size is rated as the base table is
  base_rated : (step : ℕ) → rated c step ≡ accepted (report_of base)
  base_rated step =
      let few = le-ltb most_gates (length (table_of c).gates) (exact_size bytes c e).1 in
      ap (λ (table : Table). refuse (ltb most_gates (length table.gates)) (refused 14) (accepted (report table))) (same_table bytes c e none step)
      ∙ ap (λ (b : Bool). refuse b (refused 14) (accepted (report (table_of c)))) few ∙ ap accepted (sym told)

  choice : (b : Bool) → leb base.depth.0 cap ≡ b → taken (step_cost c) (step_depth c) (counts cap c) b 1 nothing ≡ best_step cap c
  choice b w =
      let within = ap (λ (r : Report). leb r.depth cap) (sym told) ∙ w in
      sym (no_search bytes c e none cap ∙ ap (λ (t : Bool). taken (step_cost c) (step_depth c) (counts cap c) t 1 nothing) within)

  -- within the cap the lowest is chosen
  pub takes_lowest : base.depth.0 ≤ cap → (chosen 1 ≡ best_step cap c) × (rated c 1 ≡ accepted (report_of base))
  takes_lowest l = (choice _ (le-leb base.depth.0 cap l), base_rated 1)

  -- and otherwise none
  pub takes_none : cap < base.depth.0 → nothing ≡ best_step cap c
  takes_none l = choice _ (lt-leb base.depth.0 cap l)
