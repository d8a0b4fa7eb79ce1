-- `chooser::best_of` meets its contract. The invariant: going on from here gives the best of all, and what is kept has the report on its table.
-- Assumes nothing.
use Rattle.std.proofs.Common.{◌≡◌}
use Rattle.answer.specs.Outcome.{accepted}
use Rattle.query.specs.Card.{Card}
use Rattle.query.specs.Reading.{read_card}
use Rattle.offer.specs.Offer.{best_step}
use Rattle.chooser.specs.Kept.{Kept}
use Rattle.chooser.proofs.Keeping.{rest}
use Rattle.chooser.proofs.best_of.Given as goal

abbrev pub invariant-loop-k : goal.invariant-loop-k
invariant-loop-k l =
    (c : Card) → read_card l.search.card.bytes.now ≡ accepted c → (rest l.cap.0 l.half c l.k l.best ≡ best_step l.cap.0 c) × Kept c l.best
