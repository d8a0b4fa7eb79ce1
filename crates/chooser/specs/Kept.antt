-- The best step size so far, as the code holds it.
use Rattle.std.specs.Prelude.{◌≡◌, Option, Some, None}
use Rattle.answer.specs.Outcome.{accepted}
use Rattle.answer.specs.Report.{report_of}
use Rattle.query.specs.Card.{Card}
use Rattle.offer.specs.Best.{Choice, nothing, chosen}
use Rattle.rating.specs.Rated.{rated}
use Rattle.chooser.specs.declared.Rated.{Rated}

-- the choice that the code holds
abbrev pub choice_is : Option Rated → Choice
choice_is None = nothing
choice_is (Some best) = chosen best.step

-- with the report on its table, which is one
abbrev pub Kept : Card → Option Rated → Type 0
Kept card None = Unit {0}
Kept card (Some best) = rated card best.step ≡ accepted (report_of best.told)
