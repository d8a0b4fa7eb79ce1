-- The part of a lent table is the one that the call hands back: as many bytes as the table has that the call tells of, and that begins the
-- lent bytes.
-- Assumes nothing.
use mathlib.Core.Path.{◌≡◌, refl, sym, ap, ◌∙◌}
use mathlib.Core.List.{List}
use Prim.Native.Nat.{ℕ, ◌+◌, ◌*◌}
use Rattle.std.specs.Prelude.{Ok, Err}
use lib.ListN.{length, take}
use lib.Seq.{take_at}
use Rattle.answer.specs.Outcome.{Answer, refused, accepted, on_answer}
use Rattle.answer.specs.Report.{Report, report_of}
use Rattle.answer.specs.declared.Report as declared
use Rattle.answer.proofs.Outcome.{refused≢accepted}
use Rattle.circuit.proofs.Reading.{table_length}
use Rattle.query.specs.Card.{Card}
use Rattle.query.specs.Reading.{read_plain}
use Rattle.offer.specs.Offer.{Which, First, Second, Handed, nothing_done, best_step, offer_by, offering}
use Rattle.offer.specs.Promises.{lent_of}
use Rattle.offer.proofs.Promises.{offer_keeps, part_handed}
use Rattle.within.specs.declared.Offered.TheVariants as offered
use Rattle.within.specs.Promises.{PartBack}

module _ (bytes first second : List ℕ) (cap : ℕ) where
  -- a call that is accepted has read a card
  card_read : {handed : Handed} (read : Answer Card)
      → (on_answer read (nothing_done first second) (λ card. offer_by cap card first second (best_step cap card))).answer ≡ accepted handed
      → (card : Card) × (read ≡ accepted card)
  card_read (refused number) a = absurd (refused≢accepted a)
  card_read (accepted card) a = (card, refl)

  -- the part is the first bytes of the table that is told of
  told_part : (which : Which) (told : declared.Report)
      → (offering bytes cap first second).answer ≡ accepted (record { which = which; told = report_of told })
      → take (8 * (told.gates + 1)) (lent_of which (offering bytes cap first second)) ≡ (offering bytes cap first second).part
  told_part which told a =
      let read = card_read (read_plain bytes) a in
      let handed = part_handed bytes first second cap read.0 (record { which = which; told = report_of told }) (record { reads = read.1; answers = a }) in
      let table = handed.0 in
      let part = handed.1 in
      let size = ap length part.bytes ∙ table_length table ∙ sym (ap (λ (r : Report). 8 * (r.gates + 1)) part.told) in
      ap (take (8 * (told.gates + 1))) part.begins ∙ take_at (offering bytes cap first second).part _ (8 * (told.gates + 1)) size

pub part_back : PartBack
part_back bytes first second cap (Ok (offered.First told)) a = told_part bytes first second cap First told (sym a)
part_back bytes first second cap (Ok (offered.Second told)) a = told_part bytes first second cap Second told (sym a)
part_back bytes first second cap (Err why) a = sym (offer_keeps bytes first second cap _ (sym a)).2
