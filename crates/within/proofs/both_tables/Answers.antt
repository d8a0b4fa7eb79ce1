use Rattle.std.proofs.Common.{◌≡◌, ◌+◌, ◌*◌, false, ltb, length}
use borrow.Author.Tests.{lt-ltb, le-ltb}
use Rattle.query.specs.Whole.{table_of}
use Rattle.offer.specs.Offer.{step_table}
use Rattle.within.proofs.Tables.{no_room_first, no_room_second, both_laid, base_told, base_drawable, step_drawable, step_leaves}
use Rattle.within.proofs.both_tables.Goals.{then-first-size_of-via-then-first-size_of, then-first-size_of-via-else-first-size_of+then-second-size_of}
use Rattle.within.proofs.both_tables.Goals as goal

pub returns-then-first-size_of : goal.returns-then-first-size_of
returns-then-first-size_of c card e =
    let a = c.args in
    let is = base_told a.card.bytes.now a.base card c.requires.ready.1 e in
    let so = (c.requires.step.1 card e).0 in
    elim c.then-first-size_of.branch [
      | then-first-size_of-via-then-first-size_of w ↦
          no_room_first a.cap.0 (table_of card) (step_table card a.best.step) a.base a.best.told is so a.first.now a.second.now
          (lt-ltb _ _ (rw c.size_of.ensures at w.if-first-size_of.true))
      | then-first-size_of-via-else-first-size_of+then-second-size_of w ↦
          no_room_second a.cap.0 (table_of card) (step_table card a.best.step) a.base a.best.told is so a.first.now a.second.now
          (le-ltb _ _ (rw c.size_of.ensures at w.if-first-size_of.false))
          (lt-ltb _ _ (rw w.size_of-else-first-size_of.ensures at w.if-second-size_of.true))
    ]

pub write_table-requires : goal.write_table-requires
write_table-requires c =
    let a = c.args in
    let room : ltb (length a.first.now) (8 * (a.base.gates + 1)) ≡ false = le-ltb _ _ (rw c.size_of.ensures at c.if-first-size_of.false) in
    base_drawable a.card.bytes.now a.first.now _ _ a.card.head a.card.read c.requires.ready.0 a.base c.requires.ready.1 room

pub write_table-requires-2 : goal.write_table-requires-2
write_table-requires-2 c =
    let a = c.args in
    let room : ltb (length a.second.now) (8 * (a.best.told.gates + 1)) ≡ false = le-ltb _ _ (rw c.size_of-else-first-size_of.ensures at c.if-second-size_of.false) in
    step_drawable a.card.bytes.now a.second.now _ _ a.card.head a.card.read c.requires.ready.0 a.best.told a.best.step c.requires.step.0 c.requires.step.1 room

pub returns : goal.returns
returns c card e =
    let a = c.args in
    let first : ltb (length a.first.now) (8 * (a.base.gates + 1)) ≡ false = le-ltb _ _ (rw c.size_of.ensures at c.if-first-size_of.false) in
    let second : ltb (length a.second.now) (8 * (a.best.told.gates + 1)) ≡ false = le-ltb _ _ (rw c.size_of-else-first-size_of.ensures at c.if-second-size_of.false) in
    let is = base_told a.card.bytes.now a.base card c.requires.ready.1 e in
    let so = (c.requires.step.1 card e).0 in
    both_laid a.cap.0 (table_of card) (step_table card a.best.step) a.base a.best.told is so a.first.now a.second.now c.cheaper.result
    first second (c.write_table.ensures card e).leaves
    (step_leaves card a.best.step a.second.now _ c.requires.step.0.0 (c.write_table-2.ensures card e).leaves)
    (c.cheaper.ensures (table_of card) (step_table card a.best.step) is so)
