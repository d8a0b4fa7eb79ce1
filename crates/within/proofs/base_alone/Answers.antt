use Rattle.std.proofs.Common.{◌≡◌, ◌+◌, ◌*◌, false, ltb, length}
use borrow.Author.Tests.{le-ltb}
use Rattle.within.proofs.Tables.{base_drawable}
use Rattle.within.proofs.base_alone.Goals as goal

pub write_table-requires : goal.write_table-requires
write_table-requires c =
    let a = c.args in
    let room : ltb (length a.first.now) (8 * (a.base.gates + 1)) ≡ false = le-ltb _ _ (rw c.size_of.ensures at c.if-first-size_of.false) in
    base_drawable a.card.bytes.now a.first.now _ _ a.card.head a.card.read c.requires.0 a.base c.requires.1 room
