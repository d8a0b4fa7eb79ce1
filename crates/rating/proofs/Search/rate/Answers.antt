use Rattle.std.proofs.Common.{arith}
use Rattle.rating.proofs.Rating.{known, gates_told, gates_are, drawable, too_many, told_of}
use Rattle.rating.proofs.Search.rate.Goals as goal

pub count_gates-count-requires-clause-own : goal.count_gates-count-requires-clause-own
count_gates-count-requires-clause-own c =
    let s = c.args.self in
    let many = gates_told s.card.read s.known c.requires.1 in
    let less = rw c.modulus_of-m.ensures at c.count_less-less.ensures.0 in
    rw (c.modulus_of-m.ensures, less) (omega (arith, many))

pub returns-then-count : goal.returns-then-count
returns-then-count c card reads =
    let s = c.args.self in
    let less = rw c.modulus_of-m.ensures at c.count_less-less.ensures.0 in
    let are = gates_are s.card.read s.known c.requires.1 (rw (c.modulus_of-m.ensures, less) at c.count_gates-count.ensures) in
    too_many s.card.read s.known c.requires.1 card reads are (omega (arith, c.if-count.true))

pub write_table-requires : goal.write_table-requires
write_table-requires c =
    let s = c.args.self in
    let less = rw c.modulus_of-m.ensures at c.count_less-less.ensures.0 in
    let are = gates_are s.card.read s.known c.requires.1 (rw (c.modulus_of-m.ensures, less) at c.count_gates-count.ensures) in
    drawable s.card.read s.known c.requires.1 are (omega (arith, c.if-count.false)) (omega arith)

pub returns : goal.returns
returns c card reads =
    let s = c.args.self in
    let less = rw c.modulus_of-m.ensures at c.count_less-less.ensures.0 in
    let are = gates_are s.card.read s.known c.requires.1 (rw (c.modulus_of-m.ensures, less) at c.count_gates-count.ensures) in
    let own = known s.card.read s.known c.requires.1 in
    let drawn = c.write_table.ensures own.card own.reads in
    told_of s.card.read s.known c.requires.1 card reads _ _ are (omega (arith, c.if-count.false)) drawn.leaves c.check.ensures
