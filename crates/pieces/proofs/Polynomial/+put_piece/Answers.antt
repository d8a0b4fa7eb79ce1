use Rattle.std.proofs.Common.{◌≡◌, ◌+◌, ◌-◌, ◌/◌, ◌≤◌, arith}
use Rattle.field.proofs.Logarithm.{clog_is_ceiling}
use Rattle.step.specs.Coefficient.{coefficient}
use Rattle.step.proofs.PieceLevel.{piece_shallow}
use Rattle.pieces.specs.Sums.{sum_is}
use Rattle.pieces.proofs.Pieces.{level_few, lower_span, upper_span, piece_terms, piece_room, piece_written, shallow_at_most}
use Rattle.pieces.proofs.Polynomial.+put_piece.Goals as goal

pub put_terms-requires-clause-room : goal.put_terms-requires-clause-room
put_terms-requires-clause-room t c =
    let a = c.args in
    let s = a.self in
    rw (piece_terms s.m.p s.step s.z (coefficient s.m.p) a.level a.o a.out.now.pen.next (omega arith)) at c.requires.room

pub returns-then-level-eq0 : goal.returns-then-level-eq0
returns-then-level-eq0 t c =
    let a = c.args in
    let s = a.self in
    let zero : a.level ≡ 0 = omega arith in
    let terms = piece_terms s.m.p s.step s.z (coefficient s.m.p) a.level a.o a.out.now.pen.next zero in
    let e = c.put_terms.ensures in record { wrote = rw terms e.wrote; sums = rw terms e.sums }

pub put_piece-low-requires : goal.put_piece-low-requires
put_piece-low-requires t c =
    let a = c.args in
    let s = a.self in
    let some : 1 ≤ a.level = omega arith in
    let room = piece_room s.m.p s.step s.z (coefficient s.m.p) a.level a.o a.span a.out.now.pen.next c.requires.spanned some in
    (omega (arith, c.decreases), (omega (arith, room, c.requires.room), lower_span s.step a.level a.o a.span c.requires.spanned some))

pub put_piece-high-requires : goal.put_piece-high-requires
put_piece-high-requires t c =
    let a = c.args in
    let s = a.self in
    let some : 1 ≤ a.level = omega (arith, c) in
    let room = piece_room s.m.p s.step s.z (coefficient s.m.p) a.level a.o a.span a.out.now.pen.next c.requires.spanned some in
    let e = rw (← c.put_piece-low.ensures.wrote.wrote.number) at room in (
      omega (arith, c.decreases, some),
      (omega (arith, e, c.requires.room, c.put_piece-low.ensures), upper_span s.step a.level a.o a.span c.requires.spanned some),
    )

pub split_power-power-requires : goal.split_power-power-requires
split_power-power-requires t c =
    let a = c.args in
    let s = a.self in
    omega (arith, level_few s.step a.level a.o a.span c.requires.spanned s.is_step.0)

pub put_last-requires : goal.put_last-requires
put_last-requires t c =
    let a = c.args in
    let s = a.self in
    let some : 1 ≤ a.level = omega (arith, c) in
    let power = c.split_power-power in
    let room = piece_room s.m.p s.step s.z (coefficient s.m.p) a.level a.o a.span a.out.now.pen.next c.requires.spanned some in
    let l = c.put_piece-low.ensures in
    let h = c.put_piece-high.ensures in
    let e = rw (← l.wrote.wrote.number, ← h.wrote.wrote.number, ← l.sums, ← h.sums, ← power.ensures.0) at room in
    let shallow = rw (← h.sums) at (piece_shallow s.m.p s.step s.z (coefficient s.m.p) (a.level - 1) (a.o + a.span / 2) c.put_piece-low.new.out.pen.next) in
    let few = level_few s.step a.level a.o a.span c.requires.spanned s.is_step.0 in
    let deep = (clog_is_ceiling s.step 8).0 (omega (arith, s.is_step, s.m)) in
    record {
      room = omega (arith, e, c.requires.room, l, h);
      depth_lt_most_gates = (power.ensures.1, shallow_at_most _ _ (sum_is c.put_piece-high.result) (omega (arith, deep, few)) shallow);
    }

pub returns : goal.returns
returns t c =
    let a = c.args in
    let s = a.self in
    let some : 1 ≤ a.level = omega (arith, c) in
    let last = c.put_last in
    let l = c.put_piece-low.ensures in
    let h = c.put_piece-high.ensures in
    let power = c.split_power-power.ensures.0 in
    let all = piece_written s.m.p s.step s.z (coefficient s.m.p) a.level a.o a.span c.requires.spanned some
    l.wrote l.sums h.wrote h.sums (rw power at last.ensures.wrote) (rw power at last.ensures.sums) in
    record { wrote = all.0; sums = all.1 }
