use Rattle.std.proofs.Common.{◌≡◌, ap, ◌∙◌, suc, ◌+◌, ◌/◌, arith, add-one}
use Rattle.field.specs.Logarithm.{clog}
use Rattle.field.proofs.Logarithm.{clog_is_ceiling}
use Rattle.comparison.proofs.LowPowers.{power_deep}
use Rattle.powers.proofs.Powers.{place_within, deep_step, deep_halves}
use Rattle.powers.proofs.put_power_depth.Goals as goal

pub overflow_add-depth : goal.overflow_add-depth
overflow_add-depth c =
    let a = c.args in
    let i = a.i in
    let halves = rw (← c.from.ensures, ← c.from-2.ensures) at (deep_halves a.m.p i _ a.m.odd c.requires.written.0 c.requires.written.1.1 c.requires.deep) in
    omega (arith, halves, (clog_is_ceiling (i / 2) 8).0 (omega arith), (clog_is_ceiling ((i + 1) / 2) 8).0 (omega arith))

pub bounds-depths-from-3 : goal.bounds-depths-from-3
bounds-depths-from-3 c =
    let a = c.args in
    omega (arith, place_within a.m.p a.i (omega arith))

pub returns : goal.returns
returns c =
    let a = c.args in
    let i = a.i in
    let halves = rw (← c.from.ensures, ← c.from-2.ensures) at (deep_halves a.m.p i _ a.m.odd c.requires.written.0 c.requires.written.1.1 c.requires.deep) in
    let deep : c.max-depth.result + 1 ≡ clog i = add-one _ ∙ ap suc c.max-depth.ensures ∙ power_deep _ _ _ (omega arith) halves.0 halves.1 in
    rw (c.from-3.ensures, c.power_place.ensures, deep)
    (deep_step a.m.p i a.depths.now c.requires.written.1 (omega (arith, place_within a.m.p i (omega arith))) c.requires.deep)
