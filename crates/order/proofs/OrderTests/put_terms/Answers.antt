use Rattle.std.proofs.Common.{◌≡◌, refl, sym, ap, ap₂, ◌∙◌, inl, inr, List, [], ◌∷◌, ℕ, ◌+◌, ◌-◌, ◌*◌, get_or, arith}
use Rattle.field.specs.Polynomials.{order_constant}
use Rattle.circuit.specs.Constant.{Constant, code, signed}
use Rattle.circuit.specs.Gate.{Gate, Scale, Add}
use Rattle.comparison.specs.OrderDigit.{power_gate}
use Rattle.comparison.proofs.Powers.{gate_low}
use Rattle.writer.specs.declared.Node.{Node}
use Rattle.writer.proofs.Leaves.{leaves_all, leaves_as, leaves_then}
use Rattle.writer.proofs.Writing.{same_writes, follows}
use Rattle.powers.proofs.Constants.{constants_long}
use Rattle.powers.proofs.Modulus.{is_modulus}
use Rattle.powers.proofs.Powers.{place_within}
use Rattle.order.proofs.Terms.{terms_from, constant_odd, constant_top, terms_first, later_cons, later_top, deeper_power}
use Rattle.order.proofs.OrderTests.put_terms.Goals as goal

-- a term, which is gate number k, and the sum with it, over the sum so far
abbrev added_term : ℕ → Node → ℕ → Constant → List Gate
added_term k sum power constant = Scale power constant ∷ Add sum.gate k ∷ []

pub bounds-tables-0-2 : goal.bounds-tables-0-2
bounds-tables-0-2 c =
    let s = c.args.self in
    omega (arith, constants_long s.m.p _ s.prepared.scaled)

pub loop-i-init : goal.loop-i-init
loop-i-init c =
    let s = c.args.self in
    let p = s.m.p in
    let one : power_gate p 0 1 ≡ 0 = gate_low p 0 1 (omega arith) ∙ omega arith in
    let flat = rw one at (s.prepared.deep.known 1 (omega arith, omega arith, inl (omega arith)) (omega arith)) in
    (omega arith, omega arith, flat, leaves_all (omega arith) (omega arith))

pub power_at-power-requires : goal.power_at-power-requires
power_at-power-requires c =
    let s = c.args.self in
    omega (arith, s.prepared.long, place_within s.m.p (2 * c.loop-i.i + 1) (omega arith))

pub bounds-tables-from : goal.bounds-tables-from
bounds-tables-from c =
    let s = c.args.self in
    omega (arith, c.from.ensures, constants_long s.m.p _ s.prepared.scaled)

pub loop-i-preserved : goal.loop-i-preserved
loop-i-preserved c =
    let s = c.args.self in
    let p = s.m.p in
    let z = c.args.z in
    let i = c.loop-i.i in
    let e = 2 * i + 1 in
    let sum = c.loop-i.sum in
    let k = c.loop-i.out.pen.next in
    let inv = c.loop-i.invariant in
    let w = c.add_term-sum.ensures in
    let known = s.prepared.deep.known e (omega arith, omega arith, inr (inl (omega arith))) (omega arith) in
    let deep = deeper_power (2 * i - 1) e _ _ (omega arith) inv.2 (c.power_at-power.ensures.1 ∙ known) in
    let back : 2 * (i + 1) - 1 ≡ e = omega arith in
    let next : e + 2 ≡ 2 * (i + 1) + 1 = omega arith in
    let split = later_cons p z k sum.gate e (omega arith) in
    let constant : signed (get_or s.tables.constants.now c.from.result 0) ≡ code p (order_constant p e) =
    rw c.from.ensures (constant_odd p (is_modulus s.m) s.tables.constants.now s.prepared.scaled i (omega arith)) in
    let term = ap₂ (added_term k sum) c.power_at-power.ensures.0 constant in
    let onward = ap₂ (λ (k sum : ℕ). terms_from p z k sum (e + 2)) (sym w.wrote.moved.0) (sym w.deepens.0) ∙ ap (terms_from p z _ _) next in (
      omega arith,
      omega arith,
      rw back (w.deepens.1 ∙ deep),
      leaves_as onward (leaves_then (leaves_as split inv.3) (same_writes term w.wrote)),
    )

pub power_at-top-requires : goal.power_at-top-requires
power_at-top-requires c =
    let s = c.args.self in
    omega (arith, s.m, s.prepared.long, place_within s.m.p (s.m.p - 1) (omega arith))

pub bounds-tables-from-2 : goal.bounds-tables-from-2
bounds-tables-from-2 c =
    let s = c.args.self in
    omega (arith, c.from-2.ensures, constants_long s.m.p _ s.prepared.scaled)

pub returns : goal.returns
returns c =
    let s = c.args.self in
    let p = s.m.p in
    let z = c.args.z in
    let i = c.loop-i.i in
    let sum = c.loop-i.sum in
    let k = c.loop-i.out.pen.next in
    let inv = c.loop-i.invariant in
    let w = c.add_term.ensures in
    let known = s.prepared.deep.known (p - 1) (omega arith, omega arith, inr (inr refl)) (omega arith) in
    let deep = deeper_power (2 * i - 1) (p - 1) _ _ (omega arith) inv.2 (c.power_at-top.ensures.1 ∙ known) in
    let last = later_top p z k sum.gate (2 * i + 1) (omega arith) in
    let constant : signed (get_or s.tables.constants.now c.from-2.result 0) ≡ code p (order_constant p (p - 1)) =
    rw c.from-2.ensures (constant_top p (is_modulus s.m) s.tables.constants.now s.prepared.scaled) in
    let lowest = constant_odd p (is_modulus s.m) s.tables.constants.now s.prepared.scaled 0 (omega arith) in
    let one = c.put.ensures in
    let term = ap₂ (added_term k sum) c.power_at-top.ensures.0 constant in
    let rest = inv.3.gives _ (same_writes (term ∙ sym last) w.wrote) in
    record {
      wrote = rw (terms_first p z c.args.out.now.pen.next (omega arith), ← lowest, ← one.moved.0) (follows one rest);
      moves = omega arith;
      deepens = (omega arith, w.deepens.1 ∙ deep);
    }
