use Rattle.std.proofs.Common.{◌≡◌, ℕ, suc, ◌+◌, ◌-◌, ◌*◌, ◌^◌, ◌<◌, List, length, drop, get_or, reverse, sym, ap, ◌∙◌, drop-cons, mod-lt, div-add-mod', ltb-true, arith}
use native.Mathlib.Numerals.{unary_clauses}
use Rattle.std.proofs.Math.Seq.{drop-length}
use Rattle.std.proofs.lemmas.Iterator.Adapters.{YieldsList-from_rev_slice}
use Rattle.std.proofs.lemmas.Iterator.Consumers.{YieldsList-turn}
use Rattle.std.proofs.lemmas.List.{get_or-reverse, get_or_default, length-reverse, length_push}
use Rattle.answer.specs.Outcome.{refused}
use Rattle.digits.specs.Number.{number}
use Rattle.digits.specs.Decoding.{total_of}
use Rattle.digits.proofs.Decoding.{total_refused}
use Rattle.digits.proofs.Number.{number_nil, number_cons, number_drop, below_at}
use Rattle.coding.proofs.Base.total.Goals as goal

begin : (base : ℕ) (digits : List ℕ) → 0 ≡ number base (drop (length digits) digits)
begin base digits = sym (ap (number base) (drop-length digits) ∙ number_nil base)

over : (base : ℕ) (digits : List ℕ) (i sum : ℕ) → 0 < base → sum ≡ number base (drop i digits) → 2 ^ 64 - 1 < sum → refused 24 ≡ total_of base digits
over base digits i sum p e h = sym (total_refused base digits (omega (arith, number_drop base p digits i)))

-- one digit more, which is the i-th last
module _ (base : ℕ) (digits : List ℕ) (i sum digit : ℕ) (e : sum ≡ number base (drop (length digits - i) digits))
    (at : (i < length (reverse digits)) × (digit ≡ get_or (reverse digits) i digit)) where
  inside : i < length digits
  inside = rw length-reverse at at.0

  place : digit ≡ get_or digits (length digits - (i + 1)) 0
  place =
      let same : length digits - 1 - i ≡ length digits - (i + 1) = omega (arith, inside) in
      at.1
      ∙ get_or-reverse digits i digit inside
      ∙ ap (λ (k : ℕ). get_or digits k digit) same
      ∙ get_or_default digits (length digits - (i + 1)) digit 0 (omega (arith, inside))

  turn : sum * base + digit ≡ number base (drop (length digits - (i + 1)) digits)
  turn =
      let k : ℕ = length digits - (i + 1) in
      let back : length digits - i ≡ suc k = omega (arith, inside) in
      let rest : ℕ = number base (drop (suc k) digits) in
      let same : sum ≡ rest = e ∙ ap (λ (j : ℕ). number base (drop j digits)) back in
      omega (
        arith,
        ap (number base) (drop-cons digits k 0 (omega (arith, inside))),
        number_cons base (get_or digits k 0) (drop (suc k) digits),
        ap (λ (t : ℕ). t * base) same,
        place,
      )

pub loop-entry-init : goal.loop-entry-init
loop-entry-init c = simp unary_clauses (begin _ c.args.digits.now)

pub passes-requires : goal.passes-requires
passes-requires c =
    let at = YieldsList-turn (YieldsList-from_rev_slice c.args.digits.now cc) c.loop-entry.yielded _ c.loop-entry.yielded_by _ _ c.in-Some.entry c.in-Some.is c.next.ensures.steps in
    let digit = place _ c.args.digits.now _ _ _ c.loop-entry.invariant at in
    (div-add-mod' (2 ^ 64 - 1) c.args.self.b, mod-lt (2 ^ 64 - 1) c.args.self.some, rw (c.from-digit.ensures, digit) (below_at _ _ _ c.args.self.some c.requires))

pub returns-then-passes : goal.returns-then-passes
returns-then-passes c =
    let at = YieldsList-turn (YieldsList-from_rev_slice c.args.digits.now cc) c.loop-entry.yielded _ c.loop-entry.yielded_by _ _ c.in-Some.entry c.in-Some.is c.next.ensures.steps in
    let next = turn _ _ _ _ _ c.loop-entry.invariant at in
    over _ _ (length c.args.digits.now - (length c.loop-entry.yielded + 1)) (c.loop-entry.sum * c.args.self.b + c.from-digit.result) c.args.self.some (rw c.from-digit.ensures next) (ltb-true _ _ (sym c.passes.ensures ∙ c.if-passes.true))

pub loop-entry-preserved : goal.loop-entry-preserved
loop-entry-preserved c =
    let at = YieldsList-turn (YieldsList-from_rev_slice c.args.digits.now cc) c.loop-entry.yielded _ c.loop-entry.yielded_by _ _ c.in-Some.entry c.in-Some.is c.next.ensures.steps in
    let next = turn _ _ _ _ _ c.loop-entry.invariant at in
    rw (c.from-digit.ensures, length_push c.loop-entry.yielded c.in-Some.entry) next
