use Rattle.std.proofs.Common.{sym, ◌∙◌, arith, eqb-true, ltb-true}
use Rattle.std.proofs.lemmas.Bool.{eqb-false}
use Rattle.powers.proofs.Constants.{constants_long}
use Rattle.powers.proofs.Modulus.{is_modulus}
use Rattle.pieces.proofs.Coefficients.{bits_even, bits_above, bits_last, bits_below}
use Rattle.pieces.proofs.Polynomial.coefficient_at.Goals.{then-e-top-via-then-e-top, then-e-top-via-else-e-top+then-e-eq1, then-e-top-2, else-e-top-2}
use Rattle.pieces.proofs.Polynomial.coefficient_at.Goals as goal

pub bounds-self-from : goal.bounds-self-from
bounds-self-from c =
    let s = c.args.self in
    let e = c.args.e in
    let long = constants_long s.m.p _ s.prepared.scaled in
    elim c.then-e-top.branch [
      | then-e-top-via-then-e-top w ↦ omega (arith, long)
      | then-e-top-via-else-e-top+then-e-eq1 w ↦ elim w.if-e-top-2.branch [
        | then-e-top-2 v ↦ omega (arith, long)
        | else-e-top-2 v ↦ let less = ltb-true _ _ (sym v.value-is ∙ w.if-e-eq1.true) in absurd (omega (arith, less))
      ]
    ]

pub returns-then-e-top : goal.returns-then-e-top
returns-then-e-top c =
    let s = c.args.self in
    let e = c.args.e in
    let odd = is_modulus s.m in
    rw c.from.ensures (elim c.then-e-top.branch [
      | then-e-top-via-then-e-top w ↦ bits_last s.m.p odd e _ s.prepared.scaled (omega arith)
      | then-e-top-via-else-e-top+then-e-eq1 w ↦ elim w.if-e-top-2.branch [
        | then-e-top-2 v ↦ bits_below s.m.p odd e _ s.prepared.scaled (eqb-true _ _ (sym v.value-is ∙ w.if-e-eq1.true)) (omega arith)
        | else-e-top-2 v ↦ let less = ltb-true _ _ (sym v.value-is ∙ w.if-e-eq1.true) in absurd (omega (arith, less))
      ]
    ])

pub returns : goal.returns
returns c =
    let s = c.args.self in
    let e = c.args.e in
    let odd = is_modulus s.m in
    elim c.if-e-top-2.branch [
      | then-e-top-2 w ↦
          let even = eqb-false _ _ (sym w.value-is ∙ c.if-e-eq1.false) in
          bits_even s.m.p odd e (omega (arith, even)) (omega arith)
      | else-e-top-2 w ↦ bits_above s.m.p odd e (omega arith)
    ]
