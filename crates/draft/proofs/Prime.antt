-- The prime of a card that was read: a modulus, and above every weight of a score card.
-- Assumes nothing.
use mathlib.Core.Path.{◌≡◌, sym, ap, subst, ◌∙◌}
use mathlib.Core.List.{List}
use Prim.Native.Nat.{ℕ, ◌<◌}
use native.Mathlib.Omega.{arith}
use Rattle.field.specs.Modular.{residue}
use Rattle.field.proofs.Modular.{residue_small}
use Rattle.circuit.specs.Constant.{code, signed, bits_of}
use Rattle.circuit.specs.Every.{Every}
use Rattle.circuit.proofs.Constant.{bits_code}
use Rattle.circuit.proofs.Every.{every_drop}
use Rattle.query.specs.Card.{AsksScore, total_weight}
use Rattle.query.specs.Form.{Score, question_of}
use Rattle.query.proofs.CardFacts.{accepted_card}
use Rattle.query.proofs.Score.{each_below}
use Rattle.card.specs.declared.CardHead.{CardHead}
use Rattle.card.specs.Conditions.{ReadAs, conditions_of, IsWeight}
use Rattle.card.specs.Parts.{form_is, Summary}
use Rattle.card.proofs.ReadAs.{known_as}
use Rattle.writer.specs.Modulus.{Modulus}

pub prime_usable : (bytes : List ℕ) (head : CardHead) → ReadAs bytes head → Modulus head.prime
prime_usable bytes head e =
    let all = known_as bytes head e in
    let known = (accepted_card bytes all.card all.reads).prime in
    subst Modulus (sym (ap (λ (s : Summary). s.prime) all.says)) (known.low, known.odd, omega (arith, known.high))

-- a weight of a score card is below it, and so is read back from its sixteen bits
pub weight_read : (bytes : List ℕ) (head : CardHead) (k w : ℕ) → ReadAs bytes head → question_of (form_is head.form) ≡ Score → IsWeight (conditions_of bytes) k w
    → signed (bits_of head.prime (residue head.prime w)) ≡ code head.prime w
weight_read bytes head k w e score is =
    let all = known_as bytes head e in
    let known = accepted_card bytes all.card all.reads in
    let p : head.prime ≡ all.card.prime = ap (λ (s : Summary). s.prime) all.says in
    let asks : AsksScore all.card = sym (ap (λ (s : Summary). question_of s.form) all.says) ∙ score in
    let below : total_weight (conditions_of bytes) < head.prime = omega (arith, ap total_weight all.conditions, p, known.weights asks) in
    let each = every_drop (λ (v : ℕ). v < head.prime) k _ (each_below head.prime (conditions_of bytes) below) in
    let here : w < head.prime = (subst (Every (λ (v : ℕ). v < head.prime)) is each).0 in
    let modulus = prime_usable bytes head e in
    ap (λ (v : ℕ). signed (bits_of head.prime v)) (residue_small head.prime w here)
    ∙ (bits_code head.prime w modulus.1 (omega (arith, modulus)) here).1
