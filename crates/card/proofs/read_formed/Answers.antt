use Rattle.std.proofs.Common.{◌≡◌, ℕ, ◌+◌, ◌*◌, true, false, not, List, length, drop, eqb, sym, ap₂, ◌∙◌, eq-eqb}
use Rattle.answer.specs.Outcome.{accepted}
use Rattle.field.specs.Primes.{listed}
use Rattle.field.proofs.Tests.{zero_only}
use Rattle.circuit.specs.Bytes.{byte}
use Rattle.circuit.specs.Table.{wrong_weight}
use Rattle.query.specs.Card.{wrong_condition_count}
use Rattle.query.specs.Form as query
use Rattle.card.specs.Parts.{form_is, read_sums, read_formed_summary}
use Rattle.card.proofs.Summary.{telling, records_lent, told_sums}
use Rattle.card.proofs.read_formed.Goals as goal

pub returns : goal.returns
returns c =
    let form : query.Form = form_is c.args.form in
    let bytes : List ℕ = c.args.card.now in
    let prime : listed (byte bytes 2) ≡ true = sym c.is_listed.ensures ∙ c.if-not-is_listed.false in
    let weight : wrong_weight (byte bytes 3) ≡ false = rw c.from.ensures at (sym c.outside.ensures) ∙ c.if-outside.false in
    let spare : not (eqb (byte bytes 5) 0) ≡ false = rw zero_only (rw c.from-2.ensures at (sym c.outside-2.ensures) ∙ c.if-outside-2.false) in
    let count : wrong_condition_count (byte bytes 4) ≡ false = rw c.from-3.ensures at (sym c.outside-3.ensures) ∙ c.if-outside-3.false in
    let size : length bytes ≡ 6 + query.record_size form * byte bytes 4 =
    c.if-card-record_size.false ∙ ap₂ (λ (m n : ℕ). 6 + m * n) c.record_size.ensures c.from-4.ensures in
    let tells : telling form (byte bytes 2) (byte bytes 3) (byte bytes 4) (drop 6 bytes) ≡ read_formed_summary form bytes =
    rw (prime, weight, spare, count, eq-eqb _ _ size) in
    let read : accepted c.in_ok-sums.sums ≡ read_sums form (byte bytes 2) (byte bytes 4) (drop 6 bytes) =
    rw (c.from-5.ensures, records_lent) at (c.in_ok-sums.ensures) in
    c.limit_sums.ensures ∙ told_sums _ _ _ _ _ _ read ∙ tells
