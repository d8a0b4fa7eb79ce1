-- Input longer than any card is refused as its first bytes are: no rule before the seventh looks past the head,
-- and whatever count the head has, neither length is a card's.
-- Assumes nothing.
use Rattle.std.proofs.Common.{◌≡◌, refl, ap, Bool, true, false, not, List, ℕ, ◌+◌, ◌*◌, ◌≤◌, ◌<◌, arith, mul-le-mul, le-ltb, ne_eqb, eqb, length, take, length-take-le, get_or-take}
use Rattle.answer.specs.Outcome.{Answer, refused, accepted, refuse}
use Rattle.answer.proofs.Outcome.{on_answer_same}
use Rattle.field.specs.Primes.{listed}
use Rattle.field.proofs.Tests.{in_range}
use Rattle.circuit.specs.Bytes.{byte}
use Rattle.circuit.specs.Table.{wrong_weight}
use Rattle.query.specs.Card.{Card, wrong_condition_count, most_conditions}
use Rattle.query.specs.Form.{head_size, Form, record_size, form_of}
use Rattle.query.specs.Reading.{read_card}
use Rattle.query.proofs.CardFacts.{accepted_card}
use Rattle.query.proofs.Form.{record_most}
use Rattle.query.proofs.Reading.{reads}
use Rattle.listing.specs.Promises.{most_card, LongCard}

-- the sixth and the seventh rule
abbrev counted : Form → ℕ → ℕ → Answer Card → Answer Card
counted form size count later =
    refuse (wrong_condition_count count) (refused 6) (refuse (not (eqb size (head_size + record_size form * count))) (refused 7) later)

-- a card of few conditions is not too long, whatever its form
short : (form : Form) (count : ℕ) → count ≤ most_conditions → head_size + record_size form * count ≤ most_card
short form count few = omega (arith, mul-le-mul (record_most form) few)

-- two lengths that no card has
counted_same : (form : Form) (size size' count : ℕ) (later later' : Answer Card) → most_card < size → most_card < size'
    → counted form size count later ≡ counted form size' count later'
counted_same form size size' count later later' l l' = go (wrong_condition_count count) refl
  where
    go : (test : Bool) → wrong_condition_count count ≡ test → counted form size count later ≡ counted form size' count later'
    go true e = rw e
    go false e =
        let asked = head_size + record_size form * count in
        let least = short form count (in_range count 1 most_conditions e).1 in
        rw (e, ne_eqb size asked (λ same. omega arith), ne_eqb size' asked (λ same. omega arith))

long_read : (bytes : List ℕ) → most_card < length bytes → read_card (take (most_card + 1) bytes) ≡ read_card bytes
long_read bytes l =
    rw (
      length-take-le (most_card + 1) bytes l,
      le-ltb (length bytes) head_size (omega arith),
      get_or-take (most_card + 1) bytes 0 0 (omega arith),
      get_or-take (most_card + 1) bytes 1 0 (omega arith),
      get_or-take (most_card + 1) bytes 2 0 (omega arith),
      get_or-take (most_card + 1) bytes 3 0 (omega arith),
      get_or-take (most_card + 1) bytes 4 0 (omega arith),
      get_or-take (most_card + 1) bytes 5 0 (omega arith),
    )
    (on_answer_same (form_of bytes) refused (λ form.
    ap (λ (later : Answer Card).
    refuse (not (listed (byte bytes 2))) (refused 3)
    (refuse (wrong_weight (byte bytes 3)) (refused 4)
    (refuse (not (eqb (byte bytes 5) 0)) (refused 5) later)))
    (counted_same form (most_card + 1) (length bytes) (byte bytes 4) _ _ (omega arith) l)))

-- a card that is accepted is as long as its count says
long_refused : (bytes : List ℕ) → most_card < length bytes → (number : ℕ) × (read_card bytes ≡ refused number)
long_refused bytes l = go (read_card bytes) refl
  where
    go : (read : Answer Card) → read_card bytes ≡ read → (number : ℕ) × (read_card bytes ≡ refused number)
    go (refused number) e = (number, e)
    go (accepted card) e =
        let r = reads bytes card e in
        absurd (omega (arith, r.size, short card.form (byte bytes 4) (omega (arith, r.count, (accepted_card bytes card e).count.1))))

pub long_card : LongCard
long_card bytes l =
    let refusal = long_refused bytes l in ((refusal.0, rw refusal.1), rw (long_read bytes l), rw (long_read bytes l))
