-- The condition records as the loop that reads them meets them: the bytes from one record on, and what reading the first of them
-- says of reading all.
-- Assumes nothing.
use Rattle.std.proofs.Common.{◌≡◌, refl, sym, ap, ◌∙◌, List, [], ◌∷◌, ℕ, suc, ◌+◌, ◌-◌, ◌*◌, ◌≤◌, ◌<◌, max, arith, zero-add, add-zero, mul-le-mul_left, drop, drop-drop}
use native.Mathlib.Nat.{sub-zero}
use Rattle.answer.specs.Outcome.{Answer, refused, accepted, on_answer}
use Rattle.answer.proofs.Outcome.{on_answer_same}
use Rattle.field.specs.Sum.{total}
use Rattle.field.proofs.Tests.{in_range}
use Rattle.digits.specs.Number.{most_digits}
use Rattle.circuit.specs.Sums.{largest}
use Rattle.circuit.proofs.Records.{lent_from, lent_all, one_less}
use Rattle.comparison.specs.Condition.{Condition}
use Rattle.query.specs.Card.{most_conditions, slots_of, left_count, total_weight}
use Rattle.query.specs.Form.{Form, record_size}
use Rattle.query.specs.Reading.{read_condition, read_conditions}
use Rattle.query.proofs.Form.{left_within}
use Rattle.query.proofs.Reading.{says}
use Rattle.card.specs.declared.Sums.{Sums}
use Rattle.card.specs.Parts.{sums_of, read_sums}

-- a record that is one of count ends within them
pub record_within : (size count k : ℕ) → k < count → size * k + size ≤ size * count
record_within size count k l = omega (arith, mul-le-mul_left size l)

-- ---- sums over conditions

-- of none
abbrev no_sums : Sums
no_sums = record { slots = 0; weights = 0; left = 0 }

-- sums so far with one condition more, and with all that are left
abbrev with_one : Sums → Condition → Sums
with_one sums c =
    record { slots = sums.slots + c.digits; weights = sums.weights + c.weight; left = max sums.left (c.left + c.digits) }

abbrev summed : Sums → List Condition → Sums
summed sums cs =
    record { slots = sums.slots + slots_of cs; weights = sums.weights + total_weight cs; left = max sums.left (left_count cs) }

three : (a b c x y z : ℕ) → a ≡ x → b ≡ y → c ≡ z
    → ◌≡◌ {A = Sums} (record { slots = a; weights = b; left = c }) (record { slots = x; weights = y; left = z })
three a b c x y z p q r = rw (p, q, r)

summed_none : (cs : List Condition) → summed no_sums cs ≡ sums_of cs
summed_none cs = three _ _ _ _ _ _ (zero-add (slots_of cs)) (zero-add (total_weight cs)) (omega arith)

summed_all : (sums : Sums) → summed sums [] ≡ sums
unfolding total largest
summed_all sums = three _ _ _ _ _ _ (add-zero sums.slots) (add-zero sums.weights) (omega arith)

summed_more : (sums : Sums) (c : Condition) (cs : List Condition) → summed sums (c ∷ cs) ≡ summed (with_one sums c) cs
unfolding total largest
summed_more sums c cs = three _ _ _ _ _ _ (omega arith) (omega arith) (omega arith)

module _ (form : Form) (p : ℕ) where
  -- ---- the records

  -- the bytes from record number k on
  abbrev record_at : List ℕ → ℕ → List ℕ
  record_at records k = drop (record_size form * k) records

  next_record : (records : List ℕ) (k : ℕ) → record_at records (k + 1) ≡ drop (record_size form) (record_at records k)
  next_record records k =
      let after : record_size form * (k + 1) ≡ record_size form * k + record_size form = omega arith in rw (after, drop-drop)

  -- ---- the first record

  -- the first is refused, and so are all
  first_refused : (slot count number : ℕ) (bytes : List ℕ) → read_condition form p slot bytes ≡ refused number
      → read_conditions form p slot (suc count) bytes ≡ refused number
  unfolding read_conditions
  first_refused slot count number bytes e = rw e

  -- the first is read, and the others are left
  first_read : (slot count : ℕ) (bytes : List ℕ) (c : Condition) → read_condition form p slot bytes ≡ accepted c
      → read_conditions form p slot (suc count) bytes
      ≡ on_answer (read_conditions form p (slot + c.digits) count (drop (record_size form) bytes)) refused (λ cs. accepted (c ∷ cs))
  unfolding read_conditions
  first_read slot count bytes c e = rw e

  -- ---- adding up the digits and the weights, and the left slots that are used

  -- what was added up so far, and that of the conditions that are left
  abbrev adding : Sums → Answer (List Condition) → Answer Sums
  adding sums read = on_answer read refused (λ cs. accepted (summed sums cs))

  one_more : (sums : Sums) (c : Condition) (read : Answer (List Condition))
      → adding sums (on_answer read refused (λ cs. accepted (c ∷ cs))) ≡ adding (with_one sums c) read
  one_more sums c (refused number) = refl
  one_more sums c (accepted cs) = ap accepted (summed_more sums c cs)

  -- what is known between two turns: k records of count are read
  pub record AddsUp (records : List ℕ) (count k : ℕ) (sums : Sums) (whole : Answer Sums) : Type 0 where
    pub few : (sums.slots ≤ most_digits * k) × (sums.weights ≤ 255 * k)
    pub goes : adding sums (read_conditions form p sums.slots (count - k) (record_at records k)) ≡ whole

  pub starts : (records : List ℕ) (count : ℕ) → AddsUp records count 0 no_sums (read_sums form p count records)
  starts records count =
      let none : record_size form * 0 ≡ 0 = omega arith in
      record {
        few = omega arith;
        goes = rw (sub-zero, none) (on_answer_same (read_conditions form p 0 count records) refused (λ cs. ap accepted (summed_none cs)));
      }

  pub finishes : (records : List ℕ) (count k : ℕ) (sums : Sums) (whole : Answer Sums) → count ≤ k
      → AddsUp records count k sums whole → accepted sums ≡ whole
  unfolding read_conditions
  finishes records count k sums whole h s =
      let none : count - k ≡ 0 = omega arith in ap accepted (sym (summed_all sums)) ∙ rw none at s.goes

  module _ (records : List ℕ) (size count k : ℕ) (sums : Sums) (whole : Answer Sums) (is : size ≡ record_size form) (l : k < count)
      (s : AddsUp records count k sums whole) where
    abbrev slots : ℕ
    slots = sums.slots

    -- the bytes as the code lends them
    lent_is : lent_from records (size * k) ≡ record_at records k
    lent_is = lent_all records (size * k) ∙ ap (λ (n : ℕ). drop (n * k) records) is

    -- what is left, from this record on
    going : adding sums (read_conditions form p slots (suc (count - (k + 1))) (record_at records k)) ≡ whole
    going = rw (one_less count k l) at s.goes

    pub refuses : (number : ℕ) → refused number ≡ read_condition form p slots (lent_from records (size * k)) → refused number ≡ whole
    refuses number e =
        let first = ap (read_condition form p slots) (sym lent_is) ∙ sym e in
        rw (first_refused slots (count - (k + 1)) number (record_at records k) first) at going

    module _ (c : Condition) (e : accepted c ≡ read_condition form p slots (lent_from records (size * k))) where
      first : read_condition form p slots (record_at records k) ≡ accepted c
      first = ap (read_condition form p slots) (sym lent_is) ∙ sym e

      digits_few : c.digits ≤ most_digits
      digits_few = (in_range c.digits 1 most_digits (says form p slots (record_at records k) c first).count).1

      -- the left slots of one of at most eight conditions end within a byte
      pub left_few : count ≤ most_conditions → c.left + c.digits ≤ 255
      left_few many =
          left_within form p slots 255 c (says form p slots (record_at records k) c first).tail.kept (omega arith) (omega (arith, s.few, digits_few))

      -- a weight is a byte
      pub adds : c.weight ≤ 255 → AddsUp records count (k + 1) (with_one sums c) whole
      adds byte =
          let others = read_conditions form p (slots + c.digits) (count - (k + 1)) (drop (record_size form) (record_at records k)) in
          record {
            few = omega (arith, s.few, byte, digits_few);
            goes = rw (next_record records k)
                (sym (one_more sums c others) ∙ rw (first_read slots (count - (k + 1)) (record_at records k) c first) at going);
          }
