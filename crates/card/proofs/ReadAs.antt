-- A card that was read: the card that it is, its conditions and their slots, and that record number k is read as the condition of
-- that number.
-- Assumes nothing.
use Rattle.std.proofs.Common.{◌≡◌, refl, sym, ap, ap₂, subst, ◌∙◌, List, [], ◌∷◌, ◌++◌, ℕ, zero, suc, ◌+◌, ◌*◌, ◌≤◌, ◌<◌, arith, zero-add, eqb-true, length, get_or, take, drop, take-append-drop, drop-drop, take-add, get_or-drop, length-drop}
use Rattle.answer.specs.Outcome.{accepted, numbered}
use Rattle.answer.proofs.Outcome.{answered, accepted_same}
use Rattle.field.specs.Sum.{total}
use Rattle.field.proofs.Tests.{both}
use Rattle.digits.specs.Number.{most_digits}
use Rattle.circuit.specs.Bytes.{byte}
use Rattle.circuit.specs.Every.{Every}
use Rattle.circuit.proofs.Every.{every_map, every_drop}
use Rattle.circuit.proofs.Records.{lent_from, lent_all}
use Rattle.comparison.specs.Condition.{Condition, HasSlots}
use Rattle.comparison.specs.Relation.{Relation, relation_number, relations}
use Rattle.comparison.proofs.Relations.{relation_back}
use Rattle.query.specs.Card.{Card, most_conditions, slots_of}
use Rattle.query.specs.Form.{head_size, Form, Plain, Scored, Shared, record_size, takes_next}
use Rattle.query.specs.Reading.{read_condition, read_card}
use Rattle.query.specs.Score.{weights_of}
use Rattle.query.proofs.CardFacts.{accepted_card}
use Rattle.query.proofs.Form.{plain≢shared, scored≢shared, shared_keeps, tail_left, tail_right, Tail}
use Rattle.query.proofs.OverConditions.{over_append}
use Rattle.query.proofs.Reading.{Says, says, condition_at, reads}
use Rattle.relations.specs.Relations.{relation_is}
use Rattle.card.specs.declared.CardHead.{CardHead}
use Rattle.card.specs.declared.Record.{Record}
use Rattle.card.specs.Parts.{form_is, record_is, records_from, weight_in, left_in, Summary, summary, head_is}
use Rattle.card.specs.Conditions.{ReadAs, conditions_of, Taken, IsRecord, IsWeight}
use Rattle.card.proofs.Records.{record_within}

-- what is known of a card that was read
pub record Known (bytes : List ℕ) (head : CardHead) : Type 0 where
  pub card : Card
  pub reads : read_card bytes ≡ accepted card
  pub says : head_is head ≡ summary card
  -- the conditions are the card's
  pub conditions : conditions_of bytes ≡ card.conditions

pub conditions_are : (bytes : List ℕ) (card : Card) → read_card bytes ≡ accepted card → conditions_of bytes ≡ card.conditions
conditions_are bytes card e = rw e

pub known_as : (bytes : List ℕ) (head : CardHead) → ReadAs bytes head → Known bytes head
known_as bytes head e =
    let card = answered (read_card bytes) (λ card. accepted (summary card)) (sym e) in
    record { card = card.0; reads = card.1; says = sym (accepted_same card.2); conditions = conditions_are bytes card.0 card.1 }

-- the conditions are as many as the head says, 1 to 8
pub as_many : (bytes : List ℕ) (head : CardHead) → ReadAs bytes head
    → (length (conditions_of bytes) ≡ head.count) × (1 ≤ head.count) × (head.count ≤ most_conditions)
as_many bytes head e =
    let read = known_as bytes head e in
    let count = (accepted_card bytes read.card read.reads).count in
    let told = ap (λ (s : Summary). s.count) read.says in
    (ap length read.conditions ∙ sym told, omega (arith, told, count), omega (arith, told, count))

-- each condition has its slots among the most that a card has
all_slotted : (bytes : List ℕ) (head : CardHead) → ReadAs bytes head → Every (HasSlots most_digits most_digits) (conditions_of bytes)
all_slotted bytes head e =
    let read = known_as bytes head e in
    let kept = accepted_card bytes read.card read.reads in
    subst (Every (HasSlots most_digits most_digits)) (sym read.conditions)
    (every_map (λ (c : Condition) h. (h.0, omega (arith, h, kept.sides), omega (arith, h, kept.sides))) read.card.conditions kept.each)

-- and so has the one that a record is
pub record_slotted : (bytes : List ℕ) (head : CardHead) (k : ℕ) (r : Record) → ReadAs bytes head → IsRecord (conditions_of bytes) k r
    → HasSlots most_digits most_digits (record_is r)
record_slotted bytes head k r e is =
    (subst (Every (HasSlots most_digits most_digits)) is (every_drop (HasSlots most_digits most_digits) k (conditions_of bytes) (all_slotted bytes head e))).0

-- ---- the slots, one condition after the other

-- the slots that are taken before the first condition, and after one more
pub slots_none : (cs : List Condition) → Taken cs 0 0
unfolding total
slots_none cs = refl

pub slots_next : (cs : List Condition) (k slot : ℕ) (c : Condition) → Taken cs k slot → drop k cs ≡ c ∷ drop (k + 1) cs
    → Taken cs (k + 1) (slot + c.digits)
unfolding total
slots_next cs k slot c so_far is =
    let longer = take-add k 1 cs ∙ ap (λ (l : List Condition). take k cs ++ take 1 l) is in
    omega (arith, so_far, ap slots_of longer, over_append (λ (c : Condition). c.digits) (take k cs) (c ∷ []))

-- they are never more than a card has
slots_few : (bytes : List ℕ) (head : CardHead) (k : ℕ) → ReadAs bytes head → slots_of (take k (conditions_of bytes)) ≤ most_digits
slots_few bytes head k e =
    let read = known_as bytes head e in
    let cs = conditions_of bytes in
    omega (
      arith,
      ap slots_of (take-append-drop k cs),
      over_append (λ (c : Condition). c.digits) (take k cs) (drop k cs),
      ap slots_of read.conditions,
      (accepted_card bytes read.card read.reads).slots,
    )

-- so after the condition at hand
pub slots_after : (bytes : List ℕ) (head : CardHead) (k slot : ℕ) (r : Record) → ReadAs bytes head
    → Taken (conditions_of bytes) k slot → IsRecord (conditions_of bytes) k r
    → Taken (conditions_of bytes) (k + 1) (slot + r.digits) × (slot + r.digits ≤ most_digits)
slots_after bytes head k slot r e so_far is =
    let next = slots_next (conditions_of bytes) k slot (record_is r) so_far is in (next, omega (arith, next, slots_few bytes head (k + 1) e))

-- ---- record number k

-- a record at this place, of a form and a prime, is the condition of number k
abbrev ReadAt : List ℕ → ℕ → Summary → List Condition → Type 0
ReadAt bytes k said cs =
    (c : Condition)
    × (drop k cs ≡ c ∷ drop (k + 1) cs)
    × (read_condition said.form said.prime (slots_of (take k cs)) (records_from said.form k bytes) ≡ accepted c)

-- in the bytes of a card
module _ (bytes : List ℕ) (card : Card) (k : ℕ) (e : read_card bytes ≡ accepted card) (l : k < length card.conditions) where
  in_card : head_size + record_size card.form * k + record_size card.form ≤ length bytes
  in_card =
      let r = reads bytes card e in
      omega (
        arith,
        record_within (record_size card.form) (length card.conditions) k l,
        r.size,
        ap (λ (n : ℕ). record_size card.form * n) r.count,
      )

  of_card : ReadAt bytes k (summary card) card.conditions
  of_card =
      let r = reads bytes card e in
      let found = condition_at card.form card.prime 0 (byte bytes 4) k (drop head_size bytes) card.conditions r.conditions (omega (arith, l, r.count)) in
      (found.0, found.1, ap₂ (read_condition card.form card.prime) (sym (zero-add _)) (sym (drop-drop (record_size card.form * k) head_size bytes)) ∙ found.2)

-- the same as the code holds it
module _ (bytes : List ℕ) (head : CardHead) (k : ℕ) (e : ReadAs bytes head) (l : k < head.count) where
  abbrev read : Known bytes head
  read = known_as bytes head e

  few : k < length read.card.conditions
  few = omega (arith, l, ap (λ (s : Summary). s.count) read.says)

  -- the record lies within the bytes, its size being that of the form
  pub record_long : (size : ℕ) → size ≡ record_size (form_is head.form) → head_size + size * k + record_size (form_is head.form) ≤ length bytes
  record_long size is =
      let long = subst (λ (s : Summary). head_size + record_size s.form * k + record_size s.form ≤ length bytes) (sym read.says) (in_card bytes read.card k read.reads few) in
      omega (arith, ap (λ (n : ℕ). n * k) is, long)

  record_read : ReadAt bytes k (head_is head) (conditions_of bytes)
  record_read =
      subst (λ (s : Summary). ReadAt bytes k s (conditions_of bytes)) (sym read.says)
      (subst (ReadAt bytes k (summary read.card)) (sym read.conditions) (of_card bytes read.card k read.reads few))

  -- and is the condition of its number, the bytes from it on being these
  pub record_told : (slot : ℕ) (from : List ℕ) → slot ≡ slots_of (take k (conditions_of bytes)) → from ≡ records_from (form_is head.form) k bytes
      → (c : Condition)
      × (drop k (conditions_of bytes) ≡ c ∷ drop (k + 1) (conditions_of bytes))
      × (read_condition (form_is head.form) head.prime slot from ≡ accepted c)
  record_told slot from e place =
      let told = record_read in (told.0, told.1, ap₂ (read_condition (form_is head.form) head.prime) e place ∙ told.2)

-- ---- what a record says, by its bytes

-- its weight, as its form has it
weight_in_lem : (form : Form) (p slot : ℕ) (r : Relation) (n : ℕ) (bytes : List ℕ) (c : Condition) → record_size form ≤ length bytes
    → Tail form p slot r n bytes c → c.weight ≡ weight_in form bytes
weight_in_lem Plain p slot r n bytes c l t = eqb-true c.weight 0 (both (takes_next slot c) _ t.kept).1
weight_in_lem Scored p slot r n bytes c l t = ap (λ (tail : List ℕ). get_or tail 0 0) (sym (t.after l)) ∙ get_or-drop 4 bytes 0 0
weight_in_lem Shared p slot r n bytes c l t = (shared_keeps p slot c t.kept).2

-- its first left slot, likewise
left_in_lem : (form : Form) (p slot : ℕ) (r : Relation) (n : ℕ) (bytes : List ℕ) (c : Condition) → record_size form ≤ length bytes
    → Tail form p slot r n bytes c → c.left ≡ left_in form slot bytes
left_in_lem Plain p slot r n bytes c l t = tail_left Plain p slot c plain≢shared t.kept
left_in_lem Scored p slot r n bytes c l t = tail_left Scored p slot c scored≢shared t.kept
left_in_lem Shared p slot r n bytes c l t = ap (λ (tail : List ℕ). get_or tail 0 0) (sym (t.after l)) ∙ get_or-drop 4 bytes 0 0

abbrev condition_with : Relation → ℕ → ℕ → ℕ → ℕ → Condition
condition_with r n l s w = record { relation = r; digits = n; left = l; right = s; weight = w }

module _ (form : Form) (p slot : ℕ) (bytes : List ℕ) (c : Condition) (long : record_size form ≤ length bytes)
    (e : read_condition form p slot bytes ≡ accepted c) where
  told : Says form p slot bytes c
  told = says form p slot bytes c e

  -- its relation is that of the number
  pub relation_told : numbered 8 (byte bytes 2) relations ≡ accepted c.relation
  relation_told = rw told.relation at (relation_back c.relation)

  -- its weight and its first left slot, where its form keeps them
  pub weight_told : c.weight ≡ weight_in form bytes
  weight_told = weight_in_lem form p slot _ _ bytes c long told.tail

  left_told : c.left ≡ left_in form slot bytes
  left_told = left_in_lem form p slot _ _ bytes c long told.tail

  -- so a record with these fields is the condition
  pub is_condition : (r : Record) → accepted (relation_is r.relation) ≡ numbered 8 (byte bytes 2) relations → r.digits ≡ byte bytes 3
      → r.left ≡ left_in form slot bytes → r.right ≡ slot → r.weight ≡ weight_in form bytes → record_is r ≡ c
  is_condition r number digits left right weight =
      let relation = accepted_same (number ∙ relation_told) in
      let count = digits ∙ sym told.tail.digits in
      let heavy = weight ∙ sym weight_told in
      let kept = told.tail.kept in
      ap₂ (λ (q : Relation) (n : ℕ). condition_with q n r.left r.right r.weight) relation count
      ∙ ap₂ (λ (a b : ℕ). condition_with c.relation c.digits a b r.weight) (left ∙ sym left_told) (right ∙ sym (tail_right form p slot c kept))
      ∙ ap (condition_with c.relation c.digits c.left c.right) heavy

-- the same of a record that stands at a place, by the number of its relation
pub is_condition_at : (form : Form) (p slot at : ℕ) (bytes : List ℕ) (c : Condition) → at + record_size form ≤ length bytes
    → read_condition form p slot (lent_from bytes at) ≡ accepted c → (r : Record) → relation_number (relation_is r.relation) ≡ byte bytes (at + 2)
    → r.digits ≡ byte bytes (at + 3) → r.left ≡ left_in form slot (drop at bytes) → r.right ≡ slot → r.weight ≡ weight_in form (drop at bytes)
    → record_is r ≡ c
is_condition_at form p slot at bytes c l e r number digits left right weight =
    is_condition form p slot (drop at bytes) c (rw length-drop (omega arith)) (ap (read_condition form p slot) (sym (lent_all bytes at)) ∙ e) r
    (sym (relation_back (relation_is r.relation)) ∙ ap (λ (n : ℕ). numbered 8 n relations) (number ∙ sym (get_or-drop at bytes 2 0)))
    (digits ∙ sym (get_or-drop at bytes 3 0)) left right weight

-- the weight of a condition is that of its number
pub weight_is : (cs : List Condition) (k : ℕ) (c : Condition) (w : ℕ) → drop k cs ≡ c ∷ drop (k + 1) cs → c.weight ≡ w → IsWeight cs k w
weight_is cs k c w is e =
    drop_map k cs ∙ ap weights_of is ∙ ap₂ (λ (v : ℕ) (vs : List ℕ). v ∷ vs) e (sym (drop_map (k + 1) cs))
  where
    drop_map : (n : ℕ) (ds : List Condition) → drop n (weights_of ds) ≡ weights_of (drop n ds)
    drop_map zero ds = refl
    drop_map (suc n) [] = refl
    drop_map (suc n) (d ∷ ds) = drop_map n ds
