-- Reading cards: the bytes of a card that keeps the rules read as that card, and whatever is read is such a card, byte for byte.
-- A record's bytes and its condition determine each other, by the laws of its form;
-- the conditions follow by induction on the records, the head by its rules one at a time.
-- Assumes nothing.
use mathlib.Core.Path.{◌≡◌, refl, sym, ap, ap₂, subst, ◌∙◌}
use mathlib.Core.Bool.{Bool, true, false, not, ◌&&◌, and_assoc}
use mathlib.Core.List.{List, [], ◌∷◌, ◌++◌}
use Prim.Native.Nat.{ℕ, zero, suc, ◌+◌, ◌*◌, ◌≤◌, ◌<◌}
use native.Mathlib.Omega.{arith}
use native.Mathlib.Nat.{zero-add, add-zero}
use borrow.Author.Tests.{eq-eqb, le-ltb, eqb-true, not-true, not-false}
use lib.Dec.{ltb, eqb}
use lib.ListN.{length, take, drop, length-append, length-drop}
use lib.Seq.{drop_at, drop-cons, drop-drop}
use Rattle.answer.specs.Outcome.{Answer, refused, accepted, numbered}
use Rattle.answer.proofs.Outcome.{passed, answered, accepted_same, numbered_is}
use Rattle.field.specs.Primes.{listed}
use Rattle.field.specs.Sum.{total}
use Rattle.field.proofs.Tests.{both}
use Rattle.digits.specs.Number.{most_digits, wrong_count}
use Rattle.circuit.specs.Bytes.{byte, wrong_mark}
use Rattle.circuit.specs.Table.{wrong_weight}
use Rattle.circuit.proofs.Reading.{mark_back, mark_is}
use Rattle.comparison.specs.Condition.{Condition}
use Rattle.comparison.specs.Relation.{Relation, relation_number, relations}
use Rattle.comparison.proofs.Relations.{relation_back}
use Rattle.query.specs.Card.{Card, wrong_condition_count, slots_of, total_weight, wrong_total, condition_bytes, conditions_bytes, card_bytes, in_slots, keeps_rules}
use Rattle.query.specs.CardPromises.{AcceptsCards, OnlyCards}
use Rattle.query.specs.Form.{head_size, Form, question_of, head_mark_of, record_mark_of, record_size, form_of, tail_bytes, keeps_tail}
use Rattle.query.specs.Reading.{read_condition, read_conditions, read_limits, read_formed, read_card}
use Rattle.query.proofs.Form.{form_back, form_marked, record_length, tail_back, Tail, tail_says}

-- ---- the rules one by one

-- every rule that a card keeps
pub record Keeps (card : Card) : Type 0 where
  pub prime : listed card.prime ≡ true
  pub weight : wrong_weight card.weight ≡ false
  pub count : wrong_condition_count (length card.conditions) ≡ false
  pub placed : in_slots card.form card.prime 0 card.conditions ≡ true
  pub slots : ltb most_digits (slots_of card.conditions) ≡ false
  pub weights : wrong_total (question_of card.form) card.prime (total_weight card.conditions) ≡ false

keeps : (card : Card) → keeps_rules card ≡ true → Keeps card
keeps card t =
    let prime = both (listed card.prime) _ t in
    let weight = both (not (wrong_weight card.weight)) _ prime.1 in
    let count = both (not (wrong_condition_count (length card.conditions))) _ weight.1 in
    let placed = both (in_slots card.form card.prime 0 card.conditions) _ count.1 in
    let limits = both (not (ltb most_digits (slots_of card.conditions))) _ placed.1 in
    record {
      prime = prime.0;
      weight = not-true _ weight.0;
      count = not-true _ count.0;
      placed = placed.0;
      slots = not-true _ limits.0;
      weights = not-true _ limits.1;
    }

pub keeps_rules_lem : (card : Card) → Keeps card → keeps_rules card ≡ true
keeps_rules_lem card k = rw (k.prime, k.weight, k.count, k.placed, k.slots, k.weights)

-- of the first condition, where this slot is the next that is free, and of the others
pub record Placed (form : Form) (p slot : ℕ) (c : Condition) (cs : List Condition) : Type 0 where
  pub count : wrong_count c.digits ≡ false
  pub tail : keeps_tail form p slot c ≡ true
  pub later : in_slots form p (slot + c.digits) cs ≡ true

pub in_slots_lem : (form : Form) (p slot : ℕ) (c : Condition) (cs : List Condition) → in_slots form p slot (c ∷ cs) ≡ true → Placed form p slot c cs
unfolding in_slots
in_slots_lem form p slot c cs t =
    let count = both (not (wrong_count c.digits)) _ t in
    let tail = both (keeps_tail form p slot c) _ count.1 in
    record { count = not-true _ count.0; tail = tail.0; later = tail.1 }

-- conditions after others take the slots after theirs
pub placed_append : (form : Form) (p slot : ℕ) (cs ds : List Condition)
    → in_slots form p slot (cs ++ ds) ≡ (in_slots form p slot cs && in_slots form p (slot + slots_of cs) ds)
unfolding in_slots total
placed_append form p slot [] ds = rw (add-zero slot)
placed_append form p slot (c ∷ cs) ds =
    let n = not (wrong_count c.digits) in
    let k = keeps_tail form p slot c in
    let own = in_slots form p (slot + c.digits) cs in
    let at : slot + c.digits + slots_of cs ≡ slot + (c.digits + slots_of cs) = omega arith in
    ap (λ (b : Bool). n && (k && b)) (placed_append form p (slot + c.digits) cs ds ∙ ap (λ (i : ℕ). own && in_slots form p i ds) at)
    ∙ rw (and_assoc n (k && own), and_assoc k own)

-- ---- from a card to its bytes and back

module _ (form : Form) (p : ℕ) where
  pub read_condition_lem : (slot : ℕ) (c : Condition) (cs : List Condition) (later : List ℕ) → Placed form p slot c cs
      → read_condition form p slot (condition_bytes form c ++ later) ≡ accepted c
  read_condition_lem slot c cs later h =
      rw (mark_back (record_mark_of form) (relation_number c.relation ∷ c.digits ∷ (tail_bytes form c ++ later)), relation_back c.relation, h.count)
      (tail_back form p slot c later h.tail)

  read_conditions_lem : (slot : ℕ) (cs : List Condition) → in_slots form p slot cs ≡ true
      → read_conditions form p slot (length cs) (conditions_bytes form cs) ≡ accepted cs
  unfolding read_conditions conditions_bytes
  read_conditions_lem slot [] t = refl
  read_conditions_lem slot (c ∷ cs) t =
      let h = in_slots_lem form p slot c cs t in
      rw (
        read_condition_lem slot c cs (conditions_bytes form cs) h,
        drop_at (condition_bytes form c) (conditions_bytes form cs) (record_size form) (record_length form c),
        read_conditions_lem (slot + c.digits) cs h.later,
      )

length_conditions : (form : Form) (cs : List Condition) → length (conditions_bytes form cs) ≡ record_size form * length cs
unfolding conditions_bytes
length_conditions form [] = omega arith
length_conditions form (c ∷ cs) =
    omega (arith, length-append (condition_bytes form c) (conditions_bytes form cs), record_length form c, length_conditions form cs)

pub length_card : (card : Card) → length (card_bytes card) ≡ head_size + record_size card.form * length card.conditions
length_card card = omega (arith, length_conditions card.form card.conditions)

pub accepts_cards : AcceptsCards
accepts_cards card t =
    let k = keeps card t in
    let least = le-ltb (length (card_bytes card)) head_size (omega (arith, length_card card)) in
    let size = eq-eqb (length (card_bytes card)) (head_size + record_size card.form * length card.conditions) (length_card card) in
    rw (
      least,
      form_back card.form (card.prime ∷ card.weight ∷ length card.conditions ∷ 0 ∷ conditions_bytes card.form card.conditions),
      k.prime,
      k.weight,
      k.count,
      size,
      read_conditions_lem card.form card.prime 0 card.conditions k.placed,
      k.slots,
      k.weights,
    )

-- ---- from bytes to a card

relation_number_lem : (place : ℕ) (r : Relation) → numbered 8 place relations ≡ accepted r → relation_number r ≡ place
relation_number_lem place r e =
    numbered_is (λ n r. relation_number r ≡ n) 0 8 place relations r (omega arith) e ∙ zero-add _

-- what a record says whose condition was read
pub record Says (form : Form) (p slot : ℕ) (bytes : List ℕ) (c : Condition) : Type 0 where
  pub mark : (byte bytes 0 ≡ (record_mark_of form).opening) × (byte bytes 1 ≡ (record_mark_of form).closing)
  pub relation : relation_number c.relation ≡ byte bytes 2
  pub count : wrong_count c.digits ≡ false
  pub tail : Tail form p slot c.relation (byte bytes 3) bytes c

pub says : (form : Form) (p slot : ℕ) (bytes : List ℕ) (c : Condition) → read_condition form p slot bytes ≡ accepted c → Says form p slot bytes c
says form p slot bytes c e =
    let answer : Answer Condition → Answer Condition = λ r. r in
    let mark = passed answer (wrong_mark (record_mark_of form) bytes) (refused 2) _ refl e in
    let relation = answered (numbered 8 (byte bytes 2) relations) _ mark.1 in
    let count = passed answer (wrong_count (byte bytes 3)) (refused 9) _ refl relation.2 in
    let tail = tail_says form p slot relation.0 (byte bytes 3) bytes c count.1 in
    record {
      mark = mark_is (record_mark_of form) bytes mark.0;
      relation = ap relation_number tail.relation ∙ relation_number_lem (byte bytes 2) relation.0 relation.1;
      count = rw tail.digits count.0;
      tail = subst (λ (r : Relation). Tail form p slot r (byte bytes 3) bytes c) (sym tail.relation) tail;
    }

-- four bytes and those after them
four : (bytes : List ℕ) → 4 ≤ length bytes → bytes ≡ byte bytes 0 ∷ byte bytes 1 ∷ byte bytes 2 ∷ byte bytes 3 ∷ drop 4 bytes
four bytes h =
    drop-cons bytes 0 0 (omega arith)
    ∙ rw (drop-cons bytes 1 0 (omega arith), drop-cons bytes 2 0 (omega arith), drop-cons bytes 3 0 (omega arith))

-- six bytes and those after them
six : (bytes : List ℕ) → 6 ≤ length bytes
    → bytes ≡ byte bytes 0 ∷ byte bytes 1 ∷ byte bytes 2 ∷ byte bytes 3 ∷ byte bytes 4 ∷ byte bytes 5 ∷ drop head_size bytes
six bytes h = four bytes (omega arith) ∙ rw (drop-cons bytes 4 0 (omega arith), drop-cons bytes 5 0 (omega arith))

module _ (form : Form) (p : ℕ) where
  -- the bytes of a condition that was read
  pub condition_bytes_lem : (slot : ℕ) (bytes : List ℕ) (c : Condition) → record_size form ≤ length bytes → Says form p slot bytes c
      → bytes ≡ condition_bytes form c ++ drop (record_size form) bytes
  condition_bytes_lem slot bytes c l s =
      four bytes (omega (arith, l, record_length form c)) ∙ rw (s.mark.0, s.mark.1, ← s.relation, ← s.tail.digits, s.tail.after l)

  -- the first condition, and the others
  conditions_cons : (slot count : ℕ) (bytes : List ℕ) (cs : List Condition) → read_conditions form p slot (suc count) bytes ≡ accepted cs
      → (c : Condition) × (later : List Condition) × (cs ≡ c ∷ later) × (read_condition form p slot bytes ≡ accepted c)
      × (read_conditions form p (slot + c.digits) count (drop (record_size form) bytes) ≡ accepted later)
  unfolding read_conditions
  conditions_cons slot count bytes cs e =
      let first = answered (read_condition form p slot bytes) _ e in
      let others = answered (read_conditions form p (slot + first.0.digits) count (drop (record_size form) bytes)) _ first.2 in
      (first.0, others.0, sym (accepted_same others.2), first.1, others.1)

  -- the conditions that were read are as many as there should be, and each has its slots
  pub conditions_placed : (slot count : ℕ) (bytes : List ℕ) (cs : List Condition) → read_conditions form p slot count bytes ≡ accepted cs
      → (length cs ≡ count) × (in_slots form p slot cs ≡ true)
  unfolding read_conditions in_slots
  conditions_placed slot zero bytes cs e = rw (← accepted_same e) (refl, refl)
  conditions_placed slot (suc count) bytes cs e =
      let s = conditions_cons slot count bytes cs e in
      let first = says form p slot bytes s.0 s.3 in
      let later = conditions_placed (slot + s.0.digits) count (drop (record_size form) bytes) s.1 s.4 in
      rw s.2 (ap suc later.0, rw (first.count, first.tail.kept) later.1)

  -- and their bytes are those that were lent
  conditions_bytes_lem : (slot count : ℕ) (bytes : List ℕ) (cs : List Condition) → length bytes ≡ record_size form * count
      → read_conditions form p slot count bytes ≡ accepted cs → bytes ≡ conditions_bytes form cs
  unfolding read_conditions conditions_bytes
  conditions_bytes_lem slot zero [] cs l e = rw (← accepted_same e) refl
  conditions_bytes_lem slot zero (b ∷ bytes) cs l e = absurd (omega arith)
  conditions_bytes_lem slot (suc count) bytes cs l e =
      let s = conditions_cons slot count bytes cs e in
      let size : length (drop (record_size form) bytes) ≡ record_size form * count = rw length-drop (omega arith) in
      let later = conditions_bytes_lem (slot + s.0.digits) count (drop (record_size form) bytes) s.1 size s.4 in
      condition_bytes_lem slot bytes s.0 (omega arith) (says form p slot bytes s.0 s.3)
      ∙ ap (λ (l : List ℕ). condition_bytes form s.0 ++ l) later
      ∙ ap (conditions_bytes form) (sym s.2)

  -- and record number k is read as the condition of that number
  pub condition_at : (slot count k : ℕ) (bytes : List ℕ) (cs : List Condition) → read_conditions form p slot count bytes ≡ accepted cs → k < count
      → (c : Condition)
      × (drop k cs ≡ c ∷ drop (k + 1) cs)
      × (read_condition form p (slot + slots_of (take k cs)) (drop (record_size form * k) bytes) ≡ accepted c)
  unfolding total
  condition_at slot zero k bytes cs e l = absurd (omega arith)
  condition_at slot (suc count) zero bytes cs e l =
      let s = conditions_cons slot count bytes cs e in
      let first : slot + 0 ≡ slot = omega arith in
      let none : record_size form * 0 ≡ 0 = omega arith in
      (s.0, subst (λ (l : List Condition). l ≡ s.0 ∷ drop 1 l) (sym s.2) refl, rw (first, none) s.3)
  condition_at slot (suc count) (suc k) bytes cs e l =
      let s = conditions_cons slot count bytes cs e in
      let r = condition_at (slot + s.0.digits) count k (drop (record_size form) bytes) s.1 s.4 (omega arith) in
      let next : suc k + 1 ≡ suc (k + 1) = omega arith in
      let slots : slots_of (take (suc k) cs) ≡ s.0.digits + slots_of (take k s.1) = ap (λ (l : List Condition). slots_of (take (suc k) l)) s.2 in
      let place : record_size form * suc k ≡ record_size form + record_size form * k = omega arith in (
        r.0,
        rw next (subst (λ (l : List Condition). drop (suc k) l ≡ r.0 ∷ drop (suc (k + 1)) l) (sym s.2) r.1),
        ap₂ (read_condition form p) (omega (arith, slots)) (ap (λ (n : ℕ). drop n bytes) place ∙ sym (drop-drop (record_size form * k) (record_size form) bytes)) ∙ r.2,
      )

-- every rule that accepted bytes have passed, and what was read
pub record Reads (bytes : List ℕ) (card : Card) : Type 0 where
  pub mark : (byte bytes 0 ≡ (head_mark_of card.form).opening) × (byte bytes 1 ≡ (head_mark_of card.form).closing)
  pub prime : card.prime ≡ byte bytes 2
  pub weight : card.weight ≡ byte bytes 3
  pub count : length card.conditions ≡ byte bytes 4
  pub spare : byte bytes 5 ≡ 0
  pub size : length bytes ≡ head_size + record_size card.form * byte bytes 4
  pub conditions : read_conditions card.form card.prime 0 (byte bytes 4) (drop head_size bytes) ≡ accepted card.conditions
  pub kept : Keeps card

-- a card that is read by the form that its mark tells has that form
pub formed_reads : (form : Form) (bytes : List ℕ) (card : Card) → wrong_mark (head_mark_of form) bytes ≡ false → read_formed form bytes ≡ accepted card
    → (card.form ≡ form) × Reads bytes card
formed_reads form bytes card marked e =
    let answer : Answer Card → Answer Card = λ r. r in
    let prime = passed answer (not (listed (byte bytes 2))) (refused 3) _ refl e in
    let weight = passed answer (wrong_weight (byte bytes 3)) (refused 4) _ refl prime.1 in
    let spare = passed answer (not (eqb (byte bytes 5) 0)) (refused 5) _ refl weight.1 in
    let count = passed answer (wrong_condition_count (byte bytes 4)) (refused 6) _ refl spare.1 in
    let size = passed answer (not (eqb (length bytes) (head_size + record_size form * byte bytes 4))) (refused 7) _ refl count.1 in
    let conditions = answered (read_conditions form (byte bytes 2) 0 (byte bytes 4) (drop head_size bytes)) (read_limits form (byte bytes 2) (byte bytes 3)) size.1 in
    let slots = passed answer (ltb most_digits (slots_of conditions.0)) (refused 10) _ refl conditions.2 in
    let weights = passed answer (wrong_total (question_of form) (byte bytes 2) (total_weight conditions.0)) (refused 26) _ refl slots.1 in
    let same : record { form = form; prime = byte bytes 2; weight = byte bytes 3; conditions = conditions.0 } ≡ card = accepted_same weights.1 in
    let placed = conditions_placed form (byte bytes 2) 0 (byte bytes 4) (drop head_size bytes) conditions.0 conditions.1 in
    rw (← same) (
      refl,
      record {
        mark = mark_is (head_mark_of form) bytes marked;
        prime = refl;
        weight = refl;
        count = placed.0;
        spare = eqb-true _ _ (not-false _ spare.0);
        size = eqb-true _ _ (not-false _ size.0);
        conditions = conditions.1;
        kept = record {
          prime = not-false (listed (byte bytes 2)) prime.0;
          weight = weight.0;
          count = rw placed.0 count.0;
          placed = placed.1;
          slots = slots.0;
          weights = weights.0;
        };
      },
    )

pub reads : (bytes : List ℕ) (card : Card) → read_card bytes ≡ accepted card → Reads bytes card
reads bytes card e =
    let least = passed (λ (r : Answer Card). r) (ltb (length bytes) head_size) (refused 1) _ refl e in
    let found = answered (form_of bytes) (λ form. read_formed form bytes) least.1 in
    (formed_reads found.0 bytes card (form_marked bytes found.0 found.1) found.2).1

pub card_bytes_lem : (bytes : List ℕ) (card : Card) → Reads bytes card → bytes ≡ card_bytes card
card_bytes_lem bytes card r =
    let size : length (drop head_size bytes) ≡ record_size card.form * byte bytes 4 = rw length-drop (omega (arith, r.size)) in
    let conditions = conditions_bytes_lem card.form card.prime 0 (byte bytes 4) (drop head_size bytes) card.conditions size r.conditions in
    six bytes (omega (arith, r.size)) ∙ rw (r.mark.0, r.mark.1, r.prime, r.weight, r.count, r.spare, conditions)

pub only_cards : OnlyCards
only_cards bytes card e = let r = reads bytes card e in (keeps_rules_lem card r.kept, card_bytes_lem bytes card r)
