-- The forms of cards, one law for each thing that reading asks of a form: its mark tells it; its records have its size;
-- and what a record has after n, with its condition, determine each other. The laws of the mark go over the list of forms;
-- of each other law a form more is a clause more.
-- Assumes nothing.
use mathlib.Core.Path.{◌≡◌, refl, sym, ap, ◌∙◌}
use mathlib.Core.Bool.{Bool, true, false, not}
use mathlib.Core.List.{List, [], ◌∷◌, ◌++◌}
use mathlib.Core.Logic.{◌≢◌}
use Prim.Native.Nat.{ℕ, ◌+◌, ◌≤◌, ◌<◌}
use native.Mathlib.Omega.{arith}
use borrow.Author.Tests.{eq-eqb, le-ltb, eqb-true, ltb-false, not-true, not-false}
use lib.Dec.{eqb}
use lib.ListN.{length, drop}
use lib.Seq.{drop-cons}
use Rattle.answer.specs.Outcome.{Answer, refused, accepted, refuse}
use Rattle.answer.proofs.Outcome.{accepted_same, refused≢accepted, Refuses, accepted_refuses, refused_refuses, refuse_refuses, passed}
use Rattle.field.proofs.Tests.{both}
use Rattle.digits.specs.Number.{most_digits}
use Rattle.circuit.specs.Bytes.{byte, marked, wrong_mark}
use Rattle.comparison.specs.Condition.{Condition}
use Rattle.comparison.specs.Relation.{Relation}
use Rattle.query.specs.Card.{condition_bytes}
use Rattle.query.specs.Form.{Form, Plain, Scored, Shared, YesOrNo, Score, question_of, head_mark_of, record_size, most_record, forms, form_among, form_of, condition_at, tail_bytes, wrong_score_weight, wrong_left, takes_next, keeps_tail, read_tail}

-- ---- the mark

-- a form is found by its own mark
pub form_back : (form : Form) (later : List ℕ) → form_of (marked (head_mark_of form) later) ≡ accepted form
form_back Plain later = refl
form_back Scored later = refl
form_back Shared later = refl

among_marked : (fs : List Form) (bytes : List ℕ) (form : Form) → form_among fs bytes ≡ accepted form → wrong_mark (head_mark_of form) bytes ≡ false
among_marked [] bytes form e = absurd (refused≢accepted e)
among_marked (first ∷ fs) bytes form e = go (wrong_mark (head_mark_of first) bytes) refl (among_marked fs bytes form) e
  where
    go : (test : Bool) → wrong_mark (head_mark_of first) bytes ≡ test
        → (form_among fs bytes ≡ accepted form → wrong_mark (head_mark_of form) bytes ≡ false)
        → refuse test (form_among fs bytes) (accepted first) ≡ accepted form
        → wrong_mark (head_mark_of form) bytes ≡ false
    go true other later e = later e
    go false own later e = rw (← accepted_same e) own

-- and the bytes open with the mark of the form that is found
pub form_marked : (bytes : List ℕ) (form : Form) → form_of bytes ≡ accepted form → wrong_mark (head_mark_of form) bytes ≡ false
form_marked bytes form e = among_marked forms bytes form e

-- a number that turns a card away: it is not 11, which is the table's, and has two digits at most
abbrev pub OfCard : ℕ → Type 0
OfCard number = (number ≢ 11) × (number < 100)

among_refuses : (fs : List Form) (bytes : List ℕ) → Refuses OfCard (form_among fs bytes)
among_refuses [] bytes = refused_refuses (omega arith)
among_refuses (first ∷ fs) bytes = go (wrong_mark (head_mark_of first) bytes) (among_refuses fs bytes)
  where
    go : (test : Bool) → Refuses OfCard (form_among fs bytes) → Refuses OfCard (refuse test (form_among fs bytes) (accepted first))
    go true later = later
    go false later = accepted_refuses

pub form_refuses : (bytes : List ℕ) → Refuses OfCard (form_of bytes)
form_refuses bytes = among_refuses forms bytes

-- a card that asks for a score shares no left slot
pub score_own : (form : Form) → question_of form ≡ Score → form ≢ Shared
score_own form score same = let yes : YesOrNo ≡ Score = sym (ap question_of same) ∙ score in let z : ◌≡◌ {A = ℕ} 0 1 = cc in omega arith

-- ---- the record

-- mark, relation and n are four bytes
pub record_least : (form : Form) → 4 ≤ record_size form
record_least Plain = omega arith
record_least Scored = omega arith
record_least Shared = omega arith

pub record_most : (form : Form) → record_size form ≤ most_record
record_most Plain = omega arith
record_most Scored = omega arith
record_most Shared = omega arith

pub record_length : (form : Form) (c : Condition) → length (condition_bytes form c) ≡ record_size form
record_length Plain c = refl
record_length Scored c = refl
record_length Shared c = refl

-- a form's own rules refuse by such numbers too
pub tail_refuses : (form : Form) (p slot : ℕ) (r : Relation) (n : ℕ) (bytes : List ℕ) → Refuses OfCard (read_tail form p slot r n bytes)
tail_refuses Plain p slot r n bytes = accepted_refuses
tail_refuses Scored p slot r n bytes =
    refuse_refuses (wrong_score_weight p (byte bytes 4)) 25 (omega arith)
    (refuse_refuses (not (eqb (byte bytes 5) 0)) 5 (omega arith) accepted_refuses)
tail_refuses Shared p slot r n bytes =
    refuse_refuses (wrong_left (byte bytes 4) n) 28 (omega arith)
    (refuse_refuses (not (eqb (byte bytes 5) 0)) 5 (omega arith) accepted_refuses)

-- the forms are different
pub plain≢shared : Plain ≢ Shared
plain≢shared e = let z : ◌≡◌ {A = ℕ} 0 1 = cc in omega arith

pub scored≢shared : Scored ≢ Shared
scored≢shared e = let z : ◌≡◌ {A = ℕ} 0 1 = cc in omega arith

-- ---- the slots of a condition, where slot is the next that is free

-- what a shared card asks of its conditions
pub shared_keeps : (p slot : ℕ) (c : Condition) → keeps_tail Shared p slot c ≡ true
    → (c.left + c.digits ≤ most_digits) × (c.right ≡ slot) × (c.weight ≡ 0)
shared_keeps p slot c t =
    let left = both (not (wrong_left c.left c.digits)) _ t in
    let right = both (eqb c.right slot) _ left.1 in
    (ltb-false _ _ (not-true _ left.0), eqb-true _ _ right.0, eqb-true _ _ right.1)

-- of every other form both sides' are the next ones
tail_next : (form : Form) (p slot : ℕ) (c : Condition) → form ≢ Shared → keeps_tail form p slot c ≡ true → (c.left ≡ slot) × (c.right ≡ slot)
tail_next form p slot c own t = next form own t
  where
    sides : takes_next slot c ≡ true → (c.left ≡ slot) × (c.right ≡ slot)
    sides t = let s = both (eqb c.left slot) _ t in (eqb-true _ _ s.0, eqb-true _ _ s.1)

    next : (form : Form) → form ≢ Shared → keeps_tail form p slot c ≡ true → (c.left ≡ slot) × (c.right ≡ slot)
    next Plain own t = sides (both (takes_next slot c) _ t).0
    next Scored own t = sides (both (takes_next slot c) _ t).0
    next Shared own t = absurd (own refl)

pub tail_left : (form : Form) (p slot : ℕ) (c : Condition) → form ≢ Shared → keeps_tail form p slot c ≡ true → c.left ≡ slot
tail_left form p slot c own t = (tail_next form p slot c own t).0

-- right slots are handed out in order
pub tail_right : (form : Form) (p slot : ℕ) (c : Condition) → keeps_tail form p slot c ≡ true → c.right ≡ slot
tail_right Plain p slot c t = (tail_next Plain p slot c plain≢shared t).1
tail_right Scored p slot c t = (tail_next Scored p slot c scored≢shared t).1
tail_right Shared p slot c t = (shared_keeps p slot c t).1

-- left slots end within any bound from 16 on within which the next right ones do
pub left_within : (form : Form) (p slot most : ℕ) (c : Condition) → keeps_tail form p slot c ≡ true → most_digits ≤ most → slot + c.digits ≤ most
    → c.left + c.digits ≤ most
left_within Plain p slot most c t low l = omega (arith, tail_left Plain p slot c plain≢shared t)
left_within Scored p slot most c t low l = omega (arith, tail_left Scored p slot c scored≢shared t)
left_within Shared p slot most c t low l = omega (arith, (shared_keeps p slot c t).0)

-- a condition is that of its own slots and weight
own_condition : (c : Condition) (l r w : ℕ) → c.left ≡ l → c.right ≡ r → c.weight ≡ w
    → accepted (condition_at l r c.relation c.digits w) ≡ accepted c
own_condition c l r w left right weight = rw (← left, ← right, ← weight)

-- a condition that keeps its form's rules is read from its record
pub tail_back : (form : Form) (p slot : ℕ) (c : Condition) (later : List ℕ) → keeps_tail form p slot c ≡ true
    → read_tail form p slot c.relation c.digits (condition_bytes form c ++ later) ≡ accepted c
tail_back Plain p slot c later t =
    let next = tail_next Plain p slot c plain≢shared t in
    own_condition c slot slot 0 next.0 next.1 (eqb-true c.weight 0 (both (takes_next slot c) _ t).1)
tail_back Scored p slot c later t =
    let next = tail_next Scored p slot c scored≢shared t in
    rw (not-true (wrong_score_weight p c.weight) (both (takes_next slot c) _ t).1)
    (own_condition c slot slot c.weight next.0 next.1 refl)
tail_back Shared p slot c later t =
    let kept = shared_keeps p slot c t in
    rw (le-ltb most_digits (c.left + c.digits) kept.0) (own_condition c c.left slot 0 refl kept.1 kept.2)

-- what was read after relation and n
pub record Tail (form : Form) (p slot : ℕ) (r : Relation) (n : ℕ) (bytes : List ℕ) (c : Condition) : Type 0 where
  pub relation : c.relation ≡ r
  pub digits : c.digits ≡ n
  pub kept : keeps_tail form p slot c ≡ true
  pub after : record_size form ≤ length bytes → drop 4 bytes ≡ tail_bytes form c ++ drop (record_size form) bytes

-- a record of six bytes has two after n, of which the second is 0
two_after : (bytes : List ℕ) → not (eqb (byte bytes 5) 0) ≡ false → 6 ≤ length bytes → drop 4 bytes ≡ byte bytes 4 ∷ 0 ∷ drop 6 bytes
two_after bytes spare l =
    drop-cons bytes 4 0 (omega arith) ∙ rw (drop-cons bytes 5 0 (omega arith), eqb-true (byte bytes 5) 0 (not-false _ spare))

pub tail_says : (form : Form) (p slot : ℕ) (r : Relation) (n : ℕ) (bytes : List ℕ) (c : Condition)
    → read_tail form p slot r n bytes ≡ accepted c → Tail form p slot r n bytes c
tail_says Plain p slot r n bytes c e =
    rw (← accepted_same e)
    (record { relation = refl; digits = refl; kept = rw (eq-eqb slot slot refl); after = λ l. refl })
tail_says Scored p slot r n bytes c e =
    let answer : Answer Condition → Answer Condition = λ r. r in
    let weight = passed answer (wrong_score_weight p (byte bytes 4)) (refused 25) _ refl e in
    let spare = passed answer (not (eqb (byte bytes 5) 0)) (refused 5) _ refl weight.1 in
    rw (← accepted_same spare.1)
    (record {
      relation = refl;
      digits = refl;
      kept = rw (eq-eqb slot slot refl, weight.0);
      after = two_after bytes spare.0;
    })
tail_says Shared p slot r n bytes c e =
    let answer : Answer Condition → Answer Condition = λ r. r in
    let left = passed answer (wrong_left (byte bytes 4) n) (refused 28) _ refl e in
    let spare = passed answer (not (eqb (byte bytes 5) 0)) (refused 5) _ refl left.1 in
    rw (← accepted_same spare.1)
    (record {
      relation = refl;
      digits = refl;
      kept = rw (left.0, eq-eqb slot slot refl);
      after = two_after bytes spare.0;
    })
