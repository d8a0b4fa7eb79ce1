-- What Build leaves, and what Build and Forecast turn away: 11 exactly for want of room and never for a card, lent bytes kept on every refusal,
-- and the same refusals of a card by both.
-- By the two cases of reading the card, and of the room.
-- Assumes nothing.
use mathlib.Core.Path.{◌≡◌, refl, sym, subst}
use mathlib.Core.Bool.{not}
use mathlib.Core.List.{List, ◌++◌}
use mathlib.Core.Logic.{◌≢◌, ◌↔◌}
use Prim.Native.Nat.{ℕ, zero, suc, ◌+◌, ◌*◌, ◌≤◌, ◌<◌}
use native.Mathlib.Omega.{arith}
use native.Mathlib.Decide.{dec_lt}
use borrow.Author.Tests.{lt-ltb, le-ltb, ltb-false}
use lib.Dec.{ltb, eqb}
use lib.ListN.{length, drop}
use lib.Seq.{take_at, drop_at}
use Rattle.answer.specs.Outcome.{Answer, refused, accepted, Outcome, unaltered, numbered}
use Rattle.answer.specs.Report.{Report}
use Rattle.answer.proofs.Outcome.{refused≢accepted, accepted_same, passed, only_rule, accepted_keeps, refuse_keeps, on_answer_keeps, Refuses, accepted_refuses, refuse_refuses, on_answer_refuses, numbered_refuses}
use Rattle.field.specs.Primes.{listed}
use Rattle.digits.specs.Number.{most_digits, wrong_count}
use Rattle.circuit.specs.Bytes.{byte, wrong_mark}
use Rattle.circuit.specs.Report.{report}
use Rattle.circuit.specs.Table.{table_bytes, wrong_weight}
use Rattle.circuit.proofs.Reading.{table_length}
use Rattle.comparison.specs.Relation.{relations}
use Rattle.query.specs.Card.{Card, wrong_condition_count, slots_of, total_weight, wrong_total}
use Rattle.query.specs.CardPromises.{TurnedAway, RoomDecides, FillsExactly, RefusalKeeps, SameRefusal}
use Rattle.query.specs.Form.{head_size, Form, question_of, record_mark_of, record_size, form_of}
use Rattle.query.specs.Outcomes.{table_room, building, forecasting}
use Rattle.query.specs.Reading.{read_condition, read_conditions, read_card}
use Rattle.query.specs.Whole.{table_of}
use Rattle.query.proofs.Form.{OfCard, form_refuses, tail_refuses}

-- an accepted card with room
pub built : (bytes lent : List ℕ) (card : Card) → read_card bytes ≡ accepted card → table_room (table_of card) ≤ length lent
    → building bytes lent
    ≡ record { answer = accepted (report (table_of card)); lent = table_bytes (table_of card) ++ drop (table_room (table_of card)) lent }
built bytes lent card e room = rw (e, le-ltb (length lent) (table_room (table_of card)) room)

pub fills_exactly : FillsExactly
fills_exactly bytes lent card e room =
    let table = table_of card in
    let later = drop (table_room table) lent in
    rw (built bytes lent card e room)
    (take_at (table_bytes table) later (table_room table) (table_length table), drop_at (table_bytes table) later (table_room table) (table_length table))

-- ---- the numbers of a card's rules

conditions_refuse : (form : Form) (p slot count : ℕ) (bytes : List ℕ) → Refuses OfCard (read_conditions form p slot count bytes)
unfolding read_conditions
conditions_refuse form p slot zero bytes = accepted_refuses
conditions_refuse form p slot (suc count) bytes =
    on_answer_refuses (read_condition form p slot bytes)
    (refuse_refuses (wrong_mark (record_mark_of form) bytes) 2 (omega arith)
    (on_answer_refuses (numbered 8 (byte bytes 2) relations) (numbered_refuses 8 (byte bytes 2) relations (omega arith)) (λ relation.
    refuse_refuses (wrong_count (byte bytes 3)) 9 (omega arith) (tail_refuses form p slot relation (byte bytes 3) bytes))))
    (λ c. on_answer_refuses _ (conditions_refuse form p (slot + c.digits) count (drop (record_size form) bytes)) (λ cs. accepted_refuses))

pub card_refuses : (bytes : List ℕ) → Refuses OfCard (read_card bytes)
card_refuses bytes =
    let count = byte bytes 4 in
    refuse_refuses (ltb (length bytes) head_size) 1 (omega arith)
    (on_answer_refuses (form_of bytes) (form_refuses bytes) (λ form.
    refuse_refuses (not (listed (byte bytes 2))) 3 (omega arith)
    (refuse_refuses (wrong_weight (byte bytes 3)) 4 (omega arith)
    (refuse_refuses (not (eqb (byte bytes 5) 0)) 5 (omega arith)
    (refuse_refuses (wrong_condition_count count) 6 (omega arith)
    (refuse_refuses (not (eqb (length bytes) (head_size + record_size form * count))) 7 (omega arith)
    (on_answer_refuses (read_conditions form (byte bytes 2) 0 count (drop head_size bytes)) (conditions_refuse form (byte bytes 2) 0 count (drop head_size bytes)) (λ cs.
    refuse_refuses (ltb most_digits (slots_of cs)) 10 (omega arith)
    (refuse_refuses (wrong_total (question_of form) (byte bytes 2) (total_weight cs)) 26 (omega arith) accepted_refuses)))))))))

pub turned_away : TurnedAway
turned_away bytes lent number e = (rw e, ((card_refuses bytes).number number e).0)

-- ---- room

pub room_decides : RoomDecides
room_decides bytes lent card e = (
  there (dec_lt (length lent) (table_room (table_of card))),
  λ l. rw (e, lt-ltb (length lent) (table_room (table_of card)) l),
)
  where
    there : Dec (length lent < table_room (table_of card)) → (building bytes lent).answer ≡ refused 11
        → length lent < table_room (table_of card)
    there (yes l) h = l
    there (no n) h =
        absurd (refused≢accepted (sym (rw (e, le-ltb (length lent) (table_room (table_of card)) (omega arith)) at h)))

-- Build that answers a report has read a card and had room
pub build_accepted : (bytes lent : List ℕ) (told : Report) → (building bytes lent).answer ≡ accepted told
    → (card : Card) × (read_card bytes ≡ accepted card) × (table_room (table_of card) ≤ length lent) × (report (table_of card) ≡ told)
build_accepted bytes lent told e = go (read_card bytes) refl
  where
    go : (r : Answer Card) → read_card bytes ≡ r
        → (card : Card) × (read_card bytes ≡ accepted card) × (table_room (table_of card) ≤ length lent) × (report (table_of card) ≡ told)
    go (refused k) h = absurd (refused≢accepted (rw h at e))
    go (accepted card) h =
        let answer : Outcome Report → Answer Report = λ o. o.answer in
        let a = passed answer (ltb (length lent) (table_room (table_of card))) (unaltered lent 11) _ refl (rw h at e) in
        (card, h, ltb-false (length lent) (table_room (table_of card)) a.0, accepted_same a.1)

pub refusal_keeps : RefusalKeeps
refusal_keeps bytes lent =
    on_answer_keeps (read_card bytes) (λ card. refuse_keeps (ltb (length lent) (table_room (table_of card))) 11 accepted_keeps)

pub same_refusal : SameRefusal
same_refusal bytes lent number = go (read_card bytes) refl
  where
    go : (r : Answer Card) → read_card bytes ≡ r
        → (forecasting bytes ≡ refused number) ↔ (((building bytes lent).answer ≡ refused number) × (number ≢ 11))
    go (refused k) e =
        rw e (λ h. (h, let same : k ≡ number = cc in subst (λ (n : ℕ). n ≢ 11) same ((card_refuses bytes).number k e).0), λ h. h.0)
    go (accepted card) e =
        rw e (
          λ h. absurd (refused≢accepted (sym h)),
          λ h. absurd (h.1 (only_rule lent (ltb (length lent) (table_room (table_of card))) 11 number _ refl h.0)),
        )
