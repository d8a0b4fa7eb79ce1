-- Plain cards alone: what is read as Build reads it, and what gives 2.
-- Assumes nothing.
use mathlib.Core.Path.{◌≡◌, refl, sym, ◌∙◌}
use mathlib.Core.Bool.{false}
use mathlib.Core.List.{List}
use mathlib.Core.Logic.{◌⊎◌, inl, inr}
use Prim.Native.Nat.{ℕ, ◌<◌}
use borrow.Author.Tests.{lt-ltb, le-ltb, eq-eqb}
use lib.Dec.{ltb}
use lib.ListN.{length}
use Rattle.answer.specs.Outcome.{Answer, refused, accepted}
use Rattle.answer.proofs.Outcome.{passed}
use Rattle.circuit.specs.Bytes.{byte, wrong_mark}
use Rattle.query.specs.Card.{Card}
use Rattle.query.specs.CardPromises.{PlainCards, PlainAlone}
use Rattle.query.specs.Form.{head_size, Plain, head_mark_of}
use Rattle.query.specs.Reading.{read_card, read_plain}
use Rattle.query.proofs.Reading.{formed_reads, reads}

-- after its mark a plain card's form is known
marked_plain : (bytes : List ℕ) → wrong_mark (head_mark_of Plain) bytes ≡ false → read_plain bytes ≡ read_card bytes
marked_plain bytes m = rw m

pub plain_alone : PlainAlone
plain_alone bytes = (go, λ l m. rw (le-ltb (length bytes) head_size l, m))
  where
    go : (length bytes < head_size) ⊎ (wrong_mark (head_mark_of Plain) bytes ≡ false) → read_plain bytes ≡ read_card bytes
    go (inl l) = rw (lt-ltb (length bytes) head_size l)
    go (inr m) = marked_plain bytes m

pub plain_cards : PlainCards
plain_cards bytes card = (there, back)
  where
    there : read_plain bytes ≡ accepted card → (read_card bytes ≡ accepted card) × (card.form ≡ Plain)
    there e =
        let answer : Answer Card → Answer Card = λ r. r in
        let least = passed answer (ltb (length bytes) head_size) (refused 1) _ refl e in
        let mark = passed answer (wrong_mark (head_mark_of Plain) bytes) (refused 2) _ refl least.1 in
        (sym (marked_plain bytes mark.0) ∙ e, (formed_reads Plain bytes card mark.0 mark.1).0)

    back : (read_card bytes ≡ accepted card) × (card.form ≡ Plain) → read_plain bytes ≡ accepted card
    back h =
        let r = reads bytes card h.0 in
        let m : wrong_mark (head_mark_of Plain) bytes ≡ false =
        rw (eq-eqb (byte bytes 0) (head_mark_of Plain).opening (rw h.1 at r.mark.0), eq-eqb (byte bytes 1) (head_mark_of Plain).closing (rw h.1 at r.mark.1)) in
        marked_plain bytes m ∙ h.0
