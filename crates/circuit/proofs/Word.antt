-- A record's word and its four bytes: the verdict on the one is that on the others, so a record may be read by its word.
-- A number of two bytes is another exactly where one of its bytes is; where the top byte is 0, the high half is the third.
-- Assumes nothing.
use mathlib.Core.Path.{◌≡◌, refl, sym, ap, ◌∙◌}
use mathlib.Core.Bool.{Bool, true, false, not, ◌||◌}
use mathlib.Core.List.{List}
use Prim.Native.Nat.{ℕ, ◌+◌, ◌*◌, ◌/◌, ◌%◌, ◌<◌}
use native.Mathlib.Omega.{arith}
use borrow.Author.Tests.{ne_eqb, eqb-true, eqb-false, not-false}
use lib.Dec.{eqb}
use Rattle.answer.specs.Outcome.{Answer, refused, accepted, refuse, on_answer}
use Rattle.answer.proofs.Outcome.{refuse_same, on_answer_rule, numbered_out}
use Rattle.field.specs.Byte.{byte_values}
use Rattle.field.proofs.Tests.{eqb_same}
use Rattle.circuit.specs.Bytes.{byte, wrong_mark, u16_at}
use Rattle.circuit.specs.Gate.{kinds, gate_mark}
use Rattle.circuit.specs.Reading.{read_fields}
use Rattle.circuit.specs.Table.{Head}
use Rattle.circuit.specs.Word.{word_at, word_bytes, OpensWithBytes, wrong_kind, bytes_verdict, word_verdict, WordReadsBack, WordVerdict, RecordByWord}

pub word_reads_back : WordReadsBack
word_reads_back w l =
    let one : w ≡ w % 0x100 + 0x100 * (w / 0x100) = omega arith in
    let two : w / 0x100 ≡ w / 0x100 % 0x100 + 0x100 * (w / 0x10000) = omega arith in
    let three : w / 0x10000 ≡ w / 0x10000 % 0x100 + 0x100 * (w / 0x1000000) = omega arith in
    let four : w / 0x1000000 ≡ w / 0x1000000 % 0x100 = omega arith in
    omega arith

-- a number of two bytes is another one where its low byte or its high one is another
two_bytes : (b c x y : ℕ) → b < byte_values → x < byte_values
    → not (eqb (b + 0x100 * c) (x + 0x100 * y)) ≡ (not (eqb b x) || not (eqb c y))
two_bytes b c x y l m = go (eqb b x) refl
  where
    go : (t : Bool) → eqb b x ≡ t → not (eqb (b + 0x100 * c) (x + 0x100 * y)) ≡ (not t || not (eqb c y))
    go true e =
        let same = eqb-true b x e in ap not (eqb_same (b + 0x100 * c) (x + 0x100 * y) c y (λ q. omega arith, λ q. omega arith))
    go false e = rw (ne_eqb (b + 0x100 * c) (x + 0x100 * y) (λ q. eqb-false b x e (omega arith)))

-- 16, or the kind
abbrev kind_verdict : ℕ → Answer ℕ
kind_verdict kind = refuse (wrong_kind kind) (refused 16) (accepted kind)

-- the kind is looked at only where the spare, the word's top byte, is 0
by_word : (bytes : List ℕ) → OpensWithBytes bytes → word_verdict (word_at bytes) ≡ bytes_verdict bytes
by_word bytes (l, m, n) =
    let low : word_at bytes % 0x10000 ≡ byte bytes 0 + 0x100 * byte bytes 1 = omega arith in
    let top : word_at bytes / 0x1000000 ≡ byte bytes 3 = omega arith in
    let mark = two_bytes (byte bytes 0) (byte bytes 1) gate_mark.opening gate_mark.closing l (omega arith) in
    let kind : byte bytes 3 ≡ 0 → word_at bytes / 0x10000 ≡ byte bytes 2 = λ e. omega arith in
    rw (low, top, mark)
    (refuse_same (wrong_mark gate_mark bytes) (refused 2) (λ _.
    refuse_same (not (eqb (byte bytes 3) 0)) (refused 5) (λ t. ap kind_verdict (kind (eqb-true _ _ (not-false _ t))))))

pub word_verdict_lem : WordVerdict
word_verdict_lem w l = ap word_verdict (sym (word_reads_back w l)) ∙ by_word (word_bytes w) (omega arith)

-- a kind that is not there has no gate, and one that is there is read
kind_read : (head : Head) (k kind a b : ℕ) → read_fields head k kind a b ≡ on_answer (kind_verdict kind) refused (λ g. read_fields head k g a b)
kind_read head k kind a b = go (wrong_kind kind) refl
  where
    go : (t : Bool) → wrong_kind kind ≡ t
        → read_fields head k kind a b ≡ on_answer (kind_verdict kind) refused (λ g. read_fields head k g a b)
    go true e = rw (e, numbered_out 16 kind (kinds a b) e)
    go false e = rw e

pub record_by_word : RecordByWord
record_by_word head k bytes l =
    rw (by_word bytes l, on_answer_rule, on_answer_rule, kind_read head k (byte bytes 2) (u16_at bytes 4) (u16_at bytes 6))
