-- The kind that was read of a number is the number's, and a number of which none was read has no gate.
-- Assumes nothing.
use Rattle.std.proofs.Common.{◌≡◌, refl, sym, ℕ, Bool, true, false}
use Rattle.answer.specs.Outcome.{refused, accepted, refuse}
use Rattle.answer.proofs.Outcome.{refused≢accepted, accepted_same, numbered_out}
use Rattle.circuit.specs.Gate.{kinds, gate_of}
use Rattle.circuit.specs.Word.{wrong_kind}
use Rattle.records.specs.Kind.{kind_verdict}

pub kind_is : (n number : ℕ) → accepted n ≡ kind_verdict number → n ≡ number
kind_is n number e = go (wrong_kind number) e
  where
    go : (t : Bool) → accepted n ≡ refuse t (refused 16) (accepted number) → n ≡ number
    go true e = absurd (refused≢accepted (sym e))
    go false e = accepted_same e

pub no_kind : (n number a b : ℕ) → refused n ≡ kind_verdict number → gate_of number a b ≡ refused 16
no_kind n number a b e = go (wrong_kind number) refl e
  where
    go : (t : Bool) → wrong_kind number ≡ t → refused n ≡ refuse t (refused 16) (accepted number) → gate_of number a b ≡ refused 16
    go true wrong e = numbered_out 16 number (kinds a b) wrong
    go false wrong e = absurd (refused≢accepted e)
