-- What the last-use list's operation answers, for a table's bytes and for others.
-- Assumes nothing.
use mathlib.Core.Path.{◌≡◌, refl, sym, ap, subst, ◌∙◌}
use mathlib.Core.Bool.{true}
use mathlib.Core.List.{List, ◌++◌}
use Prim.Native.Nat.{ℕ, ◌-◌, ◌≤◌, ◌<◌}
use native.Mathlib.Omega.{arith}
use native.Mathlib.Decide.{dec_lt}
use borrow.Author.Tests.{lt-ltb, le-ltb}
use lib.Dec.{ltb}
use lib.ListN.{length, drop, get_or}
use Rattle.answer.specs.Outcome.{Answer, refused, accepted, Outcome, unaltered, on_answer}
use Rattle.answer.proofs.Outcome.{refused≢accepted, passed, accepted_same, was_refused, accepted_keeps, refuse_keeps, on_answer_keeps}
use Rattle.field.proofs.Tests.{in_range}
use Rattle.circuit.specs.Gate.{Gate}
use Rattle.circuit.specs.LastUse.{last_uses, finding_table, finding_last_uses}
use Rattle.circuit.specs.LastUsePromises.{Safe, FindsLastUses, ListDecides, CheckComesFirst, LastUsesKeep, LeftIsBest}
use Rattle.circuit.specs.Reading.{reading}
use Rattle.circuit.specs.Report.{report}
use Rattle.circuit.specs.Table.{Head, Table, table_bytes, most_gates, all_fit}
use Rattle.circuit.proofs.LastUse.{one_for_each, entry, none_earlier, no_later_read, output_stays}
use Rattle.circuit.proofs.Promises.{table_reads_back}
use Rattle.circuit.proofs.Reading.{reads}
use Rattle.circuit.proofs.WellFormed.{WellFormed}

pub finds_last_uses : FindsLastUses
finds_last_uses table later list t enough = rw (table_reads_back table later t, le-ltb _ _ enough)

pub list_decides : ListDecides
list_decides table later list t = (
  there (dec_lt (length list) (length table.gates)),
  λ short. rw (table_reads_back table later t, lt-ltb _ _ short),
)
  where
    there : Dec (length list < length table.gates) → (finding_last_uses (table_bytes table ++ later) list).answer ≡ refused 27
        → length list < length table.gates
    there (yes short) e = short
    there (no n) e =
        let found = finds_last_uses table later list t (omega arith) in
        absurd (refused≢accepted (sym e ∙ ap (λ (o : Outcome ℕ). o.answer) found))

pub check_comes_first : CheckComesFirst
check_comes_first bytes list number e = rw (was_refused number (reading bytes) report (sym e))

pub last_uses_keep : LastUsesKeep
last_uses_keep bytes list =
    on_answer_keeps (reading bytes) (λ table. refuse_keeps (ltb (length list) (length table.gates)) 27 accepted_keeps)

-- ---- entries as the list is left

early : (gates : List Gate) (later other : List ℕ) → Safe gates other → (i : ℕ) → i < length gates
    → get_or (last_uses gates ++ later) i 0 ≤ get_or other i 0
early gates later other safe i l =
    rw (entry gates later i l, ← (one_for_each gates).1 i l) (none_earlier gates other safe i l)

stays : (head : Head) (gates : List Gate) (later : List ℕ) (count : ℕ) → length gates ≡ count → 1 ≤ count → all_fit head 0 gates ≡ true
    → get_or (last_uses gates ++ later) (count - 1) 0 ≡ count - 1
stays head gates later count many some t =
    let low : count - 1 < length gates = omega arith in
    let last : length gates - 1 ≡ count - 1 = omega arith in
    entry gates later (count - 1) low
    ∙ sym ((one_for_each gates).1 (count - 1) low)
    ∙ subst (λ (i : ℕ). get_or (last_uses gates) i 0 ≡ i) last (output_stays head gates t)

-- by what was read
module _ (list : List ℕ) (count : ℕ) where
  abbrev found : Answer Table → Outcome ℕ
  found read = on_answer read (unaltered list) (finding_table list)

  abbrev Best : Answer Table → Type 0
  Best read =
      (table : Table) × (read ≡ accepted table) × (length table.gates ≡ count) × Safe table.gates (found read).lent
      × ((other : List ℕ) → Safe table.gates other → (i : ℕ) → i < count → get_or (found read).lent i 0 ≤ get_or other i 0)
      × (get_or (found read).lent (count - 1) 0 ≡ count - 1)

  best : (read : Answer Table) → ((table : Table) → read ≡ accepted table → WellFormed table)
      → (found read).answer ≡ accepted count → Best read
  best (refused number) formed e = absurd (refused≢accepted e)
  best (accepted table) formed e =
      let gates = table.gates in
      let later = drop (length gates) list in
      let rule = passed (λ (o : Outcome ℕ). o.answer) (ltb (length list) (length gates)) (unaltered list 27) _ refl e in
      let many : length gates ≡ count = accepted_same rule.1 in
      let w = formed table refl in
      let safe = no_later_read table.head gates later w.fitted in
      let some = (in_range (length gates) 1 most_gates w.count).0 in
      let output = stays table.head gates later count many (omega arith) w.fitted in
      rw rule.0 (table, refl, many, safe, (λ other h i l. early gates later other h i (omega arith)), output)

pub left_is_best : LeftIsBest
left_is_best bytes list count e = best list count (reading bytes) (λ table r. (reads bytes table r).formed) e
