-- The better of a step size and the best so far: by what the step size is rated, whether it is within the cap, whether there is one so far,
-- and which precedes; and the best of all, one step size after the other.
-- Assumes nothing.
use mathlib.Core.Path.{◌≡◌, refl, sym, ap, ap₂, subst, ◌∙◌}
use mathlib.Core.Bool.{Bool, true, false, ◌&&◌, ◌||◌, and-true, and-false}
use Prim.Native.Nat.{ℕ, suc, ◌+◌, ◌-◌, ◌≤◌, ◌<◌}
use Rattle.std.specs.Prelude.{Option, None, Some, Result, Ok, Err}
use native.Mathlib.Omega.{arith}
use native.Mathlib.Numerals.{add-one}
use borrow.Author.Tests.{ltb-true, ltb-false, le-leb, lt-leb}
use lib.Dec.{ltb, leb, eqb}
use lib.ListN.{length}
use Rattle.answer.specs.Numbers.{refusal_number}
use Rattle.answer.specs.Outcome.{Answer, refused, accepted, refuse}
use Rattle.answer.specs.Report.{Report, report_of, report_answer}
use Rattle.answer.specs.declared.Report as declared
use Rattle.answer.specs.declared.Refusal.{Refusal}
use Rattle.answer.proofs.Outcome.{passed, accepted_same, refused≢accepted}
use Rattle.circuit.specs.Report.{report}
use Rattle.circuit.specs.Table.{Table, most_gates}
use Rattle.query.specs.Card.{Card}
use Rattle.offer.specs.Best.{Choice, nothing, chosen, precedes, taken, better, best_from}
use Rattle.offer.specs.Offer.{step_table, step_cost, step_depth, within, counts}
use Rattle.rating.specs.Rated.{rated}
use Rattle.chooser.specs.declared.Rated.{Rated}
use Rattle.chooser.specs.Kept.{choice_is, Kept}

-- ---- what a table is rated

abbrev rated_table : Table → Answer Report
rated_table table = refuse (ltb most_gates (length table.gates)) (refused 14) (accepted (report table))

abbrev counts_table : ℕ → Table → Bool
counts_table cap table = within cap table && leb (length table.gates) most_gates

-- a table whose report is told is one
told_few : (table : Table) (told : Report) → rated_table table ≡ accepted told → length table.gates ≤ most_gates
told_few table told e =
    ltb-false most_gates (length table.gates)
    (passed (λ a. a) (ltb most_gates (length table.gates)) (refused 14) (accepted (report table)) refl e).0

told_report : (table : Table) (told : Report) → rated_table table ≡ accepted told → report table ≡ told
told_report table told e =
    accepted_same (passed (λ a. a) (ltb most_gates (length table.gates)) (refused 14) (accepted (report table)) refl e).1

-- so it counts if it is within the cap
told_counts : (cap : ℕ) (table : Table) (told : Report) → rated_table table ≡ accepted told → counts_table cap table ≡ leb told.depth cap
told_counts cap table told e =
    ap (λ (b : Bool). within cap table && b) (le-leb (length table.gates) most_gates (told_few table told e))
    ∙ and-true (within cap table) ∙ ap (λ (r : Report). leb r.depth cap) (told_report table told e)

-- a table that is refused has too many gates
refused_not : (cap number : ℕ) (table : Table) → refused number ≡ rated_table table → counts_table cap table ≡ false
refused_not cap number table e = go (ltb most_gates (length table.gates)) refl
  where
    go : (b : Bool) → ltb most_gates (length table.gates) ≡ b → counts_table cap table ≡ false
    go true t =
        ap (λ (few : Bool). within cap table && few)
        (lt-leb (length table.gates) most_gates (ltb-true most_gates (length table.gates) t)) ∙ and-false (within cap table)
    go false t = absurd (refused≢accepted (e ∙ ap (λ (b : Bool). refuse b (refused 14) (accepted (report table))) t))

-- ---- the better of two

-- the step size, if it is taken, or the best so far
abbrev taken_of : ℕ → Card → Bool → ℕ → Choice → Choice
taken_of cap c b step best = taken (step_cost c) (step_depth c) (counts cap c) b step best

-- the definition's choice
abbrev pub improved : ℕ → Card → ℕ → Choice → Choice
improved cap c step best = better (step_cost c) (step_depth c) (counts cap c) step best

-- what `better` answers of a step size: the definition's choice, with its report
abbrev pub Improves : ℕ → ℕ → Result declared.Report Refusal → Option Rated → Option Rated → Type 0
Improves cap step told best r =
    (c : Card) → report_answer told ≡ rated c step → Kept c best → (choice_is r ≡ improved cap c step (choice_is best)) × Kept c r

-- a step size that does not count does not replace
uncounted : (cap step : ℕ) (c : Card) (best : Choice) → counts cap c step ≡ false → best ≡ improved cap c step best
uncounted cap step c nothing e = ap (λ (b : Bool). taken_of cap c b step nothing) (sym e)
uncounted cap step c (chosen b) e =
    let before = precedes (step_cost c) (step_depth c) (counts cap c) step b in
    ap (λ (t : Bool). taken_of cap c (t && before) step (chosen b)) (sym e)

-- the definition's test, of two reports
abbrev pub is_before : Report → Report → Bool
is_before a b = ltb a.cost b.cost || (eqb a.cost b.cost && ltb a.depth b.depth)

-- a step size that counts replaces the best so far if its report is before
decides : (cap step : ℕ) (c : Card) (new old : Report) (b : ℕ) (t : Bool) → rated c step ≡ accepted new → rated c b ≡ accepted old
    → new.depth ≤ cap → is_before new old ≡ t → taken_of cap c t step (chosen b) ≡ improved cap c step (chosen b)
decides cap step c new old b t e q l d =
    let counted = told_counts cap (step_table c step) new e ∙ le-leb new.depth cap l in
    let same = ap₂ is_before (told_report (step_table c step) new e) (told_report (step_table c b) old q) ∙ d in
    ap (λ (u : Bool). taken_of cap c u step (chosen b)) (sym (ap₂ (λ (u v : Bool). u && v) counted same))

module _ (cap step : ℕ) (told : Result declared.Report Refusal) where
  -- too many gates for a table
  pub keeps_refused : (why : Refusal) (best : Option Rated) → told ≡ Err why → Improves cap step told best best
  keeps_refused why best q c e kept =
      (uncounted cap step c (choice_is best) (refused_not cap (refusal_number why) (step_table c step) (sym (ap report_answer q) ∙ e)), kept)

  module _ (new : declared.Report) (success : told ≡ Ok new) where
    is_rated : (c : Card) → report_answer told ≡ rated c step → rated c step ≡ accepted (report_of new)
    is_rated c e = sym e ∙ ap report_answer success

    -- deeper than the cap
    pub keeps_deep : (best : Option Rated) → cap < new.depth.0 → Improves cap step told best best
    keeps_deep best l c e kept =
        let deep = told_counts cap (step_table c step) (report_of new) (is_rated c e) ∙ lt-leb new.depth.0 cap l in
        (uncounted cap step c (choice_is best) deep, kept)

    -- the step size is chosen, with the report on its table
    abbrev pub Takes : Option Rated → Type 0
    Takes best =
        (c : Card) → report_answer told ≡ rated c step → Kept c best
        → (chosen step ≡ improved cap c step (choice_is best)) × (rated c step ≡ accepted (report_of new))

    -- the first within the cap
    pub takes_first : (best : Option Rated) → best ≡ None → new.depth.0 ≤ cap → Takes best
    takes_first best q l c e kept =
        let counted = told_counts cap (step_table c step) (report_of new) (is_rated c e) ∙ le-leb new.depth.0 cap l in
        let first = ap (λ (b : Bool). taken_of cap c b step nothing) (sym counted) in
        (first ∙ ap (λ (b : Option Rated). improved cap c step (choice_is b)) (sym q), is_rated c e)

    -- a later one, by whether it precedes
    module _ (best : Option Rated) (old : Rated) (one : best ≡ Some old) (l : new.depth.0 ≤ cap) where
      choice : (c : Card) (t : Bool) → is_before (report_of new) (report_of old.told) ≡ t → report_answer told ≡ rated c step → Kept c best
          → taken_of cap c t step (chosen old.step) ≡ improved cap c step (choice_is best)
      choice c t d e kept =
          decides cap step c (report_of new) (report_of old.told) old.step t (is_rated c e) (subst (Kept c) one kept) l d
          ∙ ap (λ (b : Option Rated). improved cap c step (choice_is b)) (sym one)

      pub takes_before : is_before (report_of new) (report_of old.told) ≡ true → Takes best
      takes_before d c e kept = (choice c true d e kept, is_rated c e)

      pub keeps_before : is_before (report_of new) (report_of old.told) ≡ false → Improves cap step told best (Some old)
      keeps_before d c e kept = (choice c false d e kept, subst (Kept c) one kept)

-- ---- one step size after the other

module _ (cap n : ℕ) (c : Card) where
  -- the step sizes from k on
  abbrev pub rest : ℕ → Option Rated → Choice
  rest k best = best_from (step_cost c) (step_depth c) (counts cap c) (n + 1 - k) k (choice_is best)

  pub rest_next : (k : ℕ) (best later : Option Rated) → k ≤ n → choice_is later ≡ improved cap c k (choice_is best) → rest (k + 1) later ≡ rest k best
  unfolding best_from
  rest_next k best later l e = let m : n + 1 - k ≡ suc (n + 1 - (k + 1)) = omega arith in rw (m, e, add-one k)

  pub rest_none : (k : ℕ) (best : Option Rated) → n < k → rest k best ≡ choice_is best
  unfolding best_from
  rest_none k best l = let m : n + 1 - k ≡ 0 = omega arith in rw m
