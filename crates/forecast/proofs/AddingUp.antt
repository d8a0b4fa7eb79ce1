-- One turn of Forecast's loop: the condition at hand adds its counts, and those of the conditions left still make the whole.
-- Assumes nothing.
use Rattle.std.proofs.Common.{◌≡◌, sym, ap, ◌∙◌, true, false, List, ◌∷◌, ℕ, ◌+◌, ◌^◌, ◌≤◌, zero-le, max, arith, zero-add, add-zero, length, drop, drop_of_length-le}
use Rattle.field.specs.Logarithm.{clog}
use Rattle.field.specs.Sum.{total}
use Rattle.digits.specs.Number.{most_digits}
use Rattle.circuit.specs.Sums.{largest}
use Rattle.comparison.specs.Condition.{Condition}
use Rattle.forecast.specs.Counting.{digit_counts, condition_counts, most_in_condition, Within, totals_of, TotalsWithin}
use Rattle.forecast.specs.declared.Counts.{Counts}
use Rattle.forecast.specs.declared.Totals.{Totals}
use Rattle.forecast.proofs.Counting.{condition_is}

abbrev totals : ℕ → ℕ → ℕ → ℕ → ℕ → Totals
totals g m q b n = record { gates = g; products = m; squares = q; breadth = b; longest = n }

totals_same : {g m q b n g' m' q' b' n' : ℕ} → g ≡ g' → m ≡ m' → q ≡ q' → b ≡ b' → n ≡ n' → totals g m q b n ≡ totals g' m' q' b' n'
totals_same e f h i j = cc

-- with the counts of one condition, after which this is the largest digit count; and with those of others
abbrev pub more : Totals → Counts → ℕ → ℕ → Totals
more t own power longest =
    totals (t.gates + own.gates) (t.products + own.products) (t.squares + own.squares) (t.breadth + power) longest

abbrev plus : Totals → Totals → Totals
plus t u =
    totals (t.gates + u.gates) (t.products + u.products) (t.squares + u.squares) (t.breadth + u.breadth) (max t.longest u.longest)

-- what is known between two turns: k conditions are counted, and with those that are left they make the whole
pub record Adds (p : ℕ) (cs : List Condition) (k : ℕ) (t : Totals) : Type 0 where
  pub few : TotalsWithin k t
  pub goes : plus t (totals_of p (drop k cs)) ≡ totals_of p cs

pub starts : (p : ℕ) (cs : List Condition) → Adds p cs 0 (totals 0 0 0 0 0)
starts p cs = record {
  few = (zero-le, zero-le, zero-le, zero-le, zero-le);
  goes = totals_same (zero-add _) (zero-add _) (zero-add _) (zero-add _) (omega arith);
}

pub finishes : (p : ℕ) (cs : List Condition) (k : ℕ) (t : Totals) → length cs ≤ k → Adds p cs k t → t ≡ totals_of p cs
unfolding total largest
finishes p cs k t h a =
    totals_same (sym (add-zero _)) (sym (add-zero _)) (sym (add-zero _)) (sym (add-zero _)) (omega arith)
    ∙ ap (λ (left : List Condition). plus t (totals_of p left)) (sym (drop_of_length-le cs h))
    ∙ a.goes

-- one condition more
one_more : (p : ℕ) (t : Totals) (c : Condition) (cs : List Condition) (own : Counts) (power longest : ℕ)
    → own ≡ condition_counts c.relation c.digits (digit_counts true p) (digit_counts false p) → power ≡ 2 ^ clog c.digits
    → longest ≡ max t.longest c.digits
    → plus (more t own power longest) (totals_of p cs) ≡ plus t (totals_of p (c ∷ cs))
unfolding total largest
one_more p t c cs own power longest e f h =
    rw (e ∙ condition_is p c, f, h) (totals_same (omega arith) (omega arith) (omega arith) (omega arith) (omega arith))

pub adds : (p : ℕ) (cs : List Condition) (k : ℕ) (t : Totals) → Adds p cs k t
    → (c : Condition) (own : Counts) (power longest : ℕ) → drop k cs ≡ c ∷ drop (k + 1) cs
    → own ≡ condition_counts c.relation c.digits (digit_counts true p) (digit_counts false p) → Within most_in_condition own
    → power ≡ 2 ^ clog c.digits → power ≤ 32
    → longest ≡ max t.longest c.digits → c.digits ≤ most_digits
    → Adds p cs (k + 1) (more t own power longest)
adds p cs k t a c own power longest first counts within is small most low = record {
  few = omega (arith, a.few, within, small, most, low);
  goes =
      one_more p t c (drop (k + 1) cs) own power longest counts is most
      ∙ ap (λ (left : List Condition). plus t (totals_of p left)) (sym first)
      ∙ a.goes;
}
