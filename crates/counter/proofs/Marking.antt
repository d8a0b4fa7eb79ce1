-- Marking the used gates from the last one down: once the gates from number k on are visited, the marks stand at what they need.
-- A visit enters marks at just the numbers that the definition of `needed` puts before the others.
-- Assumes nothing.
use Rattle.std.proofs.Common.{◌≡◌, refl, ◌∙◌, Bool, true, false, ◌||◌, List, [], ◌∷◌, ◌++◌, ℕ, suc, ◌-◌, ◌≤◌, ◌<◌, arith, eq-eqb, ne_eqb, eqb, length, get_or, set, drop, length-set, drop_of_length-le, drop-cons}
use Rattle.field.specs.Member.{member}
use Rattle.field.proofs.Member.{member_append}
use Rattle.circuit.specs.Gate.{Gate, Left}
use Rattle.circuit.specs.Operands.{operands}
use Rattle.circuit.specs.Used.{only_if, needed}
use Rattle.circuit.proofs.LastUse.{or_else}
use Rattle.records.specs.Operands.{entered}
use Rattle.records.proofs.Entered.{length_entered, entered_at}
use Rattle.counter.specs.Gates.{gates_of, gate_at, Countable}
use Rattle.counter.specs.Marks.{Marks, AtMost}

-- ---- a value entered at places

module _ (value : ℕ) (places list : List ℕ) where
  pub marks_more : (numbers : List ℕ) → Marks value list numbers → Marks value (entered value places list) (places ++ numbers)
  marks_more numbers h i l =
      let m : i < length list = rw (length_entered value places list) at l in
      rw (entered_at value places list i m, member_append i places numbers, ← h i m) (go (member i places))
    where
      go : (t : Bool) → eqb (or_else t value (get_or list i 0)) value ≡ (t || eqb (get_or list i 0) value)
      go true = eq-eqb value value refl
      go false = refl

  pub at_most_more : (most : ℕ) → value ≤ most → AtMost most list → AtMost most (entered value places list)
  at_most_more most v h i l =
      let m : i < length list = rw (length_entered value places list) at l in
      rw (entered_at value places list i m) (go (member i places) (h i m))
    where
      go : (t : Bool) → get_or list i 0 ≤ most → or_else t value (get_or list i 0) ≤ most
      go true low = v
      go false low = low

-- no entry is a value above the bound
pub none_marked : (most value : ℕ) (list : List ℕ) → most < value → AtMost most list → Marks value list []
unfolding member
none_marked most value list l low i m = ne_eqb (get_or list i 0) value (λ e. omega (arith, low i m))

-- ---- the pass: the gates from number k on are visited

pub record Marking (gates : List Gate) (count size : ℕ) (marks : List ℕ) (k : ℕ) : Type 0 where
  pub most : k ≤ count
  pub long : length marks ≡ size
  pub needs : Marks 1 marks (needed ((count - 1) ∷ []) k (drop k gates))
  pub low : AtMost 1 marks

-- gate number k is visited
turn : (gates : List Gate) (count size : ℕ) (marks : List ℕ) (k : ℕ) → length gates ≡ count → count ≤ size → Marking gates count size marks (suc k)
    → Marking gates count size (entered 1 (only_if (eqb (get_or marks k 0) 1) (operands (gate_at gates k))) marks) k
unfolding needed
turn gates count size marks k many room m =
    let places = only_if (eqb (get_or marks k 0) 1) (operands (gate_at gates k)) in
    record {
      most = omega arith;
      long = length_entered 1 places marks ∙ m.long;
      needs =
          rw (drop-cons gates k (Left 0) (omega arith), ← m.needs k (omega arith))
          (marks_more 1 places marks _ m.needs);
      low = at_most_more 1 places marks 1 (omega arith) m.low;
    }

module _ {table : List ℕ} {count : ℕ} (records : Countable table count) where
  pub marking_starts : (marks : List ℕ) → AtMost 0 marks → Marking (gates_of table) count (length marks) (set marks (count - 1) 1) count
  unfolding needed
  marking_starts marks clear = record {
    most = omega arith;
    long = length-set marks (count - 1) 1;
    needs =
        rw (drop_of_length-le (gates_of table) {i = count} (omega arith))
        (marks_more 1 ((count - 1) ∷ []) marks [] (none_marked 0 1 marks (omega arith) clear));
    low = at_most_more 1 ((count - 1) ∷ []) marks 1 (omega arith) (λ i l. omega (arith, clear i l));
  }

  module _ {size k : ℕ} {marks : List ℕ} (m : Marking (gates_of table) count size marks k) where
    pub marking_again : count ≤ size → 0 < k
        → Marking (gates_of table) count size (entered 1 (only_if (eqb (get_or marks (k - 1) 0) 1) (operands (gate_at (gates_of table) (k - 1)))) marks) (k - 1)
    marking_again room some =
        let one : k ≡ suc (k - 1) = omega arith in turn (gates_of table) count size marks (k - 1) records.many room (rw one at m)
