-- Walking along the chain of a higher operand: what was seen is counted and stamped, and the rest of the chain, turned over onto it, is the whole.
-- Assumes nothing.
use Rattle.std.proofs.Common.{◌≡◌, refl, ap, ◌∙◌, ◌≢◌, not, List, [], ◌∷◌, ℕ, ◌+◌, ◌≤◌, ◌<◌, arith, le_refl, eqb, length, get_or, set}
use mathlib.Core.List.{reverse_aux}
use Rattle.field.specs.Bit.{bit}
use Rattle.field.proofs.Bit.{bit_below}
use Rattle.circuit.specs.Gate.{Gate}
use Rattle.circuit.specs.Used.{used}
use Rattle.records.proofs.Entered.{length_entered}
use Rattle.counter.specs.Chains.{Chain, Chained, Walkable, Walked}
use Rattle.counter.specs.Gates.{gates_of, gate_at}
use Rattle.counter.specs.Marks.{Marks, AtMost}
use Rattle.counter.specs.Pairs.{lower, lowers, different}
use Rattle.counter.proofs.Marking.{marks_more, at_most_more, none_marked}

-- n lower operands were counted, and gate number i is next
pub record Walking (gates : List Gate) (next whole : List ℕ) (size stamp start : ℕ) (marks : List ℕ) (n i : ℕ) : Type 0 where
  pub long : length marks ≡ size
  pub few : n + i ≤ start
  pub seen : List ℕ
  pub chained : Chained gates next i seen whole
  pub counts : n ≡ different seen
  pub stamped : Marks stamp marks seen
  pub low : AtMost stamp marks

pub walking_starts : {table : List ℕ} {h start : ℕ} {next marks : List ℕ} → Walkable table h start next marks
    → Walking (gates_of table) next (lowers h (used (gates_of table))) (length marks) (h + 2) start marks 0 start
unfolding different
walking_starts {table} {h} {start} {next} {marks} w = record {
  long = refl;
  few = omega arith;
  seen = [];
  chained = w.chained;
  counts = refl;
  stamped = none_marked (h + 1) (h + 2) marks (omega arith) w.old;
  low = λ i l. omega (arith, w.old i l);
}

module _ {gates : List Gate} {next whole : List ℕ} {size stamp start : ℕ} {marks : List ℕ} {n i : ℕ}
    (w : Walking gates next whole size stamp start marks n i) where
  module _ (some : i ≢ 0) where
    -- the lower operand of the gate
    abbrev low : ℕ
    low = lower (gate_at gates i)

    record Link : Type 0 where
      falls : get_or next i 0 < i
      below : low < i
      chained : Chained gates next (get_or next i 0) (low ∷ w.seen) whole

    link : Link
    unfolding Chain
    link = go w.chained.chain w.chained.links w.chained.gives
      where
        go : (chain : List ℕ) → Chain gates next i chain → reverse_aux chain w.seen ≡ whole → Link
        go [] c e = absurd (some c)
        go (x ∷ xs) c e = record {
          falls = c.0;
          below = rw c.2 at c.1;
          chained = record { chain = xs; links = c.3; gives = rw c.2 at e };
        }

    pub walk_below : low < i
    walk_below = link.below

    pub walk_falls : get_or next i 0 < i
    walk_falls = link.falls

    pub walking_again : start < size
        → Walking gates next whole size stamp start (set marks low stamp) (n + bit (not (eqb (get_or marks low 0) stamp))) (get_or next i 0)
    unfolding different
    walking_again room = record {
      long = length_entered stamp (low ∷ []) marks ∙ w.long;
      few = omega (arith, link.falls, bit_below 2 (omega arith) (not (eqb (get_or marks low 0) stamp)));
      seen = low ∷ w.seen;
      chained = link.chained;
      counts = rw (w.stamped low (omega (arith, link.below))) (omega arith);
      stamped = marks_more stamp (low ∷ []) marks w.seen w.stamped;
      low = at_most_more stamp (low ∷ []) marks stamp (le_refl stamp) w.low;
    }

  -- the end of the chain
  all_seen : i ≡ 0 → w.seen ≡ whole
  unfolding Chain
  all_seen e = go w.chained.chain (rw e at w.chained.links) w.chained.gives
    where
      go : (chain : List ℕ) → Chain gates next 0 chain → reverse_aux chain w.seen ≡ whole → w.seen ≡ whole
      go [] c g = g
      go (x ∷ xs) c g = absurd (omega (arith, c.0))

pub walking_ends : {gates : List Gate} {next : List ℕ} {size start : ℕ} {marks : List ℕ} {n i : ℕ} (h : ℕ)
    → Walking gates next (lowers h (used gates)) size (h + 2) start marks n i → i ≡ 0
    → ((n ≡ different (lowers h (used gates))) × (n ≤ start)) × Walked gates h marks
walking_ends h w e =
    let all = all_seen w e in
    ((w.counts ∙ ap different all, omega (arith, w.few)), record { stamped = rw all at w.stamped; old = w.low })
