-- Order joining (document 01, "Writing one condition"), over the nodes of L and E of each digit.
use Rattle.std.specs.Prelude.{ℕ, zero, suc, ◌+◌, ◌-◌, ◌/◌, true, false, List, [], ◌∷◌, ◌++◌, leb}
use Rattle.std.proofs.Math.ListN.{length}
use Rattle.circuit.specs.Gate.{Gate, Add, Mul}
use Rattle.circuit.specs.Segment.{Node, times, plus, Segment}
use Rattle.circuit.specs.Tree.{Tree, leaf, join}

-- "a run of m>=2 digits splits into the low floor(m/2) and the rest": the digits from number first on;
-- the first argument bounds the splits
unfoldable pub halves : ℕ → ℕ → ℕ → Tree ℕ
halves zero first m = leaf first
halves (suc most) first m =
    elim (leb m 1) [ true ↦ leaf first | false ↦ join (halves most first (m / 2)) (halves most (first + m / 2) (m - m / 2)) ]

-- a run's gates, and the nodes that hold its L and its E
pub record JoinedRun : Type 0 where
  pub gates : List Gate
  pub less : Node
  pub equal : Node

-- "MUL(E_high, L_low), ADD(L_high, it)": from gate number k on, of L of the low part, and L and E of the high part
abbrev pub less_join : ℕ → Node → Node → Node → List Gate
less_join k low high equal = Mul equal.gate low.gate ∷ Add high.gate k ∷ []

-- the node of that L
abbrev pub joined_less : ℕ → Node → Node → Node → Node
joined_less k low high equal = plus (suc k) high (times k equal low)

module _ (less equal : ℕ → Node) where
  -- "low joins first, then high, then MUL(E_high, L_low), ADD(L_high, it), and, if the run lacks digit 0, MUL(E_low, E_high)"
  unfoldable pub join_run : Tree ℕ → ℕ → JoinedRun
  join_run (leaf j) k = record { gates = []; less = less j; equal = equal j }
  join_run (join low high) k =
      let l = join_run low k in
      let h = join_run high (k + length l.gates) in
      let next = k + length l.gates + length h.gates in
      record {
        gates = l.gates ++ (h.gates ++ (less_join next l.less h.less h.equal ++ (Mul l.equal.gate h.equal.gate ∷ [])));
        less = joined_less next l.less h.less h.equal;
        equal = times (suc (suc next)) l.equal h.equal;
      }

  -- the same for a run that holds digit 0, which has no E: its output is L
  unfoldable pub join_lowest : Tree ℕ → ℕ → Segment
  unfolding join_run
  join_lowest (leaf j) k = record { gates = []; output = less j }
  join_lowest (join low high) k =
      let l = join_lowest low k in
      let h = join_run high (k + length l.gates) in
      let next = k + length l.gates + length h.gates in
      record {
        gates = l.gates ++ (h.gates ++ less_join next l.output h.less h.equal);
        output = joined_less next l.output h.less h.equal;
      }

-- a run of m digits from number first on
abbrev pub run_from : (ℕ → Node) → (ℕ → Node) → ℕ → ℕ → ℕ → JoinedRun
run_from less equal first m k = join_run less equal (halves m first m) k

-- the run of all n digits
abbrev pub whole_run : (ℕ → Node) → (ℕ → Node) → ℕ → ℕ → Segment
whole_run less equal n k = join_lowest less equal (halves n 0 n) k
