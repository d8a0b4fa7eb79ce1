-- Counting chain by chain: the sums over the higher operands, and in the end what they are in the definition's terms.
-- Assumes nothing.
use Rattle.std.proofs.Common.{◌≡◌, refl, sym, ◌∙◌, Bool, true, false, List, [], ◌∷◌, ◌++◌, ℕ, suc, ◌+◌, ◌*◌, ◌≤◌, ◌<◌, zero-le, add-one, arith, eqb, length, get_or}
use Rattle.answer.specs.Outcome.{accepted}
use Rattle.field.specs.Bit.{bit}
use Rattle.field.specs.Member.{member}
use Rattle.field.proofs.Bit.{bit_below}
use Rattle.circuit.specs.Count.{distinct, counted, products, squares}
use Rattle.circuit.specs.Every.{Every}
use Rattle.circuit.specs.Gate.{Gate}
use Rattle.circuit.specs.Reading.{reading}
use Rattle.circuit.specs.Table.{most_gates}
use Rattle.circuit.specs.Used.{only_if, pick, used_numbers, used}
use Rattle.circuit.proofs.Bounds.{counted_below}
use Rattle.records.specs.Read.{gates_read, gates_in}
use Rattle.counter.specs.Chains.{Walked, ChainsCountable}
use Rattle.counter.specs.Counts.{CountsOf}
use Rattle.counter.specs.Gates.{gates_of, gate_at}
use Rattle.counter.specs.Marks.{AtMost}
use Rattle.counter.specs.Pairs.{lowers, different}
use Rattle.counter.specs.declared.Counts.{Counts}
use Rattle.counter.proofs.Gates.{countable, operands_lower}
use Rattle.counter.proofs.Pairs.{sum_to, pairs_below, squares_below, Below, pairs_grouped, squares_grouped, muls_split}

-- ---- the sums, as counts of gates

every_at : (P : Gate → Type 0) (gs : List Gate) → ((k : ℕ) → k < length gs → P (gate_at gs k)) → Every P gs
every_at P [] h = tt
every_at P (g ∷ gs) h = (h 0 (omega arith), every_at P gs (λ k l. h (suc k) (omega arith)))

every_picked : (P : Gate → Type 0) (numbers : List ℕ) (k : ℕ) (gs : List Gate) → Every P gs → Every P (pick numbers k gs)
unfolding pick
every_picked P numbers k [] h = tt
every_picked P numbers k (g ∷ gs) h = go (member k numbers) (every_picked P numbers (suc k) gs h.1)
  where
    go : (t : Bool) → Every P (pick numbers (suc k) gs) → Every P (only_if t (g ∷ []) ++ pick numbers (suc k) gs)
    go true later = (h.0, later)
    go false later = later

module _ (table : List ℕ) (n : ℕ) (many : length (gates_of table) ≡ n) where
  abbrev gates : List Gate
  gates = gates_of table

  below : Below n (used gates)
  below =
      every_picked _ (used_numbers gates) 0 gates
      (every_at _ gates (λ k l m. omega (arith, operands_lower table k l m)))

  pub pairs_are : pairs_below (used gates) n ≡ products gates + squares gates
  unfolding counted
  pairs_are = sym (pairs_grouped n (used gates) below) ∙ muls_split (distinct (used gates))

  pub squares_are : squares_below (used gates) n ≡ squares gates
  unfolding counted
  squares_are = sym (squares_grouped n (used gates) below)

-- ---- the loop: the chains of the higher operands below h are counted

pub record Counting (gates : List Gate) (count size : ℕ) (marks : List ℕ) (pairs own h : ℕ) : Type 0 where
  pub most : h ≤ count
  pub long : length marks ≡ size
  pub all : pairs ≡ pairs_below (used gates) h
  pub squares : own ≡ squares_below (used gates) h
  pub few : pairs ≤ most_gates * h
  pub fewer : own ≤ h
  pub old : AtMost (h + 1) marks

module _ {table : List ℕ} {count : ℕ} {starts next marks₀ : List ℕ} (p : ChainsCountable table count starts next marks₀) where
  pub counting_starts : Counting (gates_of table) count (length marks₀) marks₀ 0 0 0
  unfolding sum_to
  counting_starts = record { most = zero-le; long = refl; all = refl; squares = refl; few = zero-le; fewer = zero-le; old = p.old }

  module _ {marks : List ℕ} {pairs own h : ℕ} (c : Counting (gates_of table) count (length marks₀) marks pairs own h) where
    module _ (l : h < count) where
      among : h < length (gates_of table)
      among = omega arith

      -- a chain starts at a gate
      pub start_below : get_or starts h 0 < most_gates
      start_below = omega (arith, (p.linked h among).0)

      -- n different lower operands go with h
      pub counting_again : (marks' : List ℕ) (n : ℕ) → length marks' ≡ length marks → n ≡ different (lowers h (used (gates_of table)))
          → n ≤ get_or starts h 0 → Walked (gates_of table) h marks'
          → Counting (gates_of table) count (length marks₀) marks' (pairs + n) (own + bit (eqb (get_or marks' h 0) (h + 2))) (h + 1)
      unfolding sum_to
      counting_again marks' n same e small w =
          let test : eqb (get_or marks' h 0) (h + 2) ≡ member h (lowers h (used (gates_of table))) = w.stamped h (omega arith) in
          let next : h + 1 + 1 ≡ h + 2 = omega arith in
          record {
            most = omega arith;
            long = same ∙ c.long;
            all = rw (add-one h) (omega arith);
            squares = rw (add-one h, test) (omega arith);
            few = omega (arith, start_below);
            fewer = omega (arith, bit_below 2 (omega arith) (eqb (get_or marks' h 0) (h + 2)));
            old = rw next w.old;
          }

    pub counting_ends : count ≤ h
        → (pairs ≡ products (gates_of table) + squares (gates_of table)) × (own ≡ squares (gates_of table)) × (pairs ≤ count)
    counting_ends l =
        let end : h ≡ count = omega arith in
        let all = rw (end, pairs_are table count p.records.many) at c.all in
        (all, rw (end, squares_are table count p.records.many) at c.squares, omega (arith, counted_below (gates_of table)))

-- ---- the answer, of a table that was read

module _ (table : List ℕ) (n : ℕ) (e : gates_read (reading table) ≡ accepted n) where
  abbrev read : List Gate
  read = gates_in (reading table)

  pub told : {counts : Counts} → CountsOf (gates_of table) counts
      → (counts.products ≡ products read) × (counts.squares ≡ squares read) × (counts.products + counts.squares ≤ n)
  unfolding gates_of
  told c = (c.products_are, c.squares_are, omega (arith, (countable table n e).many))
