-- Linking the used MULs, from the first gate up, into chains by their higher operands.
-- A chain turned over onto the lower operands that later gates add is always the whole list, so that a link moves one number and changes nothing else.
-- Assumes nothing.
use Rattle.std.proofs.Common.{◌≡◌, refl, sym, subst, ◌∙◌, Bool, true, false, ◌&&◌, List, [], ◌∷◌, ◌++◌, ℕ, suc, ◌+◌, ◌-◌, ◌≤◌, ◌<◌, zero-le, add-one, arith, eq-eqb, ne_eqb, eqb, length, get_or, set, drop, drop_of_length-le, drop-cons, get_or-set_same, get_or-set_other}
use native.Mathlib.Decide.{ℕ_discrete}
use Rattle.field.specs.Member.{member}
use Rattle.field.proofs.Tests.{both}
use Rattle.circuit.specs.Count.{is_mul}
use Rattle.circuit.specs.Gate.{Gate, Left}
use Rattle.circuit.specs.Used.{only_if, pick, used_numbers, used}
use Rattle.records.specs.Operands.{entered}
use Rattle.records.proofs.Entered.{length_entered}
use Rattle.counter.specs.Chains.{is_linked, starts_after, next_after, Chain, Chained, Linkable, Linked}
use Rattle.counter.specs.Gates.{gates_of, gate_at}
use Rattle.counter.specs.Marks.{Marks}
use Rattle.counter.specs.Pairs.{lower, higher, lowers}
use Rattle.counter.proofs.Gates.{Lower, operands_lower}

-- the higher operand of a used MUL is a lower gate
pub linked_below : (gates : List Gate) (marks : List ℕ) (k : ℕ) → Lower gates → k < length gates → is_linked gates marks k ≡ true → higher (gate_at gates k) < k
linked_below gates marks k low l e = low k l (both (eqb (get_or marks k 0) 1) (is_mul (gate_at gates k)) e).1

-- ---- one chain

module _ (gates : List Gate) (next : List ℕ) (k : ℕ) where
  -- a store above a chain leaves it as it is
  chain_kept : (v i : ℕ) (chain : List ℕ) → i < k → Chain gates next i chain → Chain gates (set next k v) i chain
  unfolding Chain
  chain_kept v i [] l c = c
  chain_kept v i (x ∷ xs) l c =
      rw (get_or-set_other next k i v 0 (λ e. omega arith))
      (c.0, c.1, c.2, chain_kept v (get_or next i 0) xs (omega (arith, c.0)) c.3)

  other_kept : (v i : ℕ) (others whole : List ℕ) → i < k → Chained gates next i others whole → Chained gates (set next k v) i others whole
  other_kept v i others whole l c = record { chain = c.chain; links = chain_kept v i c.chain l c.links; gives = c.gives }

  -- gate number k put before a chain
  put_before : (old : ℕ) (others whole : List ℕ) → old < k → k < length next → lower (gate_at gates k) < k
      → Chained gates next old (lower (gate_at gates k) ∷ others) whole → Chained gates (set next k old) k others whole
  unfolding Chain
  put_before old others whole l room low c = record {
    chain = lower (gate_at gates k) ∷ c.chain;
    links = rw (get_or-set_same next k old 0 room) (l, low, refl, chain_kept old old c.chain l c.links);
    gives = c.gives;
  }

-- ---- all chains, once the gates below number k are linked

-- the lower operands that the gates from number k on add to the group of h
abbrev added : List Gate → ℕ → ℕ → List ℕ
added gates h k = lowers h (pick (used_numbers gates) k (drop k gates))

-- the chain of h
abbrev ChainOf : List Gate → ℕ → List ℕ → List ℕ → ℕ → Type 0
ChainOf gates h starts next k =
    (get_or starts h 0 ≤ k - 1) × Chained gates next (get_or starts h 0) (added gates h k) (lowers h (used gates))

abbrev Chains : List Gate → List ℕ → List ℕ → ℕ → Type 0
Chains gates starts next k = (h : ℕ) → h < length gates → ChainOf gates h starts next k

module _ (gates : List Gate) (low : Lower gates) (marks starts next : List ℕ) (k : ℕ) (l : k < length gates)
    (marked : Marks 1 marks (used_numbers gates)) (room_marks : length gates ≤ length marks) (room_starts : length gates ≤ length starts)
    (room_next : length gates ≤ length next) where
  abbrev gate : Gate
  gate = gate_at gates k

  abbrev high : ℕ
  high = higher gate

  added_next : (h : ℕ) → added gates h k ≡ only_if (is_linked gates marks k && eqb high h) (lower gate ∷ []) ++ added gates h (suc k)
  unfolding pick lowers
  added_next h =
      rw (drop-cons gates k (Left 0) l, marked k (omega arith)) (go (member k (used_numbers gates)))
    where
      go : (t : Bool) → lowers h (only_if t (gate ∷ []) ++ pick (used_numbers gates) (suc k) (drop (suc k) gates))
          ≡ only_if (t && is_mul gate && eqb high h) (lower gate ∷ []) ++ added gates h (suc k)
      go true = refl
      go false = refl

  link_turn : Chains gates starts next k → Chains gates (starts_after gates marks k starts) (next_after gates marks k starts next) (suc k)
  link_turn chains h among =
      let c = subst (λ (others : List ℕ). Chained gates next (get_or starts h 0) others (lowers h (used gates))) (added_next h) (chains h among).1 in
      go (is_linked gates marks k) refl (ℕ_discrete high h) c
    where
      go : (t : Bool) → is_linked gates marks k ≡ t → Dec (high ≡ h)
          → Chained gates next (get_or starts h 0) (only_if (t && eqb high h) (lower gate ∷ []) ++ added gates h (suc k)) (lowers h (used gates))
          → ChainOf gates h (entered k (only_if t (high ∷ [])) starts) (entered (get_or starts high 0) (only_if t (k ∷ [])) next) (suc k)
      go false e d c = (omega (arith, (chains h among).0), c)
      go true e (yes s) c =
          let below = linked_below gates marks k low l e in
          let here : get_or (set starts high k) h 0 ≡ k = rw (← s) (get_or-set_same starts high k 0 (omega arith)) in
          let old : get_or starts high 0 ≡ get_or starts h 0 = rw s in
          rw (here, old)
          (omega arith, put_before gates next k (get_or starts h 0) _ _ (omega (arith, (chains h among).0)) (omega arith) (omega arith) (rw (eq-eqb high h s) at c))
      go true e (no n) c =
          let below = linked_below gates marks k low l e in
          rw (get_or-set_other starts high h k 0 (λ s. n (sym s)))
          (omega (arith, (chains h among).0), other_kept gates next k _ (get_or starts h 0) _ _ (omega (arith, (chains h among).0)) (rw (ne_eqb high h n) at c))

-- ---- the pass

pub record Linking (gates : List Gate) (count size_starts size_next : ℕ) (starts next : List ℕ) (k : ℕ) : Type 0 where
  pub most : k ≤ count
  pub long_starts : length starts ≡ size_starts
  pub long_next : length next ≡ size_next
  pub chains : Chains gates starts next k

module _ {table : List ℕ} {count : ℕ} {marks starts₀ next₀ : List ℕ} (p : Linkable table count marks starts₀ next₀) where
  abbrev gates : List Gate
  gates = gates_of table

  pub linking_starts : Linking gates count (length starts₀) (length next₀) starts₀ next₀ 0
  unfolding Chain
  linking_starts = record {
    most = zero-le;
    long_starts = refl;
    long_next = refl;
    chains = λ h l.
        let first = p.clear h (omega arith) in
        (first, record { chain = []; links = omega arith; gives = refl });
  }

  module _ {starts next : List ℕ} {k : ℕ} (c : Linking gates count (length starts₀) (length next₀) starts next k) where
    pub linking_again : k < count → Linking gates count (length starts₀) (length next₀) (starts_after gates marks k starts) (next_after gates marks k starts next) (k + 1)
    linking_again l = record {
      most = omega arith;
      long_starts = length_entered k (only_if (is_linked gates marks k) (higher (gate_at gates k) ∷ [])) starts ∙ c.long_starts;
      long_next = length_entered (get_or starts (higher (gate_at gates k)) 0) (only_if (is_linked gates marks k) (k ∷ [])) next ∙ c.long_next;
      chains =
          rw (add-one k)
          (link_turn gates (operands_lower table) marks starts next k (omega arith) p.marked.used (omega arith) (omega arith) (omega arith) c.chains);
    }

    pub linking_ends : count ≤ k → Linked gates starts next
    unfolding pick lowers
    linking_ends l h among =
        let over : drop k gates ≡ [] = drop_of_length-le gates {i = k} (omega arith) in
        let all = c.chains h among in
        (omega arith, rw over at all.1)
