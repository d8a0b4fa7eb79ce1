-- The last-use list: what is computed is the last reader or, where there is none, the gate's own number. So no gate is read after its release,
-- and since each entry is a reader or the gate itself, a safe list has nothing earlier.
-- Assumes nothing.
use mathlib.Core.Path.{◌≡◌, refl, sym, subst, ◌∙◌}
use mathlib.Core.Logic.{◌⊎◌, inl, inr}
use mathlib.Core.Bool.{Bool, true, false, false≢true}
use mathlib.Core.List.{List, [], ◌∷◌, ◌++◌}
use Prim.Native.Nat.{ℕ, zero, suc, ◌+◌, ◌-◌, ◌≤◌, ◌<◌}
use native.Mathlib.Omega.{arith}
use native.Mathlib.Nat.{add-zero}
use lib.ListN.{length, get_or, get_or-append}
use Rattle.field.specs.FirstValues.{first_values}
use Rattle.field.proofs.FirstValues.{length_first, first_at}
use Rattle.circuit.specs.Gate.{Gate}
use Rattle.circuit.specs.LastUse.{IsLastUse, read, unread, last_reader, last_use, last_uses}
use Rattle.circuit.specs.LastUsePromises.{LastUseIs, OneForEach, EntriesAreGates, OutputStays, NoLaterRead, NoneEarlier}
use Rattle.circuit.specs.Operands.{reads, Reads}
use Rattle.circuit.proofs.Fitting.{AllNamed, all_named}
use Rattle.circuit.proofs.Operands.{gate_below, read_before}

-- ---- the last reader

-- a number where a test holds, and otherwise another
abbrev pub or_else : Bool → ℕ → ℕ → ℕ
or_else test number other = elim test [ true ↦ number | false ↦ other ]

-- a last reader of gate i among gates of which the first has number k, or a number given and no reader
abbrev Found : ℕ → ℕ → ℕ → List Gate → ℕ → Type 0
Found i other k gs last =
    ((j : ℕ) × (last ≡ k + j) × Reads gs j i × ((m : ℕ) → Reads gs m i → m ≤ j)) ⊎ ((last ≡ other) × ((m : ℕ) → Reads gs m i → ⊥))

found : (i other k : ℕ) (gs : List Gate) → Found i other k gs (last_reader i other k gs)
unfolding last_reader
found i other k [] = inr (refl, λ m r. r.is)
found i other k (g ∷ gs) = go (reads i g) refl (found i (or_else (reads i g) k other) (suc k) gs)
  where
    -- gate number m + 1 of all is number m of the later ones
    after : (m : ℕ) → Reads (g ∷ gs) (suc m) i → Reads gs m i
    after m r = record { gate = r.gate; is = r.is; does = r.does }

    before : (m : ℕ) → Reads gs m i → Reads (g ∷ gs) (suc m) i
    before m r = record { gate = r.gate; is = r.is; does = r.does }

    go : (t : Bool) → reads i g ≡ t → Found i (or_else t k other) (suc k) gs (last_reader i (or_else t k other) (suc k) gs)
        → Found i other k (g ∷ gs) (last_reader i (or_else t k other) (suc k) gs)
    go t e (inl (j, is, r, most)) = inl (suc j, omega (arith, is), before j r, each)
      where
        each : (m : ℕ) → Reads (g ∷ gs) m i → m ≤ suc j
        each zero s = omega arith
        each (suc m) s = omega (arith, most m (after m s))
    go true e (inr (is, none)) = inl (0, omega (arith, is), record { gate = g; is = refl; does = e }, each)
      where
        each : (m : ℕ) → Reads (g ∷ gs) m i → m ≤ 0
        each zero s = omega arith
        each (suc m) s = absurd (none m (after m s))
    go false e (inr (is, none)) = inr (is, each)
      where
        each : (m : ℕ) → Reads (g ∷ gs) m i → ⊥
        each zero s = false≢true (sym e ∙ rw s.is s.does)
        each (suc m) s = none m (after m s)

-- one gate more, which reads gate i or leaves its last reader as it was
pub one_more_gate : (i other k : ℕ) (gs : List Gate) (g : Gate)
    → last_reader i other k (gs ++ (g ∷ [])) ≡ or_else (reads i g) (k + length gs) (last_reader i other k gs)
unfolding last_reader
one_more_gate i other k [] g = rw (add-zero k)
one_more_gate i other k (h ∷ hs) g =
    let same : suc k + length hs ≡ k + suc (length hs) = omega arith in
    one_more_gate i (or_else (reads i h) k other) (suc k) hs g ∙ rw same

-- of a whole list
abbrev Use : List Gate → ℕ → ℕ → Type 0
Use gates i last = Found i i 0 gates last

use_of : (gates : List Gate) (i : ℕ) → Use gates i (last_use gates i)
use_of gates i = found i i 0 gates

pub last_use_is : LastUseIs
last_use_is gates i last = (there (use_of gates i), λ e. subst (IsLastUse gates i) e (back (use_of gates i)))
  where
    there : {u : ℕ} → Use gates i (last_use gates i) → IsLastUse gates i u → last_use gates i ≡ u
    there (inl (j, is, r, most)) (read l s highest) = omega (arith, is, most l s, highest j r)
    there (inl (j, is, r, most)) (unread none) = absurd (none j r)
    there (inr (is, none)) (read l s highest) = absurd (none l s)
    there (inr (is, none)) (unread none') = is

    back : {u : ℕ} → Use gates i u → IsLastUse gates i u
    back {u} (inl (j, is, r, most)) = let same : j ≡ u = omega (arith, is) in subst (IsLastUse gates i) same (read j r most)
    back (inr (is, none)) = subst (IsLastUse gates i) (sym is) (unread none)

-- ---- the list of them

pub one_for_each : OneForEach
one_for_each gates = (length_first (length gates) (last_use gates), λ i l. first_at (length gates) (last_use gates) i l)

-- an entry, whatever stands after the list
pub entry : (gates : List Gate) (later : List ℕ) (i : ℕ) → i < length gates → get_or (last_uses gates ++ later) i 0 ≡ last_use gates i
entry gates later i l =
    get_or-append (last_uses gates) later 0 i (omega (arith, (one_for_each gates).0)) ∙ (one_for_each gates).1 i l

pub entries_are_gates : EntriesAreGates
entries_are_gates gates i l = rw ((one_for_each gates).1 i l) (go (use_of gates i))
  where
    go : {u : ℕ} → Use gates i u → u < length gates
    go (inl (j, is, r, most)) = omega (arith, is, gate_below gates j r.gate r.is)
    go (inr (is, none)) = omega (arith, is)

pub none_earlier : NoneEarlier
none_earlier gates list safe i l = rw ((one_for_each gates).1 i l) (go (use_of gates i))
  where
    go : {u : ℕ} → Use gates i u → u ≤ get_or list i 0
    go (inl (j, is, r, most)) = omega (arith, is, safe.kept j i r)
    go (inr (is, none)) = omega (arith, is, safe.there i l)

-- no gate reads another after its last use
late : (gates : List Gate) (k i : ℕ) → Reads gates k i → k ≤ last_use gates i
late gates k i r = go (use_of gates i)
  where
    go : {u : ℕ} → Use gates i u → k ≤ u
    go (inl (j, is, s, most)) = omega (arith, is, most k r)
    go (inr (is, none)) = absurd (none k r)

-- ---- of gates that keep the rules

module _ (gates : List Gate) (n : AllNamed 0 gates) where
  own : (i : ℕ) → i ≤ last_use gates i
  own i = go (use_of gates i)
    where
      go : {u : ℕ} → Use gates i u → i ≤ u
      go (inl (j, is, r, most)) = omega (arith, is, read_before gates j i n r)
      go (inr (is, none)) = omega (arith, is)

  -- nothing comes after the output, so nothing reads it
  last : (i : ℕ) → length gates ≤ suc i → last_use gates i ≡ i
  last i l = go (use_of gates i)
    where
      go : {u : ℕ} → Use gates i u → u ≡ i
      go (inl (j, is, r, most)) = absurd (omega (arith, read_before gates j i n r))
      go (inr (is, none)) = is

pub no_later_read : NoLaterRead
no_later_read head gates later t =
    let n = all_named head 0 gates t in
    record {
      kept = λ k i r. rw (entry gates later i (omega (arith, read_before gates k i n r))) (late gates k i r);
      there = λ i l. rw (entry gates later i l) (own gates n i);
    }

pub output_stays : OutputStays
unfolding first_values
output_stays head [] t = refl
output_stays head (g ∷ gs) t =
    (one_for_each (g ∷ gs)).1 (length (g ∷ gs) - 1) (omega arith) ∙ last (g ∷ gs) (all_named head 0 (g ∷ gs) t) (length (g ∷ gs) - 1) (omega arith)
