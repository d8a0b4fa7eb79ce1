-- Gates that all count: each but the last is read by a gate, and no pair is repeated. A gate that is read is read by a later one,
-- so by induction from the last gate down all are used.
-- Assumes nothing.
use mathlib.Core.Path.{◌≡◌, refl, ap}
use mathlib.Core.Bool.{true, false}
use mathlib.Core.List.{List, [], ◌∷◌}
use mathlib.Core.Logic.{inl, inr}
use Prim.Native.Nat.{ℕ, zero, suc, ◌+◌, ◌≤◌, ◌<◌}
use native.Mathlib.Omega.{arith}
use native.Mathlib.Decide.{ℕ_discrete}
use lib.ListN.{length}
use Rattle.field.specs.Member.{member}
use Rattle.circuit.specs.Count.{same_pair, repeated, distinct, counted}
use Rattle.circuit.specs.Every.{Every, Some}
use Rattle.circuit.specs.Gate.{Gate}
use Rattle.circuit.specs.Operands.{operands, Reads}
use Rattle.circuit.specs.Table.{Head, all_fit}
use Rattle.circuit.specs.Used.{Used, is_output, is_read, pick, used_numbers, used}
use Rattle.circuit.proofs.Fitting.{AllNamed, all_named}
use Rattle.circuit.proofs.Operands.{read_before}
use Rattle.circuit.proofs.Some.{some_member}
use Rattle.circuit.proofs.Unrepeated.{Unrepeated}
use Rattle.circuit.proofs.Used.{needed_is_used}

-- a gate of the list reads gate number i
abbrev pub Read : ℕ → List Gate → Type 0
Read i gs = Some (λ (g : Gate). Some (λ (j : ℕ). j ≡ i) (operands g)) gs

-- ---- all are used

reader : (i : ℕ) (gs : List Gate) → Read i gs → (k : ℕ) × Reads gs k i
reader i [] h = absurd h
reader i (g ∷ gs) (inl h) = (0, record { gate = g; is = refl; does = some_member i (operands g) h })
reader i (g ∷ gs) (inr h) =
    let r = reader i gs h in (suc r.0, record { gate = r.1.gate; is = r.1.is; does = r.1.does })

module _ (gates : List Gate) (named : AllNamed 0 gates) (read : (i : ℕ) → suc i < length gates → Read i gates) where
  -- by the distance from the end
  all_used : (d i : ℕ) → i < length gates → length gates ≤ i + d → Used gates i
  all_used zero i l m = absurd (omega arith)
  all_used (suc d) i l m = go (ℕ_discrete (suc i) (length gates)) (λ k up low. all_used d k low (omega arith))
    where
      go : Dec (suc i ≡ length gates) → ((k : ℕ) → i < k → k < length gates → Used gates k) → Used gates i
      go (yes e) later = is_output i (omega arith)
      go (no n) later =
          let r = reader i gates (read i (omega arith)) in
          let before = read_before gates r.0 i named r.1 in is_read i r.0 (later r.0 before.0 before.1) r.1

-- ---- so all are picked, and none is dropped

pick_all : (numbers : List ℕ) (k : ℕ) (gs : List Gate) → ((i : ℕ) → k ≤ i → i < k + length gs → member i numbers ≡ true)
    → pick numbers k gs ≡ gs
unfolding pick
pick_all numbers k [] h = refl
pick_all numbers k (g ∷ gs) h =
    rw (h k (omega arith) (omega arith))
    (ap (λ (later : List Gate). g ∷ later) (pick_all numbers (suc k) gs (λ i l m. h i (omega arith) (omega arith))))

none_repeats : (g : Gate) (gs : List Gate) → Every (λ (h : Gate). same_pair g h ≡ false) gs → repeated g gs ≡ false
unfolding repeated
none_repeats g [] h = refl
none_repeats g (f ∷ fs) h = rw h.0 (none_repeats g fs h.1)

distinct_all : (gs : List Gate) → Unrepeated gs → distinct gs ≡ gs
unfolding distinct
distinct_all [] h = refl
distinct_all (g ∷ gs) h = rw (none_repeats g gs h.0) (ap (λ (later : List Gate). g ∷ later) (distinct_all gs h.1))

pub all_counted : (head : Head) (gates : List Gate) → all_fit head 0 gates ≡ true → ((i : ℕ) → suc i < length gates → Read i gates)
    → Unrepeated gates → counted gates ≡ gates
unfolding counted
all_counted head gates fit read pairs =
    let named = all_named head 0 gates fit in
    let same : used gates ≡ gates
    = pick_all (used_numbers gates) 0 gates
    (λ i l m. (needed_is_used head gates i fit).1 (all_used gates named read (length gates) i (omega arith) (omega arith))) in
    rw same (distinct_all gates pairs)
