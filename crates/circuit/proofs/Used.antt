-- The list of needed numbers has each used gate and no other. By induction on the gates from the last one down:
-- a gate names only lower gates, so no gate adds its own number or a later one.
-- Assumes nothing.
use mathlib.Core.Path.{◌≡◌, refl, sym, subst, ◌∙◌}
use mathlib.Core.Logic.{⊎_elim}
use mathlib.Core.Bool.{Bool, true, false, ◌&&◌, ◌||◌, false≢true, or-true}
use mathlib.Core.List.{List, [], ◌∷◌, ◌++◌}
use Prim.Native.Nat.{ℕ, zero, suc, ◌+◌, ◌-◌, ◌≤◌}
use native.Mathlib.Omega.{arith}
use native.Mathlib.Nat.{add-zero, zero-add}
use borrow.Author.Tests.{eq-eqb}
use lib.ListN.{length}
use Rattle.field.specs.Member.{member}
use Rattle.field.proofs.Member.{member_cons, member_append}
use Rattle.field.proofs.Tests.{both, either}
use Rattle.circuit.specs.Gate.{Gate}
use Rattle.circuit.specs.Operands.{operands, GateIs}
use Rattle.circuit.specs.Used.{Used, is_output, is_read, only_if, needed}
use Rattle.circuit.specs.UsedPromises.{NeededIsUsed}
use Rattle.circuit.proofs.Fitting.{Named, AllNamed, all_named}
use Rattle.circuit.proofs.Operands.{reads_lower}

-- ---- one gate: what it reads is needed where its number is

module _ (numbers : List ℕ) (i k : ℕ) (g : Gate) (gs : List Gate) where
  pub needed_step : member i (needed numbers k (g ∷ gs))
      ≡ (member k (needed numbers (suc k) gs) && member i (operands g) || member i (needed numbers (suc k) gs))
  unfolding needed
  needed_step = go (member k (needed numbers (suc k) gs))
    where
      go : (t : Bool) → member i (only_if t (operands g) ++ needed numbers (suc k) gs)
          ≡ (t && member i (operands g) || member i (needed numbers (suc k) gs))
      go true = member_append i (operands g) (needed numbers (suc k) gs)
      go false = refl

  -- what is needed later stays needed
  pub needed_later : member i (needed numbers (suc k) gs) ≡ true → member i (needed numbers k (g ∷ gs)) ≡ true
  needed_later h = rw (needed_step, h) (or-true (member k (needed numbers (suc k) gs) && member i (operands g)))

  -- whether a gate is needed is decided by the gates after it
  pub needed_after : Named k g → k ≤ i → member i (needed numbers k (g ∷ gs)) ≡ member i (needed numbers (suc k) gs)
  needed_after n l = needed_step ∙ go (member i (operands g)) refl
    where
      drop_and : (s u : Bool) → (s && false || u) ≡ u
      drop_and true u = refl
      drop_and false u = refl

      go : (t : Bool) → member i (operands g) ≡ t
          → (member k (needed numbers (suc k) gs) && member i (operands g) || member i (needed numbers (suc k) gs))
          ≡ member i (needed numbers (suc k) gs)
      go true e = absurd (omega (arith, reads_lower i k g n e))
      go false e = rw e (drop_and (member k (needed numbers (suc k) gs)) _)

-- a number counted from the next gate on
pub moved : (k d : ℕ) → k + suc d ≡ suc k + d
moved k d = omega arith

-- ---- what is needed is used

-- gates that stand from number k on within all gates
sound : (gates : List Gate) (i k : ℕ) (gs : List Gate) → ((d : ℕ) (g : Gate) → GateIs gs d g → GateIs gates (k + d) g)
    → member i (needed ((length gates - 1) ∷ []) k gs) ≡ true → Used gates i
unfolding needed member
sound gates i k [] at h = ⊎_elim (λ e. is_output i (sym e)) (λ f. absurd (false≢true f)) (member_cons i (length gates - 1) [] h)
sound gates i k (g ∷ gs) at h =
    let later : (j : ℕ) → member j (needed ((length gates - 1) ∷ []) (suc k) gs) ≡ true → Used gates j
    = λ j. sound gates j (suc k) gs (λ d f e. subst (λ (n : ℕ). GateIs gates n f) (moved k d) (at (suc d) f e)) in
    let here : GateIs gates k g = subst (λ (n : ℕ). GateIs gates n g) (add-zero k) (at 0 g refl) in
    ⊎_elim
    (λ (e : (member k (needed ((length gates - 1) ∷ []) (suc k) gs) && member i (operands g)) ≡ true).
    let s = both _ _ e in is_read i k (later k s.0) (record { gate = g; is = here; does = s.1 }))
    (later i)
    (either _ _ (sym (needed_step ((length gates - 1) ∷ []) i k g gs) ∙ h))

-- ---- what is used is needed

given_needed : (numbers : List ℕ) (i k : ℕ) (gs : List Gate) → member i numbers ≡ true → member i (needed numbers k gs) ≡ true
unfolding needed
given_needed numbers i k [] h = h
given_needed numbers i k (g ∷ gs) h = needed_later numbers i k g gs (given_needed numbers i (suc k) gs h)

read_needed : (numbers : List ℕ) (i k d : ℕ) (g : Gate) (gs : List Gate) → AllNamed k gs → member (k + d) (needed numbers k gs) ≡ true
    → GateIs gs d g → member i (operands g) ≡ true → member i (needed numbers k gs) ≡ true
read_needed numbers i k d g [] n h at e = absurd at
read_needed numbers i k zero g (f ∷ gs) n h at e =
    let here : member k (needed numbers (suc k) gs) ≡ true
    = sym (needed_after numbers k k f gs n.0 (omega arith)) ∙ rw add-zero at h in
    rw (needed_step numbers i k f gs, here, at, e)
read_needed numbers i k (suc d) g (f ∷ gs) n h at e =
    let there : member (suc k + d) (needed numbers (suc k) gs) ≡ true
    = sym (needed_after numbers (suc k + d) k f gs n.0 (omega arith)) ∙ rw (moved k d) at h in
    needed_later numbers i k f gs (read_needed numbers i (suc k) d g gs n.1 there at e)

complete : (gates : List Gate) (i : ℕ) → AllNamed 0 gates → Used gates i → member i (needed ((length gates - 1) ∷ []) 0 gates) ≡ true
unfolding member
complete gates _ n (is_output i e) = given_needed ((length gates - 1) ∷ []) i 0 gates (rw (eq-eqb (length gates - 1) i (sym e)))
complete gates _ n (is_read i k u r) =
    read_needed ((length gates - 1) ∷ []) i 0 k r.gate gates n (rw (zero-add k) (complete gates k n u)) r.is r.does

pub needed_is_used : NeededIsUsed
needed_is_used head gates i t = (sound gates i 0 gates (λ d g e. rw (zero-add d) e), complete gates i (all_named head 0 gates t))
