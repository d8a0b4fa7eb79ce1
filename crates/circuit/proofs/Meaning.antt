-- The laws of the one interpretation: gates written one after the other, old entries kept, one entry for each gate.
-- From them, once: in the entries that a gate list leaves, each entry is the meaning of its gate (`solved`);
-- so a fact about a piece of a circuit needs no word about the gates before or after it.
-- Assumes nothing.
use mathlib.Core.Path.{◌≡◌, refl, sym, ap, ap₂, subst, ◌∙◌}
use mathlib.Core.List.{List, [], ◌∷◌, ◌++◌, map}
use Prim.Native.Nat.{ℕ, suc, ◌+◌, ◌<◌}
use native.Mathlib.Omega.{arith}
use native.Mathlib.Nat.{zero-add, add-zero, add-suc, suc-add}
use lib.ListN.{length, length-append, get_or-append}
use lib.Seq.{get_or_at}
use Rattle.circuit.specs.Gate.{Gate, Left, Right, Add, Sub, Scale, Flip, Mul}
use Rattle.circuit.specs.Meaning.{Algebra, meaning, entry_of, interpret, entries, entry_at, Solves}
use Rattle.circuit.specs.Promises.{EachItsMeaning, EntriesKept}
use Rattle.circuit.proofs.Fitting.{Named, AllNamed, all_named}

module _ {A : Type 0} (alg : Algebra A) where
  abbrev next : List A → Gate → List A
  next earlier g = earlier ++ (meaning alg (entry_of alg earlier) g ∷ [])

  next_length : (earlier : List A) (g : Gate) → length (next earlier g) ≡ suc (length earlier)
  next_length earlier g = simp length-append (omega arith)

  pub interpret_append : (earlier : List A) (gs hs : List Gate)
      → interpret alg earlier (gs ++ hs) ≡ interpret alg (interpret alg earlier gs) hs
  unfolding interpret
  interpret_append earlier [] hs = refl
  interpret_append earlier (g ∷ gs) hs = interpret_append (next earlier g) gs hs

  pub interpret_length : (earlier : List A) (gs : List Gate) → length (interpret alg earlier gs) ≡ length earlier + length gs
  unfolding interpret
  interpret_length earlier [] = omega arith
  interpret_length earlier (g ∷ gs) = omega (arith, interpret_length (next earlier g) gs, next_length earlier g)

  -- others in the place of gates, each of the same meaning
  pub interpret_map : (f : Gate → Gate) → ((E : ℕ → A) (g : Gate) → meaning alg E (f g) ≡ meaning alg E g)
      → (earlier : List A) (gs : List Gate) → interpret alg earlier (map f gs) ≡ interpret alg earlier gs
  unfolding interpret
  interpret_map f same earlier [] = refl
  interpret_map f same earlier (g ∷ gs) =
      ap (λ (x : A). interpret alg (earlier ++ (x ∷ [])) (map f gs)) (same (entry_of alg earlier) g)
      ∙ interpret_map f same (next earlier g) gs

  pub kept : (earlier : List A) (gs : List Gate) (i : ℕ) → i < length earlier
      → entry_of alg (interpret alg earlier gs) i ≡ entry_of alg earlier i
  unfolding interpret
  kept earlier [] i h = refl
  kept earlier (g ∷ gs) i h =
      kept (next earlier g) gs i (omega (arith, next_length earlier g))
      ∙ get_or-append earlier (meaning alg (entry_of alg earlier) g ∷ []) alg.none i h

  -- ---- each entry is the meaning of its gate

  pub solves_append : (E : ℕ → A) (gs hs : List Gate) (k : ℕ) → Solves alg E k (gs ++ hs) → Solves alg E k gs × Solves alg E (k + length gs) hs
  solves_append E [] hs k h = (tt, rw add-zero h)
  solves_append E (g ∷ gs) hs k h =
      let s = solves_append E gs hs (suc k) h.1 in ((h.0, s.0), rw (add-suc, ← suc-add) s.1)

  -- a gate reads only the gates that it names
  meaning_same : (E F : ℕ → A) (k : ℕ) → ((i : ℕ) → i < k → E i ≡ F i) → (g : Gate) → Named k g → meaning alg E g ≡ meaning alg F g
  meaning_same E F k h (Left a) n = refl
  meaning_same E F k h (Right a) n = refl
  meaning_same E F k h (Add a b) n = ap₂ alg.add (h a n.0) (h b n.1.0)
  meaning_same E F k h (Sub a b) n = ap₂ alg.sub (h a n.0) (h b n.1.0)
  meaning_same E F k h (Scale a c) n = ap (λ x. alg.scale x c) (h a n.0)
  meaning_same E F k h (Flip a) n = ap alg.flip (h a n.0)
  meaning_same E F k h (Mul a b) n = ap₂ alg.mul (h a n.0) (h b n.1.0)

  pub solved : (gs : List Gate) (earlier : List A) (k : ℕ) → length earlier ≡ k → AllNamed k gs
      → Solves alg (entry_of alg (interpret alg earlier gs)) k gs
  unfolding interpret
  solved [] earlier k e n = tt
  solved (g ∷ gs) earlier k e n =
      let later : length (next earlier g) ≡ suc k = omega (arith, next_length earlier g) in (
        kept (next earlier g) gs k (omega arith)
            ∙ get_or_at earlier (meaning alg (entry_of alg earlier) g) [] alg.none k e
            ∙ meaning_same (entry_of alg earlier) (entry_of alg (interpret alg (next earlier g) gs)) k
            (λ i l. sym (kept earlier (g ∷ gs) i (omega arith))) g n.0,
        solved gs (next earlier g) (suc k) later n.1,
      )

  -- ---- gates written after others

  -- the entries of all gates solve the later ones
  pub later_solved : (gates later : List Gate) → AllNamed (length gates) later → Solves alg (entry_at alg (gates ++ later)) (length gates) later
  later_solved gates later n =
      subst (λ (all : List A). Solves alg (entry_of alg all) (length gates) later) (sym (interpret_append [] gates later))
      (solved later (entries alg gates) (length gates) (omega (arith, interpret_length [] gates)) n)

pub each_its_meaning : EachItsMeaning
each_its_meaning A alg head gates t = (interpret_length alg [] gates ∙ zero-add _, solved alg gates [] 0 refl (all_named head 0 gates t))

pub entries_kept : EntriesKept
entries_kept A alg gates later k l =
    rw (interpret_append alg [] gates later) (kept alg (entries alg gates) later k (omega (arith, interpret_length alg [] gates)))
