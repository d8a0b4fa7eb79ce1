-- Two meanings of the same gates: a relation that the two keep from the gates which a gate names to the gate itself holds between the two entries of
-- every gate. By induction on the gates, over two lists of entries that are so related place by place; gates that are not there have to be related too.
-- Assumes nothing.
use mathlib.Core.List.{List, [], ◌∷◌, ◌++◌}
use Prim.Native.Nat.{ℕ, zero, suc}
use Rattle.circuit.specs.Gate.{Gate}
use Rattle.circuit.specs.Meaning.{Algebra, meaning, entry_of, interpret, entry_at}

-- place by place
data Pairs {A B : Type 0} (R : A → B → Type 0) : List A → List B → Type 0 where
  none : Pairs R [] []
  more : {a : A} {b : B} {us : List A} {vs : List B} → R a b → Pairs R us vs → Pairs R (a ∷ us) (b ∷ vs)

module _ {A B : Type 0} (first : Algebra A) (second : Algebra B) (R : A → B → Type 0)
    (absent : R first.none second.none)
    (keeps : (E : ℕ → A) (F : ℕ → B) → ((i : ℕ) → R (E i) (F i)) → (g : Gate) → R (meaning first E g) (meaning second F g)) where
  pair_at : {us : List A} {vs : List B} → Pairs R us vs → (i : ℕ) → R (entry_of first us i) (entry_of second vs i)
  pair_at none i = absent
  pair_at (more r h) zero = r
  pair_at (more r h) (suc i) = pair_at h i

  pair_last : {us : List A} {vs : List B} {a : A} {b : B} → Pairs R us vs → R a b → Pairs R (us ++ (a ∷ [])) (vs ++ (b ∷ []))
  pair_last none r = more r none
  pair_last (more s h) r = more s (pair_last h r)

  pairs : {us : List A} {vs : List B} (gates : List Gate) → Pairs R us vs → Pairs R (interpret first us gates) (interpret second vs gates)
  unfolding interpret
  pairs [] h = h
  pairs {us = us} {vs = vs} (g ∷ gs) h = pairs {us = us ++ (meaning first (entry_of first us) g ∷ [])} {vs = vs ++ (meaning second (entry_of second vs) g ∷ [])} gs (pair_last h (keeps _ _ (pair_at h) g))

  pub related : (gates : List Gate) (k : ℕ) → R (entry_at first gates k) (entry_at second gates k)
  related gates k = pair_at (pairs gates none) k
