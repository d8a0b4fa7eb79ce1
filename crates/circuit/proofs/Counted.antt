-- The gates that count: used ones, no two MULs among them over the same pair, and each used MUL's pair among them.
-- Assumes nothing.
use mathlib.Core.Path.{◌≡◌, refl, sym, ap, ap₂, subst, ◌∙◌}
use mathlib.Core.Logic.{◌↔◌, ◌⊎◌, inl, inr, ⊎_elim}
use mathlib.Core.Bool.{Bool, true, false, not, false≢true, or-true}
use mathlib.Core.List.{List, [], ◌∷◌, ◌++◌, map, map-append}
use Prim.Native.Nat.{ℕ, zero, suc, ◌+◌, ◌-◌, ◌≤◌, ◌<◌, zero-le}
use native.Mathlib.Omega.{arith}
use native.Mathlib.Nat.{add-zero, zero-add, mul-le-mul_left}
use borrow.Author.Tests.{eqb-true, eq-eqb}
use lib.Dec.{eqb}
use lib.ListN.{length, length-map}
use Rattle.field.specs.Bit.{bit}
use Rattle.field.specs.Member.{member}
use Rattle.field.proofs.Tests.{both, either, neither}
use Rattle.circuit.specs.Count.{is_mul, is_square, is_product, is_over, same_pair, repeated, distinct, counted, count}
use Rattle.circuit.specs.Gate.{Gate, Mul, fields}
use Rattle.circuit.specs.Operands.{operands, GateIs}
use Rattle.circuit.specs.Used.{only_if, needed, pick, used_numbers, used}
use Rattle.circuit.specs.UsedPromises.{SamePairIs, OnlyUsedCount, CountedOnce, EachPairCounts, NeverMore, UnusedExample}
use Rattle.circuit.proofs.Used.{moved, needed_is_used}

-- ---- pairs

-- a and b of two gates are the same, in either order
abbrev pub Same : Gate → Gate → Type 0
Same g h =
    (((fields g).a ≡ (fields h).a) × ((fields g).b ≡ (fields h).b)) ⊎ (((fields g).a ≡ (fields h).b) × ((fields g).b ≡ (fields h).a))

over_is : (a b : ℕ) (g : Gate) → (is_over a b g ≡ true) ↔ (((fields g).a ≡ a) × ((fields g).b ≡ b))
over_is a b g = (
  λ t. let s = both (eqb (fields g).a a) (eqb (fields g).b b) t in (eqb-true _ _ s.0, eqb-true _ _ s.1),
  λ e. rw (eq-eqb (fields g).a a e.0, eq-eqb (fields g).b b e.1),
)

pub pair_facts : (g h : Gate) → (same_pair g h ≡ true) ↔ ((is_mul g ≡ true) × (is_mul h ≡ true) × Same g h)
pair_facts g h = (there, back)
  where
    there : same_pair g h ≡ true → (is_mul g ≡ true) × (is_mul h ≡ true) × Same g h
    there t =
        let s = both (is_mul g) _ t in
        let r = both (is_mul h) _ s.1 in
        (s.0, r.0, ⊎_elim (λ e. inl ((over_is _ _ g).0 e)) (λ e. inr ((over_is _ _ g).0 e)) (either _ _ r.1))

    back : (is_mul g ≡ true) × (is_mul h ≡ true) × Same g h → same_pair g h ≡ true
    back (m, n, inl e) = rw (m, n, (over_is (fields h).a (fields h).b g).1 e)
    back (m, n, inr e) = rw (m, n, (over_is (fields h).b (fields h).a g).1 e) (or-true (is_over (fields h).a (fields h).b g))

pub same_pair_is : SamePairIs
same_pair_is a b c d = (λ t. ((pair_facts (Mul a b) (Mul c d)).0 t).2, λ e. (pair_facts (Mul a b) (Mul c d)).1 (refl, refl, e))

pair_itself : (g : Gate) → is_mul g ≡ true → same_pair g g ≡ true
pair_itself g m = (pair_facts g g).1 (m, m, inl (refl, refl))

-- two pairs that are the same as a third
pair_through : (f g h : Gate) → same_pair f g ≡ true → same_pair g h ≡ true → same_pair f h ≡ true
pair_through f g h t u =
    let s = (pair_facts f g).0 t in let r = (pair_facts g h).0 u in (pair_facts f h).1 (s.0, r.1, go s.2 r.2)
  where
    go : Same f g → Same g h → Same f h
    go (inl (a, b)) (inl (c, d)) = inl (a ∙ c, b ∙ d)
    go (inl (a, b)) (inr (c, d)) = inr (a ∙ c, b ∙ d)
    go (inr (a, b)) (inl (c, d)) = inr (a ∙ d, b ∙ c)
    go (inr (a, b)) (inr (c, d)) = inl (a ∙ d, b ∙ c)

-- ---- the gates that are picked

picked_at : (numbers : List ℕ) (k j : ℕ) (g : Gate) (gs : List Gate) → GateIs (pick numbers k gs) j g
    → (d : ℕ) × GateIs gs d g × (member (k + d) numbers ≡ true)
unfolding pick
picked_at numbers k j g [] is = absurd is
picked_at numbers k j g (h ∷ hs) is = go j (member k numbers) refl is (λ i. picked_at numbers (suc k) i g hs)
  where
    go : (j : ℕ) (t : Bool) → member k numbers ≡ t
        → GateIs (only_if t (h ∷ []) ++ pick numbers (suc k) hs) j g
        → ((i : ℕ) → GateIs (pick numbers (suc k) hs) i g → (d : ℕ) × GateIs hs d g × (member (suc k + d) numbers ≡ true))
        → (d : ℕ) × GateIs (h ∷ hs) d g × (member (k + d) numbers ≡ true)
    go zero true e is later = (0, is, rw (add-zero k) e)
    go (suc i) true e is later = let r = later i is in (suc r.0, r.1, rw (moved k r.0) r.2)
    go i false e is later = let r = later i is in (suc r.0, r.1, rw (moved k r.0) r.2)

at_picked : (numbers : List ℕ) (k d : ℕ) (g : Gate) (gs : List Gate) → GateIs gs d g → member (k + d) numbers ≡ true
    → (j : ℕ) × GateIs (pick numbers k gs) j g
unfolding pick
at_picked numbers k d g [] is t = absurd is
at_picked numbers k zero g (h ∷ hs) is t =
    let here : member k numbers ≡ true = rw (add-zero k) at t in
    subst (λ (t : Bool). (j : ℕ) × GateIs (only_if t (h ∷ []) ++ pick numbers (suc k) hs) j g) (sym here) (0, is)
at_picked numbers k (suc d) g (h ∷ hs) is t =
    go (member k numbers) (at_picked numbers (suc k) d g hs is (rw (moved k d) at t))
  where
    go : (t : Bool) → (j : ℕ) × GateIs (pick numbers (suc k) hs) j g
        → (j : ℕ) × GateIs (only_if t (h ∷ []) ++ pick numbers (suc k) hs) j g
    go true r = (suc r.0, r.1)
    go false r = r

-- ---- each pair once

distinct_at : (gs : List Gate) (j : ℕ) (g : Gate) → GateIs (distinct gs) j g → (d : ℕ) × GateIs gs d g
unfolding distinct
distinct_at [] j g is = absurd is
distinct_at (h ∷ hs) j g is = go j (repeated h hs) is (λ i. distinct_at hs i g)
  where
    go : (j : ℕ) (t : Bool) → GateIs (only_if (not t) (h ∷ []) ++ distinct hs) j g
        → ((i : ℕ) → GateIs (distinct hs) i g → (d : ℕ) × GateIs hs d g) → (d : ℕ) × GateIs (h ∷ hs) d g
    go i true is later = let r = later i is in (suc r.0, r.1)
    go zero false is later = (0, is)
    go (suc i) false is later = let r = later i is in (suc r.0, r.1)

-- a gate whose pair none of the others has
none_same : (g : Gate) (hs : List Gate) (d : ℕ) (h : Gate) → repeated g hs ≡ false → GateIs hs d h → same_pair g h ≡ false
unfolding repeated
none_same g [] d h t is = absurd is
none_same g (f ∷ fs) zero h t is = rw (← is) (neither (same_pair g f) (repeated g fs) t).0
none_same g (f ∷ fs) (suc d) h t is = none_same g fs d h (neither (same_pair g f) (repeated g fs) t).1 is

-- a gate's pair is that of one of a list
abbrev Has : List Gate → Gate → Type 0
Has hs g = (j : ℕ) × (h : Gate) × GateIs hs j h × (same_pair g h ≡ true)

some_same : (g : Gate) (hs : List Gate) → repeated g hs ≡ true → Has hs g
unfolding repeated
some_same g [] t = absurd (false≢true t)
some_same g (f ∷ fs) t =
    ⊎_elim (λ e. (0, f, refl, e)) (λ e. let r = some_same g fs e in (suc r.0, r.1, r.2, r.3)) (either (same_pair g f) (repeated g fs) t)

distinct_once : (gs : List Gate) (i j : ℕ) (g h : Gate) → i < j → GateIs (distinct gs) i g → GateIs (distinct gs) j h → same_pair g h ≡ false
unfolding distinct
distinct_once [] i j g h l is at = absurd is
distinct_once (f ∷ fs) i j g h l is at = go i j l (repeated f fs) refl is at (λ i j l. distinct_once fs i j g h l)
  where
    go : (i j : ℕ) → i < j → (t : Bool) → repeated f fs ≡ t → GateIs (only_if (not t) (f ∷ []) ++ distinct fs) i g
        → GateIs (only_if (not t) (f ∷ []) ++ distinct fs) j h
        → ((i j : ℕ) → i < j → GateIs (distinct fs) i g → GateIs (distinct fs) j h → same_pair g h ≡ false) → same_pair g h ≡ false
    go i j l true e is at later = later i j l is at
    go i zero l false e is at later = absurd (omega arith)
    go zero (suc j) l false e is at later =
        let r = distinct_at fs j h at in rw (← is) (none_same f fs r.0 h e r.1)
    go (suc i) (suc j) l false e is at later = later i j (omega arith) is at

distinct_has : (gs : List Gate) (d : ℕ) (g : Gate) → GateIs gs d g → is_mul g ≡ true → Has (distinct gs) g
unfolding distinct
distinct_has [] d g is m = absurd is
distinct_has (f ∷ fs) d g is m = go d (repeated f fs) refl is (λ d h. distinct_has fs d h)
  where
    go : (d : ℕ) (t : Bool) → repeated f fs ≡ t → GateIs (f ∷ fs) d g
        → ((d : ℕ) (h : Gate) → GateIs fs d h → is_mul h ≡ true → Has (distinct fs) h)
        → Has (only_if (not t) (f ∷ []) ++ distinct fs) g
    go zero true e is later =
        let r = some_same g fs (rw (← is) e) in
        let s = later r.0 r.1 r.2 ((pair_facts g r.1).0 r.3).1 in
        (s.0, s.1, s.2, pair_through g r.1 s.1 r.3 s.3)
    go zero false e is later = (0, g, is, pair_itself g m)
    go (suc d) true e is later = later d g is m
    go (suc d) false e is later = let s = later d g is m in (suc s.0, s.1, s.2, s.3)

-- ---- the promises

pub only_used_count : OnlyUsedCount
unfolding counted
only_used_count head gates j g fit is =
    let r = distinct_at (used gates) j g is in
    let s = picked_at (used_numbers gates) 0 r.0 g gates r.1 in
    (s.0, s.1, (needed_is_used head gates s.0 fit).0 (rw (zero-add s.0) at s.2))

pub counted_once : CountedOnce
unfolding counted
counted_once gates i j g h l is at = distinct_once (used gates) i j g h l is at

pub each_pair_counts : EachPairCounts
unfolding counted
each_pair_counts head gates k g fit is u m =
    let r = at_picked (used_numbers gates) 0 k g gates is (rw (zero-add k) ((needed_is_used head gates k fit).1 u)) in
    distinct_has (used gates) r.0 g r.1 m

-- ---- never more than over all records

picked_fewer : (test : Gate → Bool) (numbers : List ℕ) (k : ℕ) (gs : List Gate) → count test (pick numbers k gs) ≤ count test gs
unfolding count pick
picked_fewer test numbers k [] = zero-le
picked_fewer test numbers k (g ∷ gs) = go (member k numbers) (picked_fewer test numbers (suc k) gs)
  where
    go : (t : Bool) → count test (pick numbers (suc k) gs) ≤ count test gs
        → count test (only_if t (g ∷ []) ++ pick numbers (suc k) gs) ≤ bit (test g) + count test gs
    go true h = omega arith
    go false h = omega arith

distinct_fewer : (test : Gate → Bool) (gs : List Gate) → count test (distinct gs) ≤ count test gs
unfolding count distinct
distinct_fewer test [] = zero-le
distinct_fewer test (g ∷ gs) = go (repeated g gs) (distinct_fewer test gs)
  where
    go : (t : Bool) → count test (distinct gs) ≤ count test gs
        → count test (only_if (not t) (g ∷ []) ++ distinct gs) ≤ bit (test g) + count test gs
    go true h = omega arith
    go false h = omega arith

pub counted_fewer : (test : Gate → Bool) (gates : List Gate) → count test (counted gates) ≤ count test gates
unfolding counted
counted_fewer test gates = omega (arith, distinct_fewer test (used gates), picked_fewer test (used_numbers gates) 0 gates)

pub never_more : NeverMore
never_more s gates =
    let products = counted_fewer is_product gates in
    let squares = counted_fewer is_square gates in
    (products, squares, omega (arith, products, mul-le-mul_left s squares))

pub unused_example : UnusedExample
unfolding member needed pick repeated distinct counted
unused_example = refl

-- ---- gates in the place of others that read the same and have their pairs

module _ (f : Gate → Gate) (reading : (g : Gate) → operands (f g) ≡ operands g) (pairing : (g h : Gate) → same_pair (f g) (f h) ≡ same_pair g h) where
  needed_map : (numbers : List ℕ) (k : ℕ) (gs : List Gate) → needed numbers k (map f gs) ≡ needed numbers k gs
  unfolding needed
  needed_map numbers k [] = refl
  needed_map numbers k (g ∷ gs) =
      ap₂ (λ (read later : List ℕ). only_if (member k later) read ++ later) (reading g) (needed_map numbers (suc k) gs)

  only_map : (t : Bool) (g : Gate) → only_if t (f g ∷ []) ≡ map f (only_if t (g ∷ []))
  only_map true g = refl
  only_map false g = refl

  pick_map : (numbers : List ℕ) (k : ℕ) (gs : List Gate) → pick numbers k (map f gs) ≡ map f (pick numbers k gs)
  unfolding pick
  pick_map numbers k [] = refl
  pick_map numbers k (g ∷ gs) =
      ap₂ ◌++◌ (only_map (member k numbers) g) (pick_map numbers (suc k) gs) ∙ sym (map-append f (only_if (member k numbers) (g ∷ [])) _)

  repeated_map : (g : Gate) (gs : List Gate) → repeated (f g) (map f gs) ≡ repeated g gs
  unfolding repeated
  repeated_map g [] = refl
  repeated_map g (h ∷ hs) = rw (pairing g h, repeated_map g hs)

  distinct_map : (gs : List Gate) → distinct (map f gs) ≡ map f (distinct gs)
  unfolding distinct
  distinct_map [] = refl
  distinct_map (g ∷ gs) =
      ap₂ (λ (t : Bool) (later : List Gate). only_if (not t) (f g ∷ []) ++ later) (repeated_map g gs) (distinct_map gs)
      ∙ ap (λ (first : List Gate). first ++ map f (distinct gs)) (only_map (not (repeated g gs)) g)
      ∙ sym (map-append f (only_if (not (repeated g gs)) (g ∷ [])) (distinct gs))

  pub counted_map : (gates : List Gate) → counted (map f gates) ≡ map f (counted gates)
  unfolding counted
  counted_map gates =
      rw (length-map gates f, needed_map ((length gates - 1) ∷ []) 0 gates, pick_map (used_numbers gates) 0 gates) (distinct_map (used gates))
