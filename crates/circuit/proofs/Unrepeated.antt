-- Gates of which no two MULs are over the same pair, and how such gates are put together: two lists share no pair
-- where the pairs of the one have a fact and those of the other one that excludes it.
-- Assumes nothing.
use mathlib.Core.Path.{◌≡◌, refl}
use mathlib.Core.Bool.{Bool, true, false, false≢true}
use mathlib.Core.List.{List, [], ◌∷◌, ◌++◌}
use mathlib.Core.Logic.{⊎_elim}
use Prim.Native.Nat.{ℕ}
use Rattle.circuit.specs.Count.{is_mul, same_pair}
use Rattle.circuit.specs.Every.{Every}
use Rattle.circuit.specs.Gate.{Gate, Left, Right, Add, Sub, Scale, Flip, Mul, fields}
use Rattle.circuit.proofs.Counted.{pair_facts}
use Rattle.circuit.proofs.Every.{every_map, every_append}

-- ---- facts of the gates that MULs multiply

-- a fact of a MUL's pair; of other gates nothing is asked
abbrev pub OfMul : (ℕ → ℕ → Type 0) → Gate → Type 0
OfMul Q (Left a) = Unit {0}
OfMul Q (Right a) = Unit {0}
OfMul Q (Add a b) = Unit {0}
OfMul Q (Sub a b) = Unit {0}
OfMul Q (Scale a c) = Unit {0}
OfMul Q (Flip a) = Unit {0}
OfMul Q (Mul a b) = Q a b

of_mul : (Q : ℕ → ℕ → Type 0) (g : Gate) → OfMul Q g → is_mul g ≡ true → Q (fields g).a (fields g).b
of_mul Q (Left a) q m = absurd (false≢true m)
of_mul Q (Right a) q m = absurd (false≢true m)
of_mul Q (Add a b) q m = absurd (false≢true m)
of_mul Q (Sub a b) q m = absurd (false≢true m)
of_mul Q (Scale a c) q m = absurd (false≢true m)
of_mul Q (Flip a) q m = absurd (false≢true m)
of_mul Q (Mul a b) q m = q

-- and back
mul_has : (Q : ℕ → ℕ → Type 0) (g : Gate) → (is_mul g ≡ true → Q (fields g).a (fields g).b) → OfMul Q g
mul_has Q (Left a) h = tt
mul_has Q (Right a) h = tt
mul_has Q (Add a b) h = tt
mul_has Q (Sub a b) h = tt
mul_has Q (Scale a c) h = tt
mul_has Q (Flip a) h = tt
mul_has Q (Mul a b) h = h refl

-- of every MUL's pair
abbrev pub EachPair : (ℕ → ℕ → Type 0) → List Gate → Type 0
EachPair Q gs = Every (OfMul Q) gs

-- of each of the two gates of every MUL
abbrev pub EachFactor : (ℕ → Type 0) → List Gate → Type 0
EachFactor P gs = EachPair (λ a b. P a × P b) gs

-- there is no MUL
abbrev pub NoMul : List Gate → Type 0
NoMul gs = EachPair (λ a b. ⊥) gs

pub pairs_map : {Q R : ℕ → ℕ → Type 0} → ((a b : ℕ) → Q a b → R a b) → (gs : List Gate) → EachPair Q gs → EachPair R gs
pairs_map {Q} {R} turn gs h = every_map (λ (g : Gate) q. mul_has R g (λ m. turn _ _ (of_mul Q g q m))) gs h

pub factors_map : {P Q : ℕ → Type 0} → ((x : ℕ) → P x → Q x) → (gs : List Gate) → EachFactor P gs → EachFactor Q gs
factors_map {P} {Q} turn gs h = pairs_map {Q = λ a b. P a × P b} {R = λ a b. Q a × Q b} (λ a b q. (turn a q.0, turn b q.1)) gs h

-- where there is no MUL, every pair has every fact
pub none_has : (Q : ℕ → ℕ → Type 0) (gs : List Gate) → NoMul gs → EachPair Q gs
none_has Q gs h = pairs_map {R = Q} (λ a b q. absurd q) gs h

each_any : (gs : List Gate) → EachPair (λ a b. Unit {0}) gs
each_any [] = tt
each_any (g ∷ gs) = (mul_has (λ a b. Unit {0}) g (λ m. tt), each_any gs)

-- ---- pairs

-- no two MULs are over the same pair
abbrev pub Unrepeated : List Gate → Type 0
Unrepeated [] = Unit {0}
Unrepeated (g ∷ gs) = Every (λ (h : Gate). same_pair g h ≡ false) gs × Unrepeated gs

-- a pair that has the one fact has not the other, in either order
abbrev pub Disjoint : (ℕ → ℕ → Type 0) → (ℕ → ℕ → Type 0) → Type 0
Disjoint Q R = (a b : ℕ) → Q a b → (R a b → ⊥) × (R b a → ⊥)

module _ (Q R : ℕ → ℕ → Type 0) (disjoint : Disjoint Q R) where
  two_apart : (g h : Gate) → OfMul Q g → OfMul R h → same_pair g h ≡ false
  two_apart g h q r = go (same_pair g h) refl
    where
      go : (t : Bool) → same_pair g h ≡ t → same_pair g h ≡ false
      go false e = e
      go true e =
          let same = (pair_facts g h).0 e in
          let excluded = disjoint (fields g).a (fields g).b (of_mul Q g q same.0) in
          let other = of_mul R h r same.1 in
          absurd (⊎_elim (λ s. excluded.0 (rw (s.0, s.1) other)) (λ s. excluded.1 (rw (s.0, s.1) other)) same.2)

  -- a gate before others
  pub first_apart : (g : Gate) (hs : List Gate) → OfMul Q g → EachPair R hs → Every (λ (h : Gate). same_pair g h ≡ false) hs
  first_apart g hs q r = every_map (λ (h : Gate). two_apart g h q) hs r

  pub unrepeated_append : (gs hs : List Gate) → EachPair Q gs → EachPair R hs → Unrepeated gs → Unrepeated hs → Unrepeated (gs ++ hs)
  unrepeated_append [] hs q r u v = v
  unrepeated_append (g ∷ gs) hs q r u v =
      (every_append _ gs hs u.0 (first_apart g hs q.0 r), unrepeated_append gs hs q.1 r u.1 v)

-- ---- gates without a MUL

pub none_unrepeated : (gs : List Gate) → NoMul gs → Unrepeated gs
none_unrepeated [] h = tt
none_unrepeated (g ∷ gs) h = (first_apart (λ a b. ⊥) (λ a b. Unit {0}) (λ a b q. absurd q) g gs h.0 (each_any gs), none_unrepeated gs h.1)

pub none_after : (gs hs : List Gate) → Unrepeated gs → NoMul hs → Unrepeated (gs ++ hs)
none_after gs hs u h =
    unrepeated_append (λ a b. Unit {0}) (λ a b. ⊥) (λ a b q. (λ r. r, λ r. r)) gs hs (each_any gs) h u (none_unrepeated hs h)
