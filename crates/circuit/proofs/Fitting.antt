-- The rules of gates as facts, which `fits` and `all_fit` test, as inequalities, for `omega` to use:
-- that a gate names only lower gates, and that it fits whole.
-- Assumes nothing.
use mathlib.Core.Path.{◌≡◌, refl}
use mathlib.Core.Bool.{true, ◌&&◌}
use mathlib.Core.List.{List, [], ◌∷◌, ◌++◌}
use Prim.Native.Nat.{ℕ, suc, ◌+◌, ◌≤◌, ◌<◌}
use native.Mathlib.Omega.{arith}
use native.Mathlib.Nat.{add-zero, add-suc, suc-add}
use borrow.Author.Tests.{ltb-true, lt-ltb}
use lib.Dec.{ltb}
use lib.ListN.{length}
use Rattle.field.proofs.Tests.{both}
use Rattle.circuit.specs.Constant.{is_constant}
use Rattle.circuit.specs.Every.{Every}
use Rattle.circuit.specs.Gate.{Gate, Left, Right, Add, Sub, Scale, Flip, Mul}
use Rattle.circuit.specs.Operands.{operands}
use Rattle.circuit.specs.Table.{Head, left_slots, right_slots, fits, all_fit}

-- gate number k names only lower gates
abbrev pub Named : ℕ → Gate → Type 0
Named k g = Every (λ (i : ℕ). i < k) (operands g)

-- gates of which the first has number k
abbrev pub AllNamed : ℕ → List Gate → Type 0
AllNamed k [] = Unit {0}
AllNamed k (g ∷ gs) = Named k g × AllNamed (suc k) gs

pub two_below : (a b k : ℕ) → (ltb a k && ltb b k) ≡ true → (a < k) × (b < k)
two_below a b k t = let s = both (ltb a k) (ltb b k) t in (ltb-true a k s.0, ltb-true b k s.1)

two_named : (a b k : ℕ) → (ltb a k && ltb b k) ≡ true → Every (λ (i : ℕ). i < k) (a ∷ b ∷ [])
two_named a b k t = let s = two_below a b k t in (s.0, (s.1, tt))

pub named : (head : Head) (k : ℕ) (g : Gate) → fits head k g ≡ true → Named k g
named head k (Left a) t = tt
named head k (Right a) t = tt
named head k (Add a b) t = two_named a b k t
named head k (Sub a b) t = two_named a b k t
named head k (Scale a c) t = (ltb-true a k (both (ltb a k) (is_constant head.prime c) t).0, tt)
named head k (Flip a) t = (ltb-true a k t, tt)
named head k (Mul a b) t = two_named a b k t

pub fit_cons : (head : Head) (k : ℕ) (g : Gate) (gs : List Gate) → all_fit head k (g ∷ gs) ≡ true
    → (fits head k g ≡ true) × (all_fit head (suc k) gs ≡ true)
unfolding all_fit
fit_cons head k g gs t = both (fits head k g) (all_fit head (suc k) gs) t

pub all_named : (head : Head) (k : ℕ) (gs : List Gate) → all_fit head k gs ≡ true → AllNamed k gs
all_named head k [] t = tt
all_named head k (g ∷ gs) t = let s = fit_cons head k g gs t in (named head k g s.0, all_named head (suc k) gs s.1)

-- ---- from facts to tests

-- gate number k keeps every rule
abbrev pub Fitted : Head → ℕ → Gate → Type 0
Fitted head k (Left a) = a < left_slots head
Fitted head k (Right a) = a < right_slots head
Fitted head k (Add a b) = (a < k) × (b < k)
Fitted head k (Sub a b) = (a < k) × (b < k)
Fitted head k (Scale a c) = (a < k) × (is_constant head.prime c ≡ true)
Fitted head k (Flip a) = a < k
Fitted head k (Mul a b) = (a < k) × (b < k)

-- gates of which the first has number k
abbrev pub AllFitted : Head → ℕ → List Gate → Type 0
AllFitted head k [] = Unit {0}
AllFitted head k (g ∷ gs) = Fitted head k g × AllFitted head (suc k) gs

two_fit : (a b k : ℕ) → (a < k) × (b < k) → (ltb a k && ltb b k) ≡ true
two_fit a b k h = rw (lt-ltb a k h.0, lt-ltb b k h.1)

pub one_fits : (head : Head) (k : ℕ) (g : Gate) → Fitted head k g → fits head k g ≡ true
one_fits head k (Left a) h = lt-ltb _ _ h
one_fits head k (Right a) h = lt-ltb _ _ h
one_fits head k (Add a b) h = two_fit a b k h
one_fits head k (Sub a b) h = two_fit a b k h
one_fits head k (Scale a c) h = rw (lt-ltb a k h.0) h.1
one_fits head k (Flip a) h = lt-ltb _ _ h
one_fits head k (Mul a b) h = two_fit a b k h

-- and back
pub fitted : (head : Head) (k : ℕ) (g : Gate) → fits head k g ≡ true → Fitted head k g
fitted head k (Left a) t = ltb-true a (left_slots head) t
fitted head k (Right a) t = ltb-true a (right_slots head) t
fitted head k (Add a b) t = two_below a b k t
fitted head k (Sub a b) t = two_below a b k t
fitted head k (Scale a c) t = let s = both (ltb a k) (is_constant head.prime c) t in (ltb-true a k s.0, s.1)
fitted head k (Flip a) t = ltb-true a k t
fitted head k (Mul a b) t = two_below a b k t

pub all_fit_lem : (head : Head) (k : ℕ) (gs : List Gate) → AllFitted head k gs → all_fit head k gs ≡ true
unfolding all_fit
all_fit_lem head k [] h = refl
all_fit_lem head k (g ∷ gs) h = rw (one_fits head k g h.0) (all_fit_lem head (suc k) gs h.1)

-- ---- later gates

-- a gate that fits, fits later
pub fits_later : (head : Head) (k m : ℕ) (g : Gate) → k ≤ m → fits head k g ≡ true → fits head m g ≡ true
fits_later head k m g l t = one_fits head m g (later g (fitted head k g t))
  where
    later : (g : Gate) → Fitted head k g → Fitted head m g
    later (Left a) h = h
    later (Right a) h = h
    later (Add a b) h = omega arith
    later (Sub a b) h = omega arith
    later (Scale a c) h = (omega arith, h.1)
    later (Flip a) h = omega arith
    later (Mul a b) h = omega arith

-- gates after gates
pub fit_append : (head : Head) (k : ℕ) (gs hs : List Gate) → all_fit head k gs ≡ true → all_fit head (k + length gs) hs ≡ true
    → all_fit head k (gs ++ hs) ≡ true
unfolding all_fit
fit_append head k [] hs t u = rw add-zero at u
fit_append head k (g ∷ gs) hs t u =
    let s = fit_cons head k g gs t in rw s.0 (fit_append head (suc k) gs hs s.1 (rw (add-suc, ← suc-add) at u))
