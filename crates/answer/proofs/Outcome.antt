-- Chains of refusals: what is accepted has passed every rule, one rule at a time;
-- an outcome that is known gives its answer and its lent bytes; a chain that refuses keeps the lent bytes and has one of its rules' numbers;
-- and an entry taken by its place is the one that stands there.
-- Assumes nothing.
use mathlib.Core.Path.{◌≡◌, refl, sym, ap, subst, ◌∙◌}
use mathlib.Core.Bool.{Bool, true, false, ◌||◌}
use mathlib.Core.List.{List, [], ◌∷◌}
use Prim.Native.Nat.{ℕ, zero, suc, ◌+◌, ◌<◌}
use native.Mathlib.Omega.{arith}
use borrow.Author.Tests.{ltb-true, le-ltb}
use lib.Dec.{ltb}
use lib.ListN.{length}
use Rattle.answer.specs.Outcome.{Answer, refused, accepted, Outcome, unaltered, Keeps, refuse, on_answer, numbered}

pub refused≢accepted : {A : Type 0} {k : ℕ} {a : A} → refused k ≡ accepted a → ⊥
refused≢accepted e = let z : ◌≡◌ {A = ℕ} 0 1 = cc in omega arith

-- of answers, and of whatever holds an answer
pub passed : {R A : Type 0} {k : ℕ} {a : A} (answer : R → Answer A) (test : Bool) (refusal later : R) → answer refusal ≡ refused k
    → answer (refuse test refusal later) ≡ accepted a → (test ≡ false) × (answer later ≡ accepted a)
passed answer true refusal later r e = absurd (refused≢accepted (sym r ∙ e))
passed answer false refusal later r e = (refl, e)

-- where nothing is refused after a rule, a refusal is that rule's
pub only_rule : {A : Type 0} {a : A} (bytes : List ℕ) (test : Bool) (k number : ℕ) (later : Outcome A) → later.answer ≡ accepted a
    → (refuse test (unaltered bytes k) later).answer ≡ refused number → number ≡ k
only_rule bytes true k number later r e = cc
only_rule bytes false k number later r e = absurd (refused≢accepted (sym e ∙ r))

pub said : {A : Type 0} {o line : Outcome A} → o ≡ line → (line.answer ≡ o.answer) × (line.lent ≡ o.lent)
said e = (ap (λ o. o.answer) (sym e), ap (λ o. o.lent) (sym e))

-- ---- lent bytes are kept: where nothing is refused, after one rule more, and after an answer

pub accepted_keeps : {A : Type 0} {bytes lent : List ℕ} {a : A} → Keeps bytes (record { answer = accepted a; lent = lent })
accepted_keeps = record { kept = λ number r. absurd (refused≢accepted (sym r)) }

pub refuse_keeps : {A : Type 0} {bytes : List ℕ} {later : Outcome A} (test : Bool) (k : ℕ) → Keeps bytes later
    → Keeps bytes (refuse test (unaltered bytes k) later)
refuse_keeps true k h = record { kept = λ number r. refl }
refuse_keeps false k h = h

pub on_answer_keeps : {A B : Type 0} {bytes : List ℕ} {later : A → Outcome B} (first : Answer A) → ((a : A) → Keeps bytes (later a))
    → Keeps bytes (on_answer first (unaltered bytes) later)
on_answer_keeps (refused k) h = record { kept = λ number r. refl }
on_answer_keeps (accepted a) h = h a

-- ---- which numbers refuse: where nothing does, after one rule more, after an answer, and of an entry taken by its place

pub record Refuses {A : Type 0} (P : ℕ → Type 0) (answer : Answer A) : Type 0 where
  pub number : (k : ℕ) → answer ≡ refused k → P k

pub accepted_refuses : {A : Type 0} {P : ℕ → Type 0} {a : A} → Refuses P (accepted a)
accepted_refuses = record { number = λ k r. absurd (refused≢accepted (sym r)) }

pub refused_refuses : {A : Type 0} {P : ℕ → Type 0} {m : ℕ} → P m → Refuses {A = A} P (refused m)
refused_refuses {A} {P} {m} known = record { number = λ k r. let same : m ≡ k = cc in subst P same known }

pub refuse_refuses : {A : Type 0} {P : ℕ → Type 0} {later : Answer A} (test : Bool) (m : ℕ) → P m → Refuses P later
    → Refuses P (refuse test (refused m) later)
refuse_refuses true m known h = refused_refuses known
refuse_refuses false m known h = h

pub on_answer_refuses : {A B : Type 0} {P : ℕ → Type 0} {later : A → Answer B} (first : Answer A) → Refuses P first
    → ((a : A) → Refuses P (later a)) → Refuses P (on_answer first refused later)
on_answer_refuses (refused m) known h = refused_refuses (known.number m refl)
on_answer_refuses (accepted a) known h = h a

pub numbered_refuses : {A : Type 0} {P : ℕ → Type 0} (m place : ℕ) (entries : List A) → P m → Refuses P (numbered m place entries)
numbered_refuses m place [] known = refused_refuses known
numbered_refuses m zero (a ∷ more) known = refused_refuses known
numbered_refuses m (suc zero) (a ∷ more) known = accepted_refuses
numbered_refuses m (suc (suc place)) (a ∷ more) known = numbered_refuses m (suc place) more known

-- what is accepted after an answer was accepted too
pub answered : {A B : Type 0} {b : B} (first : Answer A) (later : A → Answer B) → on_answer first refused later ≡ accepted b
    → (a : A) × (first ≡ accepted a) × (later a ≡ accepted b)
answered (refused k) later e = absurd (refused≢accepted e)
answered (accepted a) later e = (a, refl, e)

-- a refusal of what refuses nothing itself was the first answer's
pub was_refused : {A B : Type 0} (n : ℕ) (first : Answer A) (later : A → B) → refused n ≡ on_answer first refused (λ a. accepted (later a))
    → first ≡ refused n
was_refused n (refused m) later e = let same : m ≡ n = cc in ap refused same
was_refused n (accepted a) later e = absurd (refused≢accepted e)

-- what follows an answer may be replaced by what is the same for every value
pub on_answer_same : {A R : Type 0} (first : Answer A) (refusal : ℕ → R) {f g : A → R} → ((a : A) → f a ≡ g a)
    → on_answer first refusal f ≡ on_answer first refusal g
on_answer_same (refused k) refusal same = refl
on_answer_same (accepted a) refusal same = same a

-- what comes after a rule matters only where the rule is kept
pub refuse_same : {R : Type 0} (test : Bool) (refusal : R) {x y : R} → (test ≡ false → x ≡ y) → refuse test refusal x ≡ refuse test refusal y
refuse_same true refusal same = refl
refuse_same false refusal same = same refl

-- what follows an answer that begins with a rule: the rule, then what follows the rest
pub on_answer_rule : {A R : Type 0} (test : Bool) (number : ℕ) (later : Answer A) (refusal : ℕ → R) (next : A → R)
    → on_answer (refuse test (refused number) later) refusal next ≡ refuse test (refusal number) (on_answer later refusal next)
on_answer_rule true number later refusal next = refl
on_answer_rule false number later refusal next = refl

pub accepted_same : {A : Type 0} {a b : A} → accepted a ≡ accepted b → a ≡ b
accepted_same e = cc

-- a fact of each entry and its place, the first of them after place n
abbrev pub Places : {A : Type 0} → (ℕ → A → Type 0) → ℕ → List A → Type 0
Places P n [] = Unit {0}
Places P n (a ∷ more) = P (suc n) a × Places P (suc n) more

pub numbered_is : {A : Type 0} (P : ℕ → A → Type 0) (n refusal place : ℕ) (entries : List A) (a : A) → Places P n entries
    → numbered refusal place entries ≡ accepted a → P (n + place) a
numbered_is P n refusal place [] a known e = absurd (refused≢accepted e)
numbered_is P n refusal zero (b ∷ more) a known e = absurd (refused≢accepted e)
numbered_is P n refusal (suc zero) (b ∷ more) a known e =
    let here : suc n ≡ n + 1 = omega arith in subst (P (n + 1)) (accepted_same e) (subst (λ (m : ℕ). P m b) here known.0)
numbered_is P n refusal (suc (suc place)) (b ∷ more) a known e =
    let here : suc n + suc place ≡ n + suc (suc place) = omega arith in
    subst (λ (m : ℕ). P m a) here (numbered_is P (suc n) refusal (suc place) more a known.1 e)

-- a place that is 0, or after the last entry
pub numbered_none : {A : Type 0} (refusal place : ℕ) (entries : List A) → (0 < place → length entries < place)
    → numbered refusal place entries ≡ refused refusal
numbered_none refusal place [] h = refl
numbered_none refusal zero (a ∷ more) h = refl
numbered_none refusal (suc zero) (a ∷ more) h = absurd (omega (arith, h (omega arith)))
numbered_none refusal (suc (suc place)) (a ∷ more) h =
    numbered_none refusal (suc place) more (λ l. omega (arith, h (omega arith)))

-- the same, as a test
pub numbered_out : {A : Type 0} (refusal place : ℕ) (entries : List A) → (ltb place 1 || ltb (length entries) place) ≡ true
    → numbered refusal place entries ≡ refused refusal
numbered_out refusal place entries t =
    numbered_none refusal place entries (λ l. ltb-true (length entries) place (rw (le-ltb place 1 l) at t))
