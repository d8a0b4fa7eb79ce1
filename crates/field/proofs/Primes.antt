-- The rule of the list of primes: every entry is prime, the entries ascend, and every odd prime from 3 to 251 is among them.
-- The list is made by trial division, so the rule holds of every list so made, by induction on the numbers tried.
-- That the code's array is this very list is one computed test, in `proofs/listed_primes`.
-- Assumes nothing.
use mathlib.Core.Path.{◌≡◌, refl, subst}
use mathlib.Core.Bool.{Bool, true, false, not, false≢true, or-true}
use mathlib.Core.List.{List}
use mathlib.Core.Logic.{◌≢◌, ⊎_elim}
use Prim.Native.Nat.{ℕ, zero, suc, ◌+◌, ◌-◌, ◌%◌, ◌≤◌, ◌<◌}
use native.Mathlib.Omega.{arith}
use native.Mathlib.Decide.{ℕ_discrete}
use borrow.Author.Tests.{eqb-false, eq-eqb, ne_eqb, not-true}
use lib.Dec.{eqb}
use lib.ListN.{length, get_or}
use Rattle.field.proofs.Member.{member_cons}
use Rattle.field.proofs.Tests.{both}
use Rattle.field.specs.Member.{member}
use Rattle.field.specs.Primes.{Prime, OddPrime, no_divisor, keep, primes_from, primes, listed, ListedIsOddPrime, PrimesAscend, FiftyThreePrimes}

-- ---- trial division

-- e does not divide p: it is d, or one of the later
undivided_at : (p d e : ℕ) → Dec (d ≡ e) → p % d ≢ 0 → (suc d ≤ e → p % e ≢ 0) → d ≤ e → p % e ≢ 0
undivided_at p d e (yes q) here later h = subst (λ (x : ℕ). p % x ≢ 0) q here
undivided_at p d e (no q) here later h = later (omega arith)

no_divisor_sound : (n d p : ℕ) → no_divisor n d p ≡ true → (e : ℕ) → d ≤ e → e < d + n → p % e ≢ 0
unfolding no_divisor
no_divisor_sound zero d p t e l g = absurd (omega arith)
no_divisor_sound (suc n) d p t e l g =
    let s = both (not (eqb (p % d) 0)) (no_divisor n (suc d) p) t in
    undivided_at p d e (ℕ_discrete d e) (eqb-false (p % d) 0 (not-true _ s.0))
    (λ h. no_divisor_sound n (suc d) p s.1 e h (omega arith)) l

no_divisor_complete : (n d p : ℕ) → ((e : ℕ) → d ≤ e → e < d + n → p % e ≢ 0) → no_divisor n d p ≡ true
unfolding no_divisor
no_divisor_complete zero d p h = refl
no_divisor_complete (suc n) d p h =
    rw (ne_eqb (p % d) 0 (h d (omega arith) (omega arith)))
    (no_divisor_complete n (suc d) p (λ e l g. h e (omega arith) (omega arith)))

trial_prime : (p : ℕ) → 2 ≤ p → no_divisor (p - 2) 2 p ≡ true → Prime p
trial_prime p h t =
    record { two = h; undivided = λ d l g. no_divisor_sound (p - 2) 2 p t d l (omega arith) }

prime_trial : (p : ℕ) → Prime p → no_divisor (p - 2) 2 p ≡ true
prime_trial p prime =
    no_divisor_complete (p - 2) 2 p (λ e l g. prime.undivided e l (omega (arith, prime.two)))

-- ---- membership

member_later : (b : Bool) (x y : ℕ) (ys : List ℕ) → member x ys ≡ true → member x (keep b y ys) ≡ true
unfolding member
member_later true x y ys t = rw t (or-true (eqb y x))
member_later false x y ys t = t

-- ---- the lists of primes

-- every entry is prime
entry_prime : (n d x : ℕ) → 2 ≤ d → member x (primes_from n d) ≡ true → (d ≤ x) × (x < d + n) × Prime x
unfolding primes_from member
entry_prime zero d x h t = absurd (false≢true t)
entry_prime (suc n) d x h t = go (no_divisor (d - 2) 2 d) refl t (entry_prime n (suc d) x (omega arith))
  where
    later : (suc d ≤ x) × (x < suc d + n) × Prime x → (d ≤ x) × (x < d + suc n) × Prime x
    later e = (omega arith, omega arith, e.2)

    go : (b : Bool) → no_divisor (d - 2) 2 d ≡ b → member x (keep b d (primes_from n (suc d))) ≡ true
        → (member x (primes_from n (suc d)) ≡ true → (suc d ≤ x) × (x < suc d + n) × Prime x) → (d ≤ x) × (x < d + suc n) × Prime x
    go true e s rest =
        ⊎_elim
        (λ (q : d ≡ x). (omega arith, omega arith, subst Prime q (trial_prime d h e)))
        (λ m. later (rest m))
        (member_cons x d (primes_from n (suc d)) s)
    go false e s rest = later (rest s)

-- every prime in range is an entry
prime_entry : (n d x : ℕ) → 2 ≤ d → Prime x → d ≤ x → x < d + n → member x (primes_from n d) ≡ true
unfolding primes_from member
prime_entry zero d x h prime l g = absurd (omega arith)
prime_entry (suc n) d x h prime l g = go (ℕ_discrete d x) (prime_entry n (suc d) x (omega arith) prime)
  where
    go : Dec (d ≡ x) → (suc d ≤ x → x < suc d + n → member x (primes_from n (suc d)) ≡ true) → member x (primes_from (suc n) d) ≡ true
    go (yes q) rest = rw (q, prime_trial x prime, eq-eqb x x refl)
    go (no q) rest = member_later (no_divisor (d - 2) 2 d) x d (primes_from n (suc d)) (rest (omega arith) (omega arith))

-- no entry is below the first number tried
entry_from : (n d i : ℕ) → i < length (primes_from n d) → d ≤ get_or (primes_from n d) i 0
unfolding primes_from
entry_from zero d i h = absurd (omega arith)
entry_from (suc n) d i h = go (no_divisor (d - 2) 2 d) i h (entry_from n (suc d))
  where
    go : (b : Bool) (i : ℕ) → i < length (keep b d (primes_from n (suc d)))
        → ((i : ℕ) → i < length (primes_from n (suc d)) → suc d ≤ get_or (primes_from n (suc d)) i 0) → d ≤ get_or (keep b d (primes_from n (suc d))) i 0
    go true zero h rest = omega arith
    go true (suc i) h rest = omega (arith, rest i (omega arith))
    go false i h rest = omega (arith, rest i h)

ascend : (n d i j : ℕ) → i < j → j < length (primes_from n d) → get_or (primes_from n d) i 0 < get_or (primes_from n d) j 0
unfolding primes_from
ascend zero d i j l h = absurd (omega arith)
ascend (suc n) d i j l h = go (no_divisor (d - 2) 2 d) i j l h (ascend n (suc d))
  where
    go : (b : Bool) (i j : ℕ) → i < j → j < length (keep b d (primes_from n (suc d)))
        → ((i j : ℕ) → i < j → j < length (primes_from n (suc d)) → get_or (primes_from n (suc d)) i 0 < get_or (primes_from n (suc d)) j 0)
        → get_or (keep b d (primes_from n (suc d))) i 0 < get_or (keep b d (primes_from n (suc d))) j 0
    go true i zero l h rest = absurd (omega arith)
    go true zero (suc j) l h rest = entry_from n (suc d) j (omega arith)
    go true (suc i) (suc j) l h rest = rest i j (omega arith) (omega arith)
    go false i j l h rest = rest i j l h

-- ---- the list of the rules

pub fifty_three_primes : FiftyThreePrimes
unfolding primes
fifty_three_primes = refl

pub primes_ascend : PrimesAscend
unfolding primes
primes_ascend i j l h = ascend 249 3 i j l h

-- prime and complete: what is listed is an odd prime from 3 to 251, and each of these is listed
pub listed_is_odd_prime : ListedIsOddPrime
unfolding listed primes
listed_is_odd_prime p = (sound, λ o. prime_entry 249 3 p (omega arith) o.prime o.low (omega (arith, o.high)))
  where
    sound : listed p ≡ true → OddPrime p
    sound t =
        let e = entry_prime 249 3 p (omega arith) t in
        record { prime = e.2; odd = omega (arith, e.2.undivided 2 (omega arith) (omega arith)); low = e.0; high = omega arith }
