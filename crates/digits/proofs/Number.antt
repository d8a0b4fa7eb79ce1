-- Digits and numbers: the number of a list from its lowest digit and the rest, or from its low and high digits, the digits of a number, and that each gives the other back.
-- Everything is for any base above 0.
-- Assumes nothing.
use mathlib.Core.Path.{◌≡◌, refl, sym, ap, ap₂, ◌∙◌}
use mathlib.Core.Bool.{true}
use mathlib.Core.List.{List, [], ◌∷◌, ◌++◌}
use Prim.Native.Nat.{ℕ, zero, suc, ◌+◌, ◌-◌, ◌*◌, ◌/◌, ◌%◌, ◌^◌, ◌≤◌, ◌<◌, min}
use native.Mathlib.Omega.{arith}
use native.Mathlib.Nat.{le_refl, mod-lt, mod-add-div, pow-zero, pow-suc, pow-succ', mul-one, mul-le-mul_left, div-lt_iff_lt-mul, add-mul-mod_self_left, add-mul-div_left, mod-eq_of_lt, div-eq_of_lt, zero-add, le-mul_of_pos_right}
use borrow.Author.Tests.{ltb-true, lt-ltb}
use lib.Dec.{ltb}
use lib.ListN.{length, take, drop, get_or, length-take, length-drop}
use lib.Seq.{get_or-take, get_or-drop, ext_get_or}
use Rattle.field.specs.Primes.{listed}
use Rattle.field.specs.Sum.{sum}
use Rattle.field.proofs.Tests.{both}
use Rattle.field.proofs.Primes.{listed_is_odd_prime}
use Rattle.field.proofs.Sum.{sum_shift, sum_same, sum_mul}
use Rattle.digits.specs.Number.{base, number, all_below, digits_of}

-- the base of a listed prime
pub base_pos : (p : ℕ) → listed p ≡ true → 0 < base p
base_pos p t = omega (arith, ((listed_is_odd_prime p).0 t).low)

-- ---- the number of a list

pub number_nil : (B : ℕ) → number B [] ≡ 0
unfolding number sum
number_nil B = refl

-- the lowest digit, and B times the rest
pub number_cons : (B d : ℕ) (ds : List ℕ) → number B (d ∷ ds) ≡ d + B * number B ds
unfolding number
number_cons B d ds =
    sum_shift (length ds) (λ j. get_or (d ∷ ds) j 0 * B ^ j)
    ∙ ap₂ ◌+◌ (simp (pow-zero, mul-one))
    (sum_same (length ds) _ _ (λ j l. omega (arith, ap (λ (t : ℕ). get_or ds j 0 * t) (pow-succ' B j)))
    ∙ sum_mul (length ds) B (λ j. get_or ds j 0 * B ^ j))

-- one digit
pub number_one : (B d : ℕ) → number B (d ∷ []) ≡ d
number_one B d = omega (arith, number_cons B d [], ap (λ (t : ℕ). B * t) (number_nil B))

-- low digits, and B^(their count) times the high ones
pub number_append : (B : ℕ) (low high : List ℕ) → number B (low ++ high) ≡ number B low + B ^ length low * number B high
number_append B [] high = omega (arith, number_nil B, ap (λ (t : ℕ). t * number B high) (pow-zero B))
number_append B (d ∷ low) high =
    number_cons B d (low ++ high)
    ∙ omega (arith, number_cons B d low, ap (λ (t : ℕ). B * t) (number_append B low high), ap (λ (t : ℕ). t * number B high) (pow-succ' B (length low)))

-- the number of the higher digits is no larger
pub number_drop : (B : ℕ) → 0 < B → (ds : List ℕ) (i : ℕ) → number B (drop i ds) ≤ number B ds
number_drop B p ds zero = le_refl _
number_drop B p [] (suc i) = le_refl _
number_drop B p (d ∷ ds) (suc i) =
    omega (arith, number_cons B d ds, number_drop B p ds i, le-mul_of_pos_right (number B ds) p)

-- equally long lists that are the same in n places from the first on have the same part there
pub same_part : (first n : ℕ) (ds es : List ℕ) → length ds ≡ length es
    → ((i : ℕ) → first ≤ i → i < first + n → get_or ds i 0 ≡ get_or es i 0) → take n (drop first ds) ≡ take n (drop first es)
same_part first n ds es long same =
    let size : (xs : List ℕ) → length (take n (drop first xs)) ≡ min n (length xs - first)
    = λ xs. length-take n (drop first xs) ∙ ap (min n) (length-drop first xs) in
    let digit : (xs : List ℕ) (i : ℕ) → i < n → get_or (take n (drop first xs)) i 0 ≡ get_or xs (first + i) 0
    = λ xs i l. get_or-take n (drop first xs) i 0 l ∙ get_or-drop first xs i 0 in
    ext_get_or 0 (take n (drop first ds)) (take n (drop first es))
    (omega (arith, size ds, size es))
    (λ i l.
    let within : i < n = omega (arith, size ds) in
    digit ds i within ∙ same (first + i) (omega arith) (omega arith) ∙ sym (digit es i within))

-- ---- digits below B

-- the first digit, and the others
pub below_cons : (B d : ℕ) (ds : List ℕ) → all_below B (d ∷ ds) ≡ true → (d < B) × (all_below B ds ≡ true)
unfolding all_below
below_cons B d ds h =
    let s = both (ltb d B) (all_below B ds) h in (ltb-true d B s.0, s.1)

-- a digit that is not there reads as 0
pub below_at : (B : ℕ) (ds : List ℕ) (i : ℕ) → 0 < B → all_below B ds ≡ true → get_or ds i 0 < B
below_at B [] i p h = p
below_at B (d ∷ ds) zero p h = (below_cons B d ds h).0
below_at B (d ∷ ds) (suc i) p h = below_at B ds i p (below_cons B d ds h).1

pub below_append : (B : ℕ) (ds es : List ℕ) → all_below B ds ≡ true → all_below B es ≡ true → all_below B (ds ++ es) ≡ true
unfolding all_below
below_append B [] es h k = k
below_append B (d ∷ ds) es h k =
    let s = below_cons B d ds h in rw (lt-ltb d B s.0) (below_append B ds es s.1 k)

-- a larger bound
pub below_weaken : (B C : ℕ) (ds : List ℕ) → B ≤ C → all_below B ds ≡ true → all_below C ds ≡ true
unfolding all_below
below_weaken B C [] l h = refl
below_weaken B C (d ∷ ds) l h =
    let s = below_cons B d ds h in rw (lt-ltb d C (omega (arith, s.0))) (below_weaken B C ds l s.1)

pub below_drop : (B : ℕ) (ds : List ℕ) (i : ℕ) → all_below B ds ≡ true → all_below B (drop i ds) ≡ true
below_drop B ds zero h = h
below_drop B [] (suc i) h = h
below_drop B (d ∷ ds) (suc i) h = below_drop B ds i (below_cons B d ds h).1

-- ---- the digits of a number

pub length_digits : (B n x : ℕ) → length (digits_of B n x) ≡ n
unfolding digits_of
length_digits B zero x = refl
length_digits B (suc n) x = ap suc (length_digits B n (x / B))

pub digits_below : (B : ℕ) → 0 < B → (n x : ℕ) → all_below B (digits_of B n x) ≡ true
unfolding digits_of all_below
digits_below B p zero x = refl
digits_below B p (suc n) x = rw (lt-ltb (x % B) B (mod-lt x p)) (digits_below B p n (x / B))

-- a number below B^n is that of its n digits
pub number_digits : (B : ℕ) → 0 < B → (n x : ℕ) → x < B ^ n → number B (digits_of B n x) ≡ x
unfolding digits_of
number_digits B p zero x h = omega (arith, number_nil B, pow-zero B)
number_digits B p (suc n) x h =
    number_cons B (x % B) (digits_of B n (x / B))
    ∙ ap (λ (t : ℕ). x % B + B * t) (number_digits B p n (x / B) ((div-lt_iff_lt-mul p).1 (rw pow-suc at h)))
    ∙ mod-add-div x B

-- and digits below B are those of their number
pub digits_number : (B : ℕ) (ds : List ℕ) → all_below B ds ≡ true → digits_of B (length ds) (number B ds) ≡ ds
unfolding digits_of
digits_number B [] h = refl
digits_number B (d ∷ ds) h =
    let b = below_cons B d ds h in
    rw number_cons
    (ap₂ ◌∷◌
    (add-mul-mod_self_left d B (number B ds) ∙ mod-eq_of_lt b.0)
    (ap (digits_of B (length ds)) (add-mul-div_left d (number B ds) (omega arith) ∙ rw (div-eq_of_lt b.0) (zero-add _))
    ∙ digits_number B ds b.1))

pub number_below : (B : ℕ) (ds : List ℕ) → all_below B ds ≡ true → number B ds < B ^ length ds
number_below B [] h = omega (arith, number_nil B, pow-zero B)
number_below B (d ∷ ds) h =
    let b = below_cons B d ds h in
    omega (arith, number_cons B d ds, pow-succ' B (length ds), mul-le-mul_left B (number_below B ds b.1))
