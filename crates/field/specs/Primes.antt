-- Primes, and the fixed list of them (document 01, "Field and digits").
use Rattle.std.specs.Prelude.{ℕ, zero, suc, ◌-◌, ◌%◌, ◌≤◌, ◌<◌, Bool, true, false, not, ◌&&◌, List, [], ◌∷◌, ◌≡◌, ◌≢◌, ◌↔◌, eqb, length, get_or}
use Rattle.field.specs.Member.{member}

-- a prime in the usual sense: at least 2, and no divisor from 2 to p - 1
pub record Prime (p : ℕ) : Type 0 where
  pub two : 2 ≤ p
  pub undivided : (d : ℕ) → 2 ≤ d → d < p → p % d ≢ 0

-- none of the n numbers from d on divides p
unfoldable pub no_divisor : ℕ → ℕ → ℕ → Bool
no_divisor zero d p = true
no_divisor (suc n) d p = not (eqb (p % d) 0) && no_divisor n (suc d) p

-- x in front of the list where the test holds
abbrev pub keep : Bool → ℕ → List ℕ → List ℕ
keep true x xs = x ∷ xs
keep false x xs = xs

-- the primes among the n numbers from d on, d at least 2, ascending: each is tried by all from 2 to itself less 1
unfoldable pub primes_from : ℕ → ℕ → List ℕ
unfolding no_divisor
primes_from zero d = []
primes_from (suc n) d = keep (no_divisor (d - 2) 2 d) d (primes_from n (suc d))

-- "the 53 odd primes from 3 to 251": 249 numbers from 3 on
unfoldable pub primes : List ℕ
unfolding primes_from
primes = primes_from 249 3

-- "p is one of the 53 odd primes from 3 to 251, kept as a fixed list"
unfoldable pub listed : ℕ → Bool
listed p = member p primes

-- what it means to be listed
pub record OddPrime (p : ℕ) : Type 0 where
  pub prime : Prime p
  pub odd : p % 2 ≡ 1
  pub low : 3 ≤ p
  pub high : p ≤ 251

-- ---- the rule of the list: "prime, ascending, complete" (document 01, "Our forms for each place"); proved in `proofs/Primes.antt`

-- what is listed is an odd prime from 3 to 251, and each of these is listed
abbrev pub ListedIsOddPrime : Type 0
ListedIsOddPrime = (p : ℕ) → (listed p ≡ true) ↔ OddPrime p

-- "ascending"
abbrev pub PrimesAscend : Type 0
PrimesAscend = (i j : ℕ) → i < j → j < length primes → get_or primes i 0 < get_or primes j 0

-- "the 53"
abbrev pub FiftyThreePrimes : Type 0
FiftyThreePrimes = length primes ≡ 53
