-- Laws of numbers as text: a number below ten is its digit, any other the text of its tenth and its last digit; and how long a text is.
-- Assumes nothing.
use Rattle.std.proofs.Common.{List, [], ◌∷◌, ◌++◌, ℕ, zero, suc, ◌/◌, ◌%◌, ◌^◌, ◌≤◌, ◌<◌, ◌≡◌, sym, ap, ◌∙◌, arith, lt-ltb, le-ltb, length, length-append}
use native.Mathlib.Decide.{dec_lt}
use Rattle.text.specs.Text.{digit, spell, decimal}

spell_one : (most n : ℕ) → n < 10 → spell most n ≡ digit n ∷ []
unfolding spell
spell_one zero n h = ap (λ (d : ℕ). digit d ∷ []) (omega arith)
spell_one (suc most) n h = rw (lt-ltb n 10 h, spell)

spell_more : (most n : ℕ) → 10 ≤ n → spell (suc most) n ≡ spell most (n / 10) ++ (digit (n % 10) ∷ [])
unfolding spell
spell_more most n h = rw (le-ltb n 10 h, spell)

-- a larger bound changes nothing
abbrev Same : ℕ → ℕ → ℕ → Type 0
Same most least n = n ≤ most → n ≤ least → spell most n ≡ spell least n

same_more : (most least n : ℕ) → ((least n : ℕ) → Same most least n) → 10 ≤ n → Same (suc most) least n
same_more most zero n same h m l = absurd (omega arith)
same_more most (suc least) n same h m l =
    spell_more most n h
    ∙ ap (λ (t : List ℕ). t ++ (digit (n % 10) ∷ [])) (same least (n / 10) (omega arith) (omega arith))
    ∙ sym (spell_more least n h)

spell_same : (most least n : ℕ) → Same most least n
spell_same zero least n m l = spell_one zero n (omega arith) ∙ sym (spell_one least n (omega arith))
spell_same (suc most) least n m l = by_size (dec_lt n 10) (spell_same most)
  where
    by_size : Dec (n < 10) → ((least n : ℕ) → Same most least n) → spell (suc most) n ≡ spell least n
    by_size (yes one) same = spell_one (suc most) n one ∙ sym (spell_one least n one)
    by_size (no more) same = same_more most least n same (omega arith) m l

pub decimal_one : (n : ℕ) → n < 10 → decimal n ≡ digit n ∷ []
unfolding decimal
decimal_one n h = spell_one n n h

pub decimal_more : (n : ℕ) → 10 ≤ n → decimal n ≡ decimal (n / 10) ++ (digit (n % 10) ∷ [])
unfolding decimal
decimal_more zero h = absurd (omega arith)
decimal_more (suc m) h =
    spell_more m (suc m) h
    ∙ ap (λ (t : List ℕ). t ++ (digit (suc m % 10) ∷ [])) (spell_same m (suc m / 10) (suc m / 10) (omega arith) (omega arith))

-- a number below 10 ^ k has at most k digits, where k is not 0
pub decimal_short : (k n : ℕ) → n < 10 ^ suc k → length (decimal n) ≤ suc k
decimal_short zero n h = rw (decimal_one n (omega arith)) (omega arith)
decimal_short (suc k) n h = by_size (dec_lt n 10) (decimal_short k (n / 10) (omega arith))
  where
    by_size : Dec (n < 10) → length (decimal (n / 10)) ≤ suc k → length (decimal n) ≤ suc (suc k)
    by_size (yes one) tenth = rw (decimal_one n one) (omega arith)
    by_size (no more) tenth = rw (decimal_more n (omega arith), length-append) (omega arith)
