-- What is promised of digits: what Encode makes, reading back (demand 2, second sentence), what a refusal leaves, and the two refusals
-- that depend on the number.
-- Proved in `proofs/Promises.antt`.
use Rattle.std.specs.Prelude.{◌≡◌, ◌↔◌, true, List, ◌++◌, ℕ, ◌-◌, ◌^◌, ◌≤◌, ◌<◌, length, take, drop}
use Rattle.answer.specs.Outcome.{refused, accepted, Keeps}
use Rattle.field.specs.Primes.{listed}
use Rattle.digits.specs.Number.{base, most_digits, number, all_below}
use Rattle.digits.specs.Encoding.{encoding}
use Rattle.digits.specs.Decoding.{decoding}

-- the first n bytes that an accepted Encode leaves are n digits below B that stand for the number
abbrev pub EncodesBelow : Type 0
EncodesBelow =
    (p n x : ℕ) (out : List ℕ) → (encoding p n x out).answer ≡ accepted tt
    → let digits = take n (encoding p n x out).lent in
    (length digits ≡ n) × (all_below (base p) digits ≡ true) × (number (base p) digits ≡ x)

-- "A number turned into n digits reads back as itself": whatever Encode accepts, Decode gives back. A number is a u64.
abbrev pub NumberReadsBack : Type 0
NumberReadsBack =
    (p n x : ℕ) (out : List ℕ) → x < 2 ^ 64 → (encoding p n x out).answer ≡ accepted tt
    → decoding p (take n (encoding p n x out).lent) ≡ accepted x

-- "n digits that read as a number are the ones that number turns into"
abbrev pub SameDigits : Type 0
SameDigits =
    (p x : ℕ) (digits out : List ℕ) → decoding p digits ≡ accepted x → length digits ≤ length out
    → encoding p (length digits) x out ≡ record { answer = accepted tt; lent = digits ++ drop (length digits) out }

-- "every lent byte is then unaltered"
abbrev pub EncodeKeeps : Type 0
EncodeKeeps = (p n x : ℕ) (out : List ℕ) → Keeps out (encoding p n x out)

-- Encode gives 22 exactly where the number is not below B^n, and otherwise accepts
abbrev pub TooLarge : Type 0
TooLarge =
    (p n x : ℕ) (out : List ℕ) → listed p ≡ true → 1 ≤ n → n ≤ most_digits → n ≤ length out
    → (((encoding p n x out).answer ≡ refused 22) ↔ (base p ^ n ≤ x))
    × (((encoding p n x out).answer ≡ accepted tt) ↔ (x < base p ^ n))

-- Decode gives 24 exactly where the sum is above 2^64-1, and otherwise accepts
abbrev pub TooWide : Type 0
TooWide =
    (p : ℕ) (digits : List ℕ) → listed p ≡ true → 1 ≤ length digits → length digits ≤ most_digits → all_below (base p) digits ≡ true
    → ((decoding p digits ≡ refused 24) ↔ (2 ^ 64 - 1 < number (base p) digits))
    × ((decoding p digits ≡ accepted (number (base p) digits)) ↔ (number (base p) digits ≤ 2 ^ 64 - 1))
