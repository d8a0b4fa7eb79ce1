-- Digits one after the other, whatever each of them is: where each stands, what they name, how many gates of a sort they have.
-- By induction on their count.
-- Assumes nothing.
use mathlib.Core.Path.{◌≡◌, refl, sym, ap, subst, ◌∙◌}
use mathlib.Core.Bool.{Bool, true}
use mathlib.Core.List.{List, [], ◌++◌}
use Prim.Native.Nat.{ℕ, zero, suc, ◌+◌, ◌-◌, ◌*◌, ◌<◌}
use native.Mathlib.Omega.{arith}
use native.Mathlib.Numerals.{add-one}
use native.Mathlib.Nat.{add-zero, zero-add, add-suc, suc-add}
use lib.ListN.{length, length-append}
use Rattle.circuit.specs.Count.{count}
use Rattle.circuit.specs.Gate.{Gate}
use Rattle.circuit.specs.Meaning.{Algebra, Solves}
use Rattle.circuit.specs.Table.{Head, all_fit}
use Rattle.circuit.proofs.Count.{count_append}
use Rattle.circuit.proofs.Fitting.{all_fit_lem, fit_append}
use Rattle.circuit.proofs.Meaning.{solves_append}
use Rattle.comparison.specs.Digits.{digits_from, unless_lowest}

-- ---- E, of every digit but the lowest

pub lowest_none : (j : ℕ) (gates : List Gate) → j ≡ 0 → unless_lowest j gates ≡ []
lowest_none j gates e = rw e

pub upper_all : (j : ℕ) (gates : List Gate) → 0 < j → unless_lowest j gates ≡ gates
upper_all zero gates l = absurd (omega arith)
upper_all (suc j) gates l = refl

-- ---- digits one after the other

module _ (digit : ℕ → ℕ → List Gate) (start : ℕ → ℕ) where
  -- the digits that are left: the next one, and those after it
  pub digits_cons : (n j : ℕ) → j < n
      → digits_from digit start (n - j) j ≡ digit j (start j) ++ digits_from digit start (n - (j + 1)) (j + 1)
  unfolding digits_from
  digits_cons n j l =
      let e : n - j ≡ suc (n - (j + 1)) = omega arith in
      rw (e, add-one j)

  -- ---- how many gates of a sort, where each digit has so many

  pub digits_count : (test : Gate → Bool) (m : ℕ) → ((j k : ℕ) → count test (digit j k) ≡ m)
      → (n j : ℕ) → count test (digits_from digit start n j) ≡ n * m
  unfolding digits_from count
  digits_count test m each zero j = omega arith
  digits_count test m each (suc n) j =
      omega (
        arith,
        count_append test (digit j (start j)) (digits_from digit start n (suc j)),
        each j (start j),
        digits_count test m each n (suc j),
      )

  -- ---- where each digit is followed by the next

  module _ (follows : (j : ℕ) → start j + length (digit j (start j)) ≡ start (suc j)) where
    digits_length : (n j : ℕ) → start j + length (digits_from digit start n j) ≡ start (n + j)
    unfolding digits_from
    digits_length zero j = rw (zero-add j) (add-zero _)
    digits_length (suc n) j =
        rw (suc-add, ← add-suc n j)
        (omega (arith, length-append (digit j (start j)) (digits_from digit start n (suc j)), follows j, digits_length n (suc j)))

    -- all n, of which the lowest is written from gate number k on
    pub digits_end : (n k : ℕ) → start 0 ≡ k → k + length (digits_from digit start n 0) ≡ start n
    digits_end n k first =
        ap (λ (m : ℕ). m + length (digits_from digit start n 0)) (sym first) ∙ digits_length n 0 ∙ ap start (add-zero n)

    -- over any entries: digit number i + j
    digit_solved : {A : Type 0} (alg : Algebra A) (E : ℕ → A) (n j : ℕ) → Solves alg E (start j) (digits_from digit start n j)
        → (i : ℕ) → i < n → Solves alg E (start (i + j)) (digit (i + j) (start (i + j)))
    unfolding digits_from
    digit_solved alg E zero j h i l = absurd (omega arith)
    digit_solved alg E (suc n) j h zero l = rw (zero-add j) (solves_append alg E (digit j (start j)) _ (start j) h).0
    digit_solved alg E (suc n) j h (suc i) l =
        let later = (solves_append alg E (digit j (start j)) _ (start j) h).1 in
        rw (suc-add, ← add-suc i j) (digit_solved alg E n (suc j) (rw (follows j) at later) i (omega arith))

    -- digit number j of n, whatever follows them
    pub each_digit : {A : Type 0} (alg : Algebra A) (E : ℕ → A) (n k : ℕ) (later : List Gate) → start 0 ≡ k
        → Solves alg E k (digits_from digit start n 0 ++ later) → (j : ℕ) → j < n → Solves alg E (start j) (digit j (start j))
    each_digit alg E n k later first h j l =
        let digits = digits_from digit start n 0 in
        let here = subst (λ (m : ℕ). Solves alg E m digits) (sym first) (solves_append alg E digits later k h).0 in
        rw (add-zero j) at (digit_solved alg E n 0 here j l)

    -- what they name
    from_fit : (head : Head) (n j : ℕ) → ((i : ℕ) → i < n + j → all_fit head (start i) (digit i (start i)) ≡ true)
        → all_fit head (start j) (digits_from digit start n j) ≡ true
    unfolding digits_from
    from_fit head zero j each = all_fit_lem head _ [] tt
    from_fit head (suc n) j each =
        fit_append head (start j) (digit j (start j)) _ (each j (omega arith))
        (rw (follows j) (from_fit head n (suc j) (λ i l. each i (omega arith))))

    pub digits_fit : (head : Head) (n k : ℕ) → start 0 ≡ k → ((j : ℕ) → j < n → all_fit head (start j) (digit j (start j)) ≡ true)
        → all_fit head k (digits_from digit start n 0) ≡ true
    digits_fit head n k first each = rw (← first) (from_fit head n 0 (λ i l. each i (omega arith)))
