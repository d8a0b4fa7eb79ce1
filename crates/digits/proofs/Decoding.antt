-- The cases of Decode: which line of `decoding` the rules pick, and what accepted digits have passed.
-- Assumes nothing.
use mathlib.Core.Path.{◌≡◌, refl}
use mathlib.Core.Bool.{true, false, not}
use mathlib.Core.List.{List}
use Prim.Native.Nat.{ℕ, ◌-◌, ◌^◌, ◌≤◌, ◌<◌}
use borrow.Author.Tests.{not-false, lt-ltb, le-ltb, ltb-false}
use lib.Dec.{ltb}
use lib.ListN.{length}
use Rattle.answer.specs.Outcome.{Answer, refused, accepted}
use Rattle.answer.proofs.Outcome.{passed}
use Rattle.field.specs.Primes.{listed}
use Rattle.field.proofs.Tests.{in_range}
use Rattle.digits.specs.Number.{base, most_digits, wrong_count, number, all_below}
use Rattle.digits.specs.Decoding.{total_of, decoding}

module _ (p : ℕ) (digits : List ℕ) where
  pub prime_refused : listed p ≡ false → decoding p digits ≡ refused 3
  prime_refused t = rw t

  pub none_refused : listed p ≡ true → length digits < 1 → decoding p digits ≡ refused 9
  none_refused t h = rw (t, lt-ltb (length digits) 1 h)

  pub many_refused : listed p ≡ true → 1 ≤ length digits → most_digits < length digits → decoding p digits ≡ refused 9
  many_refused t l h = rw (t, le-ltb (length digits) 1 l, lt-ltb most_digits (length digits) h)

  pub digit_refused : listed p ≡ true → 1 ≤ length digits → length digits ≤ most_digits → all_below (base p) digits ≡ false → decoding p digits ≡ refused 23
  digit_refused t l g b = rw (t, le-ltb (length digits) 1 l, le-ltb most_digits (length digits) g, b)

  -- digits that pass all but the last rule
  pub decoded : listed p ≡ true → 1 ≤ length digits → length digits ≤ most_digits → all_below (base p) digits ≡ true → decoding p digits ≡ total_of (base p) digits
  decoded t l g b = rw (t, le-ltb (length digits) 1 l, le-ltb most_digits (length digits) g, b)

pub total_refused : (B : ℕ) (digits : List ℕ) → 2 ^ 64 - 1 < number B digits → total_of B digits ≡ refused 24
total_refused B digits h = rw (lt-ltb (2 ^ 64 - 1) (number B digits) h)

pub total_fits : (B : ℕ) (digits : List ℕ) → number B digits ≤ 2 ^ 64 - 1 → total_of B digits ≡ accepted (number B digits)
total_fits B digits h = rw (le-ltb (2 ^ 64 - 1) (number B digits) h)

-- every rule that accepted digits have passed, and the number that they gave
pub record Decodes (p : ℕ) (digits : List ℕ) (x : ℕ) : Type 0 where
  pub prime : listed p ≡ true
  pub one : 1 ≤ length digits
  pub most : length digits ≤ most_digits
  pub below : all_below (base p) digits ≡ true
  pub fits : number (base p) digits ≤ 2 ^ 64 - 1
  pub same : number (base p) digits ≡ x

pub decodes : (p : ℕ) (digits : List ℕ) (x : ℕ) → decoding p digits ≡ accepted x → Decodes p digits x
decodes p digits x e =
    let answer : Answer ℕ → Answer ℕ = λ a. a in
    let prime = passed answer (not (listed p)) (refused 3) _ refl e in
    let count = passed answer (wrong_count (length digits)) (refused 9) _ refl prime.1 in
    let range = in_range (length digits) 1 most_digits count.0 in
    let below = passed answer (not (all_below (base p) digits)) (refused 23) _ refl count.1 in
    let total = passed answer (ltb (2 ^ 64 - 1) (number (base p) digits)) (refused 24) _ refl below.1 in
    record {
      prime = not-false (listed p) prime.0;
      one = range.0;
      most = range.1;
      below = not-false (all_below (base p) digits) below.0;
      fits = ltb-false (2 ^ 64 - 1) (number (base p) digits) total.0;
      same = cc;
    }
