-- The cases of Encode: which line of `encoding` the rules pick, and what an accepted number has passed.
-- Assumes nothing.
use mathlib.Core.Path.{◌≡◌, refl}
use mathlib.Core.Bool.{true, false, not}
use mathlib.Core.List.{List, ◌++◌}
use Prim.Native.Nat.{ℕ, ◌^◌, ◌≤◌, ◌<◌}
use borrow.Author.Tests.{not-false, lt-ltb, le-ltb, le-leb, lt-leb, ltb-false, leb-false}
use lib.Dec.{ltb, leb}
use lib.ListN.{length, drop}
use Rattle.answer.specs.Outcome.{Answer, accepted, Outcome, unaltered}
use Rattle.answer.proofs.Outcome.{passed}
use Rattle.field.specs.Primes.{listed}
use Rattle.field.proofs.Tests.{in_range}
use Rattle.digits.specs.Number.{base, most_digits, wrong_count, digits_of}
use Rattle.digits.specs.Encoding.{encoding}

module _ (p n x : ℕ) (out : List ℕ) where
  pub prime_refused : listed p ≡ false → encoding p n x out ≡ unaltered out 3
  prime_refused t = rw t

  pub none_refused : listed p ≡ true → n < 1 → encoding p n x out ≡ unaltered out 9
  none_refused t h = rw (t, lt-ltb n 1 h)

  pub many_refused : listed p ≡ true → 1 ≤ n → most_digits < n → encoding p n x out ≡ unaltered out 9
  many_refused t l h = rw (t, le-ltb n 1 l, lt-ltb most_digits n h)

  pub room_refused : listed p ≡ true → 1 ≤ n → n ≤ most_digits → length out < n → encoding p n x out ≡ unaltered out 21
  room_refused t l g h = rw (t, le-ltb n 1 l, le-ltb most_digits n g, lt-ltb (length out) n h)

  pub large_refused : listed p ≡ true → 1 ≤ n → n ≤ most_digits → n ≤ length out → base p ^ n ≤ x → encoding p n x out ≡ unaltered out 22
  large_refused t l g r h =
      rw (t, le-ltb n 1 l, le-ltb most_digits n g, le-ltb (length out) n r, le-leb (base p ^ n) x h)

  pub encoded : listed p ≡ true → 1 ≤ n → n ≤ most_digits → n ≤ length out → x < base p ^ n
      → encoding p n x out ≡ record { answer = accepted tt; lent = digits_of (base p) n x ++ drop n out }
  encoded t l g r h =
      rw (t, le-ltb n 1 l, le-ltb most_digits n g, le-ltb (length out) n r, lt-leb (base p ^ n) x h)

-- every rule that an accepted number has passed
pub record Encodes (p n x : ℕ) (out : List ℕ) : Type 0 where
  pub prime : listed p ≡ true
  pub one : 1 ≤ n
  pub most : n ≤ most_digits
  pub room : n ≤ length out
  pub small : x < base p ^ n

pub encodes : (p n x : ℕ) (out : List ℕ) → (encoding p n x out).answer ≡ accepted tt → Encodes p n x out
encodes p n x out e =
    let answer : Outcome Unit → Answer Unit = λ o. o.answer in
    let prime = passed answer (not (listed p)) (unaltered out 3) _ refl e in
    let count = passed answer (wrong_count n) (unaltered out 9) _ refl prime.1 in
    let range = in_range n 1 most_digits count.0 in
    let room = passed answer (ltb (length out) n) (unaltered out 21) _ refl count.1 in
    let small = passed answer (leb (base p ^ n) x) (unaltered out 22) _ refl room.1 in
    record {
      prime = not-false (listed p) prime.0;
      one = range.0;
      most = range.1;
      room = ltb-false (length out) n room.0;
      small = leb-false (base p ^ n) x small.0;
    }
