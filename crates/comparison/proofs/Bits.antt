-- The bits of any number t: how many there are, what they are worth, and how many of them are set.
-- By halving: the bits of t above 0 are its remainder by 2 and the bits of its half (`bits_cons`).
-- Assumes nothing.
use mathlib.Core.Path.{◌≡◌, refl, sym, ap, ◌∙◌}
use mathlib.Core.Bool.{Bool, true, false}
use mathlib.Core.List.{List, [], ◌∷◌}
use Prim.Native.Nat.{ℕ, zero, suc, ◌+◌, ◌*◌, ◌/◌, ◌%◌, ◌≤◌, ◌<◌}
use native.Mathlib.Omega.{arith}
use native.Mathlib.Nat.{le_refl}
use borrow.Author.Tests.{ne_eqb}
use lib.Arith.{bin_ind}
use lib.Dec.{eqb}
use lib.ListN.{length}
use Rattle.field.specs.Bit.{bit}
use Rattle.field.specs.Logarithm.{flog}
use Rattle.field.proofs.Logarithm.{flog_small, flog_half}
use Rattle.comparison.specs.Bits.{bits_in, bits, set_bits, ones}

-- ---- one step

bits_in_none : (most : ℕ) → bits_in most 0 ≡ []
unfolding bits_in
bits_in_none zero = refl
bits_in_none (suc most) = refl

bits_in_cons : (most t : ℕ) → 1 ≤ t → bits_in (suc most) t ≡ eqb (t % 2) 1 ∷ bits_in most (t / 2)
unfolding bits_in
bits_in_cons most t h = rw (ne_eqb t 0 (λ e. omega arith), bits_in)

-- any bound on the count that is large enough
bits_in_same : (most more t : ℕ) → t ≤ most → t ≤ more → bits_in most t ≡ bits_in more t
bits_in_same zero more zero h g = bits_in_none zero ∙ sym (bits_in_none more)
bits_in_same zero more (suc t) h g = absurd (omega arith)
bits_in_same (suc most) more zero h g = bits_in_none (suc most) ∙ sym (bits_in_none more)
bits_in_same (suc most) zero (suc t) h g = absurd (omega arith)
bits_in_same (suc most) (suc more) (suc t) h g =
    rw (bits_in_cons most (suc t) (omega arith), bits_in_cons more (suc t) (omega arith))
    (ap (λ (bs : List Bool). eqb (suc t % 2) 1 ∷ bs) (bits_in_same most more (suc t / 2) (omega arith) (omega arith)))

pub bits_cons : (t : ℕ) → 1 ≤ t → bits t ≡ eqb (t % 2) 1 ∷ bits (t / 2)
unfolding bits
bits_cons t h =
    bits_in_same t (suc t) t (le_refl t) (omega arith) ∙ bits_in_cons t t h
    ∙ ap (λ (bs : List Bool). eqb (t % 2) 1 ∷ bs) (bits_in_same t (t / 2) (t / 2) (omega arith) (le_refl _))

-- ---- how many there are

pub bits_length : (t : ℕ) → 1 ≤ t → length (bits t) ≡ suc (flog t)
unfolding bits
bits_length = bin_ind _ (λ h. absurd (omega arith)) step
  where
    step : (t : ℕ) → (1 ≤ t / 2 → length (bits (t / 2)) ≡ suc (flog (t / 2))) → 1 ≤ t → length (bits t) ≡ suc (flog t)
    step zero later h = absurd (omega arith)
    step (suc zero) later h = rw (flog_small 1 (le_refl 1))
    step (suc (suc t)) later h =
        let n = suc (suc t) in rw (bits_cons n h, flog_half n (omega arith)) (ap suc (later (omega arith)))

-- ---- what they are worth

-- bit 0 first, each worth twice the one before
unfoldable pub worth : List Bool → ℕ
worth [] = 0
worth (b ∷ bs) = bit b + 2 * worth bs

pub bit_of : (n : ℕ) → n < 2 → bit (eqb n 1) ≡ n
bit_of zero h = refl
bit_of (suc zero) h = refl
bit_of (suc (suc n)) h = absurd (omega arith)

pub bits_worth : (t : ℕ) → worth (bits t) ≡ t
unfolding worth bits
bits_worth = bin_ind _ refl step
  where
    step : (t : ℕ) → worth (bits (t / 2)) ≡ t / 2 → worth (bits t) ≡ t
    step zero later = refl
    step (suc t) later = rw (bits_cons (suc t) (omega arith)) (omega (arith, bit_of (suc t % 2) (omega arith)))

-- ---- how many are set

set_some : (bs : List Bool) → 1 ≤ worth bs → 1 ≤ set_bits bs
unfolding worth set_bits
set_some [] h = h
set_some (false ∷ bs) h = omega (arith, set_some bs (omega arith))
set_some (true ∷ bs) h = omega arith

set_below : (bs : List Bool) → set_bits bs ≤ worth bs
unfolding worth set_bits
set_below [] = le_refl 0
set_below (b ∷ bs) = omega (arith, set_below bs)

pub ones_some : (t : ℕ) → 1 ≤ t → 1 ≤ ones t
unfolding ones
ones_some t h = set_some (bits t) (omega (arith, bits_worth t))

-- each set bit is worth at least 1, and where bit 0 is not set, at least 2
pub ones_below : (t : ℕ) → t % 2 ≡ 0 → 2 ≤ t → 2 * ones t ≤ t
unfolding ones
ones_below t even h =
    rw (bits_cons t (omega arith), even) (omega (arith, set_below (bits (t / 2)), bits_worth (t / 2)))

-- ---- the logarithm

flog_halved : (t : ℕ) → flog t ≤ t / 2
flog_halved = bin_ind _ (omega (arith, flog_small 0 (omega arith))) step
  where
    step : (t : ℕ) → flog (t / 2) ≤ t / 2 / 2 → flog t ≤ t / 2
    step zero later = omega (arith, flog_small 0 (omega arith))
    step (suc zero) later = omega (arith, flog_small 1 (omega arith))
    step (suc (suc t)) later = omega (arith, flog_half (suc (suc t)) (omega arith))

pub flog_below : (t : ℕ) → 2 ≤ t → flog t ≤ t / 4 + 1
flog_below t h = omega (arith, flog_half t h, flog_halved (t / 2))
