-- flog and clog are the floor and the ceiling of log2: 2 ^ d ≤ n exactly where d ≤ flog n, for n above 0, and n ≤ 2 ^ d exactly where clog n ≤ d.
-- Each law says the logarithm whole, so that whatever has the law is the logarithm; the steps by halves follow.
-- Assumes nothing.
use mathlib.Core.Path.{◌≡◌, refl, sym, ap, ◌∙◌}
use mathlib.Core.Logic.{◌↔◌}
use mathlib.Core.Bool.{Bool, true, false, not}
use Prim.Native.Nat.{ℕ, zero, suc, ◌+◌, ◌*◌, ◌/◌, ◌^◌, ◌≤◌, ◌<◌, zero-le, max}
use native.Mathlib.Omega.{arith}
use native.Mathlib.Nat.{le_antisymm, le_trans, le_refl, le_of_lt, lt_of_not-le, pow-succ', mul-pos}
use lib.Dec.{T, leb, leb→le, nleb→lt}
use lib.Pow.{pow_pos}
use Rattle.field.specs.Logarithm.{flog_in, flog, clog_in, clog, ClogIsCeiling, FlogIsFloor}

lt_pow_self : (n : ℕ) → n < 2 ^ n
lt_pow_self zero = omega arith
lt_pow_self (suc n) = omega (arith, lt_pow_self n)

-- ---- the ceiling

-- one halving, from the law of the half; b is the test that n is at most 1
clog_step : (n c : ℕ) → ((d : ℕ) → ((n + 1) / 2 ≤ 2 ^ d) ↔ (c ≤ d)) → (b : Bool) → (T b → n ≤ 1) → (T (not b) → 1 < n)
    → (d : ℕ) → (n ≤ 2 ^ d) ↔ ((elim b as (λ _. ℕ) [ true ↦ 0 | false ↦ suc c ]) ≤ d)
clog_step n c half true small large d = (λ k. zero-le, λ k. omega (arith, pow_pos d, small tt))
clog_step n c half false small large zero = (λ k. omega (arith, large tt), λ k. omega arith)
clog_step n c half false small large (suc d) =
    (λ k. omega (arith, (half d).0 (omega arith)), λ k. omega (arith, (half d).1 (omega arith)))

clog_in_iff : (most n d : ℕ) → n ≤ 2 ^ most → (n ≤ 2 ^ d) ↔ (clog_in most n ≤ d)
unfolding clog_in
clog_in_iff zero n d h = (λ k. zero-le, λ k. omega (arith, pow_pos d))
clog_in_iff (suc most) n d h =
    clog_step n (clog_in most ((n + 1) / 2)) (λ e. clog_in_iff most ((n + 1) / 2) e (omega arith)) (leb n 1) (leb→le n 1) (nleb→lt n 1) d

pub clog_is_ceiling : ClogIsCeiling
unfolding clog
clog_is_ceiling n d = clog_in_iff n n d (le_of_lt (lt_pow_self n))

-- whatever has the law is clog
pub clog_unique : (n c : ℕ) → ((d : ℕ) → (n ≤ 2 ^ d) ↔ (c ≤ d)) → c ≡ clog n
clog_unique n c law =
    le_antisymm ((law (clog n)).0 ((clog_is_ceiling n (clog n)).1 (le_refl _))) ((clog_is_ceiling n c).0 ((law c).1 (le_refl _)))

pub clog_small : (n : ℕ) → n ≤ 1 → clog n ≡ 0
clog_small n h = omega (arith, (clog_is_ceiling n 0).0 (omega arith))

pub clog_half : (n : ℕ) → 2 ≤ n → clog n ≡ suc (clog ((n + 1) / 2))
clog_half n h =
    sym (clog_unique n _ (λ d. clog_step n (clog ((n + 1) / 2)) (clog_is_ceiling ((n + 1) / 2)) false (λ t. absurd t) (λ t. h) d))

pub clog_mono : {m n : ℕ} → m ≤ n → clog m ≤ clog n
clog_mono {m} {n} h = (clog_is_ceiling m (clog n)).0 (le_trans h ((clog_is_ceiling n (clog n)).1 (le_refl _)))

-- what is at least both has a logarithm that is at least both, so the larger has the larger
pub clog_max : (a b : ℕ) → clog (max a b) ≡ max (clog a) (clog b)
clog_max a b =
    sym (clog_unique (max a b) _ (λ d.
    let left = clog_is_ceiling a d in
    let right = clog_is_ceiling b d in
    (λ h. omega (arith, left.0 (omega arith), right.0 (omega arith)), λ h. omega (arith, left.1 (omega arith), right.1 (omega arith)))))

-- above one power of two, and at most the next
pub clog_between : (n j : ℕ) → 2 ^ j < n → n ≤ 2 ^ suc j → clog n ≡ suc j
clog_between n j l h = le_antisymm ((clog_is_ceiling n (suc j)).0 h) (lt_of_not-le (λ c. omega (arith, (clog_is_ceiling n j).1 c)))

-- of a power of two
pub clog_power : (j : ℕ) → clog (2 ^ j) ≡ j
clog_power zero = clog_small 1 (le_refl 1)
clog_power (suc j) = clog_between (2 ^ suc j) j (omega (arith, pow_pos j)) (le_refl _)

-- twice, and then 2^d times: one level more for each factor 2
pub clog_twice : (n : ℕ) → 1 ≤ n → clog (2 * n) ≡ suc (clog n)
clog_twice n some =
    let e : (2 * n + 1) / 2 ≡ n = omega arith in rw e at (clog_half (2 * n) (omega arith))

pub clog_factor : (d n : ℕ) → 1 ≤ n → clog (2 ^ d * n) ≡ d + clog n
clog_factor zero n some =
    let same : 2 ^ 0 * n ≡ n = omega arith in ap clog same ∙ omega arith
clog_factor (suc d) n some =
    let same : 2 ^ suc d * n ≡ 2 * (2 ^ d * n) = omega (arith, ap (λ (t : ℕ). t * n) (pow-succ' 2 d)) in
    ap clog same ∙ clog_twice (2 ^ d * n) (mul-pos (pow_pos d) some) ∙ omega (arith, clog_factor d n some)

-- ---- the floor

-- one halving, from the law of the half; b is the test that n is at most 1
flog_step : (n f : ℕ) → 0 < n → (1 < n → (d : ℕ) → (2 ^ d ≤ n / 2) ↔ (d ≤ f)) → (b : Bool) → (T b → n ≤ 1) → (T (not b) → 1 < n)
    → (d : ℕ) → (2 ^ d ≤ n) ↔ (d ≤ (elim b as (λ _. ℕ) [ true ↦ 0 | false ↦ suc f ]))
flog_step n f p half b small large zero = (λ k. zero-le, λ k. omega arith)
flog_step n f p half true small large (suc d) = (λ k. omega (arith, pow_pos d, small tt), λ k. omega arith)
flog_step n f p half false small large (suc d) =
    (λ k. omega (arith, (half (large tt) d).0 (omega arith)), λ k. omega (arith, (half (large tt) d).1 (omega arith)))

flog_in_iff : (most n d : ℕ) → 0 < n → n < 2 ^ suc most → (2 ^ d ≤ n) ↔ (d ≤ flog_in most n)
unfolding flog_in
flog_in_iff zero n zero p h = (λ k. zero-le, λ k. omega arith)
flog_in_iff zero n (suc d) p h = (λ k. omega (arith, pow_pos d), λ k. omega arith)
flog_in_iff (suc most) n d p h =
    flog_step n (flog_in most (n / 2)) p (λ l e. flog_in_iff most (n / 2) e (omega arith) (omega arith)) (leb n 1) (leb→le n 1) (nleb→lt n 1) d

pub flog_is_floor : FlogIsFloor
unfolding flog
flog_is_floor n d p = flog_in_iff n n d p (omega (arith, lt_pow_self n))

-- whatever has the law is flog
pub flog_unique : (n f : ℕ) → 0 < n → ((d : ℕ) → (2 ^ d ≤ n) ↔ (d ≤ f)) → f ≡ flog n
flog_unique n f p law =
    le_antisymm ((flog_is_floor n f p).0 ((law f).1 (le_refl _))) ((law (flog n)).0 ((flog_is_floor n (flog n) p).1 (le_refl _)))

pub flog_small : (n : ℕ) → n ≤ 1 → flog n ≡ 0
unfolding flog flog_in
flog_small zero h = refl
flog_small (suc zero) h = refl
flog_small (suc (suc n)) h = absurd (omega arith)

pub flog_half : (n : ℕ) → 2 ≤ n → flog n ≡ suc (flog (n / 2))
flog_half n h =
    sym (flog_unique n _ (omega arith) (λ d.
    flog_step n (flog (n / 2)) (omega arith) (λ l e. flog_is_floor (n / 2) e (omega arith)) false (λ t. absurd t) (λ t. h) d))

pub flog_less : (n : ℕ) → 1 ≤ n → flog n < n
flog_less n some = omega (arith, lt_pow_self (flog n), (flog_is_floor n (flog n) some).1 (le_refl _))
