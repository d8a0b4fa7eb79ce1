-- Logarithms to base 2 (document 01, "Field and digits"): "flog" is floor(log2); clog is ceil(log2). Both are 0 at 0.
use Rattle.std.specs.Prelude.{◌↔◌, ℕ, zero, suc, ◌+◌, ◌/◌, ◌^◌, ◌≤◌, ◌<◌, true, false, leb}

-- how often n can be halved, rounding down, before it is at most 1; the first argument bounds the count
unfoldable pub flog_in : ℕ → ℕ → ℕ
flog_in zero n = 0
flog_in (suc most) n = elim (leb n 1) [ true ↦ 0 | false ↦ suc (flog_in most (n / 2)) ]

unfoldable pub flog : ℕ → ℕ
unfolding flog_in
flog n = flog_in n n

-- the same, rounding up
unfoldable pub clog_in : ℕ → ℕ → ℕ
clog_in zero n = 0
clog_in (suc most) n = elim (leb n 1) [ true ↦ 0 | false ↦ suc (clog_in most ((n + 1) / 2)) ]

unfoldable pub clog : ℕ → ℕ
unfolding clog_in
clog n = clog_in n n

-- ---- that they are the floor and the ceiling; proved in `proofs/Logarithm.antt`

-- clog n is the least d with n at most 2^d
abbrev pub ClogIsCeiling : Type 0
ClogIsCeiling = (n d : ℕ) → (n ≤ 2 ^ d) ↔ (clog n ≤ d)

-- flog n is the greatest d with 2^d at most n, for every n above 0
abbrev pub FlogIsFloor : Type 0
FlogIsFloor = (n d : ℕ) → 0 < n → (2 ^ d ≤ n) ↔ (d ≤ flog n)
