-- Numbers as text, in ASCII codes.
use Rattle.std.specs.Prelude.{ℕ, zero, suc, ◌+◌, ◌/◌, ◌%◌, true, false, List, [], ◌∷◌, ◌++◌, ltb}

-- the code of a digit; that of 0 is 48
abbrev pub digit : ℕ → ℕ
digit d = 48 + d

-- the digits of n, the highest first; the first argument bounds how many follow it
unfoldable pub spell : ℕ → ℕ → List ℕ
spell zero n = digit (n % 10) ∷ []
spell (suc most) n = elim (ltb n 10) [ true ↦ digit n ∷ [] | false ↦ spell most (n / 10) ++ (digit (n % 10) ∷ []) ]

unfoldable pub decimal : ℕ → List ℕ
decimal n = spell n n

abbrev pub space : ℕ
space = 32

abbrev pub minus_sign : ℕ
minus_sign = 45

abbrev pub line_feed : ℕ
line_feed = 10

-- a word and a number
abbrev pub labelled : List ℕ → ℕ → List ℕ
labelled word n = word ++ decimal n
