-- Records that follow one another in lent bytes, as loops meet them: the bytes from one of them on.
-- Assumes nothing.
use mathlib.Core.Path.{◌≡◌}
use mathlib.Core.List.{List}
use Prim.Native.Nat.{ℕ, suc, ◌+◌, ◌-◌, ◌≤◌, ◌<◌}
use native.Mathlib.Omega.{arith}
use lib.ListN.{length, take, drop, length-drop}
use lib.Seq.{take_all}

-- the bytes from a place on, as the code lends them
abbrev pub lent_from : List ℕ → ℕ → List ℕ
lent_from bytes place = take (length bytes - place) (drop place bytes)

pub lent_all : (bytes : List ℕ) (place : ℕ) → lent_from bytes place ≡ drop place bytes
lent_all bytes place = take_all (length bytes - place) (drop place bytes) (rw length-drop (omega arith))

-- a record that lies within the bytes is lent whole
pub lent_whole : (bytes : List ℕ) (place size : ℕ) → place + size ≤ length bytes → size ≤ length (lent_from bytes place)
lent_whole bytes place size h = rw (lent_all bytes place, length-drop) (omega arith)

-- one record less is left
pub one_less : (count k : ℕ) → k < count → count - k ≡ suc (count - (k + 1))
one_less count k h = omega arith
