-- Constants: each number below an odd p has exactly one, and its sixteen bits determine it. By cases on the sign; the rest is arithmetic.
-- Assumes nothing.
use mathlib.Core.Path.{◌≡◌, refl, sym, ap, ◌∙◌}
use mathlib.Core.Bool.{true}
use Prim.Native.Nat.{ℕ, ◌-◌, ◌%◌, ◌≤◌, ◌<◌}
use native.Mathlib.Omega.{arith}
use native.Mathlib.Decide.{dec_le}
use native.Mathlib.Nat.{lt_of_not-le}
use borrow.Author.Tests.{leb-true, lt-ltb, le-ltb, le-leb, lt-leb}
use lib.Dec.{leb}
use Rattle.field.specs.Half.{half}
use Rattle.field.proofs.Tests.{both}
use Rattle.circuit.specs.Constant.{Constant, plus, minus, is_constant, constant, code, sixteen_bits, signed, bits_of}
use Rattle.circuit.specs.ConstantPromises.{EqualModulo, OneConstant, ConstantsBelow, TwosComplement}

-- ---- the range

-- which `is_constant` tests, as inequalities, for `omega` to use
abbrev pub NearZero : ℕ → Constant → Type 0
NearZero p (plus n) = n ≤ half p
NearZero p (minus n) = (1 ≤ n) × (n ≤ half p)

pub near_zero : (p : ℕ) (d : Constant) → is_constant p d ≡ true → NearZero p d
near_zero p (plus n) t = leb-true n (half p) t
near_zero p (minus n) t = let s = both (leb 1 n) (leb n (half p)) t in (leb-true 1 n s.0, leb-true n (half p) s.1)

pub is_near_zero : (p : ℕ) (d : Constant) → NearZero p d → is_constant p d ≡ true
is_near_zero p (plus n) h = le-leb n (half p) h
is_near_zero p (minus n) h = rw (le-leb 1 n h.0, le-leb n (half p) h.1)

pub equal_modulo : EqualModulo
equal_modulo p n = (refl, λ t. omega (arith, near_zero p (minus n) t))

-- ---- the constant of a number

pub code_plus : (p c : ℕ) → c ≤ half p → code p c ≡ plus c
unfolding code
code_plus p c l = rw (le-leb c (half p) l, code)

pub code_minus : (p c : ℕ) → half p < c → code p c ≡ minus (p - c)
unfolding code
code_minus p c l = rw (lt-leb c (half p) l, code)

module _ (p c : ℕ) (l : c < p) where
  pub code_is : constant p (code p c) ≡ c
  code_is = go (dec_le c (half p))
    where
      go : Dec (c ≤ half p) → constant p (code p c) ≡ c
      go (yes low) = ap (constant p) (code_plus p c low)
      go (no high) = ap (constant p) (code_minus p c (lt_of_not-le high)) ∙ omega arith

  pub code_fits : p % 2 ≡ 1 → is_constant p (code p c) ≡ true
  code_fits odd = go (dec_le c (half p))
    where
      go : Dec (c ≤ half p) → is_constant p (code p c) ≡ true
      go (yes low) = rw (code_plus p c low) (is_near_zero p (plus c) low)
      go (no high) = rw (code_minus p c (lt_of_not-le high)) (is_near_zero p (minus (p - c)) (omega (arith, lt_of_not-le high)))

  -- no other constant is that number
  code_only : p % 2 ≡ 1 → (d : Constant) → NearZero p d → constant p d ≡ c → d ≡ code p c
  code_only odd (plus n) h e = ap plus e ∙ sym (code_plus p c (omega arith))
  code_only odd (minus n) h e =
      let same : n ≡ p - c = omega arith in ap minus same ∙ sym (code_minus p c (omega arith))

pub one_constant : OneConstant
one_constant p c odd l = (code_fits p c l odd, code_is p c l, λ d t e. code_only p c l odd d (near_zero p d t) e)

pub constants_below : ConstantsBelow
constants_below p (plus n) odd t = omega (arith, near_zero p (plus n) t)
constants_below p (minus n) odd t = omega (arith, near_zero p (minus n) t)

-- ---- sixteen bits

pub signed_plus : (b : ℕ) → b < 0x8000 → signed b ≡ plus b
unfolding signed
signed_plus b l = rw (lt-ltb b 0x8000 l, signed)

pub signed_minus : (b : ℕ) → 0x8000 ≤ b → signed b ≡ minus (0x10000 - b)
unfolding signed
signed_minus b l = rw (le-ltb b 0x8000 l, signed)

bits_back : (p : ℕ) (d : Constant) → p ≤ 0x10000 → NearZero p d → (sixteen_bits d < 0x10000) × (signed (sixteen_bits d) ≡ d)
bits_back p (plus n) small h = (omega arith, signed_plus n (omega arith))
bits_back p (minus n) small h =
    let same : 0x10000 - (0x10000 - n) ≡ n = omega arith in
    (omega arith, signed_minus (0x10000 - n) (omega arith) ∙ ap minus same)

number_back : (b : ℕ) → b < 0x10000 → sixteen_bits (signed b) ≡ b
number_back b l = go (dec_le 0x8000 b)
  where
    go : Dec (0x8000 ≤ b) → sixteen_bits (signed b) ≡ b
    go (yes high) = ap sixteen_bits (signed_minus b high) ∙ omega arith
    go (no low) = ap sixteen_bits (signed_plus b (lt_of_not-le low))

pub twos_complement : TwosComplement
twos_complement = (λ p d small t. bits_back p d small (near_zero p d t), number_back)

-- the b of a SCALE by a number below p has sixteen bits, and is read as its constant
pub bits_code : (p c : ℕ) → p % 2 ≡ 1 → p ≤ 0x10000 → c < p → (bits_of p c < 0x10000) × (signed (bits_of p c) ≡ code p c)
bits_code p c odd small l = twos_complement.0 p (code p c) small (code_fits p c l odd)
