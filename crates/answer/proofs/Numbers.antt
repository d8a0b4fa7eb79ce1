-- No refusal has the number 0.
-- Assumes nothing.
use mathlib.Core.Path.{◌≡◌, refl, ap, ◌∙◌}
use mathlib.Core.Bool.{false}
use Prim.Native.Nat.{ℕ}
use lib.Dec.{eqb}
use Rattle.answer.specs.Numbers.{refusal_number}
use Rattle.answer.specs.declared.Refusal.{Refusal}
use Rattle.answer.specs.declared.Refusal.TheVariants.{CardTooShort, WrongMark, PrimeNotListed, WeightOutOfRange, SpareNotZero, ConditionCount, CardLength, UnknownRelation, DigitCount, TooManyDigits, TableBufferTooSmall, TableHeadTooShort, SlotCount, GateCount, TableTooShort, UnknownKind, WrongOperand, ListLength, ValueTooLarge, WorkBufferTooSmall, OutBufferTooSmall, NumberTooLarge, DigitTooLarge, NumberTooWide, ScoreWeight, TotalWeight, LastUseListTooShort, LeftSlotsOutOfRange, DepthAboveCap, TooManyConditions, NoOpenBuild}

from_one : (why : Refusal) → eqb (refusal_number why) 0 ≡ false
from_one CardTooShort = refl
from_one WrongMark = refl
from_one PrimeNotListed = refl
from_one WeightOutOfRange = refl
from_one SpareNotZero = refl
from_one ConditionCount = refl
from_one CardLength = refl
from_one UnknownRelation = refl
from_one DigitCount = refl
from_one TooManyDigits = refl
from_one TableBufferTooSmall = refl
from_one TableHeadTooShort = refl
from_one SlotCount = refl
from_one GateCount = refl
from_one TableTooShort = refl
from_one UnknownKind = refl
from_one WrongOperand = refl
from_one ListLength = refl
from_one ValueTooLarge = refl
from_one WorkBufferTooSmall = refl
from_one OutBufferTooSmall = refl
from_one NumberTooLarge = refl
from_one DigitTooLarge = refl
from_one NumberTooWide = refl
from_one ScoreWeight = refl
from_one TotalWeight = refl
from_one LastUseListTooShort = refl
from_one LeftSlotsOutOfRange = refl
from_one DepthAboveCap = refl
from_one TooManyConditions = refl
from_one NoOpenBuild = refl

pub not_zero : {n : ℕ} (why : Refusal) → n ≡ refusal_number why → eqb n 0 ≡ false
not_zero why e = ap (λ (k : ℕ). eqb k 0) e ∙ from_one why
