-- The number of each refusal (document 01, "Operations and what they turn away"; document 02, E1, E4, E6, E7 and E8), with the rule that gives it.
use Rattle.std.specs.Prelude.{ℕ}
use Rattle.answer.specs.declared.Refusal.{Refusal}
use Rattle.answer.specs.declared.Refusal.TheVariants.{CardTooShort, WrongMark, PrimeNotListed, WeightOutOfRange, SpareNotZero, ConditionCount, CardLength, UnknownRelation, DigitCount, TooManyDigits, TableBufferTooSmall, TableHeadTooShort, SlotCount, GateCount, TableTooShort, UnknownKind, WrongOperand, ListLength, ValueTooLarge, WorkBufferTooSmall, OutBufferTooSmall, NumberTooLarge, DigitTooLarge, NumberTooWide, ScoreWeight, TotalWeight, LastUseListTooShort, LeftSlotsOutOfRange, DepthAboveCap, TooManyConditions, NoOpenBuild}

abbrev pub refusal_number : Refusal → ℕ
-- card under 6 bytes
refusal_number CardTooShort = 1
-- mark of a head, a condition or a gate
refusal_number WrongMark = 2
-- p not listed
refusal_number PrimeNotListed = 3
-- s not 50 to 100
refusal_number WeightOutOfRange = 4
-- spare not 0
refusal_number SpareNotZero = 5
-- c not 1 to 8
refusal_number ConditionCount = 6
-- length not 6+4c, or 6+6c of a score card and of a shared card
refusal_number CardLength = 7
-- relation not 1 to 6
refusal_number UnknownRelation = 8
-- n, or the length of a digit list, not 1 to 16
refusal_number DigitCount = 9
-- N over 16, of a shared card its right slots
refusal_number TooManyDigits = 10
-- table lent under 8(G+1) bytes
refusal_number TableBufferTooSmall = 11
-- table under 8 bytes
refusal_number TableHeadTooShort = 12
-- N, or the slot count of a side, not 1 to 16
refusal_number SlotCount = 13
-- G not 1 to 8191
refusal_number GateCount = 14
-- table under 8(G+1) bytes
refusal_number TableTooShort = 15
-- kind not 1 to 7
refusal_number UnknownKind = 16
-- an operand against its kind
refusal_number WrongOperand = 17
-- left or right list not as long as its side has slots
refusal_number ListLength = 18
-- a value of p or more
refusal_number ValueTooLarge = 19
-- work buffer under G
refusal_number WorkBufferTooSmall = 20
-- out under n
refusal_number OutBufferTooSmall = 21
-- number not below B^n
refusal_number NumberTooLarge = 22
-- a digit of B or more
refusal_number DigitTooLarge = 23
-- number above 2^64-1
refusal_number NumberTooWide = 24
-- a condition's weight of 0, or of p and more
refusal_number ScoreWeight = 25
-- total weight of p or more
refusal_number TotalWeight = 26
-- last-use list shorter than G
refusal_number LastUseListTooShort = 27
-- first left slot plus n above 16
refusal_number LeftSlotsOutOfRange = 28
-- neither the base table nor any step size's within the depth cap
refusal_number DepthAboveCap = 29
-- a ninth condition
refusal_number TooManyConditions = 30
-- no build is open, or none of its conditions is added yet
refusal_number NoOpenBuild = 31
