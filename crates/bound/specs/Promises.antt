-- "Nothing shallower exists" (document 02, E9): how deep every zero test has to be, whoever made it. Why it is so, `PolynomialPromises` says.
-- Proved in `proofs/Promises.antt`.
use Rattle.std.specs.Prelude.{◌≡◌, List, [], ◌∷◌, ℕ, ◌-◌, ◌%◌, ◌≤◌, ◌<◌, eqb}
use Rattle.answer.specs.Outcome.{accepted}
use Rattle.answer.specs.Report.{Report}
use Rattle.field.specs.Bit.{bit}
use Rattle.field.specs.Logarithm.{clog}
use Rattle.field.specs.Primes.{Prime}
use Rattle.circuit.specs.Depth.{depth}
use Rattle.circuit.specs.Gate.{Gate}
use Rattle.circuit.specs.Outcomes.{checking, running}
use Rattle.circuit.specs.Reading.{reading}
use Rattle.circuit.specs.Table.{Table}
use Rattle.bound.specs.ZeroTests.{TestsZero, TestsDifferences, IsZeroTest}

-- of any gates that test for 0 where the left list is that one value; for every prime, and with or without RIGHT gates
abbrev pub ZeroTestDepth : Type 0
ZeroTestDepth =
    (p : ℕ) (right : List ℕ) (gates : List Gate) → Prime p → TestsZero p right gates → clog (p - 1) ≤ depth gates

-- and of any gates that are right at the differences of all digits, which can be every value below p
abbrev pub DifferenceTestDepth : Type 0
DifferenceTestDepth =
    (p : ℕ) (right : List ℕ) (gates : List Gate) → Prime p → p % 2 ≡ 1 → TestsDifferences p right gates → clog (p - 1) ≤ depth gates

-- "For every table that check accepts with N=1 and without RIGHT gates: if its output is 1 at value 0 and 0 at every other value below p,
-- its depth is at least ceil(log2(p-1))."
abbrev pub NothingShallower : Type 0
NothingShallower =
    (bytes right : List ℕ) (table : Table) → IsZeroTest bytes right table → clog (table.head.prime - 1) ≤ depth table.gates

-- and the depth that Check answers for it is at least that
abbrev pub NothingShallowerTold : Type 0
NothingShallowerTold =
    (bytes right : List ℕ) (table : Table) (told : Report) → IsZeroTest bytes right table → checking bytes ≡ accepted told
    → clog (table.head.prime - 1) ≤ told.depth

-- by what Run and Check answer, also of a table with RIGHT gates: one right list for all runs, and work bytes as they come.
-- That the bytes are read as a table only says what p is
abbrev pub NothingShallowerRun : Type 0
NothingShallowerRun =
    (bytes right : List ℕ) (work : ℕ → List ℕ) (table : Table) (told : Report) → reading bytes ≡ accepted table → checking bytes ≡ accepted told
    → ((x : ℕ) → x < table.head.prime → (running bytes (x ∷ []) right (work x)).answer ≡ accepted (bit (eqb x 0)))
    → clog (table.head.prime - 1) ≤ told.depth
