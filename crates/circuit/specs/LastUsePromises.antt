-- What is proved of last-use lists, for every table that Check accepts (document 02, E4).
-- Proved in `proofs/LastUse.antt` and `proofs/LastUseOutcome.antt`.
use Rattle.std.specs.Prelude.{◌≡◌, ◌↔◌, true, List, ◌++◌, ℕ, ◌-◌, ◌≤◌, ◌<◌, length, drop, get_or}
use Rattle.answer.specs.Outcome.{refused, accepted, unaltered, Keeps}
use Rattle.circuit.specs.Gate.{Gate}
use Rattle.circuit.specs.LastUse.{IsLastUse, last_use, last_uses, finding_last_uses}
use Rattle.circuit.specs.Operands.{Reads}
use Rattle.circuit.specs.Outcomes.{checking}
use Rattle.circuit.specs.Reading.{reading}
use Rattle.circuit.specs.Table.{Head, Table, table_bytes, all_fit, well_formed}

-- ---- the list

-- what is computed is what the request says, of any gates
abbrev pub LastUseIs : Type 0
LastUseIs = (gates : List Gate) (i last : ℕ) → IsLastUse gates i last ↔ (last_use gates i ≡ last)

-- "one for each gate": entry i is the last use of gate i
abbrev pub OneForEach : Type 0
OneForEach =
    (gates : List Gate)
    → (length (last_uses gates) ≡ length gates) × ((i : ℕ) → i < length gates → get_or (last_uses gates) i 0 ≡ last_use gates i)

-- each is the number of a gate
abbrev pub EntriesAreGates : Type 0
EntriesAreGates = (gates : List Gate) (i : ℕ) → i < length gates → get_or (last_uses gates) i 0 < length gates

-- "The output counts as read by itself.": its entry is its own number
abbrev pub OutputStays : Type 0
OutputStays =
    (head : Head) (gates : List Gate) → all_fit head 0 gates ≡ true → get_or (last_uses gates) (length gates - 1) 0 ≡ length gates - 1

-- ---- releasing by a list: gate i is let go after the gate whose number is entry i

-- a list by which "no gate is read after its release"; nor is a gate let go before it is there
pub record Safe (gates : List Gate) (list : List ℕ) : Type 0 where
  pub kept : (k i : ℕ) → Reads gates k i → k ≤ get_or list i 0
  pub there : (i : ℕ) → i < length gates → i ≤ get_or list i 0

-- "By that list no gate is read after its release", whatever stands after it
abbrev pub NoLaterRead : Type 0
NoLaterRead = (head : Head) (gates : List Gate) (later : List ℕ) → all_fit head 0 gates ≡ true → Safe gates (last_uses gates ++ later)

-- "and none could be released at an earlier gate": no list at all that is safe releases any gate earlier
abbrev pub NoneEarlier : Type 0
NoneEarlier =
    (gates : List Gate) (list : List ℕ) → Safe gates list → (i : ℕ) → i < length gates → get_or (last_uses gates) i 0 ≤ get_or list i 0

-- ---- the operation

-- a table's bytes, with anything after them, and a list that is long enough: the answer is G, the list holds the last uses, and later entries are kept
abbrev pub FindsLastUses : Type 0
FindsLastUses =
    (table : Table) (later list : List ℕ) → well_formed table ≡ true → length table.gates ≤ length list
    → finding_last_uses (table_bytes table ++ later) list
    ≡ record { answer = accepted (length table.gates); lent = last_uses table.gates ++ drop (length table.gates) list }

-- of a table, 27 exactly where the list is shorter than G
abbrev pub ListDecides : Type 0
ListDecides =
    (table : Table) (later list : List ℕ) → well_formed table ≡ true
    → ((finding_last_uses (table_bytes table ++ later) list).answer ≡ refused 27) ↔ (length list < length table.gates)

-- "after all of Check's": what Check refuses is refused with Check's number, whatever the list
abbrev pub CheckComesFirst : Type 0
CheckComesFirst =
    (bytes list : List ℕ) (number : ℕ) → checking bytes ≡ refused number → finding_last_uses bytes list ≡ unaltered list number

-- a refusal leaves the list as it was
abbrev pub LastUsesKeep : Type 0
LastUsesKeep = (bytes list : List ℕ) → Keeps list (finding_last_uses bytes list)

-- whatever the bytes and the list, where the answer is G: the bytes are read as a table of G gates, by the list that is left no gate of it is read after its
-- release, no safe list releases any gate earlier, and the output's entry is its own number
abbrev pub LeftIsBest : Type 0
LeftIsBest =
    (bytes list : List ℕ) (count : ℕ) → (finding_last_uses bytes list).answer ≡ accepted count
    → let left : List ℕ = (finding_last_uses bytes list).lent in
    (table : Table) × (reading bytes ≡ accepted table) × (length table.gates ≡ count) × Safe table.gates left
    × ((other : List ℕ) → Safe table.gates other → (i : ℕ) → i < count → get_or left i 0 ≤ get_or other i 0)
    × (get_or left (count - 1) 0 ≡ count - 1)
