-- The order of refusals (document 01, "Operations and what they turn away"; document 02, E6), on bytes that break every rule and are mended one rule at a time.
-- Proved in `proofs/RefusalOrder.antt`.
use Rattle.std.specs.Prelude.{◌≡◌, List, [], ◌∷◌, ◌++◌, map, ℕ}
use Rattle.answer.specs.Outcome.{refusal_in}
use Rattle.circuit.specs.Bench.{less_table}
use Rattle.circuit.specs.Outcomes.{checking, running}
use Rattle.circuit.specs.Table.{table_bytes}

-- the head of a table of one gate: p=3, s=75, one slot
abbrev one_gate : List ℕ
one_gate = 0x47 ∷ 0x48 ∷ 3 ∷ 75 ∷ 1 ∷ 0 ∷ 1 ∷ 0 ∷ []

-- bytes that break every rule, mended one rule at a time: each is refused by the first rule that is still broken
abbrev pub broken_tables : List (List ℕ)
broken_tables =
    []
    ∷ (0 ∷ 0 ∷ 0 ∷ 0 ∷ 0 ∷ 1 ∷ 0 ∷ 0 ∷ [])
    ∷ (0x47 ∷ 0x48 ∷ 0 ∷ 0 ∷ 0 ∷ 1 ∷ 0 ∷ 0 ∷ [])
    ∷ (0x47 ∷ 0x48 ∷ 3 ∷ 0 ∷ 0 ∷ 1 ∷ 0 ∷ 0 ∷ [])
    ∷ (0x47 ∷ 0x48 ∷ 3 ∷ 75 ∷ 0 ∷ 1 ∷ 0 ∷ 0 ∷ [])
    ∷ (0x47 ∷ 0x48 ∷ 3 ∷ 75 ∷ 1 ∷ 1 ∷ 0 ∷ 0 ∷ [])
    ∷ (0x47 ∷ 0x48 ∷ 3 ∷ 75 ∷ 1 ∷ 0 ∷ 0 ∷ 0 ∷ [])
    ∷ (0x47 ∷ 0x48 ∷ 3 ∷ 75 ∷ 1 ∷ 0 ∷ 1 ∷ 0 ∷ [])
    ∷ (one_gate ++ (0 ∷ 0 ∷ 0 ∷ 1 ∷ 1 ∷ 0 ∷ 0 ∷ 0 ∷ []))
    ∷ (one_gate ++ (0x47 ∷ 0x54 ∷ 0 ∷ 1 ∷ 1 ∷ 0 ∷ 0 ∷ 0 ∷ []))
    ∷ (one_gate ++ (0x47 ∷ 0x54 ∷ 0 ∷ 0 ∷ 1 ∷ 0 ∷ 0 ∷ 0 ∷ []))
    ∷ (one_gate ++ (0x47 ∷ 0x54 ∷ 1 ∷ 0 ∷ 1 ∷ 0 ∷ 0 ∷ 0 ∷ []))
    ∷ []

-- "12 under 8 bytes; 2; 3; 4; 13 N not 1 to 16; 5; 14 G not 1 to 8191; 15 under 8(G+1) bytes;
-- then by gate 2 mark, 5 spare, 16 kind, 17 an operand against its kind"
abbrev pub CheckOrder : Type 0
CheckOrder =
    map (λ bytes. refusal_in (checking bytes)) broken_tables ≡ 12 ∷ 2 ∷ 3 ∷ 4 ∷ 13 ∷ 5 ∷ 14 ∷ 15 ∷ 2 ∷ 5 ∷ 16 ∷ 17 ∷ []

-- "Check's, then 18 left or right list not N long, 19 a value of p or more, 20 work buffer under G": lists that break 18 and 19, and no work byte
abbrev pub RunOrder : Type 0
RunOrder =
    let run : List ℕ → List ℕ → List ℕ → ℕ = λ bytes left right. refusal_in (running bytes left right []).answer in
    let good = table_bytes less_table in
    (map (λ bytes. run bytes (3 ∷ []) []) broken_tables ≡ 12 ∷ 2 ∷ 3 ∷ 4 ∷ 13 ∷ 5 ∷ 14 ∷ 15 ∷ 2 ∷ 5 ∷ 16 ∷ 17 ∷ [])
    × (run good (3 ∷ []) [] ∷ run good [] (3 ∷ []) ∷ run good (3 ∷ []) (0 ∷ []) ∷ run good (0 ∷ []) (3 ∷ []) ∷ run good (0 ∷ []) (0 ∷ []) ∷ []
    ≡ 18 ∷ 18 ∷ 19 ∷ 19 ∷ 20 ∷ [])

-- ---- a head with two slot counts

-- two slots on the left and one on the right: p=3, s=75, one gate
abbrev each_gate : List ℕ → List ℕ
each_gate gate = (0x47 ∷ 0x4A ∷ 3 ∷ 75 ∷ 2 ∷ 1 ∷ 1 ∷ 0 ∷ []) ++ gate

abbrev pub broken_counts : List (List ℕ)
broken_counts =
    (0x47 ∷ 0x4A ∷ 0 ∷ 0 ∷ 0 ∷ 17 ∷ 0 ∷ 0 ∷ [])
    ∷ (0x47 ∷ 0x4A ∷ 3 ∷ 0 ∷ 0 ∷ 17 ∷ 0 ∷ 0 ∷ [])
    ∷ (0x47 ∷ 0x4A ∷ 3 ∷ 75 ∷ 0 ∷ 16 ∷ 0 ∷ 0 ∷ [])
    ∷ (0x47 ∷ 0x4A ∷ 3 ∷ 75 ∷ 17 ∷ 16 ∷ 0 ∷ 0 ∷ [])
    ∷ (0x47 ∷ 0x4A ∷ 3 ∷ 75 ∷ 16 ∷ 0 ∷ 0 ∷ 0 ∷ [])
    ∷ (0x47 ∷ 0x4A ∷ 3 ∷ 75 ∷ 16 ∷ 17 ∷ 0 ∷ 0 ∷ [])
    ∷ (0x47 ∷ 0x4A ∷ 3 ∷ 75 ∷ 16 ∷ 16 ∷ 0 ∷ 0 ∷ [])
    ∷ (0x47 ∷ 0x4A ∷ 3 ∷ 75 ∷ 16 ∷ 16 ∷ 1 ∷ 0 ∷ [])
    ∷ each_gate (0x47 ∷ 0x54 ∷ 1 ∷ 0 ∷ 2 ∷ 0 ∷ 0 ∷ 0 ∷ [])
    ∷ each_gate (0x47 ∷ 0x54 ∷ 2 ∷ 0 ∷ 1 ∷ 0 ∷ 0 ∷ 0 ∷ [])
    ∷ each_gate (0x47 ∷ 0x54 ∷ 1 ∷ 0 ∷ 1 ∷ 0 ∷ 0 ∷ 0 ∷ [])
    ∷ each_gate (0x47 ∷ 0x54 ∷ 2 ∷ 0 ∷ 0 ∷ 0 ∷ 0 ∷ 0 ∷ [])
    ∷ []

-- "byte 4 the left slot count .., byte 5 the right slot count, both 1 to 16 under refusal 13": after 4 and before 14, without 5,
-- as byte 5 is no spare here; "17 and 18 read each side against its own count": LEFT 2 and RIGHT 1 are refused, LEFT 1 and RIGHT 0 are not,
-- and Run asks for lists of two and of one
abbrev pub EachOrder : Type 0
EachOrder =
    let good = each_gate (0x47 ∷ 0x54 ∷ 1 ∷ 0 ∷ 1 ∷ 0 ∷ 0 ∷ 0 ∷ []) in
    let run : List ℕ → List ℕ → ℕ = λ left right. refusal_in (running good left right []).answer in
    (map (λ bytes. refusal_in (checking bytes)) broken_counts ≡ 3 ∷ 4 ∷ 13 ∷ 13 ∷ 13 ∷ 13 ∷ 14 ∷ 15 ∷ 17 ∷ 17 ∷ 0 ∷ 0 ∷ [])
    × (run (3 ∷ []) (0 ∷ []) ∷ run (3 ∷ 0 ∷ []) (0 ∷ 0 ∷ []) ∷ run (3 ∷ 0 ∷ []) (0 ∷ []) ∷ run (0 ∷ 0 ∷ []) (3 ∷ []) ∷ run (0 ∷ 0 ∷ []) (0 ∷ []) ∷ []
    ≡ 18 ∷ 18 ∷ 19 ∷ 19 ∷ 20 ∷ [])
