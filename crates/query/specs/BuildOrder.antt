-- The order of Build's refusals (document 01, "Operations and what they turn away"; of score cards and shared cards document 02, E1 and E6),
-- on bytes that break every rule and are mended one rule at a time.
-- Proved in `proofs/BuildOrder.antt`.
use Rattle.std.specs.Prelude.{◌≡◌, List, [], ◌∷◌, ◌++◌, map, ℕ}
use Rattle.answer.specs.Outcome.{refusal_in}
use Rattle.query.specs.Outcomes.{building}

-- a good head of a card of two conditions, p=3 and s=75
abbrev two_conditions : List ℕ → List ℕ
two_conditions records = (0xC5 ∷ 0x48 ∷ 3 ∷ 75 ∷ 2 ∷ 0 ∷ []) ++ records

abbrev pub broken_cards : List (List ℕ)
broken_cards =
    []
    ∷ (0 ∷ 0 ∷ 9 ∷ 49 ∷ 9 ∷ 1 ∷ [])
    ∷ (0xC5 ∷ 0x48 ∷ 9 ∷ 49 ∷ 9 ∷ 1 ∷ [])
    ∷ (0xC5 ∷ 0x48 ∷ 3 ∷ 49 ∷ 9 ∷ 1 ∷ [])
    ∷ (0xC5 ∷ 0x48 ∷ 3 ∷ 75 ∷ 9 ∷ 1 ∷ [])
    ∷ (0xC5 ∷ 0x48 ∷ 3 ∷ 75 ∷ 9 ∷ 0 ∷ [])
    ∷ (0xC5 ∷ 0x48 ∷ 3 ∷ 75 ∷ 2 ∷ 0 ∷ [])
    ∷ two_conditions (0 ∷ 0 ∷ 7 ∷ 17 ∷ 0 ∷ 0 ∷ 7 ∷ 17 ∷ [])
    ∷ two_conditions (0xC5 ∷ 0x51 ∷ 7 ∷ 17 ∷ 0 ∷ 0 ∷ 7 ∷ 17 ∷ [])
    ∷ two_conditions (0xC5 ∷ 0x51 ∷ 1 ∷ 17 ∷ 0 ∷ 0 ∷ 7 ∷ 17 ∷ [])
    ∷ two_conditions (0xC5 ∷ 0x51 ∷ 1 ∷ 16 ∷ 0 ∷ 0 ∷ 7 ∷ 17 ∷ [])
    ∷ two_conditions (0xC5 ∷ 0x51 ∷ 1 ∷ 16 ∷ 0xC5 ∷ 0x51 ∷ 7 ∷ 17 ∷ [])
    ∷ two_conditions (0xC5 ∷ 0x51 ∷ 1 ∷ 16 ∷ 0xC5 ∷ 0x51 ∷ 5 ∷ 17 ∷ [])
    ∷ two_conditions (0xC5 ∷ 0x51 ∷ 1 ∷ 16 ∷ 0xC5 ∷ 0x51 ∷ 5 ∷ 1 ∷ [])
    ∷ two_conditions (0xC5 ∷ 0x51 ∷ 1 ∷ 1 ∷ 0xC5 ∷ 0x51 ∷ 5 ∷ 1 ∷ [])
    ∷ []

-- "1 card under 6 bytes; 2 head mark; 3 p not listed; 4 s; 5 spare not 0; 6 c; 7 length not 6+4c;
-- then by condition 2 mark, 8 relation, 9 n;
-- then 10 N over 16; last 11": each condition's rules before the next condition's; no table is lent
abbrev pub BuildOrder : Type 0
BuildOrder =
    map (λ bytes. refusal_in (building bytes []).answer) broken_cards
    ≡ 1 ∷ 2 ∷ 3 ∷ 4 ∷ 5 ∷ 6 ∷ 7 ∷ 2 ∷ 8 ∷ 9 ∷ 2 ∷ 8 ∷ 9 ∷ 10 ∷ 11 ∷ []

-- ---- score cards

-- a good head of a score card of two conditions, p=3 and s=75
abbrev two_scores : List ℕ → List ℕ
two_scores records = (0xC5 ∷ 0x53 ∷ 3 ∷ 75 ∷ 2 ∷ 0 ∷ []) ++ records

abbrev pub broken_score_cards : List (List ℕ)
broken_score_cards =
    (0xC5 ∷ 0x53 ∷ 9 ∷ 49 ∷ 9 ∷ 1 ∷ [])
    ∷ (0xC5 ∷ 0x53 ∷ 3 ∷ 49 ∷ 9 ∷ 1 ∷ [])
    ∷ (0xC5 ∷ 0x53 ∷ 3 ∷ 75 ∷ 9 ∷ 1 ∷ [])
    ∷ (0xC5 ∷ 0x53 ∷ 3 ∷ 75 ∷ 9 ∷ 0 ∷ [])
    ∷ two_scores (0xC5 ∷ 0x51 ∷ 7 ∷ 17 ∷ 0xC5 ∷ 0x51 ∷ 7 ∷ 17 ∷ [])
    ∷ two_scores (0xC5 ∷ 0x51 ∷ 7 ∷ 17 ∷ 0 ∷ 1 ∷ 0xC5 ∷ 0x51 ∷ 7 ∷ 17 ∷ 3 ∷ 1 ∷ [])
    ∷ two_scores (0xC5 ∷ 0x57 ∷ 7 ∷ 17 ∷ 0 ∷ 1 ∷ 0xC5 ∷ 0x51 ∷ 7 ∷ 17 ∷ 3 ∷ 1 ∷ [])
    ∷ two_scores (0xC5 ∷ 0x57 ∷ 1 ∷ 17 ∷ 0 ∷ 1 ∷ 0xC5 ∷ 0x51 ∷ 7 ∷ 17 ∷ 3 ∷ 1 ∷ [])
    ∷ two_scores (0xC5 ∷ 0x57 ∷ 1 ∷ 16 ∷ 0 ∷ 1 ∷ 0xC5 ∷ 0x51 ∷ 7 ∷ 17 ∷ 3 ∷ 1 ∷ [])
    ∷ two_scores (0xC5 ∷ 0x57 ∷ 1 ∷ 16 ∷ 2 ∷ 1 ∷ 0xC5 ∷ 0x51 ∷ 7 ∷ 17 ∷ 3 ∷ 1 ∷ [])
    ∷ two_scores (0xC5 ∷ 0x57 ∷ 1 ∷ 16 ∷ 2 ∷ 0 ∷ 0xC5 ∷ 0x51 ∷ 7 ∷ 17 ∷ 3 ∷ 1 ∷ [])
    ∷ two_scores (0xC5 ∷ 0x57 ∷ 1 ∷ 16 ∷ 2 ∷ 0 ∷ 0xC5 ∷ 0x57 ∷ 7 ∷ 17 ∷ 3 ∷ 1 ∷ [])
    ∷ two_scores (0xC5 ∷ 0x57 ∷ 1 ∷ 16 ∷ 2 ∷ 0 ∷ 0xC5 ∷ 0x57 ∷ 5 ∷ 17 ∷ 3 ∷ 1 ∷ [])
    ∷ two_scores (0xC5 ∷ 0x57 ∷ 1 ∷ 16 ∷ 2 ∷ 0 ∷ 0xC5 ∷ 0x57 ∷ 5 ∷ 1 ∷ 3 ∷ 1 ∷ [])
    ∷ two_scores (0xC5 ∷ 0x57 ∷ 1 ∷ 16 ∷ 2 ∷ 0 ∷ 0xC5 ∷ 0x57 ∷ 5 ∷ 1 ∷ 1 ∷ 1 ∷ [])
    ∷ two_scores (0xC5 ∷ 0x57 ∷ 1 ∷ 16 ∷ 2 ∷ 0 ∷ 0xC5 ∷ 0x57 ∷ 5 ∷ 1 ∷ 1 ∷ 0 ∷ [])
    ∷ two_scores (0xC5 ∷ 0x57 ∷ 1 ∷ 1 ∷ 2 ∷ 0 ∷ 0xC5 ∷ 0x57 ∷ 5 ∷ 1 ∷ 1 ∷ 0 ∷ [])
    ∷ two_scores (0xC5 ∷ 0x57 ∷ 1 ∷ 1 ∷ 1 ∷ 0 ∷ 0xC5 ∷ 0x57 ∷ 5 ∷ 1 ∷ 1 ∷ 0 ∷ [])
    ∷ []

-- "25 .. after 9 for its record; 26 .. after 10. A spare that is not 0 gives 5, after 25, and the length rule 7 reads 6+6c here."
abbrev pub ScoreOrder : Type 0
ScoreOrder =
    map (λ bytes. refusal_in (building bytes []).answer) broken_score_cards
    ≡ 3 ∷ 4 ∷ 5 ∷ 6 ∷ 7 ∷ 2 ∷ 8 ∷ 9 ∷ 25 ∷ 5 ∷ 2 ∷ 8 ∷ 9 ∷ 25 ∷ 5 ∷ 10 ∷ 26 ∷ 11 ∷ []

-- ---- shared cards

-- a good head of a shared card of two conditions, p=3 and s=75
abbrev two_shared : List ℕ → List ℕ
two_shared records = (0xC5 ∷ 0x4A ∷ 3 ∷ 75 ∷ 2 ∷ 0 ∷ []) ++ records

abbrev pub broken_shared_cards : List (List ℕ)
broken_shared_cards =
    (0xC5 ∷ 0x4A ∷ 9 ∷ 49 ∷ 9 ∷ 1 ∷ [])
    ∷ (0xC5 ∷ 0x4A ∷ 3 ∷ 49 ∷ 9 ∷ 1 ∷ [])
    ∷ (0xC5 ∷ 0x4A ∷ 3 ∷ 75 ∷ 9 ∷ 1 ∷ [])
    ∷ (0xC5 ∷ 0x4A ∷ 3 ∷ 75 ∷ 9 ∷ 0 ∷ [])
    ∷ two_shared (0xC5 ∷ 0x51 ∷ 7 ∷ 17 ∷ 0xC5 ∷ 0x51 ∷ 7 ∷ 17 ∷ [])
    ∷ two_shared (0xC5 ∷ 0x57 ∷ 7 ∷ 17 ∷ 1 ∷ 1 ∷ 0xC5 ∷ 0x57 ∷ 7 ∷ 17 ∷ 16 ∷ 1 ∷ [])
    ∷ two_shared (0xC5 ∷ 0x52 ∷ 7 ∷ 17 ∷ 1 ∷ 1 ∷ 0xC5 ∷ 0x57 ∷ 7 ∷ 17 ∷ 16 ∷ 1 ∷ [])
    ∷ two_shared (0xC5 ∷ 0x52 ∷ 1 ∷ 17 ∷ 1 ∷ 1 ∷ 0xC5 ∷ 0x57 ∷ 7 ∷ 17 ∷ 16 ∷ 1 ∷ [])
    ∷ two_shared (0xC5 ∷ 0x52 ∷ 1 ∷ 16 ∷ 1 ∷ 1 ∷ 0xC5 ∷ 0x57 ∷ 7 ∷ 17 ∷ 16 ∷ 1 ∷ [])
    ∷ two_shared (0xC5 ∷ 0x52 ∷ 1 ∷ 16 ∷ 0 ∷ 1 ∷ 0xC5 ∷ 0x57 ∷ 7 ∷ 17 ∷ 16 ∷ 1 ∷ [])
    ∷ two_shared (0xC5 ∷ 0x52 ∷ 1 ∷ 16 ∷ 0 ∷ 0 ∷ 0xC5 ∷ 0x57 ∷ 7 ∷ 17 ∷ 16 ∷ 1 ∷ [])
    ∷ two_shared (0xC5 ∷ 0x52 ∷ 1 ∷ 16 ∷ 0 ∷ 0 ∷ 0xC5 ∷ 0x52 ∷ 7 ∷ 17 ∷ 16 ∷ 1 ∷ [])
    ∷ two_shared (0xC5 ∷ 0x52 ∷ 1 ∷ 16 ∷ 0 ∷ 0 ∷ 0xC5 ∷ 0x52 ∷ 5 ∷ 17 ∷ 16 ∷ 1 ∷ [])
    ∷ two_shared (0xC5 ∷ 0x52 ∷ 1 ∷ 16 ∷ 0 ∷ 0 ∷ 0xC5 ∷ 0x52 ∷ 5 ∷ 1 ∷ 16 ∷ 1 ∷ [])
    ∷ two_shared (0xC5 ∷ 0x52 ∷ 1 ∷ 16 ∷ 0 ∷ 0 ∷ 0xC5 ∷ 0x52 ∷ 5 ∷ 1 ∷ 15 ∷ 1 ∷ [])
    ∷ two_shared (0xC5 ∷ 0x52 ∷ 1 ∷ 16 ∷ 0 ∷ 0 ∷ 0xC5 ∷ 0x52 ∷ 5 ∷ 1 ∷ 15 ∷ 0 ∷ [])
    ∷ two_shared (0xC5 ∷ 0x52 ∷ 1 ∷ 1 ∷ 0 ∷ 0 ∷ 0xC5 ∷ 0x52 ∷ 5 ∷ 1 ∷ 0 ∷ 0 ∷ [])
    ∷ []

-- "28, first slot plus n above 16, after 9 of its record and before a spare's 5"; "Refusal 10 counts right slots .., and 7 reads 6+6c.":
-- 16 and 1 slots are too many on the right, though both conditions have theirs among the first 16 on the left
abbrev pub SharedOrder : Type 0
SharedOrder =
    map (λ bytes. refusal_in (building bytes []).answer) broken_shared_cards
    ≡ 3 ∷ 4 ∷ 5 ∷ 6 ∷ 7 ∷ 2 ∷ 8 ∷ 9 ∷ 28 ∷ 5 ∷ 2 ∷ 8 ∷ 9 ∷ 28 ∷ 5 ∷ 10 ∷ 11 ∷ []
