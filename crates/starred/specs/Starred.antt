-- The cases that document 01 marks with *, as one table: what the definitions give, beside what the document says; and its first wrong turn.
-- Proved in `proofs/Starred.antt`.
use Rattle.std.specs.Prelude.{ℕ, ◌≡◌, List, [], ◌∷◌, ◌++◌, map, replicate}
use Rattle.answer.specs.Outcome.{Answer, refused, accepted, Outcome, on_answer}
use Rattle.answer.specs.Report.{Report}
use Rattle.field.specs.Polynomials.{order_constants}
use Rattle.digits.specs.Encoding.{encoding}
use Rattle.digits.specs.Decoding.{decoding}
use Rattle.circuit.specs.Outcomes.{running}
use Rattle.query.specs.Bench.{first_card}
use Rattle.query.specs.Card.{Card}
use Rattle.query.specs.Outcomes.{building, forecasting}
use Rattle.query.specs.Reading.{read_card}

-- a refusal's number, or the numbers answered
abbrev Told : Type 0
Told = Answer (List ℕ)

pub record Case : Type 0 where
  pub given : Told
  pub said : Told

abbrev row : Told → Told → Case
row a b = record { given = a; said = b }

-- the bytes lent, in place of an answer with no values
abbrev bytes : Answer Unit → List ℕ → Told
bytes (refused number) lent = refused number
bytes (accepted u) lent = accepted lent

abbrev single : Answer ℕ → Told
single (refused number) = refused number
single (accepted x) = accepted (x ∷ [])

-- G, products, squares, cost, depth
abbrev counts : Answer Report → Told
counts (refused number) = refused number
counts (accepted r) = accepted (r.gates ∷ r.products ∷ r.squares ∷ r.cost ∷ r.depth ∷ [])

-- G alone
abbrev gates : Answer Report → Told
gates (refused number) = refused number
gates (accepted r) = accepted (r.gates ∷ [])

-- what Encode writes into n bytes, and what Decode reads
abbrev encode : ℕ → ℕ → ℕ → Told
encode p n x =
    let o : Outcome Unit = encoding p n x (replicate n 0) in bytes o.answer o.lent

abbrev decode : ℕ → List ℕ → Told
decode p digits = single (decoding p digits)

-- the table of the first bench card, in the bytes of its listing: the head, then "0 LEFT 0 0" to "6 ADD 4 5", with "5 SCALE 3 -1" (document 02, E3)
abbrev first_table : List ℕ
first_table =
    (0x47 ∷ 0x48 ∷ 3 ∷ 75 ∷ 1 ∷ 0 ∷ 7 ∷ 0 ∷ [])
    ++ (0x47 ∷ 0x54 ∷ 1 ∷ 0 ∷ 0 ∷ 0 ∷ 0 ∷ 0 ∷ [])
    ++ (0x47 ∷ 0x54 ∷ 2 ∷ 0 ∷ 0 ∷ 0 ∷ 0 ∷ 0 ∷ [])
    ++ (0x47 ∷ 0x54 ∷ 4 ∷ 0 ∷ 0 ∷ 0 ∷ 1 ∷ 0 ∷ [])
    ++ (0x47 ∷ 0x54 ∷ 7 ∷ 0 ∷ 2 ∷ 0 ∷ 2 ∷ 0 ∷ [])
    ++ (0x47 ∷ 0x54 ∷ 5 ∷ 0 ∷ 2 ∷ 0 ∷ 1 ∷ 0 ∷ [])
    ++ (0x47 ∷ 0x54 ∷ 5 ∷ 0 ∷ 3 ∷ 0 ∷ 0xFF ∷ 0xFF ∷ [])
    ++ (0x47 ∷ 0x54 ∷ 3 ∷ 0 ∷ 4 ∷ 0 ∷ 5 ∷ 0 ∷ [])

-- a card of one condition: p, s, its relation and n
abbrev card : ℕ → ℕ → ℕ → ℕ → List ℕ
card p s relation n = 0xC5 ∷ 0x48 ∷ p ∷ s ∷ 1 ∷ 0 ∷ 0xC5 ∷ 0x51 ∷ relation ∷ n ∷ []

-- a card of two: p, s, and each one's relation and n
abbrev pair : ℕ → ℕ → ℕ → ℕ → ℕ → ℕ → List ℕ
pair p s relation n relation' n' =
    0xC5 ∷ 0x48 ∷ p ∷ s ∷ 2 ∷ 0 ∷ 0xC5 ∷ 0x51 ∷ relation ∷ n ∷ 0xC5 ∷ 0x51 ∷ relation' ∷ n' ∷ []

-- Build, with so many bytes lent, each of them a 9
abbrev build : List ℕ → ℕ → Outcome Report
build card room = building card (replicate room 9)

-- a card that is turned away, with no byte lent for its table
abbrev turned_away : List ℕ → Told
turned_away card = counts (build card 0).answer

-- p of a card that is taken
abbrev taken : List ℕ → Told
taken bytes = on_answer (read_card bytes) refused (λ (card : Card). accepted (card.prime ∷ []))

-- what Run answers on the table that Build wrote for p=5, "<" of 2, with as many work bytes as it has gates
abbrev run : List ℕ → List ℕ → Told
run left right = single (running (build (card 5 100 1 2) 208).lent left right (replicate 25 9)).answer

unfoldable pub starred : List Case
starred =
    -- "That card: 64 bytes are enough, 63 gives 11.": the answer, then the bytes lent
    row (counts (build first_card 64).answer) (accepted (7 ∷ 0 ∷ 1 ∷ 75 ∷ 1 ∷ []))
    ∷ row (accepted (build first_card 64).lent) (accepted first_table)
    ∷ row (counts (build first_card 63).answer) (refused 11)
    ∷ row (accepted (build first_card 63).lent) (accepted (replicate 63 9))
    -- "p=7, s=50, one "=" of 1: G 7, products 1, squares 2, cost 200, depth 3."
    ∷ row (counts (forecasting (card 7 50 5 1))) (accepted (7 ∷ 1 ∷ 2 ∷ 200 ∷ 3 ∷ []))
    -- "p=5, s=100, "<" of 2: G 25, 3, 4, cost 700, depth 3; "<=" has G 26."
    ∷ row (counts (forecasting (card 5 100 1 2))) (accepted (25 ∷ 3 ∷ 4 ∷ 700 ∷ 3 ∷ []))
    ∷ row (gates (forecasting (card 5 100 2 2))) (accepted (26 ∷ []))
    -- "p=5, s=80, "<" of 1 and "=" of 3: G 32, 4, 8, cost 1040, depth 5."
    ∷ row (counts (forecasting (pair 5 80 1 1 5 3))) (accepted (32 ∷ 4 ∷ 8 ∷ 1040 ∷ 5 ∷ []))
    -- "p=5 order constants 4, 3, 3; p=7: 3, 1, 6, 4."
    ∷ row (accepted (order_constants 5)) (accepted (4 ∷ 3 ∷ 3 ∷ []))
    ∷ row (accepted (order_constants 7)) (accepted (3 ∷ 1 ∷ 6 ∷ 4 ∷ []))
    -- "p=5 "<" of 2: 5 (2,1) against 7 (1,2) gives 1; 7 against 5 and 8 against 8 give 0."
    ∷ row (run (2 ∷ 1 ∷ []) (1 ∷ 2 ∷ [])) (accepted (1 ∷ []))
    ∷ row (run (1 ∷ 2 ∷ []) (2 ∷ 1 ∷ [])) (accepted (0 ∷ []))
    ∷ row (run (2 ∷ 2 ∷ []) (2 ∷ 2 ∷ [])) (accepted (0 ∷ []))
    -- "p=5, n=2: 8 is (2,2); 9 gives 22; digit 3 gives 23."
    ∷ row (encode 5 2 8) (accepted (2 ∷ 2 ∷ []))
    ∷ row (decode 5 (2 ∷ 2 ∷ [])) (accepted (8 ∷ []))
    ∷ row (encode 5 2 9) (refused 22)
    ∷ row (decode 5 (0 ∷ 3 ∷ [])) (refused 23)
    -- "p=251 is taken; 249 and 2 give 3; 249 with s=49 gives 3."
    ∷ row (taken (card 251 75 1 1)) (accepted (251 ∷ []))
    ∷ row (turned_away (card 249 75 1 1)) (refused 3)
    ∷ row (turned_away (card 2 75 1 1)) (refused 3)
    ∷ row (turned_away (card 249 49 1 1)) (refused 3)
    -- "s 49 and 101 give 4; n=17 gives 9; n 8 and 9 together give 10."
    ∷ row (turned_away (card 3 49 1 1)) (refused 4)
    ∷ row (turned_away (card 3 101 1 1)) (refused 4)
    ∷ row (turned_away (card 3 75 1 17)) (refused 9)
    ∷ row (turned_away (pair 3 75 1 8 1 9)) (refused 10)
    ∷ []

-- document 01's first wrong turn: "Digits up to p-1: p=5, 0 < 3 comes out 0.", of the table that Build writes
abbrev pub FullRangeRun : Type 0
FullRangeRun =
    single (running (build (card 5 100 1 1) 96).lent (0 ∷ []) (3 ∷ []) (replicate 11 9)).answer ≡ accepted (0 ∷ [])

-- every case comes out as document 01 says
abbrev pub StarredCases : Type 0
StarredCases = map (λ (c : Case). c.given) starred ≡ map (λ (c : Case). c.said) starred
