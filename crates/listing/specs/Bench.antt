-- The listing of document 01's first bench card. Proved in `proofs/Bench.antt`.
use Rattle.std.specs.Prelude.{◌≡◌, ℕ, List, [], ◌∷◌, ◌++◌}
use Rattle.query.specs.Bench.{first_card}
use Rattle.listing.specs.Listing.{listing}

-- "Card C5 48 03 4B 01 00 C5 51 01 01 gives all of:", with "line 5 .. `5 SCALE 3 -1`" (document 02, E3)
abbrev pub first_listing : List ℕ
first_listing =
    -- gates 7 products 0 squares 1 cost 75 depth 1
    (103 ∷ 97 ∷ 116 ∷ 101 ∷ 115 ∷ 32 ∷ 55 ∷ 32 ∷ 112 ∷ 114 ∷ 111 ∷ 100 ∷ 117 ∷ 99 ∷ 116 ∷ 115 ∷ 32 ∷ 48 ∷ 32 ∷ 115 ∷ 113 ∷ 117 ∷ 97 ∷ 114 ∷ 101 ∷ 115 ∷ 32 ∷ 49 ∷ 32 ∷ 99 ∷ 111 ∷ 115 ∷ 116 ∷ 32 ∷ 55 ∷ 53 ∷ 32 ∷ 100 ∷ 101 ∷ 112 ∷ 116 ∷ 104 ∷ 32 ∷ 49 ∷ 10 ∷ [])
    -- 0 LEFT 0 0
    ++ (48 ∷ 32 ∷ 76 ∷ 69 ∷ 70 ∷ 84 ∷ 32 ∷ 48 ∷ 32 ∷ 48 ∷ 10 ∷ [])
    -- 1 RIGHT 0 0
    ++ (49 ∷ 32 ∷ 82 ∷ 73 ∷ 71 ∷ 72 ∷ 84 ∷ 32 ∷ 48 ∷ 32 ∷ 48 ∷ 10 ∷ [])
    -- 2 SUB 0 1
    ++ (50 ∷ 32 ∷ 83 ∷ 85 ∷ 66 ∷ 32 ∷ 48 ∷ 32 ∷ 49 ∷ 10 ∷ [])
    -- 3 MUL 2 2
    ++ (51 ∷ 32 ∷ 77 ∷ 85 ∷ 76 ∷ 32 ∷ 50 ∷ 32 ∷ 50 ∷ 10 ∷ [])
    -- 4 SCALE 2 1
    ++ (52 ∷ 32 ∷ 83 ∷ 67 ∷ 65 ∷ 76 ∷ 69 ∷ 32 ∷ 50 ∷ 32 ∷ 49 ∷ 10 ∷ [])
    -- 5 SCALE 3 -1
    ++ (53 ∷ 32 ∷ 83 ∷ 67 ∷ 65 ∷ 76 ∷ 69 ∷ 32 ∷ 51 ∷ 32 ∷ 45 ∷ 49 ∷ 10 ∷ [])
    -- 6 ADD 4 5
    ++ (54 ∷ 32 ∷ 65 ∷ 68 ∷ 68 ∷ 32 ∷ 52 ∷ 32 ∷ 53 ∷ 10 ∷ [])

-- what is listed of that card
abbrev pub FirstListing : Type 0
FirstListing = listing first_card ≡ first_listing
