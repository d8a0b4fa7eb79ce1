-- What is proved of the part that is handed back (document 02, E7). Proved in `proofs/Promises.antt`.
use Rattle.std.specs.Prelude.{◌≡◌, List, ℕ, Result}
use Rattle.answer.specs.declared.Refusal.{Refusal}
use Rattle.offer.specs.Offer.{offering}
use Rattle.within.specs.declared.Offered.{Offered}
use Rattle.within.specs.Handed.{handed_answer, part_of}

-- an answer that is the call's, and the tables as the call leaves them, give the part that the call hands back
abbrev pub PartBack : Type 0
PartBack =
    (bytes first second : List ℕ) (cap : ℕ) (offered : Result Offered Refusal)
    → let due = offering bytes cap first second in
    handed_answer offered ≡ due.answer → part_of offered due.first due.second ≡ due.part
