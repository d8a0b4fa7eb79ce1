-- The listing of the bytes that were read stands at the start of the text, where it fits.
use Rattle.std.proofs.Common.{List, ℕ, ◌+◌, ◌≡◌, ◌≤◌, sym, ap, ◌∙◌, arith, length, take, drop, length-take-le, take_at}
use Rattle.std.proofs.lemmas.List.{take_min}
use Rattle.std.proofs.lemmas.List.Edits.{sets, sets-eq}
use lib.Seq.{length-sets}
use Rattle.io.specs.Counts.{IsPrefixLen}
use Rattle.listing.specs.Listing.{listing}
use Rattle.print.proofs.list_read.Goals as goal

-- bytes that were put at the start of a text, and fit there
begins : (out bytes : List ℕ) {out' : List ℕ} {end : ℕ} → out' ≡ sets out 0 bytes → end ≡ length bytes → end ≤ length out'
    → (take end out' ≡ bytes) × IsPrefixLen end out'
begins out bytes {out'} {end} put ends fits =
    let whole = put ∙ sets-eq bytes out 0 (omega (arith, ap length put, length-sets out 0 bytes)) in
    (ap (take end) whole ∙ take_at bytes (drop (0 + length bytes) out) end (sym ends), (fits, sym (length-take-le end out' fits)))

pub returns : goal.returns
returns c =
    let a = c.args in
    let input = a.input.now in
    let e = c.list_card.ensures in
    let b = begins _ _ e.puts e.ends e.fits in
    let read : take c.min-read.result input ≡ take a.count input = ap (λ (n : ℕ). take n input) c.min-read.ensures ∙ take_min a.count input in
    record { listed = b.0 ∙ ap listing read; counts = b.1 }
