-- With room for every table, a report is that of the card's table, whose records are put after its line, and a refusal is the card's.
-- No listing is too long for the text.
use Rattle.std.proofs.Common.{List, ℕ, ◌≡◌, ◌≤◌, ◌++◌, refl, sym, ap, subst, ◌∙◌, arith, length, drop}
use Rattle.std.proofs.lemmas.List.Edits.{sets}
use Rattle.answer.specs.Numbers.{refusal_number}
use Rattle.answer.specs.Report.{report_answer, report_of}
use Rattle.listing.specs.Lines.{summary_line, refusal_line}
use Rattle.listing.specs.Listing.{listing}
use Rattle.listing.specs.Promises.{most_listing}
use Rattle.listing.specs.Records.{record_lines}
use Rattle.text.specs.Putting.{Fits, HasRoom, Adds}
use Rattle.text.specs.declared.Writer.{Writer}
use Rattle.listing.proofs.Building.{Listed, lists_table, lists_refusal}
use Rattle.listing.proofs.Lengths.{short_listing}
use Rattle.text.proofs.Putting.{same_text, then, left, begins}
use Rattle.listing.proofs.list_card.Goals.{In-Ok, In-Err}
use Rattle.listing.proofs.list_card.Goals as goal

-- there is room for the listing
fits : (card out text : List ℕ) → most_listing ≤ length out → listing card ≡ text → Fits out 0 text
fits card out text room same = omega (arith, short_listing card, ap length same)

-- what the contract says of a listing that was put from the start, where it has room
returned : (card : List ℕ) {w w' : Writer} {text : List ℕ} → w.end ≡ 0 → listing card ≡ text → HasRoom w text → Adds w text w'
    → (w'.bytes.now ≡ sets w.bytes.now 0 (listing card)) × (w'.end ≡ length (listing card)) × (w'.end ≤ length w'.bytes.now)
returned card {w} start same room put =
    let whole = same_text (sym same) put in
    (whole.bytes ∙ ap (λ (i : ℕ). sets w.bytes.now i (listing card)) start, omega (arith, whole.after, start), omega (arith, put.after, put.size))

-- a report was answered, and left is the table that it is of
listed : (c : In-Ok) → Listed c.args.card.now c.build.new.table (report_of c.in-Ok.told)
listed c =
    let card = c.args.card.now in
    let told = report_of c.in-Ok.told in
    let b = c.build.ensures in
    subst (λ (t : List ℕ). Listed card t told) (sym b.leaves)
    (lists_table card c.args.table.now (omega arith) told (sym (ap report_answer c.in-Ok.is) ∙ b.answers))

listed_fits : (c : In-Ok)
    → let told = report_of c.in-Ok.told in Fits c.args.text.now 0 (summary_line told ++ record_lines 0 told.gates (drop 8 c.build.new.table))
listed_fits c = fits c.args.card.now c.args.text.now _ (omega arith) (listed c).1

-- a refusal was answered, and its line is the listing
refusal : (c : In-Err) → listing c.args.card.now ≡ refusal_line (refusal_number c.in-Err.why)
refusal c =
    lists_refusal c.args.card.now c.args.table.now (omega arith) _ (sym (ap report_answer c.in-Err.is) ∙ c.build.ensures.answers)

pub put_summary-requires : goal.put_summary-requires
put_summary-requires c =
    let ok = (goal.at.put_summary-requires c).In-Ok in
    begins c.args.text.now 0 (summary_line (report_of c.in-Ok.told)) _ (listed_fits ok)

pub put_gate_lines-requires : goal.put_gate_lines-requires
put_gate_lines-requires c =
    let ok = (goal.at.put_gate_lines-requires c).In-Ok in ((listed ok).0, left c.put_summary.ensures _ (listed_fits ok))

pub returns-in-Ok : goal.returns-in-Ok
returns-in-Ok c =
    let ok = (goal.at.returns-in-Ok c).In-Ok in
    let put = then c.put_summary.ensures c.put_gate_lines.ensures in
    let e = returned c.args.card.now refl (listed ok).1 (listed_fits ok) put in
    record { puts = e.0; ends = e.1; fits = e.2; leaves = c.build.ensures.leaves }

pub put_refusal-requires : goal.put_refusal-requires
put_refusal-requires c =
    let a = c.args in fits a.card.now a.text.now _ (omega arith) (refusal (goal.at.put_refusal-requires c).In-Err)

pub returns-in-Err : goal.returns-in-Err
returns-in-Err c =
    let a = c.args in
    let line = refusal (goal.at.returns-in-Err c).In-Err in
    let e = returned a.card.now refl line (fits a.card.now a.text.now _ (omega arith) line) c.put_refusal.ensures in
    record { puts = e.0; ends = e.1; fits = e.2; leaves = c.build.ensures.leaves }
