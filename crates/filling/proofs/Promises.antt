-- The promises of a card filled in condition by condition. After accepted calls the state and the table are those of the conditions so far
-- (`opened`), and those conditions, once there is one, are a plain card: so what finish leaves is what Build leaves of that card's bytes,
-- and what Check and Run answer in between follows from the rules that the table so far keeps. What is refused keeps all, rule by rule.
-- Assumes nothing.
use mathlib.Core.Path.{◌≡◌, refl, sym, ap, ap₂, subst, ◌∙◌}
use mathlib.Core.Bool.{true, not}
use mathlib.Core.List.{List, [], ◌∷◌, ◌++◌}
use mathlib.Core.Logic.{inr}
use Prim.Native.Nat.{ℕ, ◌+◌, ◌-◌, ◌*◌, ◌≤◌, ◌<◌}
use native.Mathlib.Omega.{arith}
use native.Mathlib.Decide.{dec_lt}
use borrow.Author.Tests.{lt-ltb, le-ltb, le-leb, ne_eqb, ltb-false, eqb-false}
use lib.Dec.{ltb, leb, eqb}
use lib.ListN.{length, drop, length-append}
use Rattle.answer.specs.Outcome.{refused, accepted, Outcome}
use Rattle.answer.specs.Report.{Report}
use Rattle.field.specs.Bit.{bit}
use Rattle.field.specs.Primes.{listed}
use Rattle.field.specs.Sum.{total}
use Rattle.field.proofs.Primes.{listed_is_odd_prime}
use Rattle.field.proofs.Tests.{in_range}
use Rattle.digits.specs.Number.{base, all_below, most_digits}
use Rattle.digits.proofs.Number.{below_weaken}
use Rattle.circuit.specs.Count.{is_product, is_square}
use Rattle.circuit.specs.Meaning.{entry_at, output}
use Rattle.circuit.specs.Outcomes.{checking, running}
use Rattle.circuit.specs.ProductTree.{product_tree}
use Rattle.circuit.specs.Reading.{reading}
use Rattle.circuit.specs.Report.{report}
use Rattle.circuit.specs.Segment.{Segment}
use Rattle.circuit.specs.Table.{wrong_weight}
use Rattle.circuit.specs.Value.{values}
use Rattle.circuit.proofs.Count.{count_append}
use Rattle.circuit.proofs.Every.{every_last}
use Rattle.circuit.proofs.Promises.{table_reads_back, checks_tables, run_accepts}
use Rattle.comparison.specs.Condition.{Condition, HasSlots, holds}
use Rattle.comparison.specs.Tests.{base_tests}
use Rattle.comparison.specs.Writing.{condition_segment}
use Rattle.comparison.proofs.Condition.{output_is_last, condition_holds}
use Rattle.comparison.proofs.Lawful.{base_lawful}
use Rattle.query.specs.Card.{Card, most_conditions, slots_of, conditions_bytes, card_bytes}
use Rattle.query.specs.Form.{Plain, record_size}
use Rattle.query.specs.Outcomes.{table_room, building}
use Rattle.query.specs.Promises.{gates_of}
use Rattle.query.specs.Reading.{read_condition, read_conditions, read_card}
use Rattle.query.specs.Whole.{Draft, add_all, draft_of, table_of}
use Rattle.query.proofs.AnyTests.{known, good}
use Rattle.query.proofs.Building.{built, build_accepted, room_decides}
use Rattle.query.proofs.BuiltCounted.{built_counts}
use Rattle.query.proofs.Plain.{plain_cards, plain_alone}
use Rattle.query.proofs.Promises.{card_output}
use Rattle.query.proofs.Reading.{Keeps, reads, card_bytes_lem}
use Rattle.query.proofs.Whole.{Good}
use Rattle.filling.specs.Filling.{Step, head_of, lacks_room, report_with, finishing}
use Rattle.filling.specs.Promises.{together, card_of, AllAdded, FinishIsBuild, FinishAnswers, BuildIsFinish, FinishCloses, StaysOpen, NinthRefused, NoneAdded, NothingYet, table_so_far, HeadSoFar, NewestRuns, StepKeeps}
use Rattle.filling.specs.State.{BuildState, no_build, is_closed}
use Rattle.filling.proofs.Filled.{Filled, begin_filled, add_filled, opened, fills}
use Rattle.filling.proofs.Filling.{add_last, state_of, Fillable, card_with, is_card, count_so_far, formed_so_far, is_open}
use Rattle.filling.proofs.Laid.{over, over_length, over_more}
use Rattle.filling.proofs.Steps.{accepted_kept, refuse_kept, answer_kept, finish_passed}

-- ---- finish

module _ (p s : ℕ) (found : List ℕ) (cs : List Condition) (f : Fillable p s cs) (some : 1 ≤ length cs) where
  abbrev whole : Card
  whole = card_with p s cs

  abbrev now : BuildState
  now = state_of p s cs

  abbrev tree : Segment
  tree = product_tree now.gates now.outputs

  -- the gates so far and those of the tree
  all_gates : length (gates_of whole) ≡ now.gates + length tree.gates
  all_gates = length-append (draft_of (base_tests p) p cs).gates tree.gates

  -- a built table keeps its counts, so those of all records are reported
  reported : report_with now tree ≡ report (table_of whole)
  reported =
      let e = is_card p s cs f some in
      let so_far = (draft_of (base_tests p) p cs).gates in
      let size = all_gates in
      let counts = built_counts (card_bytes whole) whole e in
      let products = count_append is_product so_far tree.gates in
      let squares = count_append is_square so_far tree.gates in
      let deep = (card_output (card_bytes whole) whole e).1 in cc

  -- with room, the outcome is Build's on the bytes that begin found
  pub finishes : table_room (table_of whole) ≤ length found
      → finishing now (over (table_so_far p s cs) found)
      ≡ record { answer = accepted (report (table_of whole)); state = no_build; lent = over (table_of whole) found }
  finishes room =
      let table = over (table_so_far p s cs) found in
      let head = head_of p s (slots_of cs) in
      let fits : 8 * (now.gates + length tree.gates + 1) ≤ length found = omega (arith, room, all_gates) in
      let long = over_length (table_so_far p s cs) found (omega (arith, fits)) in
      let added = ne_eqb (length now.outputs) 0 (λ none. omega (arith, none, count_so_far p cs)) in
      let enough = le-ltb (length table) (8 * (now.gates + length tree.gates + 1)) (omega (arith, long, fits)) in
      rw (is_open p s cs f, added, enough, reported, over_more head head (draft_of (base_tests p) p cs).gates tree.gates found fits)

  -- and without room both give 11
  pub lacks : length found < table_room (table_of whole) → table_room (table_so_far p s cs) ≤ length found
      → (finishing now (over (table_so_far p s cs) found)).answer ≡ refused 11
  lacks short room =
      let table = over (table_so_far p s cs) found in
      let long = over_length (table_so_far p s cs) found room in
      let added = ne_eqb (length now.outputs) 0 (λ none. omega (arith, none, count_so_far p cs)) in
      let less = lt-ltb (length table) (8 * (now.gates + length tree.gates + 1)) (omega (arith, long, short, all_gates)) in
      rw (is_open p s cs f, added, less)

-- an accepted finish had a condition and room
accepted_finish : (p s : ℕ) (found : List ℕ) (cs : List Condition) (state : BuildState) (table : List ℕ) (told : Report)
    → Filled p s found cs state table → (finishing state table).answer ≡ accepted told
    → (1 ≤ length cs) × (table_room (table_of (card_with p s cs)) ≤ length found)
accepted_finish p s found cs state table told f e =
    let k = (state_of p s cs).gates in
    let outputs = (state_of p s cs).outputs in
    let tree = (product_tree k outputs).gates in
    let long = over_length (table_so_far p s cs) found f.room in
    let rules = finish_passed (state_of p s cs) (over (table_so_far p s cs) found) told (rw (f.is, f.bytes) at e) in
    let none = eqb-false (length outputs) 0 rules.1 in
    let room = ltb-false (length (over (table_so_far p s cs) found)) (8 * (k + length tree + 1)) rules.2 in
    (omega (arith, none, count_so_far p cs), omega (arith, room, long, length-append (draft_of (base_tests p) p cs).gates tree))

-- the card of the records is that of the conditions
card_is : (p s : ℕ) (records : List (List ℕ)) (cs : List Condition) → together records ≡ conditions_bytes Plain cs → length records ≡ length cs
    → card_of p s records ≡ card_bytes (card_with p s cs)
card_is p s records cs same long = rw (same, long)

pub finish_is_build : FinishIsBuild
finish_is_build p s records found table state told o e =
    let f = opened p s records found table state o in
    let cs = f.0 in
    let card = card_with p s cs in
    let a = accepted_finish p s found cs state table told f.1 e in
    let done = ap₂ finishing f.1.is f.1.bytes ∙ finishes p s found cs f.1.fillable a.0 a.1 in
    let go : building (card_of p s records) found ≡ record { answer = accepted (report (table_of card)); lent = over (table_of card) found }
    = ap (λ (b : List ℕ). building b found) (card_is p s records cs f.2 f.3)
    ∙ built (card_bytes card) found card (is_card p s cs f.1.fillable a.0) a.1 in (
      ap (λ (o : Outcome Report). o.answer) go ∙ sym (ap (λ (o : Step Report). o.answer) done) ∙ e,
      ap (λ (o : Outcome Report). o.lent) go ∙ sym (ap (λ (o : Step Report). o.lent) done),
    )

pub finish_answers : FinishAnswers
finish_answers p s records found table state o some =
    let f = opened p s records found table state o in
    let cs = f.0 in
    let card = card_with p s cs in
    let one : 1 ≤ length cs = omega (arith, some, f.3) in
    let e = is_card p s cs f.1.fillable one in
    let here : (finishing state table).answer ≡ (finishing (state_of p s cs) (over (table_so_far p s cs) found)).answer
    = ap₂ (λ (now : BuildState) (lent : List ℕ). (finishing now lent).answer) f.1.is f.1.bytes in
    let there : (building (card_of p s records) found).answer ≡ (building (card_bytes card) found).answer
    = ap (λ (b : List ℕ). (building b found).answer) (card_is p s records cs f.2 f.3) in
    here ∙ go cs f.1.fillable one e f.1.room (dec_lt (length found) (table_room (table_of card))) ∙ sym there
  where
    go : (cs : List Condition) → Fillable p s cs → 1 ≤ length cs → read_card (card_bytes (card_with p s cs)) ≡ accepted (card_with p s cs)
        → table_room (table_so_far p s cs) ≤ length found → Dec (length found < table_room (table_of (card_with p s cs)))
        → (finishing (state_of p s cs) (over (table_so_far p s cs) found)).answer ≡ (building (card_bytes (card_with p s cs)) found).answer
    go cs f one e room (yes l) = lacks p s found cs f one l room ∙ sym ((room_decides (card_bytes (card_with p s cs)) found (card_with p s cs) e).1 l)
    go cs f one e room (no n) =
        ap (λ (o : Step Report). o.answer) (finishes p s found cs f one (omega (arith, n)))
        ∙ sym (ap (λ (o : Outcome Report). o.answer) (built (card_bytes (card_with p s cs)) found (card_with p s cs) e (omega (arith, n))))

-- a card that was read from the bytes of records is plain and has their p and s, and its conditions are the records'
record Recorded (p s : ℕ) (records : List (List ℕ)) (card : Card) : Type 0 where
  same : card ≡ card_with p s card.conditions
  fillable : Fillable p s card.conditions
  some : 1 ≤ length card.conditions
  bytes : together records ≡ conditions_bytes Plain card.conditions
  long : length records ≡ length card.conditions

same_card : (card : Card) (p s : ℕ) → card.form ≡ Plain → card.prime ≡ p → card.weight ≡ s → card ≡ card_with p s card.conditions
same_card card p s form prime weight = rw (← form, ← prime, ← weight)

recorded : (p s : ℕ) (records : List (List ℕ)) (card : Card) → read_card (card_of p s records) ≡ accepted card → Recorded p s records card
recorded p s records card e =
    let lent = card_of p s records in
    let r = reads lent card e in
    let form : card.form ≡ Plain = ((plain_cards lent card).0 ((plain_alone lent).0 (inr refl) ∙ e)).1 in
    let same = same_card card p s form r.prime r.weight in
    let k = subst Keeps same r.kept in
    let count = in_range (length card.conditions) 1 most_conditions k.count in
    record {
      same = same;
      fillable = record {
        prime = k.prime;
        weight = k.weight;
        few = count.1;
        placed = k.placed;
        slots = ltb-false most_digits (slots_of card.conditions) k.slots;
      };
      some = count.0;
      bytes = ap (drop 6) (card_bytes_lem lent card r ∙ ap card_bytes same);
      long = sym r.count;
    }

pub build_is_finish : BuildIsFinish
build_is_finish before p s records found told four e =
    let b = build_accepted (card_of p s records) found told e in
    let cs = b.0.conditions in
    let r = recorded p s records b.0 b.1 in
    let state = state_of p s cs in
    let table = over (table_so_far p s cs) found in
    let room : table_room (table_of (card_with p s cs)) ≤ length found = subst (λ (card : Card). table_room (table_of card) ≤ length found) r.same b.2 in
    let fits : table_room (table_so_far p s cs) ≤ length found = omega (arith, room, all_gates p s found cs r.fillable r.some) in
    let o = fills before p s found records cs r.fillable fits four r.bytes r.long in
    let answers : (finishing state table).answer ≡ accepted told
    = ap (λ (o : Step Report). o.answer) (finishes p s found cs r.fillable r.some room)
    ∙ ap accepted (ap (λ (card : Card). report (table_of card)) (sym r.same) ∙ b.3) in
    (state, table, o.0, o.1, answers, sym (finish_is_build p s records found table state told o.0 answers).1)

pub finish_closes : FinishCloses
finish_closes state table r lent told e =
    let rules = finish_passed state table told e in (rw (rules.0, rules.1, rules.2), refl, refl)

-- ---- while the build is open

pub stays_open : StaysOpen
stays_open p s records found table state o =
    let f = opened p s records found table state o in
    rw f.1.is (is_open p s f.0 f.1.fillable, count_so_far p f.0 ∙ sym f.3)

pub ninth_refused : NinthRefused
ninth_refused p s records r found table lent state o all =
    let open' = stays_open p s records found table state o in
    rw (open'.0, le-leb most_conditions (length state.outputs) (omega (arith, open'.1, all)))

pub none_added : NoneAdded
none_added p s found table lent state o =
    let open' = stays_open p s [] found table state o in
    rw (open'.0, open'.1)

pub nothing_yet : NothingYet
unfolding AllAdded add_all total
nothing_yet p s found table state o =
    let f = begin_filled o.before o.s₁ p s found o.table₁ o.begins in
    let bytes = over (table_so_far p s []) found in
    let long : 8 ≤ length bytes = omega (arith, over_length (table_so_far p s []) found f.room, f.room) in
    ap checking (sym o.adds.1 ∙ f.bytes) ∙ rw (le-ltb (length bytes) 8 long, f.fillable.prime, f.fillable.weight)

pub head_so_far : HeadSoFar
head_so_far p s records found table state o some =
    let f = opened p s records found table state o in
    let cs = f.0 in
    let one : 1 ≤ length cs = omega (arith, some, f.3) in
    let card = card_with p s cs in
    let formed = formed_so_far p s cs f.1.fillable one in
    let read = (reads (card_bytes card) card (is_card p s cs f.1.fillable one)).conditions in (
      cs,
      ap₂ (read_conditions Plain p 0) f.3 f.2 ∙ read,
      ap reading f.1.bytes ∙ table_reads_back (table_so_far p s cs) _ formed,
      ap checking f.1.bytes ∙ checks_tables (table_so_far p s cs) _ formed,
      ap (λ (state : BuildState). state.slots) f.1.is,
      ap (λ (state : BuildState). state.gates) f.1.is,
    )

-- the last gate of the table so far is the newest condition's
newest_value : (p s : ℕ) (cs : List Condition) (c : Condition) (left right : List ℕ) → Fillable p s (cs ++ (c ∷ []))
    → length left ≡ slots_of (cs ++ (c ∷ [])) → length right ≡ slots_of (cs ++ (c ∷ []))
    → all_below (base p) left ≡ true → all_below (base p) right ≡ true
    → output (values p left right) (draft_of (base_tests p) p (cs ++ (c ∷ []))).gates ≡ bit (holds (base p) left right c)
newest_value p s cs c left right f l r hl hr =
    let longer = cs ++ (c ∷ []) in
    let card = card_with p s longer in
    let e = is_card p s longer f (omega (arith, length-append cs (c ∷ []))) in
    let odd = (known (card_bytes card) card e).prime in
    let t = base_tests p in
    let law = base_lawful p odd.low odd.odd in
    let so_far = (draft_of t p cs).gates in
    let own = condition_segment p c (length so_far) in
    let slots = every_last (Good (table_of card).head) cs c (good (card_bytes card) card e) in
    let inside : HasSlots (length left) (length right) c = (slots.0, omega (arith, slots.1, l), omega (arith, slots.2, r)) in
    let last : length (so_far ++ own.gates) - 1 ≡ own.output.gate
    = omega (arith, output_is_last p (length so_far) t c law (omega (arith, odd.low)) slots.0, length-append so_far own.gates) in
    ap (λ (d : Draft). output (values p left right) d.gates) (add_last cs c p)
    ∙ ap (entry_at (values p left right) (so_far ++ own.gates)) last
    ∙ condition_holds p t left right so_far c law odd.prime odd.low odd.odd inside hl hr

pub newest_runs : NewestRuns
newest_runs p s records r found table later state next o e =
    let f = opened p s records found table state o in
    let cs = f.0 in
    let one = add_filled p s found cs state next r table later f.1 e in
    let c = one.0 in
    let longer = cs ++ (c ∷ []) in
    let now = one.1 in
    let slots : next.slots ≡ slots_of longer = ap (λ (state : BuildState). state.slots) now.is in
    let gates : next.gates ≡ length (table_so_far p s longer).gates = ap (λ (state : BuildState). state.gates) now.is in
    let formed = formed_so_far p s longer now.fillable (omega (arith, length-append cs (c ∷ []))) in
    let low : base p ≤ p = omega (arith, ((listed_is_odd_prime p).0 now.fillable.prime).low) in (
      c,
      ap (λ (state : BuildState). read_condition Plain p state.slots r) f.1.is ∙ one.3,
      λ left right work l r hl hr enough.
          ap (λ (t : List ℕ). (running t left right work).answer) now.bytes
          ∙ ap (λ (o : Outcome ℕ). o.answer)
          (run_accepts (table_so_far p s longer) _ left right work formed (l ∙ slots) (r ∙ slots)
          (below_weaken (base p) p left low hl) (below_weaken (base p) p right low hr) (omega (arith, gates, enough)))
          ∙ ap accepted (newest_value p s cs c left right now.fillable (l ∙ slots) (r ∙ slots) hl hr),
    )

-- ---- refused calls

pub step_keeps : StepKeeps
step_keeps state p s r table =
    let tree = product_tree state.gates state.outputs in (
      refuse_kept (not (listed p)) 3 (refuse_kept (wrong_weight s) 4 (refuse_kept (ltb (length table) 8) 11 accepted_kept)),
      refuse_kept (is_closed state) 31
          (refuse_kept (leb most_conditions (length state.outputs)) 30
          (refuse_kept (not (eqb (length r) (record_size Plain))) 7
          (answer_kept (read_condition Plain state.prime state.slots r) (λ (c : Condition).
          refuse_kept (ltb most_digits (state.slots + c.digits)) 10
          (refuse_kept (lacks_room state (condition_segment state.prime c state.gates).gates table) 11 accepted_kept))))),
      refuse_kept (is_closed state) 31
          (refuse_kept (eqb (length state.outputs) 0) 31 (refuse_kept (lacks_room state tree.gates table) 11 accepted_kept)),
    )
