-- The two tables within a depth cap, test by test: what is left where a test refuses and where none does, by the reports on the two tables;
-- and what is asked before a table is written, in the terms of the code.
-- Assumes nothing.
use mathlib.Core.Path.{◌≡◌, refl, sym, ap, subst, ◌∙◌}
use mathlib.Core.Bool.{true, false}
use mathlib.Core.List.{List}
use Rattle.std.specs.Prelude.{Ok, Err}
use Prim.Native.Nat.{ℕ, zero, suc, ◌+◌, ◌*◌, ◌≤◌, ◌<◌, zero-le}
use native.Mathlib.Omega.{arith}
use borrow.Author.Tests.{ltb-false, lt-leb, le-leb}
use lib.Dec.{ltb, leb}
use lib.ListN.{length}
use Rattle.answer.specs.Outcome.{accepted}
use Rattle.answer.specs.Report.{Report, report_of}
use Rattle.answer.specs.declared.Report as declared
use Rattle.answer.specs.declared.Refusal.TheVariants.{TableBufferTooSmall, DepthAboveCap}
use Rattle.answer.proofs.Outcome.{accepted_same}
use Rattle.circuit.specs.Report.{report}
use Rattle.circuit.specs.Table.{Table, most_gates}
use Rattle.step.specs.Digit.{IsStep, Suits}
use Rattle.query.specs.Card.{Card}
use Rattle.query.specs.Outcomes.{table_room, forecasting}
use Rattle.query.specs.Reading.{read_card}
use Rattle.query.specs.Whole.{table_of}
use Rattle.query.proofs.Promises.{exact_size}
use Rattle.offer.specs.Offer as offer
use Rattle.offer.specs.Offer.{step_table, laid_over, base_alone, handed_of, both_tables}
use Rattle.card.specs.declared.CardHead.{CardHead}
use Rattle.card.specs.Conditions.{ReadAs, conditions_of}
use Rattle.card.specs.Parts.{Summary, head_is}
use Rattle.card.proofs.ReadAs.{known_as}
use Rattle.draft.specs.Conditions.{Ready}
use Rattle.draft.specs.Drawing.{table_for, Drawable}
use Rattle.within.specs.declared.Offered.{Offered}
use Rattle.within.specs.declared.Offered.TheVariants.{First}
use Rattle.within.specs.Handed.{handed, Leaves}

-- ---- the base table alone

module _ (cap : ℕ) (base : Table) (told : declared.Report) (is : report_of told ≡ report base) (first second : List ℕ) where
  depth_told : told.depth.0 ≡ (report base).depth
  depth_told = ap (λ (r : Report). r.depth) is

  room_told : 8 * (told.gates + 1) ≡ table_room base
  room_told = ap (λ (r : Report). 8 * (r.gates + 1)) is

  pub too_deep : cap < told.depth.0 → Leaves (base_alone cap base first second) (Err DepthAboveCap) first second
  too_deep l = rw (lt-leb (report base).depth cap (subst (λ (d : ℕ). cap < d) depth_told l)) (record { answers = refl; one = refl; two = refl })

  fits : told.depth.0 ≤ cap → leb (report base).depth cap ≡ true
  fits l = le-leb (report base).depth cap (subst (λ (d : ℕ). d ≤ cap) depth_told l)

  pub no_room : told.depth.0 ≤ cap → ltb (length first) (8 * (told.gates + 1)) ≡ true
      → Leaves (base_alone cap base first second) (Err TableBufferTooSmall) first second
  no_room l s = rw (fits l, subst (λ (n : ℕ). ltb (length first) n ≡ true) room_told s) (record { answers = refl; one = refl; two = refl })

  pub laid : {first' : List ℕ} → told.depth.0 ≤ cap → ltb (length first) (8 * (told.gates + 1)) ≡ false → first' ≡ laid_over base first
      → Leaves (base_alone cap base first second) (Ok (First told)) first' second
  laid l s e =
      rw (fits l, subst (λ (n : ℕ). ltb (length first) n ≡ false) room_told s)
      (record { answers = ap (λ (r : Report). accepted (record { which = offer.First; told = r })) is; one = e; two = refl })

-- ---- both tables

module _ (cap : ℕ) (base other : Table) (told step : declared.Report) (is : report_of told ≡ report base) (so : report_of step ≡ report other)
    (first second : List ℕ) where
  room_first : 8 * (told.gates + 1) ≡ table_room base
  room_first = ap (λ (r : Report). 8 * (r.gates + 1)) is

  room_second : 8 * (step.gates + 1) ≡ table_room other
  room_second = ap (λ (r : Report). 8 * (r.gates + 1)) so

  pub no_room_first : ltb (length first) (8 * (told.gates + 1)) ≡ true
      → Leaves (both_tables cap base other first second) (Err TableBufferTooSmall) first second
  no_room_first s = rw (subst (λ (n : ℕ). ltb (length first) n ≡ true) room_first s) (record { answers = refl; one = refl; two = refl })

  pub no_room_second : ltb (length first) (8 * (told.gates + 1)) ≡ false → ltb (length second) (8 * (step.gates + 1)) ≡ true
      → Leaves (both_tables cap base other first second) (Err TableBufferTooSmall) first second
  no_room_second s t =
      rw (subst (λ (n : ℕ). ltb (length first) n ≡ false) room_first s, subst (λ (n : ℕ). ltb (length second) n ≡ true) room_second t)
      (record { answers = refl; one = refl; two = refl })

  pub both_laid : {first' second' : List ℕ} (answer : Offered) → ltb (length first) (8 * (told.gates + 1)) ≡ false
      → ltb (length second) (8 * (step.gates + 1)) ≡ false → first' ≡ laid_over base first → second' ≡ laid_over other second
      → handed answer ≡ handed_of cap base other → Leaves (both_tables cap base other first second) (Ok answer) first' second'
  both_laid answer s t e f a =
      rw (subst (λ (n : ℕ). ltb (length first) n ≡ false) room_first s, subst (λ (n : ℕ). ltb (length second) n ≡ false) room_second t)
      (record { answers = ap accepted a; one = e; two = f })

-- ---- which of the two is handed back

module _ (cap : ℕ) (base other : Table) (told step : Report) (is : told ≡ report base) (so : step ≡ report other) where
  abbrev first_of : Report → offer.Handed
  first_of r = record { which = offer.First; told = r }

  abbrev second_of : Report → offer.Handed
  second_of r = record { which = offer.Second; told = r }

  within_cap : told.depth ≤ cap → leb (report base).depth cap ≡ true
  within_cap l = le-leb (report base).depth cap (subst (λ (r : Report). r.depth ≤ cap) is l)

  pub takes_first : told.depth ≤ cap → told.cost ≤ step.cost → first_of told ≡ handed_of cap base other
  takes_first d l =
      let cheap : leb (report base).cost (report other).cost ≡ true =
      le-leb (report base).cost (report other).cost (subst (λ (r : Report). r.cost ≤ (report other).cost) is (subst (λ (r : Report). told.cost ≤ r.cost) so l)) in
      rw (within_cap d, cheap) (ap (λ (r : Report). first_of r) is)

  pub takes_cheaper : told.depth ≤ cap → step.cost < told.cost → second_of step ≡ handed_of cap base other
  takes_cheaper d l =
      let dear : leb (report base).cost (report other).cost ≡ false =
      lt-leb (report base).cost (report other).cost (subst (λ (r : Report). (report other).cost < r.cost) is (subst (λ (r : Report). r.cost < told.cost) so l)) in
      rw (within_cap d, dear) (ap (λ (r : Report). second_of r) so)

  pub takes_within : cap < told.depth → second_of step ≡ handed_of cap base other
  takes_within l =
      rw (lt-leb (report base).depth cap (subst (λ (r : Report). cap < r.depth) is l)) (ap (λ (r : Report). second_of r) so)

-- ---- before a table is written

-- the table by a step size
pub by_step : (card : Card) (step : ℕ) → 1 ≤ step → table_for step card ≡ step_table card step
by_step card zero l = absurd (omega arith)
by_step card (suc k) l = refl

-- the report on the base table is the one that was forecast
pub base_told : (bytes : List ℕ) (told : declared.Report) (card : Card) → accepted (report_of told) ≡ forecasting bytes
    → read_card bytes ≡ accepted card → report_of told ≡ report (table_of card)
base_told bytes told card f e = accepted_same (rw e at f)

module _ (bytes lent constants depths : List ℕ) (head : CardHead) (read : ReadAs bytes head)
    (ready : Ready head.prime (conditions_of bytes) constants depths) where
  -- with any step size, or none
  drawable : (step count : ℕ) → Suits head.prime step
      → ((card : Card) → read_card bytes ≡ accepted card → (count ≡ length (table_for step card).gates) × (count ≤ most_gates))
      → ltb (length lent) (8 * (count + 1)) ≡ false → Drawable bytes (head_is head) step count lent constants depths
  drawable step count suits counted room =
      let known = known_as bytes head read in
      let many = counted known.card known.reads in
      record {
        card = known.card;
        reads = known.reads;
        says = known.says;
        suits = subst (λ (s : Summary). Suits s.prime step) known.says suits;
        gates = many.0;
        few = many.1;
        room = subst (λ (n : ℕ). 8 * (n + 1) ≤ length lent) many.0 (ltb-false _ _ room);
        ready =
            subst (λ (s : Summary). Ready s.prime known.card.conditions constants depths) known.says (rw known.conditions at ready);
      }

  pub base_drawable : (told : declared.Report) → accepted (report_of told) ≡ forecasting bytes → ltb (length lent) (8 * (told.gates + 1)) ≡ false
      → Drawable bytes (head_is head) 0 told.gates lent constants depths
  base_drawable told f room =
      drawable 0 told.gates (record { low = zero-le })
      (λ card e. let many : told.gates ≡ length (table_of card).gates = ap (λ (r : Report). r.gates) (base_told bytes told card f e) in
      (many, omega (arith, many, (exact_size bytes card e).1)))
      room

  pub step_drawable : (told : declared.Report) (step : ℕ) → IsStep head.prime step
      → ((card : Card) → read_card bytes ≡ accepted card → (report_of told ≡ report (step_table card step)) × (length (step_table card step).gates ≤ most_gates))
      → ltb (length lent) (8 * (told.gates + 1)) ≡ false → Drawable bytes (head_is head) step told.gates lent constants depths
  step_drawable told step is known room =
      drawable step told.gates (record { low = is.1 })
      (λ card e. let many : told.gates ≡ length (step_table card step).gates = ap (λ (r : Report). r.gates) (known card e).0 in
      (many ∙ ap (λ (t : Table). length t.gates) (sym (by_step card step is.0)), omega (arith, many, (known card e).1)))
      room

-- what is left of the second lent table, by the step size's own definition
pub step_leaves : (card : Card) (step : ℕ) (lent lent' : List ℕ) → 1 ≤ step → lent' ≡ laid_over (table_for step card) lent
    → lent' ≡ laid_over (step_table card step) lent
step_leaves card step lent lent' l e = e ∙ ap (λ (t : Table). laid_over t lent) (by_step card step l)
