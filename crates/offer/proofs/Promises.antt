-- What a call leaves: by the choice of a step size, and the tests of the cap and of the room one by one.
-- Assumes nothing.
use mathlib.Core.Path.{◌≡◌, refl, sym, ap, ap₂, subst, ◌∙◌}
use mathlib.Core.Bool.{Bool, true, false, not, ◌&&◌, false≢true}
use mathlib.Core.List.{List, [], ◌++◌}
use mathlib.Core.Logic.{inl, inr}
use Prim.Native.Nat.{ℕ, ◌≤◌, ◌<◌}
use native.Mathlib.Omega.{arith}
use native.Mathlib.Nat.{le_refl, le_trans}
use borrow.Author.Tests.{lt-ltb, le-ltb, ltb-true, ltb-false, leb-true, leb-false, lt-leb, not-false, not-true}
use lib.Dec.{leb}
use lib.ListN.{length, drop}
use lib.Seq.{drop_at}
use Rattle.answer.specs.Outcome.{Answer, refused, accepted, Outcome, refuse, on_answer}
use Rattle.answer.specs.Report.{Report}
use Rattle.answer.proofs.Outcome.{refused≢accepted, accepted_same, passed}
use Rattle.field.specs.Half.{half}
use Rattle.field.proofs.Tests.{both}
use Rattle.circuit.specs.Depth.{depths, depth}
use Rattle.circuit.specs.Meaning.{entry_at}
use Rattle.circuit.specs.Report.{report}
use Rattle.circuit.specs.Table.{Table, table_bytes, well_formed, most_gates}
use Rattle.circuit.specs.Tree.{height}
use Rattle.circuit.proofs.Promises.{table_reads_back, checks_tables}
use Rattle.step.specs.Digit.{IsStep}
use Rattle.query.specs.Card.{Card}
use Rattle.query.specs.Outcomes.{table_room, building}
use Rattle.query.specs.Promises.{Built}
use Rattle.query.specs.Reading.{read_card, read_plain}
use Rattle.query.specs.Whole.{table_of}
use Rattle.query.proofs.Building.{built}
use Rattle.query.proofs.BuiltCounted.{built_counted}
use Rattle.query.proofs.Promises.{exact_size, right_run, builds_with_room, built_value, built_depth, built_cost}
use Rattle.offer.specs.Best.{Choice, nothing, chosen, IsBest}
use Rattle.offer.specs.Offer.{step_table, step_cost, step_depth, within, counts, best_step, First, Second, Handed, Offer, nothing_done, laid_over, too_short, takes_first, which_of, handed_back, offer_by, offering}
use Rattle.offer.specs.Promises.{NoneCheaper, OfferKeeps, NoneWithin, CapDecides, CapIsBase, NoRoom, RoomInBoth, Offered, FirstTable, FirstPromises, SecondHolds, SecondTable, lent_of, IsPart, RunsRight, Cheapest, PartHanded}
use Rattle.offer.proofs.Best.{best_chosen}
use Rattle.offer.proofs.StepTables.{taken_card, asks, step_fits, step_runs, steps_no_shallower}

pub none_cheaper : NoneCheaper
none_cheaper cap card = best_chosen (step_cost card) (step_depth card) (counts cap card) (half card.prime)

-- ---- refusals

-- a refusal keeps both tables and hands nothing back
record Untouched (first second : List ℕ) (offer : Offer) : Type 0 where
  pub kept : (number : ℕ) → offer.answer ≡ refused number → (offer.first ≡ first) × (offer.second ≡ second) × (offer.part ≡ [])

nothing_kept : (first second : List ℕ) (number : ℕ) → Untouched first second (nothing_done first second number)
nothing_kept first second number = record { kept = λ k e. (refl, refl, refl) }

accepted_kept : (first second : List ℕ) (offer : Offer) (handed : Handed) → offer.answer ≡ accepted handed → Untouched first second offer
accepted_kept first second offer handed a = record { kept = λ k e. absurd (refused≢accepted (sym e ∙ a)) }

refuse_kept : (first second : List ℕ) (test : Bool) (number : ℕ) (later : Offer) → Untouched first second later
    → Untouched first second (refuse test (nothing_done first second number) later)
refuse_kept first second true number later h = nothing_kept first second number
refuse_kept first second false number later h = h

by_kept : (cap : ℕ) (card : Card) (first second : List ℕ) (choice : Choice) → Untouched first second (offer_by cap card first second choice)
by_kept cap card first second nothing =
    refuse_kept first second (not (within cap (table_of card))) 29 _
    (refuse_kept first second (too_short (table_of card) first) 11 _ (accepted_kept first second _ _ refl))
by_kept cap card first second (chosen step) =
    refuse_kept first second (too_short (table_of card) first) 11 _
    (refuse_kept first second (too_short (step_table card step) second) 11 _ (accepted_kept first second _ _ refl))

pub offer_keeps : OfferKeeps
offer_keeps bytes first second cap number = go (read_plain bytes)
  where
    go : (read : Answer Card)
        → let offer = on_answer read (nothing_done first second) (λ card. offer_by cap card first second (best_step cap card)) in
        offer.answer ≡ refused number → (offer.first ≡ first) × (offer.second ≡ second) × (offer.part ≡ [])
    go (refused k) e = (refl, refl, refl)
    go (accepted card) e = (by_kept cap card first second (best_step cap card)).kept number e

-- ---- the cap and the room, one test at a time

module _ (cap : ℕ) (card : Card) (first second : List ℕ) where
  abbrev base_table : Table
  base_table = table_of card

  -- what is left where nothing is refused
  abbrev done : Choice → Offer
  done nothing = record {
    answer = accepted (record { which = First; told = report base_table });
    first = laid_over base_table first;
    second = second;
    part = table_bytes base_table;
  }
  done (chosen step) =
      let other = step_table card step in
      let which = which_of (takes_first cap base_table other) in
      let back = handed_back which base_table other in
      record {
        answer = accepted (record { which = which; told = report back });
        first = laid_over base_table first;
        second = laid_over other second;
        part = table_bytes back;
      }

  -- no test refuses
  abbrev Passes : Choice → Type 0
  Passes nothing = (within cap base_table ≡ true) × (table_room base_table ≤ length first)
  Passes (chosen step) = (table_room base_table ≤ length first) × (table_room (step_table card step) ≤ length second)

  pub passes_done : (choice : Choice) → Passes choice → offer_by cap card first second choice ≡ done choice
  passes_done nothing h = rw (h.0, le-ltb (length first) (table_room base_table) h.1)
  passes_done (chosen step) h =
      rw (le-ltb (length first) (table_room base_table) h.0, le-ltb (length second) (table_room (step_table card step)) h.1)

  pub accepted_passes : (choice : Choice) (handed : Handed) → (offer_by cap card first second choice).answer ≡ accepted handed → Passes choice
  accepted_passes nothing handed e =
      let answer : Offer → Answer Handed = λ o. o.answer in
      let cheap = passed answer (not (within cap base_table)) (nothing_done first second 29) _ refl e in
      let room = passed answer (too_short base_table first) (nothing_done first second 11) _ refl cheap.1 in
      (not-false _ cheap.0, ltb-false _ _ room.0)
  accepted_passes (chosen step) handed e =
      let answer : Offer → Answer Handed = λ o. o.answer in
      let one = passed answer (too_short base_table first) (nothing_done first second 11) _ refl e in
      let two = passed answer (too_short (step_table card step) second) (nothing_done first second 11) _ refl one.1 in
      (ltb-false _ _ one.0, ltb-false _ _ two.0)

-- a call on an accepted card is decided by the choice
pub offer_is : (bytes first second : List ℕ) (cap : ℕ) (card : Card) → read_plain bytes ≡ accepted card
    → offering bytes cap first second ≡ offer_by cap card first second (best_step cap card)
offer_is bytes first second cap card e = rw e

-- which rule a refusal is of, one rule at a time: this one, or a later one
by_rule : {Q : Type 0} (first second : List ℕ) (test : Bool) (m number : ℕ) (later : Offer)
    → (refuse test (nothing_done first second m) later).answer ≡ refused number
    → (test ≡ true → m ≡ number → Q) → (test ≡ false → later.answer ≡ refused number → Q) → Q
by_rule first second true m number later e this other = this refl cc
by_rule first second false m number later e this other = other refl e

module _ (bytes first second : List ℕ) (cap : ℕ) (card : Card) (e : read_plain bytes ≡ accepted card) where
  abbrev Best : Choice → Type 0
  Best choice = IsBest (step_cost card) (step_depth card) (counts cap card) (half card.prime) choice

  answer_is : (offering bytes cap first second).answer ≡ (offer_by cap card first second (best_step cap card)).answer
  answer_is = ap (λ (o : Offer). o.answer) (offer_is bytes first second cap card e)

  abbrev first_short : Bool
  first_short = too_short (table_of card) first

  -- 29 is the cap's rule, and 11 the room's
  cap_refuses : (choice : Choice) → Best choice → (offer_by cap card first second choice).answer ≡ refused 29 → NoneWithin cap card
  cap_refuses nothing best a =
      by_rule first second (not (within cap (table_of card))) 29 29 _ a
      (λ t n. (not-true _ t, λ step is. best step is.0 is.1))
      (λ f l. by_rule first second first_short 11 29 _ l (λ t n. absurd (omega arith)) (λ f m. absurd (refused≢accepted (sym m))))
  cap_refuses (chosen step) best a =
      by_rule first second first_short 11 29 _ a
      (λ t n. absurd (omega arith))
      (λ f l. by_rule first second (too_short (step_table card step) second) 11 29 _ l (λ t n. absurd (omega arith)) (λ f m. absurd (refused≢accepted (sym m))))

  none_refuses : (choice : Choice) → Best choice → NoneWithin cap card → (offer_by cap card first second choice).answer ≡ refused 29
  none_refuses nothing best none = rw none.0
  none_refuses (chosen step) best none = absurd (false≢true (sym (none.1 step (best.0, best.1)) ∙ best.2))

  room_refuses : (choice : Choice) → (offer_by cap card first second choice).answer ≡ refused 11 → NoRoom choice card first second
  room_refuses nothing a =
      by_rule first second (not (within cap (table_of card))) 29 11 _ a
      (λ t n. absurd (omega arith))
      (λ f l. by_rule first second first_short 11 11 _ l (λ t n. ltb-true _ _ t) (λ f m. absurd (refused≢accepted (sym m))))
  room_refuses (chosen step) a =
      by_rule first second first_short 11 11 _ a
      (λ t n. inl (ltb-true _ _ t))
      (λ f l. by_rule first second (too_short (step_table card step) second) 11 11 _ l (λ t n. inr (ltb-true _ _ t)) (λ f m. absurd (refused≢accepted (sym m))))

  no_room : (choice : Choice) → Best choice → (NoneWithin cap card → ⊥) → NoRoom choice card first second
      → (offer_by cap card first second choice).answer ≡ refused 11
  no_room nothing best some l = go (within cap (table_of card)) refl
    where
      go : (b : Bool) → within cap (table_of card) ≡ b → (offer_by cap card first second nothing).answer ≡ refused 11
      go true w = rw (w, lt-ltb (length first) (table_room (table_of card)) l)
      go false w = absurd (some (w, λ step is. best step is.0 is.1))
  no_room (chosen step) best some (inl l) = rw (lt-ltb (length first) (table_room (table_of card)) l)
  no_room (chosen step) best some (inr l) = go (too_short (table_of card) first) refl
    where
      go : (b : Bool) → too_short (table_of card) first ≡ b → (offer_by cap card first second (chosen step)).answer ≡ refused 11
      go true w = rw w
      go false w = rw (w, lt-ltb (length second) (table_room (step_table card step)) l)

pub cap_decides : CapDecides
cap_decides bytes first second cap card e = (
  λ a. cap_refuses bytes first second cap card e (best_step cap card) (none_cheaper cap card) (sym (answer_is bytes first second cap card e) ∙ a),
  λ none. answer_is bytes first second cap card e ∙ none_refuses bytes first second cap card e (best_step cap card) (none_cheaper cap card) none,
)

pub cap_is_base : CapIsBase
cap_is_base bytes first second cap card e = (
  λ a. let none = (cap_decides bytes first second cap card e).0 a in omega (arith, leb-false (depth (table_of card).gates) cap none.0),
  λ l. (cap_decides bytes first second cap card e).1 (lt-leb (depth (table_of card).gates) cap l, λ step is. too_deep l step is),
)
  where
    too_deep : cap < depth (table_of card).gates → (step : ℕ) → IsStep card.prime step → counts cap card step ≡ false
    too_deep l step is =
        let above = (steps_no_shallower bytes card e).0 step is in
        ap (λ (b : Bool). b && leb (length (step_table card step).gates) most_gates) (lt-leb (step_depth card step) cap (omega arith))

pub room_in_both : RoomInBoth
room_in_both bytes first second cap card e some = (
  λ a. room_refuses bytes first second cap card e (best_step cap card) (sym (answer_is bytes first second cap card e) ∙ a),
  λ l. answer_is bytes first second cap card e ∙ no_room bytes first second cap card e (best_step cap card) (none_cheaper cap card) some l,
)

-- ---- an accepted call

module _ (bytes first second : List ℕ) (cap : ℕ) (card : Card) (handed : Handed) (o : Offered bytes first second cap card handed) where
  abbrev choice : Choice
  choice = best_step cap card

  passes : Passes cap card first second choice
  passes = accepted_passes cap card first second choice handed (sym (answer_is bytes first second cap card o.reads) ∙ o.answers)

  left_is : offering bytes cap first second ≡ done cap card first second choice
  left_is = offer_is bytes first second cap card o.reads ∙ passes_done cap card first second choice passes

  reads_card : read_card bytes ≡ accepted card
  reads_card = taken_card bytes card o.reads

  -- ---- the first table

  room_first : (c : Choice) → Passes cap card first second c → table_room (table_of card) ≤ length first
  room_first nothing h = h.1
  room_first (chosen step) h = h.0

  first_done : (c : Choice) → (done cap card first second c).first ≡ laid_over (table_of card) first
  first_done nothing = refl
  first_done (chosen step) = refl

  first_is : (offering bytes cap first second).first ≡ laid_over (table_of card) first
  first_is = ap (λ (l : Offer). l.first) left_is ∙ first_done choice

  first_built : (offering bytes cap first second).first ≡ (building bytes first).lent
  first_built = first_is ∙ sym (ap (λ (l : Outcome Report). l.lent) (built bytes first card reads_card (room_first choice passes)))

pub first_table : FirstTable
first_table bytes first second cap card handed o = (
  first_built bytes first second cap card handed o,
  builds_with_room bytes first card (reads_card bytes first second cap card handed o)
      (room_first bytes first second cap card handed o (best_step cap card) (passes bytes first second cap card handed o)),
)

pub first_promises : FirstPromises
first_promises bytes first second cap card handed table o reads =
    let e = reads_card bytes first second cap card handed o in
    let known = first_table bytes first second cap card handed o in
    let b : Built bytes first card (report (table_of card)) table = (e, known.1.1, rw known.0 at reads) in
    let deep = built_depth bytes first card _ table b in
    let paid = built_cost bytes first card _ table b in
    let same : table_of card ≡ table = accepted_same (sym known.1.2 ∙ b.2) in
    record {
      truth = λ left right l r. built_value bytes first left right card _ table b (asks bytes card o.reads) l r;
      depth_is = sym deep.0 ∙ deep.1;
      no_shallower = λ tree each. subst (λ (d : ℕ). d ≤ height (entry_at depths table.gates) tree) deep.0 (deep.2 tree (asks bytes card o.reads) each);
      cost_within = rw (← same) paid.3;
      all_count = rw (← same) (built_counted bytes card e);
    }

-- ---- the second table

module _ (bytes first second : List ℕ) (cap : ℕ) (card : Card) (e : read_plain bytes ≡ accepted card) where
  -- a step size that counts has a table within the cap, which is well-formed
  counted_step : (step : ℕ) → IsStep card.prime step → counts cap card step ≡ true
      → (step_depth card step ≤ cap) × (length (step_table card step).gates ≤ most_gates) × (well_formed (step_table card step) ≡ true)
  counted_step step is c =
      let two = both (within cap (step_table card step)) _ c in
      let few = leb-true _ _ two.1 in
      (leb-true _ _ two.0, few, step_fits bytes card step e is few)

  second_holds : (c : Choice) → Best bytes first second cap card e c → SecondHolds c card second (done cap card first second c).second
  second_holds nothing best = refl
  second_holds (chosen step) best =
      let formed = (counted_step step (best.0, best.1) best.2).2 in
      (refl, table_reads_back (step_table card step) (drop (table_room (step_table card step)) second) formed)

pub second_table : SecondTable
second_table bytes first second cap card handed o =
    subst (SecondHolds (best_step cap card) card second) (ap (λ (l : Offer). l.second) (sym (left_is bytes first second cap card handed o)))
    (second_holds bytes first second cap card o.reads (best_step cap card) (none_cheaper cap card))

-- ---- the part

-- what is said of the part of a buffer that a table begins
part_of : (offer : Offer) (handed : Handed) (table : Table) (lent : List ℕ) → offer.part ≡ table_bytes table
    → lent_of handed.which offer ≡ laid_over table lent → handed.told ≡ report table → well_formed table ≡ true → IsPart offer handed table
part_of offer handed table lent p l t formed = record {
  bytes = p;
  begins =
      l
      ∙ ap (λ (later : List ℕ). table_bytes table ++ later) (sym (drop_at (table_bytes table) (drop (table_room table) lent) (length (table_bytes table)) refl))
      ∙ ap₂ (λ (part buffer : List ℕ). part ++ drop (length part) buffer) (sym p) (sym l);
  told = t;
  checks = λ later. rw (p, t) (checks_tables table later formed);
}

module _ (bytes first second : List ℕ) (cap : ℕ) (card : Card) (e : read_plain bytes ≡ accepted card) where
  base_formed : well_formed (table_of card) ≡ true
  base_formed = (exact_size bytes card (taken_card bytes card e)).2

  base_runs : RunsRight card (table_bytes (table_of card)) (table_of card)
  base_runs later left right work l r enough =
      right_run bytes later left right work card (taken_card bytes card e) (asks bytes card e) l r enough

  -- the part is the base table's
  base_part : (offer : Offer) (handed : Handed) → offer.part ≡ table_bytes (table_of card) → offer.first ≡ laid_over (table_of card) first
      → handed ≡ record { which = First; told = report (table_of card) } → Cheapest cap card handed
      → (table : Table) × IsPart offer handed table × RunsRight card offer.part table × Cheapest cap card handed
  base_part offer handed p l h cheapest = (
    table_of card,
    part_of offer handed (table_of card) first p (rw h l) (rw h) base_formed,
    rw p base_runs,
    cheapest,
  )

  -- or that of the step size chosen
  step_part : (step : ℕ) (offer : Offer) (handed : Handed) → IsStep card.prime step → counts cap card step ≡ true
      → offer.part ≡ table_bytes (step_table card step) → offer.second ≡ laid_over (step_table card step) second
      → handed ≡ record { which = Second; told = report (step_table card step) } → Cheapest cap card handed
      → (table : Table) × IsPart offer handed table × RunsRight card offer.part table × Cheapest cap card handed
  step_part step offer handed is c p l h cheapest =
      let known = counted_step bytes first second cap card e step is c in (
        step_table card step,
        part_of offer handed (step_table card step) second p (rw h l) (rw h) known.2,
        rw p (step_runs bytes card step e is known.1),
        cheapest,
      )

  -- the parts by the choice, and by which table is taken
  part_done : (c : Choice) (handed : Handed) → Best bytes first second cap card e c → Passes cap card first second c
      → (done cap card first second c).answer ≡ accepted handed
      → let offer = done cap card first second c in
      (table : Table) × IsPart offer handed table × RunsRight card offer.part table × Cheapest cap card handed
  part_done nothing handed best through a =
      let h = sym (accepted_same a) in
      base_part (done cap card first second nothing) handed refl refl h (rw h (record {
        fits = leb-true _ _ through.0;
        base = λ w. le_refl _;
        steps = λ step is c. absurd (false≢true (sym (best step is.0 is.1) ∙ c));
      }))
  part_done (chosen step) handed best through a = go (takes_first cap (table_of card) (step_table card step)) refl
    where
      other : Table
      other = step_table card step

      offer : Offer
      offer = done cap card first second (chosen step)

      is : IsStep card.prime step
      is = (best.0, best.1)

      known : (step_depth card step ≤ cap) × (length (step_table card step).gates ≤ most_gates) × (well_formed (step_table card step) ≡ true)
      known = counted_step bytes first second cap card e step is best.2

      go : (t : Bool) → takes_first cap (table_of card) other ≡ t
          → (table : Table) × IsPart offer handed table × RunsRight card offer.part table × Cheapest cap card handed
      go true t =
          let h : handed ≡ record { which = First; told = report (table_of card) } = sym (accepted_same (rw t at a)) in
          let two = both (within cap (table_of card)) _ t in
          let less = leb-true _ _ two.1 in
          base_part offer handed (rw t) refl h (rw h (record {
            fits = leb-true _ _ two.0;
            base = λ w. le_refl _;
            steps = λ k ik c. le_trans less (best.3 k ik.0 ik.1 c).cheaper;
          }))
      go false t =
          let h : handed ≡ record { which = Second; told = report other } = sym (accepted_same (rw t at a)) in
          step_part step offer handed is best.2 (rw t) refl h (rw h (record {
            fits = known.0;
            base = λ w. dearer w t;
            steps = λ k ik c. (best.3 k ik.0 ik.1 c).cheaper;
          }))
        where
          dearer : within cap (table_of card) ≡ true → takes_first cap (table_of card) other ≡ false → (report other).cost ≤ (report (table_of card)).cost
          dearer w f = let g : leb (report (table_of card)).cost (report other).cost ≡ false = (rw w at f) in omega (arith, leb-false (report (table_of card)).cost (report other).cost g)

pub part_handed : PartHanded
part_handed bytes first second cap card handed o =
    let is = left_is bytes first second cap card handed o in
    subst (λ (offer : Offer). (table : Table) × IsPart offer handed table × RunsRight card offer.part table × Cheapest cap card handed) (sym is)
    (part_done bytes first second cap card o.reads (best_step cap card) handed (none_cheaper cap card)
    (passes bytes first second cap card handed o) (ap (λ (l : Offer). l.answer) (sym is) ∙ o.answers))
