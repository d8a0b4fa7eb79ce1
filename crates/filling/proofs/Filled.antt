-- The invariant of an open build (`Filled`): its state and its table are those of the conditions so far, laid over the bytes that begin found.
-- Begin establishes it, an accepted add keeps it with one condition more, and the records of conditions that may come next are accepted,
-- as long as there is room.
-- Assumes nothing.
use mathlib.Core.Path.{◌≡◌, refl, sym, ap, ap₂, subst, ◌∙◌}
use mathlib.Core.Bool.{true, false, not}
use mathlib.Core.List.{List, [], ◌∷◌, ◌++◌, append-nil}
use Prim.Native.Nat.{ℕ, suc, ◌+◌, ◌*◌, ◌≤◌}
use native.Mathlib.Omega.{arith}
use native.Mathlib.Nat.{zero-add, suc_inj}
use borrow.Author.Tests.{le-ltb, lt-leb, ltb-false, not-false}
use lib.Dec.{ltb}
use lib.ListN.{length, take, drop, length-append, drop_of_length-le}
use lib.Seq.{take_at, drop_at, append_snoc}
use Rattle.answer.specs.Outcome.{accepted}
use Rattle.field.specs.Primes.{listed}
use Rattle.field.specs.Sum.{total}
use Rattle.field.proofs.Tests.{both}
use Rattle.digits.specs.Number.{most_digits}
use Rattle.circuit.specs.Every.{Every}
use Rattle.circuit.specs.Table.{wrong_weight}
use Rattle.comparison.specs.Condition.{Condition}
use Rattle.comparison.specs.Tests.{base_tests}
use Rattle.comparison.specs.Writing.{condition_segment}
use Rattle.query.specs.Card.{most_conditions, slots_of, in_slots, condition_bytes, conditions_bytes}
use Rattle.query.specs.Form.{Plain, record_size}
use Rattle.query.specs.Outcomes.{table_room}
use Rattle.query.specs.Reading.{read_condition}
use Rattle.query.specs.Whole.{Draft, begin, add_all, draft_of}
use Rattle.query.proofs.OverConditions.{over_append}
use Rattle.query.proofs.Reading.{in_slots_lem, placed_append, read_condition_lem, says, condition_bytes_lem}
use Rattle.query.proofs.Whole.{all_append, all_more}
use Rattle.filling.specs.Filling.{Step, settled, head_of, beginning, adding}
use Rattle.filling.specs.Promises.{together, AllAdded, Opened, table_so_far}
use Rattle.filling.specs.State.{BuildState}
use Rattle.filling.proofs.Filling.{slots_last, placed_last, state_of, state_none, state_last, gates_last, bytes_last, Fillable, count_so_far, is_open}
use Rattle.filling.proofs.Laid.{over, over_length, over_none}
use Rattle.filling.proofs.Steps.{passed_step, add_passed}

pub record Filled (p s : ℕ) (found : List ℕ) (cs : List Condition) (state : BuildState) (table : List ℕ) : Type 0 where
  pub fillable : Fillable p s cs
  pub is : state ≡ state_of p s cs
  pub bytes : table ≡ over (table_so_far p s cs) found
  pub room : table_room (table_so_far p s cs) ≤ length found

-- ---- from accepted calls to the invariant

pub begin_filled : (before state : BuildState) (p s : ℕ) (found table : List ℕ) → beginning before p s found ≡ settled state table
    → Filled p s found [] state table
unfolding add_all total in_slots
begin_filled before state p s found table e =
    let prime = passed_step before found refl (not (listed p)) 3 _ e in
    let weight = passed_step before found refl (wrong_weight s) 4 _ prime.1 in
    let least = passed_step before found refl (ltb (length found) 8) 11 _ weight.1 in
    let room = ltb-false (length found) 8 least.0 in
    record {
      fillable = record { prime = not-false _ prime.0; weight = weight.0; few = omega arith; placed = refl; slots = omega arith };
      is = sym (ap (λ (o : Step Unit). o.state) least.1) ∙ state_none p s;
      bytes = sym (ap (λ (o : Step Unit). o.lent) least.1) ∙ over_none (head_of p s 0) found room;
      room = room;
    }

-- an accepted add: its record is a condition's, and the invariant holds with that condition more
pub add_filled : (p s : ℕ) (found : List ℕ) (cs : List Condition) (state next : BuildState) (r table later : List ℕ)
    → Filled p s found cs state table → adding state r table ≡ settled next later
    → (c : Condition)
    × Filled p s found (cs ++ (c ∷ [])) next later
    × (r ≡ condition_bytes Plain c)
    × (read_condition Plain p (slots_of cs) r ≡ accepted c)
add_filled p s found cs state next r table later f e =
    let a = rw (f.is, f.bytes) at (add_passed state next r table later e) in
    let c = a.condition in
    let said = says Plain p (slots_of cs) r c a.read in
    let k = length (draft_of (base_tests p) p cs).gates in
    let fits : 8 * (k + length (condition_segment p c k).gates + 1) ≤ length found
    = omega (arith, a.room, over_length (table_so_far p s cs) found f.room) in (
      c,
      record {
        fillable = record {
          prime = f.fillable.prime;
          weight = f.fillable.weight;
          few = omega (arith, a.few, count_so_far p cs, length-append cs (c ∷ []));
          placed = placed_last cs c Plain p f.fillable.placed said.count said.tail.kept;
          slots = omega (arith, a.slots, slots_last cs c);
        };
        is = sym a.leaves ∙ state_last p s cs c;
        bytes = sym a.lays ∙ bytes_last p s cs c found fits;
        room = omega (arith, fits, gates_last p s cs c);
      },
      condition_bytes_lem Plain p (slots_of cs) r c (omega (arith, a.size)) said
          ∙ ap (λ (t : List ℕ). condition_bytes Plain c ++ t) (drop_of_length-le r {i = 4} (omega (arith, a.size))),
      a.read,
    )

-- all adds
all_filled : (p s : ℕ) (found : List ℕ) (cs : List Condition) (s₁ s₂ : BuildState) (records : List (List ℕ)) (table₁ table₂ : List ℕ)
    → Filled p s found cs s₁ table₁ → AllAdded s₁ table₁ records s₂ table₂
    → (more : List Condition)
    × Filled p s found (cs ++ more) s₂ table₂
    × (together records ≡ conditions_bytes Plain more)
    × (length records ≡ length more)
unfolding AllAdded together conditions_bytes
all_filled p s found cs s₁ s₂ [] table₁ table₂ f a = ([], rw (append-nil cs, ← a.0, ← a.1) f, refl, refl)
all_filled p s found cs s₁ s₂ (r ∷ rs) table₁ table₂ f a =
    let one = add_filled p s found cs s₁ a.0 r table₁ a.1 f a.2 in
    let c = one.0 in
    let rest = all_filled p s found (cs ++ (c ∷ [])) a.0 s₂ rs a.1 table₂ one.1 a.3 in (
      c ∷ rest.0,
      subst (λ (l : List Condition). Filled p s found l s₂ table₂) (append_snoc cs c rest.0) rest.1,
      ap₂ ◌++◌ one.2 rest.2,
      ap suc rest.3,
    )

-- an accepted begin and all adds
pub opened : (p s : ℕ) (records : List (List ℕ)) (found table : List ℕ) (state : BuildState) → Opened p s records found state table
    → (cs : List Condition)
    × Filled p s found cs state table
    × (together records ≡ conditions_bytes Plain cs)
    × (length records ≡ length cs)
opened p s records found table state o =
    all_filled p s found [] o.s₁ state records o.table₁ table
    (begin_filled o.before o.s₁ p s found o.table₁ o.begins) o.adds

-- ---- from conditions to accepted calls

begin_accepts : (before : BuildState) (p s : ℕ) (found : List ℕ) → listed p ≡ true → wrong_weight s ≡ false → 8 ≤ length found
    → beginning before p s found ≡ settled (state_of p s []) (over (table_so_far p s []) found)
unfolding add_all total
begin_accepts before p s found prime weight room =
    rw (prime, weight, le-ltb (length found) 8 room) (ap₂ settled (state_none p s) (over_none (head_of p s 0) found room))

-- the record of a condition that may come next is added
add_accepts : (p s : ℕ) (found : List ℕ) (cs : List Condition) (c : Condition) → Fillable p s cs → Fillable p s (cs ++ (c ∷ []))
    → table_room (table_so_far p s (cs ++ (c ∷ []))) ≤ length found
    → adding (state_of p s cs) (condition_bytes Plain c) (over (table_so_far p s cs) found)
    ≡ settled (state_of p s (cs ++ (c ∷ []))) (over (table_so_far p s (cs ++ (c ∷ []))) found)
add_accepts p s found cs c f more room =
    let now = over (table_so_far p s cs) found in
    let k = length (draft_of (base_tests p) p cs).gates in
    let own = length (condition_segment p c k).gates in
    let fits : 8 * (k + own + 1) ≤ length found = omega (arith, room, gates_last p s cs c) in
    let long = over_length (table_so_far p s cs) found (omega (arith, fits)) in
    let few = lt-leb most_conditions (length (state_of p s cs).outputs) (omega (arith, count_so_far p cs, more.few, length-append cs (c ∷ []))) in
    let placed = rw (placed_append Plain p 0 cs (c ∷ []), zero-add (slots_of cs)) at more.placed in
    let read = read_condition_lem Plain p (slots_of cs) c [] [] (in_slots_lem Plain p (slots_of cs) c [] (both (in_slots Plain p 0 cs) _ placed).1) in
    let slots = le-ltb most_digits (slots_of cs + c.digits) (omega (arith, more.slots, slots_last cs c)) in
    let enough = le-ltb (length now) (8 * (k + own + 1)) (omega (arith, fits, long)) in
    rw (is_open p s cs f, few, read, slots, enough) (ap₂ settled (state_last p s cs c) (bytes_last p s cs c found fits))

-- the first of conditions are fillable where all are, and need no more room
first_fillable : (p s : ℕ) (cs ds : List Condition) → Fillable p s (cs ++ ds) → Fillable p s cs
first_fillable p s cs ds f = record {
  prime = f.prime;
  weight = f.weight;
  few = omega (arith, f.few, length-append cs ds);
  placed = (both (in_slots Plain p 0 cs) _ (rw (placed_append Plain p 0 cs ds) at f.placed)).0;
  slots = omega (arith, f.slots, over_append (λ (c : Condition). c.digits) cs ds);
}

first_room : (p s : ℕ) (cs ds : List Condition) → table_room (table_so_far p s cs) ≤ table_room (table_so_far p s (cs ++ ds))
first_room p s cs ds =
    let t = base_tests p in
    omega (arith, all_more t p (draft_of t p cs) ds, ap (λ (d : Draft). length d.gates) (all_append t p begin cs ds))

-- the records of all that may come next
all_accepted : (p s : ℕ) (found : List ℕ) (records : List (List ℕ)) (cs ds : List Condition) → Fillable p s (cs ++ ds)
    → table_room (table_so_far p s (cs ++ ds)) ≤ length found → Every (λ (r : List ℕ). length r ≡ record_size Plain) records
    → together records ≡ conditions_bytes Plain ds → length records ≡ length ds
    → AllAdded (state_of p s cs) (over (table_so_far p s cs) found) records (state_of p s (cs ++ ds)) (over (table_so_far p s (cs ++ ds)) found)
unfolding AllAdded together conditions_bytes
all_accepted p s found [] cs [] more room four same long = rw (append-nil cs) (refl, refl)
all_accepted p s found [] cs (d ∷ ds) more room four same long = absurd (omega (arith, long))
all_accepted p s found (r ∷ rs) cs [] more room four same long = absurd (omega (arith, long))
all_accepted p s found (r ∷ rs) cs (d ∷ ds) more room four same long =
    let own : r ≡ condition_bytes Plain d = sym (take_at r (together rs) 4 four.0) ∙ ap (take 4) same in
    let later : together rs ≡ conditions_bytes Plain ds = sym (drop_at r (together rs) 4 four.0) ∙ ap (drop 4) same in
    let longer = cs ++ (d ∷ []) in
    let snoc : longer ++ ds ≡ cs ++ (d ∷ ds) = append_snoc cs d ds in
    let whole : Fillable p s (longer ++ ds) = rw snoc more in
    let fits : table_room (table_so_far p s (longer ++ ds)) ≤ length found = rw snoc room in
    let here = add_accepts p s found cs d (first_fillable p s cs (d ∷ ds) more) (first_fillable p s longer ds whole) (omega (arith, fits, first_room p s longer ds)) in
    let rest = all_accepted p s found rs longer ds whole fits four.1 later (suc_inj long) in
    (_, _, ap (λ (b : List ℕ). adding (state_of p s cs) b (over (table_so_far p s cs) found)) own ∙ here, rw snoc at rest)

-- from any state
pub fills : (before : BuildState) (p s : ℕ) (found : List ℕ) (records : List (List ℕ)) (cs : List Condition) → Fillable p s cs
    → table_room (table_so_far p s cs) ≤ length found → Every (λ (r : List ℕ). length r ≡ record_size Plain) records
    → together records ≡ conditions_bytes Plain cs → length records ≡ length cs
    → (o : Opened p s records found (state_of p s cs) (over (table_so_far p s cs) found)) × (o.before ≡ before)
fills before p s found records cs f room four same long = (
  record {
    before = before;
    s₁ = state_of p s [];
    table₁ = over (table_so_far p s []) found;
    begins = begin_accepts before p s found f.prime f.weight (omega (arith, room));
    adds = all_accepted p s found records [] cs f room four same long;
  },
  refl,
)
