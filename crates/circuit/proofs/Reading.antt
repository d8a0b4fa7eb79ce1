-- Reading bytes: a well-formed table's bytes read as that table, and whatever is read is such a table, byte for byte.
-- A record's eight bytes and its gate determine each other; the gates follow by induction on the records, the head by its rules one at a time.
-- Assumes nothing.
use mathlib.Core.Path.{◌≡◌, refl, sym, ap, ap₂, ◌∙◌}
use mathlib.Core.Bool.{Bool, true, false, not, ◌&&◌, and-true}
use mathlib.Core.List.{List, [], ◌∷◌, ◌++◌, append_assoc}
use Prim.Native.Nat.{ℕ, zero, suc, ◌+◌, ◌*◌, ◌/◌, ◌%◌, ◌≤◌}
use native.Mathlib.Omega.{arith}
use native.Mathlib.Nat.{le_refl, zero-add}
use borrow.Author.Tests.{eq-eqb, le-ltb, eqb-true, ltb-false, not-false}
use lib.Dec.{ltb, eqb}
use lib.ListN.{length, drop, length-append, length-drop}
use lib.Seq.{drop_at, drop-cons, drop-drop}
use Rattle.answer.specs.Outcome.{Answer, refused, accepted, on_answer}
use Rattle.answer.proofs.Outcome.{passed, answered, accepted_same, Places, numbered_is}
use Rattle.field.specs.Primes.{listed}
use Rattle.field.proofs.Primes.{listed_is_odd_prime}
use Rattle.field.proofs.Tests.{both, neither}
use Rattle.digits.specs.Number.{all_below}
use Rattle.digits.proofs.Number.{below_at, below_drop}
use Rattle.circuit.specs.Bytes.{Mark, byte, marked, wrong_mark, u16, u16_at}
use Rattle.circuit.specs.Constant.{is_constant, sixteen_bits}
use Rattle.circuit.specs.Gate.{Gate, Left, Right, Add, Sub, Scale, Flip, Mul, fields, kinds, gate_of, gate_mark, gate_bytes}
use Rattle.circuit.specs.Promises.{TableLength}
use Rattle.circuit.specs.Reading.{fitting, read_fields, read_gate, read_gates, slots_by, slots_at, head_of, count_of, read_head, read_table, reading}
use Rattle.circuit.specs.Table.{SlotCounts, Both, Each, both_mark, each_mark, head_mark_of, slot_bytes, wrong_slots, wrong_spare, Head, Table, head_bytes, gates_bytes, table_bytes, wrong_weight, wrong_gate_count, fits, all_fit}
use Rattle.circuit.proofs.Constant.{twos_complement}
use Rattle.circuit.proofs.Fitting.{fit_cons}
use Rattle.circuit.proofs.WellFormed.{WellFormed}

-- ---- from gates to bytes and back

-- the two bytes of a u16
whole : (x : ℕ) → x % 256 + 256 * (x / 256) ≡ x
whole x = omega arith

-- the gate of its own fields
gate_back : (head : Head) (k : ℕ) (g : Gate) → head.prime ≤ 0x10000 → fits head k g ≡ true
    → on_answer (gate_of (fields g).kind (fields g).a (fields g).b) refused (fitting head k (fields g).b) ≡ accepted g
gate_back head k (Left a) small t = rw t
gate_back head k (Right a) small t = rw t
gate_back head k (Add a b) small t = rw (t, eq-eqb b b refl)
gate_back head k (Sub a b) small t = rw (t, eq-eqb b b refl)
gate_back head k (Scale a c) small t =
    let back = (twos_complement.0 head.prime c small (both (ltb a k) (is_constant head.prime c) t).1).1 in
    rw back (rw (t, eq-eqb (sixteen_bits c) (sixteen_bits c) refl))
gate_back head k (Flip a) small t = rw t
gate_back head k (Mul a b) small t = rw (t, eq-eqb b b refl)

read_gate_lem : (head : Head) (k : ℕ) (g : Gate) (later : List ℕ) → head.prime ≤ 0x10000 → fits head k g ≡ true
    → read_gate head k (gate_bytes g ++ later) ≡ accepted g
read_gate_lem head k g later small t = rw (whole (fields g).a, whole (fields g).b) (gate_back head k g small t)

read_gates_lem : (head : Head) (k : ℕ) (gs : List Gate) (later : List ℕ) → head.prime ≤ 0x10000 → all_fit head k gs ≡ true
    → read_gates head k (length gs) (gates_bytes gs ++ later) ≡ accepted gs
unfolding read_gates gates_bytes
read_gates_lem head k [] later small t = refl
read_gates_lem head k (g ∷ gs) later small t =
    let s = fit_cons head k g gs t in
    rw (read_gate_lem head k g (gates_bytes gs ++ later) small s.0, read_gates_lem head (suc k) gs later small s.1)

pub length_gates : (gs : List Gate) → length (gates_bytes gs) ≡ 8 * length gs
unfolding gates_bytes
length_gates [] = refl
length_gates (g ∷ gs) = omega (arith, length_gates gs)

pub bytes_append : (gs hs : List Gate) → gates_bytes (gs ++ hs) ≡ gates_bytes gs ++ gates_bytes hs
unfolding gates_bytes
bytes_append [] hs = refl
bytes_append (g ∷ gs) hs = ap (λ (t : List ℕ). gate_bytes g ++ t) (bytes_append gs hs)

module _ (head : Head) (count : ℕ) where
  -- the bytes of a head by its slot counts, of which there are two sorts
  abbrev bytes_by : SlotCounts → List ℕ
  bytes_by slots = marked (head_mark_of slots) (head.prime ∷ head.weight ∷ (slot_bytes slots ++ u16 count []))

  pub head_length : length (head_bytes head count) ≡ 8
  head_length = go head.slots
    where
      go : (slots : SlotCounts) → length (bytes_by slots) ≡ 8
      go (Both n) = refl
      go (Each l r) = refl

  -- a head's count, and the head itself, are read from its bytes
  count_back : (later : List ℕ) → count_of (head_bytes head count ++ later) ≡ count
  count_back later = go head.slots
    where
      go : (slots : SlotCounts) → count_of (bytes_by slots ++ later) ≡ count
      go (Both n) = whole count
      go (Each l r) = whole count

  head_back : (later : List ℕ) → listed head.prime ≡ true → wrong_weight head.weight ≡ false → wrong_slots head.slots ≡ false
      → wrong_gate_count count ≡ false → 8 * count ≤ length later → read_head (head_bytes head count ++ later) ≡ accepted head
  head_back later prime weight slots gates room = go head.slots slots
    where
      -- the head's eight bytes are there, and those of its gates
      long : (slots : SlotCounts) (n : ℕ) → n ≤ 8 * (count + 1) → ltb (length (bytes_by slots ++ later)) n ≡ false
      long (Both m) n l = le-ltb (length (bytes_by (Both m) ++ later)) n (omega arith)
      long (Each a b) n l = le-ltb (length (bytes_by (Each a b) ++ later)) n (omega arith)

      least : 8 ≤ 8 * (count + 1)
      least = omega arith

      go : (slots : SlotCounts) → wrong_slots slots ≡ false
          → read_head (bytes_by slots ++ later) ≡ accepted (record { prime = head.prime; weight = head.weight; slots = slots })
      go (Both n) t = rw (long (Both n) 8 least, prime, weight, t, whole count, gates, long (Both n) _ (le_refl _))
      go (Each l r) t = rw (long (Each l r) 8 least, prime, weight, t, whole count, gates, long (Each l r) _ (le_refl _))

pub table_length : TableLength
table_length table =
    let head = head_bytes table.head (length table.gates) in
    omega (arith, length-append head (gates_bytes table.gates), head_length table.head (length table.gates), length_gates table.gates)

-- the gates of a table stand after its head
pub after_head : (table : Table) (later : List ℕ) → drop 8 (table_bytes table ++ later) ≡ gates_bytes table.gates ++ later
after_head table later =
    let head = head_bytes table.head (length table.gates) in
    ap (drop 8) (append_assoc head (gates_bytes table.gates) later)
    ∙ drop_at head (gates_bytes table.gates ++ later) 8 (head_length table.head (length table.gates))

pub read_table_lem : (table : Table) (later : List ℕ) → WellFormed table → reading (table_bytes table ++ later) ≡ accepted table
read_table_lem table later w =
    let count : ℕ = length table.gates in
    let head = head_bytes table.head count in
    let rest = gates_bytes table.gates ++ later in
    let size = length-append (gates_bytes table.gates) later in
    let room : 8 * count ≤ length rest = omega (arith, size, length_gates table.gates) in
    let prime = ((listed_is_odd_prime table.head.prime).0 w.prime).high in
    let gates = read_gates_lem table.head 0 table.gates later (omega arith) w.fitted in
    ap reading (append_assoc head (gates_bytes table.gates) later)
    ∙ ap (λ (r : Answer Head). on_answer r refused (read_table (head ++ rest)))
    (head_back table.head count rest w.prime w.weight w.slots w.count room)
    ∙ rw (count_back table.head count rest, drop_at head rest 8 (head_length table.head count), gates)

-- ---- from bytes to gates

-- bytes that open with a mark have it
pub mark_back : (mark : Mark) (later : List ℕ) → wrong_mark mark (marked mark later) ≡ false
mark_back mark later = rw (eq-eqb mark.opening mark.opening refl, eq-eqb mark.closing mark.closing refl)

pub mark_is : (mark : Mark) (bytes : List ℕ) → wrong_mark mark bytes ≡ false → (byte bytes 0 ≡ mark.opening) × (byte bytes 1 ≡ mark.closing)
mark_is mark bytes t =
    let s = neither (not (eqb (byte bytes 0) mark.opening)) (not (eqb (byte bytes 1) mark.closing)) t in
    (eqb-true _ _ (not-false _ s.0), eqb-true _ _ (not-false _ s.1))

-- a gate of a kind, over a
abbrev IsKind : ℕ → ℕ → Gate → Type 0
IsKind a kind g = ((fields g).kind ≡ kind) × ((fields g).a ≡ a)

in_order : (a b : ℕ) → Places (IsKind a) 0 (kinds a b)
in_order a b = omega arith

-- a gate that passed 17 keeps the rules, has its record's b, and is what was read
pub fitting_is : (head : Head) (k b : ℕ) (g h : Gate) → fitting head k b g ≡ accepted h → (fits head k g ≡ true) × ((fields g).b ≡ b) × (g ≡ h)
fitting_is head k b g h e =
    let answer : Answer Gate → Answer Gate = λ r. r in
    let operand = passed answer (not (fits head k g && eqb b (fields g).b)) (refused 17) _ refl e in
    let kept = both (fits head k g) (eqb b (fields g).b) (not-false _ operand.0) in
    (kept.0, sym (eqb-true _ _ kept.1), accepted_same operand.1)

-- a record whose gate was read passed 2 and 5, and its fields are read as the gate
pub fields_read : (head : Head) (k : ℕ) (bytes : List ℕ) (g : Gate) → read_gate head k bytes ≡ accepted g
    → (wrong_mark gate_mark bytes ≡ false) × (byte bytes 3 ≡ 0) × (read_fields head k (byte bytes 2) (u16_at bytes 4) (u16_at bytes 6) ≡ accepted g)
fields_read head k bytes g e =
    let answer : Answer Gate → Answer Gate = λ r. r in
    let mark = passed answer (wrong_mark gate_mark bytes) (refused 2) _ refl e in
    let spare = passed answer (not (eqb (byte bytes 3) 0)) (refused 5) _ refl mark.1 in
    (mark.0, eqb-true _ _ (not-false _ spare.0), spare.1)

-- what a record says whose gate was read
pub record Says (head : Head) (k : ℕ) (bytes : List ℕ) (g : Gate) : Type 0 where
  pub mark : (byte bytes 0 ≡ gate_mark.opening) × (byte bytes 1 ≡ gate_mark.closing)
  pub spare : byte bytes 3 ≡ 0
  pub kind : (fields g).kind ≡ byte bytes 2
  pub a : (fields g).a ≡ u16_at bytes 4
  pub b : (fields g).b ≡ u16_at bytes 6
  pub fitted : fits head k g ≡ true

pub says : (head : Head) (k : ℕ) (bytes : List ℕ) (g : Gate) → read_gate head k bytes ≡ accepted g → Says head k bytes g
says head k bytes g e =
    let read = fields_read head k bytes g e in
    let kind = answered (gate_of (byte bytes 2) (u16_at bytes 4) (u16_at bytes 6)) (fitting head k (u16_at bytes 6)) read.2 in
    let operand = fitting_is head k (u16_at bytes 6) kind.0 g kind.2 in
    let same : kind.0 ≡ g = operand.2 in
    let a = u16_at bytes 4 in
    let b = u16_at bytes 6 in
    let told = numbered_is (IsKind a) 0 16 (byte bytes 2) (kinds a b) kind.0 (in_order a b) kind.1 in
    record {
      mark = mark_is gate_mark bytes read.0;
      spare = read.1;
      kind = ap (λ g. (fields g).kind) (sym same) ∙ told.0 ∙ zero-add _;
      a = ap (λ g. (fields g).a) (sym same) ∙ told.1;
      b = ap (λ g. (fields g).b) (sym same) ∙ operand.1;
      fitted = ap (fits head k) (sym same) ∙ operand.0;
    }

-- eight bytes and those after them
pub eight : (bytes : List ℕ) → 8 ≤ length bytes
    → bytes ≡ byte bytes 0 ∷ byte bytes 1 ∷ byte bytes 2 ∷ byte bytes 3 ∷ byte bytes 4 ∷ byte bytes 5 ∷ byte bytes 6 ∷ byte bytes 7 ∷ drop 8 bytes
eight bytes h =
    drop-cons bytes 0 0 (omega arith)
    ∙ rw (drop-cons bytes 1 0 (omega arith), drop-cons bytes 2 0 (omega arith), drop-cons bytes 3 0 (omega arith), drop-cons bytes 4 0 (omega arith))
    (rw (drop-cons bytes 5 0 (omega arith), drop-cons bytes 6 0 (omega arith), drop-cons bytes 7 0 (omega arith)))

-- the two bytes of a u16 that was read
u16_bytes : (bytes : List ℕ) (i x : ℕ) → all_below 256 bytes ≡ true → x ≡ u16_at bytes i
    → (x % 256 ≡ byte bytes i) × (x / 256 ≡ byte bytes (i + 1))
u16_bytes bytes i x h e =
    let low = below_at 256 bytes i (omega arith) h in
    let high = below_at 256 bytes (i + 1) (omega arith) h in
    (omega (arith, low, high), omega (arith, low, high))

-- the bytes of a gate that was read
gate_bytes_lem : (head : Head) (k : ℕ) (bytes : List ℕ) (g : Gate) → 8 ≤ length bytes → all_below 256 bytes ≡ true → Says head k bytes g
    → bytes ≡ gate_bytes g ++ drop 8 bytes
gate_bytes_lem head k bytes g l h s =
    let a = u16_bytes bytes 4 (fields g).a h s.a in
    let b = u16_bytes bytes 6 (fields g).b h s.b in
    eight bytes l ∙ rw (s.mark.0, s.mark.1, s.spare, s.kind, a.0, a.1, b.0, b.1)

-- the first gate, and the others
pub gates_cons : (head : Head) (k count : ℕ) (bytes : List ℕ) (gs : List Gate) → read_gates head k (suc count) bytes ≡ accepted gs
    → (g : Gate) × (later : List Gate) × (gs ≡ g ∷ later) × (read_gate head k bytes ≡ accepted g)
    × (read_gates head (suc k) count (drop 8 bytes) ≡ accepted later)
unfolding read_gates
gates_cons head k count bytes gs e =
    let first = answered (read_gate head k bytes) _ e in
    let others = answered (read_gates head (suc k) count (drop 8 bytes)) _ first.2 in
    (first.0, others.0, sym (accepted_same others.2), first.1, others.1)

-- the gates that were read are as many as there should be, and each fits
pub gates_fit : (head : Head) (k count : ℕ) (bytes : List ℕ) (gs : List Gate) → read_gates head k count bytes ≡ accepted gs
    → (length gs ≡ count) × (all_fit head k gs ≡ true)
unfolding read_gates all_fit
gates_fit head k zero bytes gs e = rw (← accepted_same e) (refl, refl)
gates_fit head k (suc count) bytes gs e =
    let s = gates_cons head k count bytes gs e in
    let later = gates_fit head (suc k) count (drop 8 bytes) s.1 s.4 in
    rw s.2 (ap suc later.0, rw (says head k bytes s.0 s.3).fitted later.1)

-- and their bytes are those that were lent
gates_bytes_lem : (head : Head) (k count : ℕ) (bytes : List ℕ) (gs : List Gate) → 8 * count ≤ length bytes → all_below 256 bytes ≡ true
    → read_gates head k count bytes ≡ accepted gs → bytes ≡ gates_bytes gs ++ drop (8 * count) bytes
unfolding read_gates gates_bytes
gates_bytes_lem head k zero bytes gs l h e = rw (← accepted_same e) refl
gates_bytes_lem head k (suc count) bytes gs l h e =
    let s = gates_cons head k count bytes gs e in
    let room : 8 * count ≤ length (drop 8 bytes) = rw length-drop (omega arith) in
    let later = gates_bytes_lem head (suc k) count (drop 8 bytes) s.1 room (below_drop 256 bytes 8 h) s.4 in
    let size : 8 * suc count ≡ 8 + 8 * count = omega arith in
    let end : drop (8 * count) (drop 8 bytes) ≡ drop (8 * suc count) bytes = rw size (drop-drop (8 * count) 8 bytes) in
    gate_bytes_lem head k bytes s.0 (omega arith) h (says head k bytes s.0 s.3)
    ∙ ap (λ (l : List ℕ). gate_bytes s.0 ++ l) later
    ∙ ap₂ (λ (gs : List Gate) (l : List ℕ). gates_bytes gs ++ l) (sym s.2) end

-- every rule that an accepted head has passed
pub record Heads (bytes : List ℕ) : Type 0 where
  pub mark : (byte bytes 0 ≡ (head_mark_of (slots_at bytes)).opening) × (byte bytes 1 ≡ (head_mark_of (slots_at bytes)).closing)
  pub prime : listed (head_of bytes).prime ≡ true
  pub weight : wrong_weight (head_of bytes).weight ≡ false
  pub slots : wrong_slots (slots_at bytes) ≡ false
  pub places : slot_bytes (slots_at bytes) ≡ byte bytes 4 ∷ byte bytes 5 ∷ []
  pub count : wrong_gate_count (count_of bytes) ≡ false
  pub room : 8 * (count_of bytes + 1) ≤ length bytes

-- the mark is that of the slot counts, which are told by it
slots_mark : (bytes : List ℕ) → (wrong_mark both_mark bytes && wrong_mark each_mark bytes) ≡ false
    → (byte bytes 0 ≡ (head_mark_of (slots_at bytes)).opening) × (byte bytes 1 ≡ (head_mark_of (slots_at bytes)).closing)
slots_mark bytes t = go (wrong_mark each_mark bytes) refl t
  where
    go : (other : Bool) → wrong_mark each_mark bytes ≡ other → (wrong_mark both_mark bytes && other) ≡ false
        → let mark = head_mark_of (slots_by other (byte bytes 4) (byte bytes 5)) in
        (byte bytes 0 ≡ mark.opening) × (byte bytes 1 ≡ mark.closing)
    go true e t = mark_is both_mark bytes (rw and-true at t)
    go false e t = mark_is each_mark bytes e

-- and bytes 4 and 5 are theirs
slots_bytes : (bytes : List ℕ) → wrong_spare (slots_at bytes) (byte bytes 5) ≡ false → slot_bytes (slots_at bytes) ≡ byte bytes 4 ∷ byte bytes 5 ∷ []
slots_bytes bytes t = go (wrong_mark each_mark bytes) t
  where
    go : (other : Bool)
        → let slots = slots_by other (byte bytes 4) (byte bytes 5) in
        wrong_spare slots (byte bytes 5) ≡ false → slot_bytes slots ≡ byte bytes 4 ∷ byte bytes 5 ∷ []
    go true t = ap (λ (spare : ℕ). byte bytes 4 ∷ spare ∷ []) (sym (eqb-true _ _ (not-false _ t)))
    go false t = refl

pub heads : (bytes : List ℕ) (head : Head) → read_head bytes ≡ accepted head → Heads bytes × (head_of bytes ≡ head)
heads bytes head e =
    let answer : Answer Head → Answer Head = λ r. r in
    let least = passed answer (ltb (length bytes) 8) (refused 12) _ refl e in
    let mark = passed answer (wrong_mark both_mark bytes && wrong_mark each_mark bytes) (refused 2) _ refl least.1 in
    let prime = passed answer (not (listed (head_of bytes).prime)) (refused 3) _ refl mark.1 in
    let weight = passed answer (wrong_weight (head_of bytes).weight) (refused 4) _ refl prime.1 in
    let slots = passed answer (wrong_slots (head_of bytes).slots) (refused 13) _ refl weight.1 in
    let spare = passed answer (wrong_spare (head_of bytes).slots (byte bytes 5)) (refused 5) _ refl slots.1 in
    let count = passed answer (wrong_gate_count (count_of bytes)) (refused 14) _ refl spare.1 in
    let room = passed answer (ltb (length bytes) (8 * (count_of bytes + 1))) (refused 15) _ refl count.1 in
    let kept : Heads bytes = record {
      mark = slots_mark bytes mark.0;
      prime = not-false (listed (head_of bytes).prime) prime.0;
      weight = weight.0;
      slots = slots.0;
      places = slots_bytes bytes spare.0;
      count = count.0;
      room = ltb-false _ _ room.0;
    } in
    (kept, accepted_same room.1)

-- and accepted bytes, with what was read
pub record Reads (bytes : List ℕ) (table : Table) : Type 0 where
  pub kept : Heads bytes
  pub head : table.head ≡ head_of bytes
  pub count : length table.gates ≡ count_of bytes
  pub gates : read_gates (head_of bytes) 0 (count_of bytes) (drop 8 bytes) ≡ accepted table.gates
  pub formed : WellFormed table

pub reads : (bytes : List ℕ) (table : Table) → reading bytes ≡ accepted table → Reads bytes table
reads bytes table e =
    let first = answered (read_head bytes) (read_table bytes) e in
    let h = heads bytes first.0 first.1 in
    let read : read_table bytes (head_of bytes) ≡ accepted table = ap (read_table bytes) h.1 ∙ first.2 in
    let gates = answered (read_gates (head_of bytes) 0 (count_of bytes) (drop 8 bytes)) _ read in
    let same : record { head = head_of bytes; gates = gates.0 } ≡ table = accepted_same gates.2 in
    let fit = gates_fit (head_of bytes) 0 (count_of bytes) (drop 8 bytes) gates.0 gates.1 in
    rw (← same) (record {
      kept = h.0;
      head = refl;
      count = fit.0;
      gates = gates.1;
      formed = record {
        prime = h.0.prime;
        weight = h.0.weight;
        slots = h.0.slots;
        count = rw fit.0 h.0.count;
        fitted = fit.1;
      };
    })

-- the first eight bytes are those of a head
head_bytes_lem : (bytes : List ℕ) (slots : SlotCounts) (count : ℕ) → 8 ≤ length bytes
    → (byte bytes 0 ≡ (head_mark_of slots).opening) × (byte bytes 1 ≡ (head_mark_of slots).closing)
    → slot_bytes slots ≡ byte bytes 4 ∷ byte bytes 5 ∷ [] → (count % 256 ≡ byte bytes 6) × (count / 256 ≡ byte bytes 7)
    → bytes ≡ head_bytes (record { prime = byte bytes 2; weight = byte bytes 3; slots = slots }) count ++ drop 8 bytes
head_bytes_lem bytes slots count l mark places gates =
    eight bytes l ∙ rw (mark.0, mark.1, places, gates.0, gates.1)

pub bytes_read : (bytes : List ℕ) (table : Table) → all_below 256 bytes ≡ true → Reads bytes table
    → bytes ≡ table_bytes table ++ drop (8 * (length table.gates + 1)) bytes
bytes_read bytes table h r =
    let count = length table.gates in
    let last = drop (8 * (count + 1)) bytes in
    let size : 8 * (count + 1) ≡ 8 + 8 * count_of bytes = omega (arith, r.count) in
    let room : 8 * count_of bytes ≤ length (drop 8 bytes) = rw length-drop (omega (arith, r.kept.room)) in
    let gates : drop 8 bytes ≡ gates_bytes table.gates ++ last
    = gates_bytes_lem (head_of bytes) 0 (count_of bytes) (drop 8 bytes) table.gates room (below_drop 256 bytes 8 h) r.gates
    ∙ rw (size, drop-drop (8 * count_of bytes) 8 bytes) in
    head_bytes_lem bytes (slots_at bytes) count (omega (arith, r.kept.room)) r.kept.mark r.kept.places (u16_bytes bytes 6 count h r.count)
    ∙ ap₂ (λ (head : Head) (l : List ℕ). head_bytes head count ++ l) (sym r.head) gates
    ∙ sym (append_assoc (head_bytes table.head count) (gates_bytes table.gates) last)
