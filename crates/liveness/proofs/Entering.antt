-- Entering the gates one after the other: after k gates the first k entries are the last uses by these gates, and the others are as they were.
-- A gate more replaces the entries of the gates that it reads, and no gate so far reads it.
-- Assumes nothing.
use Rattle.std.proofs.Common.{◌≡◌, refl, sym, ap, ap₂, subst, ◌∙◌, Bool, true, false, List, [], ◌∷◌, ◌++◌, append_assoc, append-nil, ℕ, ◌+◌, ◌-◌, ◌≤◌, ◌<◌, zero-le, arith, length, take, drop, get_or, set, length-append, length-set, take-append-drop, length-take-le, drop-drop, drop-set-lt, ext_get_or, get_or-set_same, get_or-set_other, get_or-take}
use native.Mathlib.Decide.{ℕ_discrete}
use native.Mathlib.Nat.{sub-zero}
use Rattle.answer.specs.Outcome.{accepted}
use Rattle.answer.proofs.Outcome.{accepted_same}
use Rattle.circuit.specs.Every.{Every}
use Rattle.circuit.specs.Gate.{Gate}
use Rattle.circuit.specs.LastUse.{last_reader, last_use, last_uses}
use Rattle.circuit.specs.Operands.{operands, reads}
use Rattle.circuit.specs.Reading.{head_of, read_gate, read_gates, reading}
use Rattle.circuit.proofs.Every.{every_map}
use Rattle.circuit.proofs.Fitting.{Named, named}
use Rattle.circuit.proofs.LastUse.{or_else, one_more_gate, one_for_each}
use Rattle.circuit.proofs.Operands.{reads_lower}
use Rattle.circuit.proofs.Reading.{says}
use Rattle.records.specs.Operands.{operands_at, entered}
use Rattle.records.specs.Read.{gates_read}
use Rattle.records.proofs.Entered.{length_entered, entered_at, entered_after}
use Rattle.records.proofs.Read.{table_read, gates_read_lem, says_operands}
use Rattle.records.proofs.Records.{record_at, next_gate}
use Rattle.liveness.specs.UsesIn.{uses_in}

-- ---- one record after the other

-- k gates are entered
pub record Entering (table : List ℕ) (count : ℕ) (list₀ list : List ℕ) (k : ℕ) : Type 0 where
  pub few : k ≤ count
  pub size : length list ≡ length list₀
  pub done : List Gate
  pub rest : List Gate
  pub many : length done ≡ k
  pub whole : read_gates (head_of table) 0 count (drop 8 table) ≡ accepted (done ++ rest)
  pub left : read_gates (head_of table) k (count - k) (record_at table k) ≡ accepted rest
  pub uses : (i : ℕ) → i < k → get_or list i 0 ≡ last_use done i
  pub kept : drop k list ≡ drop k list₀
  pub unread : (i : ℕ) → k ≤ i → last_use done i ≡ i

pub begin : (table : List ℕ) (count : ℕ) (list : List ℕ) → gates_read (reading table) ≡ accepted count → Entering table count list list 0
unfolding last_reader
begin table count list e = record {
  few = zero-le;
  size = refl;
  done = [];
  rest = (table_read table count e).0.gates;
  many = refl;
  whole = gates_read_lem table count e;
  left = ap (λ (n : ℕ). read_gates (head_of table) 0 n (drop 8 table)) (sub-zero count) ∙ gates_read_lem table count e;
  uses = λ i l. absurd (omega arith);
  kept = refl;
  unread = λ i l. refl;
}

module _ {table : List ℕ} {count : ℕ} {list₀ list : List ℕ} {k : ℕ} (u : Entering table count list₀ list k) where
  module _ (less : k < count) (room : count ≤ length list₀) where
    -- the next gate, and the later ones
    next : (g : Gate) × (later : List Gate) × (u.rest ≡ g ∷ later) × (read_gate (head_of table) k (record_at table k) ≡ accepted g)
        × (read_gates (head_of table) (k + 1) (count - (k + 1)) (record_at table (k + 1)) ≡ accepted later)
    next = next_gate (head_of table) table count k u.rest less u.left

    abbrev gate : Gate
    gate = next.0

    -- its record says its operands, which are lower gates
    reads_these : operands_at (record_at table k) ≡ operands gate
    reads_these = says_operands (head_of table) k (record_at table k) gate next.3

    lower : Named k gate
    lower = named (head_of table) k gate (says (head_of table) k (record_at table k) gate next.3).fitted

    pub within : (bytes : List ℕ) → bytes ≡ record_at table k → Every (λ (i : ℕ). i < length list) (operands_at bytes)
    within bytes is =
        rw (is, reads_these) (every_map (λ (i : ℕ) (l : i < k). omega (arith, u.size)) (operands gate) lower)

    -- the list with the gate's operands entered, and then the gate itself
    abbrev during : List ℕ
    during = entered k (operands_at (record_at table k)) list

    abbrev after : List ℕ
    after = set during k k

    pub same_size : length during ≡ length list₀
    same_size = length_entered k (operands_at (record_at table k)) list ∙ u.size

    -- the last use once the gate is there
    used : (i : ℕ) → last_use (u.done ++ (gate ∷ [])) i ≡ or_else (reads i gate) k (last_use u.done i)
    used i = let same : 0 + length u.done ≡ k = omega (arith, u.many) in one_more_gate i i 0 u.done gate ∙ rw same

    -- a gate from k on is not read by it
    no_read : (i : ℕ) → k ≤ i → reads i gate ≡ false
    no_read i l = go (reads i gate) refl
      where
        go : (t : Bool) → reads i gate ≡ t → t ≡ false
        go true e = absurd (omega (arith, reads_lower i k gate lower e))
        go false e = refl

    one_more : Entering table count list₀ after (k + 1)
    one_more = record {
      few = omega arith;
      size = length-set during k k ∙ same_size;
      done = u.done ++ (gate ∷ []);
      rest = next.1;
      many = length-append u.done (gate ∷ []) ∙ omega (arith, u.many);
      whole = u.whole ∙ ap accepted (ap (λ (gs : List Gate). u.done ++ gs) next.2 ∙ sym (append_assoc u.done (gate ∷ []) next.1));
      left = next.4;
      uses = λ i l. entry i l (ℕ_discrete i k);
      kept = later;
      unread = λ i l. used i ∙ rw (no_read i (omega arith)) (u.unread i (omega arith));
    }
      where
        -- the gate's own entry, or that of an earlier one
        entry : (i : ℕ) → i < k + 1 → Dec (i ≡ k) → get_or after i 0 ≡ last_use (u.done ++ (gate ∷ [])) i
        entry i l (yes e) =
            rw e (get_or-set_same during k k 0 (omega (arith, same_size)) ∙ sym (used k ∙ rw (no_read k (omega arith)) (u.unread k (omega arith))))
        entry i l (no e) =
            get_or-set_other during k i k 0 e
            ∙ entered_at k (operands_at (record_at table k)) list i (omega (arith, u.size))
            ∙ rw (reads_these, u.uses i (omega arith)) (sym (used i))

        later : drop (k + 1) after ≡ drop (k + 1) list₀
        later =
            drop-set-lt (k + 1) during k k (omega arith)
            ∙ entered_after k (k + 1) (operands_at (record_at table k)) list below
            ∙ sym (drop-drop 1 k list)
            ∙ ap (drop 1) u.kept
            ∙ drop-drop 1 k list₀
          where
            below : Every (λ (i : ℕ). i < k + 1) (operands_at (record_at table k))
            below = rw reads_these (every_map (λ (i : ℕ) (l : i < k). omega arith) (operands gate) lower)

    pub turn : (bytes now : List ℕ) → bytes ≡ record_at table k → now ≡ entered k (operands_at bytes) list → Entering table count list₀ (set now k k) (k + 1)
    turn bytes now is e =
        let made : now ≡ during = e ∙ ap (λ (b : List ℕ). entered k (operands_at b) list) is in
        subst (λ (l : List ℕ). Entering table count list₀ (set l k k) (k + 1)) (sym made) one_more

  -- all gates are entered
  pub ended : gates_read (reading table) ≡ accepted count → count ≤ length list₀ → count ≤ k → list ≡ uses_in (reading table) ++ drop count list₀
  unfolding read_gates
  ended e room l =
      let t = table_read table count e in
      let none : count - k ≡ 0 = omega arith in
      let over : [] ≡ u.rest = accepted_same (rw none at u.left) in
      let all : u.done ≡ t.0.gates = sym (append-nil u.done) ∙ ap (λ (gs : List Gate). u.done ++ gs) over ∙ accepted_same (sym u.whole ∙ gates_read_lem table count e) in
      let same : k ≡ count = omega (arith, u.few) in
      rw (t.1, ← all) (sym (take-append-drop k list) ∙ ap₂ ◌++◌ front (ap (λ (n : ℕ). drop n list) same ∙ rw same at u.kept))
    where
      front : take k list ≡ last_uses u.done
      front =
          let size = length-take-le k list (omega (arith, u.size, u.few)) in
          let each = one_for_each u.done in
          ext_get_or 0 (take k list) (last_uses u.done) (omega (arith, size, each.0, u.many)) (λ i m.
          let low : i < k = omega (arith, size) in
          get_or-take k list i 0 low ∙ u.uses i low ∙ sym (each.1 i (omega (arith, u.many))))
