-- One turn of the loop over the gates: the gate that is read adds its depth, and what is left to read still gives the depth of the last one.
-- Assumes nothing.
use Rattle.std.proofs.Common.{◌≡◌, sym, ap, subst, ◌∙◌, List, [], ◌∷◌, ◌++◌, ℕ, zero, suc, ◌+◌, ◌-◌, ◌≤◌, ◌<◌, arith, add-zero, add-one, length, take, drop, get_or, set, length-append, length-set, take-suc-set, length-take-le, get_or-take, get_or-append-add}
use native.Mathlib.Decide.{dec_lt}
use lib.ListN.{get_or-append}
use Rattle.answer.specs.Outcome.{Answer, refused, accepted}
use Rattle.answer.proofs.Outcome.{answered, was_refused, accepted_same}
use Rattle.circuit.specs.Gate.{Gate}
use Rattle.circuit.specs.Meaning.{interpret}
use Rattle.circuit.specs.Reading.{read_gate, read_gates}
use Rattle.circuit.specs.Table.{Head, most_gates}
use Rattle.circuit.proofs.Bounds.{depth_below}
use Rattle.circuit.proofs.Fitting.{named}
use Rattle.circuit.proofs.Reading.{says}
use Rattle.gates.specs.GateDepth.{depth_of, depth_read, AreLow}
use Rattle.circuit.proofs.Records.{one_less}
use Rattle.records.proofs.Records.{record_at, lent_at, lent_is, next_record}
use Rattle.reader.proofs.Depths.{depth_after, deepened, next_gate, stops, ends}

-- the depths, with one more that is no deeper than its number
low_more : (earlier : List ℕ) (d : ℕ) → AreLow earlier → length earlier < most_gates → d ≤ length earlier → AreLow (earlier ++ (d ∷ []))
low_more earlier d low room h = (rw length-append (omega arith), each)
  where
    last : (j : ℕ) → get_or (d ∷ []) j 0 ≤ length earlier + j
    last zero = omega arith
    last (suc j) = omega arith

    go : (i : ℕ) → Dec (i < length earlier) → get_or (earlier ++ (d ∷ [])) i 0 ≤ i
    go i (yes l) = rw (get_or-append earlier (d ∷ []) 0 i l) (low.1 i)
    go i (no l) =
        let j : i ≡ length earlier + (i - length earlier) = omega arith in
        rw j (rw (get_or-append-add earlier (d ∷ []) (i - length earlier) 0) (last (i - length earlier)))

    each : (i : ℕ) → get_or (earlier ++ (d ∷ [])) i 0 ≤ i
    each i = go i (dec_lt i (length earlier))

-- what is known between two turns: k records of count are read
pub record Deepens (head : Head) (table : List ℕ) (count k : ℕ) (depths : List ℕ) (whole : Answer ℕ) : Type 0 where
  pub most : k ≤ count
  pub long : count ≤ length depths
  pub low : AreLow (take k depths)
  pub goes : depth_after (take k depths) (read_gates head k (count - k) (record_at table k)) ≡ whole

-- all records are read
pub finishes : (head : Head) (table : List ℕ) (count k : ℕ) (depths : List ℕ) (whole : Answer ℕ)
    → 1 ≤ count → count ≤ k → Deepens head table count k depths whole → accepted (get_or depths (count - 1) 0) ≡ whole
unfolding interpret
finishes head table n k depths whole some most c =
    let all : k ≡ n = omega (arith, c.most) in
    let none : n - k ≡ 0 = omega arith in
    let size : length (take k depths) ≡ n = length-take-le k depths (omega (arith, c.long)) ∙ all in
    let deep : get_or (take k depths) (n - 1) 0 ≡ get_or depths (n - 1) 0 = get_or-take k depths (n - 1) 0 (omega arith) in
    ap accepted (rw (← deep) (rw (size, add-zero n))) ∙ sym (ends head k (record_at table k) (take k depths)) ∙ rw none at c.goes

module _ (head : Head) (table : List ℕ) (count k : ℕ) (depths : List ℕ) (whole : Answer ℕ)
    (l : k < count) (h : count ≤ most_gates) (c : Deepens head table count k depths whole) where
  size : length (take k depths) ≡ k
  size = length-take-le k depths (omega (arith, c.long))

  -- the answer on the record, read as the rest of the table from it on
  abbrev told : Answer Gate
  told = read_gate head (length (take k depths)) (lent_at table k)

  told_is : told ≡ read_gate head k (record_at table k)
  told_is = rw (size, lent_is table k)

  pub refuses : (n : ℕ) → refused n ≡ depth_read (take k depths) told → refused n ≡ whole
  refuses n e =
      let gate = sym told_is ∙ was_refused n told (depth_of (take k depths)) e in
      sym (stops head k (count - (k + 1)) (record_at table k) (take k depths) n gate)
      ∙ ap (λ (i : ℕ). depth_after (take k depths) (read_gates head k i (record_at table k))) (sym (one_less count k l)) ∙ c.goes

  -- a gate that is read
  module _ (g : Gate) (e : read_gate head k (record_at table k) ≡ accepted g) where
    abbrev deep : ℕ
    deep = depth_of (take k depths) g

    more : take (k + 1) (set depths k deep) ≡ deepened (take k depths) g
    more = rw add-one (take-suc-set depths k deep (omega (arith, c.long)))

    below : deep ≤ k
    below =
        let fit = named head k g (says head k (record_at table k) g e).fitted in
        depth_below (λ i. get_or (take k depths) i 0) k (λ i h. c.low.1 i) g fit

    going : depth_after (deepened (take k depths) g) (read_gates head (k + 1) (count - (k + 1)) (drop 8 (record_at table k))) ≡ whole
    going = sym (next_gate head k (count - (k + 1)) (record_at table k) (take k depths) g e) ∙ rw (one_less count k l) at c.goes

    one_more : Deepens head table count (k + 1) (set depths k deep) whole
    one_more = record {
      most = omega arith;
      long = rw length-set c.long;
      low = rw more (low_more (take k depths) deep c.low (omega (arith, size)) (omega (arith, size, below)));
      goes = rw (more, next_record table k) going;
    }

  pub adds : (d : ℕ) → accepted d ≡ depth_read (take k depths) told → Deepens head table count (k + 1) (set depths k d) whole
  adds d e =
      let g = answered told _ (sym e) in
      subst (λ (x : ℕ). Deepens head table count (k + 1) (set depths k x) whole) (accepted_same g.2) (one_more g.0 (sym told_is ∙ g.1))
