-- What finish answers and leaves, from the tests on the way and from what was written.
-- Assumes nothing.
use mathlib.Core.Path.{◌≡◌, ap, ◌∙◌}
use mathlib.Core.Bool.{true, false}
use mathlib.Core.List.{List}
use Prim.Native.Nat.{ℕ, ◌+◌, ◌-◌, ◌*◌, ◌≤◌, ◌<◌}
use native.Mathlib.Omega.{arith}
use borrow.Author.Tests.{le-ltb, lt-ltb, eq-eqb, ne_eqb}
use lib.ListN.{length}
use lib.Seq.{sets}
use Rattle.answer.specs.Outcome.{accepted}
use Rattle.circuit.specs.ProductTree.{product_tree}
use Rattle.circuit.specs.Segment as segment
use Rattle.circuit.specs.Table.{head_bytes, gates_bytes, most_gates}
use Rattle.circuit.proofs.Bounds.{counts_below}
use Rattle.circuit.proofs.ProductTree.{multiply_length}
use Rattle.filling.specs.Filling.{unchanged, head_of, extended, report_with, finishing}
use Rattle.filling.specs.State.{BuildState, no_build, is_closed}
use Rattle.writer.specs.Pen.{laid, Wrote}
use Rattle.writer.specs.declared.Pen.{Pen}
use Rattle.state.specs.State.{pen_of}
use Rattle.state.proofs.Open.{open_facts}
use Rattle.builder.specs.Report.{report_is}
use Rattle.filler.specs.Steps.{Finishable}

-- "31, add or finish with no build open", "or finish with none added"; "finish gives 11 likewise"
pub finish_closed : (s : BuildState) (table : List ℕ) → is_closed s ≡ true → finishing s table ≡ unchanged s table 31
finish_closed s table closed = rw closed

pub finish_none : (s : BuildState) (table : List ℕ) → is_closed s ≡ false → length s.outputs ≡ 0 → finishing s table ≡ unchanged s table 31
finish_none s table closed none = rw (closed, eq-eqb (length s.outputs) 0 none)

pub finish_short : (s : BuildState) (n : ℕ) (table : List ℕ) → is_closed s ≡ false → length s.outputs ≡ n → 1 ≤ n
    → length table < 8 * (s.gates + n) → finishing s table ≡ unchanged s table 11
finish_short s n table closed counted some short =
    let tree = product_tree s.gates s.outputs in
    let long : length tree.gates ≡ n - 1 = multiply_length _ s.gates s.outputs ∙ ap (λ (k : ℕ). k - 1) counted in
    let added = ne_eqb (length s.outputs) 0 (λ none. omega (arith, none, counted, some)) in
    rw (closed, added, lt-ltb (length table) (8 * (s.gates + length tree.gates + 1)) (omega (arith, short, long, some)))

module _ {s : BuildState} {n : ℕ} {table : List ℕ} (f : Finishable s n table) where
  abbrev tree : segment.Segment
  tree = product_tree s.gates s.outputs

  tree_length : length tree.gates ≡ n - 1
  tree_length = multiply_length _ s.gates s.outputs ∙ ap (λ (k : ℕ). k - 1) f.counted

  pub finished : finishing s table
      ≡ record { answer = accepted (report_with s tree); state = no_build; lent = extended s s.slots tree.gates table }
  finished =
      let some = ne_eqb (length s.outputs) 0 (λ none. omega (arith, none, f.counted, f.some)) in
      let room = le-ltb (length table) (8 * (s.gates + length tree.gates + 1)) (omega (arith, f.room, f.some, tree_length)) in
      rw (f.is_open, some, room)

  -- from what was written
  module _ {pen pen₂ : Pen} {table₁ table₂ : List ℕ} (same : pen ≡ pen_of s)
      (wrote : Wrote table₁ pen (product_tree pen.next s.outputs).gates table₂ pen₂) where
    written : Wrote table₁ (pen_of s) tree.gates table₂ pen₂
    written = rw same at wrote

    -- a gate is a product, a square or neither
    pub tree_counts : pen₂.products + pen₂.squares ≤ most_gates
    tree_counts =
        let o = open_facts s f.is_open in
        omega (arith, written.products, written.squares, counts_below tree.gates, tree_length, o.counts, o.gates, o.slots, f.few)

    pub tree_answers : {deep : ℕ} → deep ≡ (product_tree pen.next s.outputs).output.depth
        → accepted (report_is pen₂ deep s.weight) ≡ (finishing s table).answer
    tree_answers output = rw (finished, written.number, written.products, written.squares, output, same)

    pub tree_leaves : {last : ℕ} → last ≡ s.gates + n - 1 → table₁ ≡ sets table 0 (head_bytes (head_of s.prime s.weight s.slots) last)
        → table₂ ≡ (finishing s table).lent
    unfolding laid
    tree_leaves {last} l head =
        let last_is : last ≡ s.gates + length tree.gates = omega (arith, l, tree_length, f.some) in
        rw finished
        (written.bytes ∙ ap (λ (t : List ℕ). sets t (8 * (s.gates + 1)) (gates_bytes tree.gates))
        (head ∙ ap (λ (k : ℕ). sets table 0 (head_bytes (head_of s.prime s.weight s.slots) k)) last_is))
