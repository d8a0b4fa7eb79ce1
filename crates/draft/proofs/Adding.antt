-- The conditions of a card written one after the other: what is known between two turns, and how a turn goes.
-- What is written is a draft, and the conditions that are left make it the draft of all, by any tests of order digits.
-- Assumes nothing.
use mathlib.Core.Path.{◌≡◌, refl, sym, ap, ap₂, ◌∙◌}
use mathlib.Core.List.{List, [], ◌∷◌, ◌++◌, map, map-append}
use Prim.Native.Nat.{ℕ, ◌+◌, ◌≤◌, ◌<◌, zero-le}
use native.Mathlib.Omega.{arith}
use native.Mathlib.Numerals.{add-one}
use lib.ListN.{length, take, drop, set, length-append, drop_of_length-le}
use lib.Seq.{take-suc-set}
use Rattle.circuit.specs.Segment as segment
use Rattle.comparison.specs.Condition.{Condition, unweighed}
use Rattle.comparison.specs.Tests.{Tests}
use Rattle.comparison.specs.Writing.{condition_by}
use Rattle.comparison.proofs.Condition.{weighs_nothing}
use Rattle.query.specs.Whole.{Draft, begin, add, add_all, draft_of}
use Rattle.query.proofs.Whole.{all_more}
use Rattle.card.specs.declared.Record.{Record}
use Rattle.card.specs.Parts.{record_is}
use Rattle.card.specs.Conditions.{IsRecord}
use Rattle.writer.specs.Nodes.{node_is}
use Rattle.writer.specs.declared.Node.{Node}
use Rattle.writer.specs.declared.Pen.{Pen}
use Rattle.writer.specs.declared.Writer.{Writer}
use Rattle.writer.specs.Pen.{fresh}
use Rattle.writer.specs.Writing.{Writes}
use Rattle.writer.proofs.Writing.{idle, same_writes, follows}

-- k conditions are written, by a writer that had written nothing before
pub record Adds (t : Tests) (p : ℕ) (cs : List Condition) (w₀ w : Writer) (k : ℕ) (nodes : List Node) : Type 0 where
  -- the draft that is written
  pub draft : Draft
  pub starts : w₀.pen ≡ fresh
  pub wrote : Writes w₀ draft.gates w
  pub outputs : map node_is (take k nodes) ≡ draft.outputs
  -- the conditions that are left make it the draft of all
  pub all : add_all t p draft (drop k cs) ≡ draft_of t p cs

pub begins : (t : Tests) (p : ℕ) (cs : List Condition) (w : Writer) (nodes : List Node) → w.pen ≡ fresh → Adds t p cs w w 0 nodes
begins t p cs w nodes e = record {
  draft = begin;
  starts = e;
  wrote = idle (rw e zero-le) (rw e zero-le);
  outputs = refl;
  all = refl;
}

-- nothing is left
pub ends : (t : Tests) (p : ℕ) (cs : List Condition) (w₀ w : Writer) (k : ℕ) (nodes : List Node) → length cs ≤ k → Adds t p cs w₀ w k nodes
    → Writes w₀ (draft_of t p cs).gates w × (map node_is (take k nodes) ≡ (draft_of t p cs).outputs)
unfolding add_all
ends t p cs w₀ w k nodes h a =
    let whole : a.draft ≡ draft_of t p cs = ap (add_all t p a.draft) (sym (drop_of_length-le cs h)) ∙ a.all in
    (same_writes (ap (λ (d : Draft). d.gates) whole) a.wrote, a.outputs ∙ ap (λ (d : Draft). d.outputs) whole)

module _ (t : Tests) (p : ℕ) (cs : List Condition) (w₀ w : Writer) (k : ℕ) (nodes : List Node)
    (a : Adds t p cs w₀ w k nodes) (r : Record) (is : IsRecord cs k r) where
  -- the condition at hand, and those after it
  abbrev c : Condition
  c = record_is r

  abbrev after : List Condition
  after = drop (k + 1) cs

  -- its gates, as they are written: its weight has no part in them
  abbrev own : segment.Segment
  own = condition_by t p (unweighed c) w.pen.next

  -- the pen stands after the draft
  next_is : w.pen.next ≡ length a.draft.gates
  next_is = a.wrote.wrote.number ∙ ap (λ (n : ℕ). n + length a.draft.gates) (ap (λ (pen : Pen). pen.next) a.starts) ∙ omega arith

  own_is : own ≡ condition_by t p c (length a.draft.gates)
  own_is = weighs_nothing t p c w.pen.next ∙ ap (condition_by t p c) next_is

  -- with this condition, and with those after it
  abbrev longer : Draft
  longer = add t p a.draft c

  all_after : add_all t p longer after ≡ draft_of t p cs
  unfolding add_all
  all_after = ap (add_all t p a.draft) (sym is) ∙ a.all

  pub fits : w.pen.next + length own.gates ≤ length (draft_of t p cs).gates
  fits =
      omega (
        arith,
        next_is,
        ap (λ (s : segment.Segment). length s.gates) own_is,
        length-append a.draft.gates (condition_by t p c (length a.draft.gates)).gates,
        all_more t p longer after,
        ap (λ (d : Draft). length d.gates) all_after,
      )

  -- one condition more
  pub adds : (w' : Writer) (node : Node) → Writes w own.gates w' → node_is node ≡ own.output → k < length nodes
      → Adds t p cs w₀ w' (k + 1) (set nodes k node)
  adds w' node wrote o l = record {
    draft = longer;
    starts = a.starts;
    wrote = follows a.wrote (same_writes (ap (λ (s : segment.Segment). s.gates) own_is) wrote);
    outputs =
        ap (map node_is) (ap (λ (n : ℕ). take n (set nodes k node)) (add-one k) ∙ take-suc-set nodes k node l)
        ∙ map-append node_is (take k nodes) (node ∷ [])
        ∙ ap₂ (λ (before : List segment.Node) (last : segment.Node). before ++ (last ∷ [])) a.outputs
        (o ∙ ap (λ (s : segment.Segment). s.output) own_is);
    all = all_after;
  }
