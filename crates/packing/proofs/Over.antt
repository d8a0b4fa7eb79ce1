-- Gates and depths of outputs, put one by one over zeros.
-- Assumes nothing.
use Rattle.std.proofs.Common.{◌≡◌, refl, ap, ap₂, sym, ◌∙◌, List, [], ◌∷◌, ◌++◌, map, ℕ, zero, suc, ◌<◌, length, get_or, take, drop, replicate, arith, le_of_suc-le-suc}
use Rattle.std.proofs.Math.ListN.{set, length-map}
use Rattle.std.proofs.Math.Seq.{take_all}
use Rattle.query.specs.Card.{most_conditions}
use Rattle.writer.specs.declared.Node.{Node}
use Rattle.packing.specs.Words.{padded}

-- those of the first k outputs, and the later entries of a list as they are
abbrev pub over : (Node → ℕ) → List Node → List ℕ → ℕ → List ℕ
over f outputs list k = map f (take k outputs) ++ drop k list

pub next : (f : Node → ℕ) (outputs : List Node) (d : Node) (list : List ℕ) (k : ℕ) → k < length outputs → k < length list
    → set (over f outputs list k) k (f (get_or outputs k d)) ≡ over f outputs list (suc k)
next f [] d list k l h = absurd (omega arith)
next f (o ∷ os) d [] k l h = absurd (omega arith)
next f (o ∷ os) d (x ∷ list) zero l h = refl
next f (o ∷ os) d (x ∷ list) (suc k) l h = ap (λ (t : List ℕ). f o ∷ t) (next f os d list k (le_of_suc-le-suc l) (le_of_suc-le-suc h))

-- all of them over eight zeros
pub whole : (f : Node → ℕ) (outputs : List Node) (k : ℕ) → length outputs ≡ k → over f outputs (replicate most_conditions 0) k ≡ padded (map f outputs)
whole f outputs k e =
    ap₂ (λ (front : List Node) (n : ℕ). map f front ++ drop n (replicate most_conditions 0)) (take_all k outputs (omega (arith, e)))
    (sym e ∙ sym (length-map outputs f))
