use Rattle.std.proofs.Common.{◌≡◌, [], ◌∷◌, map, refl, ap, ◌∙◌, arith, length, get_or}
use Rattle.std.proofs.Math.ListN.{length-map}
use Rattle.circuit.specs.Constant.{Constant, signed}
use Rattle.circuit.specs.Gate.{Scale, Add}
use Rattle.card.specs.Conditions.{conditions_of}
use Rattle.card.proofs.ReadAs.{as_many}
use Rattle.writer.proofs.Writing.{same_writes}
use Rattle.writer.specs.Nodes.{node_is}
use Rattle.draft.proofs.Prime.{prime_usable, weight_read}
use Rattle.draft.proofs.Scoring.{adds, ends, output_at}
use Rattle.draft.proofs.put_score.Goals as goal

pub bounds-outputs-0 : goal.bounds-outputs-0
bounds-outputs-0 c =
    let card = c.args.card in omega (arith, c.requires.endable.outputs, as_many card.bytes.now card.head card.read)

pub weight-requires : goal.weight-requires
weight-requires c = let card = c.args.card in omega (arith, as_many card.bytes.now card.head card.read)

pub bits_of-b-requires : goal.bits_of-b-requires
bits_of-b-requires c =
    let card = c.args.card in (omega (arith, c.from.ensures), (prime_usable card.bytes.now card.head card.read).1)

pub put-requires : goal.put-requires
put-requires c =
    let card = c.args.card in omega (arith, c.requires.endable.room, as_many card.bytes.now card.head card.read)

pub bits_of-b-requires-in-loop-k : goal.bits_of-b-requires-in-loop-k
bits_of-b-requires-in-loop-k c =
    let card = c.args.card in (omega (arith, c.from-in-loop-k.ensures), (prime_usable card.bytes.now card.head card.read).1)

pub loop-k-preserved : goal.loop-k-preserved
loop-k-preserved c =
    let card = c.args.card in
    let nodes = c.args.outputs.now in
    let l = c.loop-k in
    let w = c.add_term-sum.ensures in
    let is = c.weight-in-loop-k.ensures in
    let back = weight_read card.bytes.now card.head l.k _ card.read c.requires.score is in
    let all = as_many card.bytes.now card.head card.read in
    let gate = (get_or nodes l.k (record { gate = 0; depth = 0 })).gate in
    let same = ap (λ (x : Constant). Scale gate x ∷ Add l.sum.gate l.out.pen.next ∷ []) (ap signed (rw c.from-in-loop-k.ensures at c.bits_of-b-in-loop-k.ensures) ∙ back) in
    adds _ _ _ _ _ _ _ _ l.invariant _ _ is (output_at nodes l.k (omega arith)) (omega (arith, all, c.requires.endable.outputs))
    _ _ (same_writes same w.wrote) w.deepens

pub returns : goal.returns
returns c =
    let card = c.args.card in
    let nodes = c.args.outputs.now in
    let l = c.loop-k in
    let all = as_many card.bytes.now card.head card.read in
    let many : length (map node_is nodes) ≡ length (conditions_of card.bytes.now) = omega (arith, length-map nodes node_is, all, c.requires.endable.outputs) in
    let w = c.put.ensures in
    let gate = (get_or nodes 0 (record { gate = 0; depth = 0 })).gate in
    let back = weight_read card.bytes.now card.head 0 _ card.read c.requires.score c.weight.ensures in
    let same = ap (λ (x : Constant). Scale gate x ∷ []) (ap signed (rw c.from.ensures at c.bits_of-b.ensures) ∙ back) in
    let whole = ends _ _ _ _ _ _ _ _ l.invariant many (omega (arith, all, c.requires.endable.outputs)) _ _ c.weight.ensures
    (output_at nodes 0 (omega (arith, all, c.requires.endable.outputs))) _ (same_writes same w) (refl, refl) in
    record { wrote = whole.0; output = whole.1 }
