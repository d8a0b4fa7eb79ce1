use Rattle.std.proofs.Common.{ap, sym, ◌∙◌, arith, length, refl, inl, map}
use Rattle.std.proofs.Math.ListN.{length-set}
use Rattle.std.proofs.Math.Seq.{take_all}
use Rattle.std.proofs.lemmas.List.{length_push}
use Rattle.std.specs.Iterator.Adapters.{enumerate_source, enumerate_count}
use Rattle.card.specs.Accepted.{conditions_left}
use Rattle.card.specs.Conditions.{conditions_of, IsRecord}
use Rattle.card.proofs.Iteration.{turn_numbered, ended_numbered}
use Rattle.card.proofs.ReadAs.{as_many}
use Rattle.writer.specs.Nodes.{node_is}
use Rattle.writer.specs.declared.Pen.{Pen}
use Rattle.draft.proofs.Adding.{begins, ends, fits, adds}
use Rattle.draft.proofs.Orders.{own_order}
use Rattle.draft.proofs.put_conditions.Goals as goal

pub loop-k-init : goal.loop-k-init
loop-k-init c = (begins _ _ _ _ _ c.requires.starts, refl)

pub loop-k-init-derived : goal.loop-k-init-derived
loop-k-init-derived c =
    let card = c.args.card in
    let start = c.into_iter-k-iterator in
    let first = ap enumerate_count start.ensures.into_iter_gives ∙ c.enumerate-k-items.ensures.count in
    let whole = ap (λ s. conditions_left (enumerate_source s)) start.ensures.into_iter_gives ∙ ap conditions_left c.enumerate-k-items.ensures.source ∙ c.conditions.ensures in
    ((tt, tt, inl (omega (arith, first, ap length whole, as_many card.bytes.now card.head card.read))), tt)

pub offset_bounds-outputs-k : goal.offset_bounds-outputs-k
offset_bounds-outputs-k c =
    let card = c.args.card in
    let start = c.into_iter-k-iterator in
    let first = ap enumerate_count start.ensures.into_iter_gives ∙ c.enumerate-k-items.ensures.count in
    let whole = ap (λ s. conditions_left (enumerate_source s)) start.ensures.into_iter_gives ∙ ap conditions_left c.enumerate-k-items.ensures.source ∙ c.conditions.ensures in
    let step = c.in-Some.ensures.steps in
    let this = turn_numbered card start.result first whole c.loop-k.yielded c.loop-k.k-iterator c.loop-k.yielded_by (c.in-Some.k, c.in-Some.condition) _ step.0 step.1 in
    omega (arith, this.1.few)

pub bounds-outputs-k : goal.bounds-outputs-k
bounds-outputs-k c =
    let card = c.args.card in
    let start = c.into_iter-k-iterator in
    let first = ap enumerate_count start.ensures.into_iter_gives ∙ c.enumerate-k-items.ensures.count in
    let whole = ap (λ s. conditions_left (enumerate_source s)) start.ensures.into_iter_gives ∙ ap conditions_left c.enumerate-k-items.ensures.source ∙ c.conditions.ensures in
    let step = c.in-Some.ensures.steps in
    let this = turn_numbered card start.result first whole c.loop-k.yielded c.loop-k.k-iterator c.loop-k.yielded_by (c.in-Some.k, c.in-Some.condition) _ step.0 step.1 in
    omega (arith, this.1.low, c.loop-k.invariant.1, c.requires.outputs)

pub put_condition-requires : goal.put_condition-requires
put_condition-requires c =
    let card = c.args.card in
    let start = c.into_iter-k-iterator in
    let first = ap enumerate_count start.ensures.into_iter_gives ∙ c.enumerate-k-items.ensures.count in
    let whole = ap (λ s. conditions_left (enumerate_source s)) start.ensures.into_iter_gives ∙ ap conditions_left c.enumerate-k-items.ensures.source ∙ c.conditions.ensures in
    let step = c.in-Some.ensures.steps in
    let this = turn_numbered card start.result first whole c.loop-k.yielded c.loop-k.k-iterator c.loop-k.yielded_by (c.in-Some.k, c.in-Some.condition) _ step.0 step.1 in
    let r = c.in-Some.condition in
    let cs = conditions_of card.bytes.now in
    let is : IsRecord cs (length c.loop-k.yielded) r = rw this.0 at this.1.is in
    let known = c.loop-k.invariant in
    let starts = ap (λ (pen : Pen). pen.next) c.requires.starts in
    let fit = fits _ _ _ _ _ _ _ known.0 r is in
    rw (c.modulus_of-m.ensures, c.from.ensures, c.from-in-loop-k.ensures, c.from-in-loop-k-2.ensures)
    (record {
      room = (omega (arith, fit, known.0.wrote.size, c.requires.room, starts), omega (arith, fit, c.requires.room, starts), known.0.wrote.moved.1, known.0.wrote.moved.2);
      suits = (c.requires.suits, this.1.slots);
      prepared = λ h. c.requires.ready (own_order cs (length c.loop-k.yielded) r is h);
    })

pub loop-k-preserved : goal.loop-k-preserved
loop-k-preserved c =
    let card = c.args.card in
    let start = c.into_iter-k-iterator in
    let first = ap enumerate_count start.ensures.into_iter_gives ∙ c.enumerate-k-items.ensures.count in
    let whole = ap (λ s. conditions_left (enumerate_source s)) start.ensures.into_iter_gives ∙ ap conditions_left c.enumerate-k-items.ensures.source ∙ c.conditions.ensures in
    let step = c.in-Some.ensures.steps in
    let this = turn_numbered card start.result first whole c.loop-k.yielded c.loop-k.k-iterator c.loop-k.yielded_by (c.in-Some.k, c.in-Some.condition) _ step.0 step.1 in
    let r = c.in-Some.condition in
    let is : IsRecord (conditions_of card.bytes.now) (length c.loop-k.yielded) r = rw this.0 at this.1.is in
    let known = c.loop-k.invariant in
    let e = c.put_condition.ensures in
    let wrote = rw (c.modulus_of-m.ensures, c.from.ensures, c.from-in-loop-k.ensures, c.from-in-loop-k-2.ensures) at e.wrote in
    let output = rw (c.modulus_of-m.ensures, c.from.ensures, c.from-in-loop-k.ensures, c.from-in-loop-k-2.ensures) at e.output in
    let more = adds _ _ _ _ _ _ _ known.0 r is _ c.put_condition.result wrote output (omega (arith, this, known.1, c.requires.outputs)) in
    (rw (length_push c.loop-k.yielded (c.in-Some.k, r), this.0) more, length-set c.loop-k.outputs c.in-Some.k c.put_condition.result ∙ known.1)

pub returns : goal.returns
returns c =
    let card = c.args.card in
    let start = c.into_iter-k-iterator in
    let first = ap enumerate_count start.ensures.into_iter_gives ∙ c.enumerate-k-items.ensures.count in
    let whole = ap (λ s. conditions_left (enumerate_source s)) start.ensures.into_iter_gives ∙ ap conditions_left c.enumerate-k-items.ensures.source ∙ c.conditions.ensures in
    let many = ended_numbered card start.result first whole c.loop-k.yielded c.loop-k.k-iterator c.loop-k.yielded_by c.in-None.ensures.steps.0.0 in
    let known = c.loop-k.invariant in
    let all = as_many card.bytes.now card.head card.read in
    let e = ends _ _ _ _ _ _ _ (omega (arith, many, all)) known.0 in
    record {
      wrote = e.0;
      outputs = ap (map node_is) (sym (take_all (length c.loop-k.yielded) c.loop-k.outputs (omega (arith, many, known.1, c.requires.outputs)))) ∙ e.1;
    }
