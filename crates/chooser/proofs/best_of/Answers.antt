use Rattle.std.proofs.Common.{◌-◌, ◌/◌, sym, ◌∙◌, arith}
use Rattle.draft.proofs.Prime.{prime_usable}
use Rattle.chooser.proofs.Keeping.{rest_next, rest_none}
use Rattle.chooser.proofs.best_of.Goals as goal

pub overflow_sub-half : goal.overflow_sub-half
overflow_sub-half c =
    let card = c.args.search.card in omega (arith, c.from.ensures, prime_usable card.bytes.now card.head card.read)

pub loop-k-preserved : goal.loop-k-preserved
loop-k-preserved c card e =
    let l = c.loop-k in
    let before = l.invariant card e in
    let now = c.better-best.ensures card (c.rate-told.ensures card e) before.1 in
    (rest_next c.args.cap.0 ((c.from.result - 1) / 2) card l.k l.best c.better-best.result (omega arith) now.0 ∙ before.0, now.1)

pub returns : goal.returns
returns c card e =
    let l = c.loop-k in
    let best = l.invariant card e in
    (sym (rest_none c.args.cap.0 ((c.from.result - 1) / 2) card l.k l.best (omega arith)) ∙ best.0, best.1)
