use Rattle.std.proofs.Common.{rules}
use Rattle.within.proofs.Choosing.{plain_leaves, plain_refused}
use Rattle.within.proofs.build_within.Goals as goal

pub returns-in_err-card : goal.returns-in_err-card
returns-in_err-card c =
    let a = c.args in
    let left = plain_refused a.card.now a.first.now a.second.now a.cap.0 _ c.in_err-card.ensures.answers in
    record { answers = search rules; one = left.one; two = left.two }

pub returns : goal.returns
returns c =
    let a = c.args in
    let given = c.in_ok-card.ensures.given in
    let read = c.in_ok-card.ensures.answers in
    let left = plain_leaves a.card.now a.first.now a.second.now a.cap.0 c.in_ok-card.card.head _ _ _ read (rw given at c.offer_read.ensures) in
    record { answers = left.answers; one = left.one; two = left.two }
