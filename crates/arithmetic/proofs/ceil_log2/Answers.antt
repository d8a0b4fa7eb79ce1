use Rattle.std.proofs.Common.{◌≡◌, ℕ, suc, ◌+◌, ◌-◌, ◌*◌, ◌^◌, ◌<◌, ◌≤◌, le_antisymm, lt_of_not-le, pow-suc, add-one, arith}
use Rattle.field.specs.Logarithm.{clog}
use Rattle.field.proofs.Logarithm.{clog_is_ceiling, clog_small}
use Rattle.arithmetic.proofs.ceil_log2.Goals as goal

clog_between : (n k : ℕ) → 1 < n → 2 ^ k ≤ n - 1 → n - 1 < 2 * 2 ^ k → k + 1 ≡ clog n
clog_between n k some low high =
    rw add-one
    (le_antisymm (lt_of_not-le (λ (h : clog n ≤ k). omega (arith, (clog_is_ceiling n k).1 h))) ((clog_is_ceiling n (suc k)).0 (omega (arith, pow-suc 2 k))))

pub returns-then-n-le1 : goal.returns-then-n-le1
returns-then-n-le1 c = omega (arith, clog_small c.args.n c.if-n-le1.true)

pub returns : goal.returns
returns c = clog_between _ _ (omega arith) (omega arith) (omega arith)
