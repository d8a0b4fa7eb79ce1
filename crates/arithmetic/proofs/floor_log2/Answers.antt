use Rattle.std.proofs.Common.{◌≡◌, ℕ, suc, ◌*◌, ◌^◌, ◌<◌, ◌≤◌, le_antisymm, le_of_suc-le-suc, lt_of_not-le, pow-suc, pow_pos, arith}
use Rattle.field.specs.Logarithm.{flog}
use Rattle.field.proofs.Logarithm.{flog_is_floor, flog_small}
use Rattle.arithmetic.proofs.floor_log2.Goals as goal

flog_between : (n k : ℕ) → 2 ^ k ≤ n → n < 2 * 2 ^ k → k ≡ flog n
flog_between n k low high =
    let some : 0 < n = omega (arith, pow_pos k) in
    le_antisymm ((flog_is_floor n k some).0 low)
    (le_of_suc-le-suc (lt_of_not-le (λ (h : suc k ≤ flog n). omega (arith, pow-suc 2 k, (flog_is_floor n (suc k) some).1 h))))

pub returns-then-n-eq0 : goal.returns-then-n-eq0
returns-then-n-eq0 c = omega (arith, flog_small c.args.n (omega arith))

pub returns : goal.returns
returns c = flog_between _ _ (omega arith) (omega arith)
