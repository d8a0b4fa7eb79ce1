-- The depths of the powers: the running power z^(2^j) is j deep, the collected power z^e is clog e deep.
-- Assumes nothing.
use Rattle.std.proofs.Common.{◌≡◌, sym, ap, subst, ◌∙◌, Bool, true, false, ℕ, zero, suc, ◌+◌, ◌*◌, ◌/◌, ◌%◌, ◌^◌, ◌≤◌, ◌<◌, arith, le_refl, eqb, pow_pos}
use Rattle.std.proofs.Math.Nat.{max-eq_right, pow-succ'}
use Rattle.field.specs.Bit.{bit}
use Rattle.field.specs.Logarithm.{clog}
use Rattle.field.proofs.Logarithm.{clog_is_ceiling, clog_power}
use Rattle.circuit.specs.Segment.{times}
use Rattle.circuit.specs.Segment as segment
use Rattle.comparison.proofs.Bits.{bit_of}
use Rattle.comparison.proofs.EqualityDigit.{deeper}
use Rattle.writer.specs.declared.Node.{Node}
use Rattle.writer.specs.Nodes.{node_is}
use Rattle.equality.specs.Collecting.{collected_by}

-- a square
pub square_deep : (k : ℕ) (running square : Node) → node_is square ≡ times k (node_is running) (node_is running) → square.depth ≡ suc running.depth
square_deep k running square e =
    ap (λ (n : segment.Node). n.depth) e ∙ ap suc (max-eq_right {n = running.depth} {m = running.depth} (le_refl _))

-- ---- the running power, where nothing is collected: the bits to come are worth t

pub halved : (j rest t : ℕ) → rest % 2 ≡ 0 → 2 ^ suc j * rest ≡ t → 2 ^ suc (suc j) * (rest / 2) ≡ t
halved j rest t even e =
    let half : rest ≡ 2 * (rest / 2) = omega arith in
    omega (arith, e, ap (λ (n : ℕ). 2 ^ suc j * n) half, ap (λ (n : ℕ). n * (rest / 2)) (pow-succ' 2 (suc j)))

-- p is below 256
pub shallow : (j rest t : ℕ) → 1 ≤ rest → t < 256 → 2 ^ j * rest ≤ t → j ≤ 8
shallow j (suc rest) t some small e = omega (arith, (clog_is_ceiling (2 ^ j) 8).0 (omega arith), clog_power j)
shallow j zero t some small e = absurd (omega arith)

-- ---- the collected power

-- the collected power and the bits to come make z^t; the running power is z^(2^j)
pub record Collects (t rest j depth : ℕ) : Type 0 where
  pub exponent : ℕ
  pub some : 1 ≤ exponent
  pub below : exponent < 2 ^ suc j
  pub sum : exponent + 2 ^ suc j * rest ≡ t
  pub deep : depth ≡ clog exponent

-- at the first set bit it is the running power
pub collects_first : (rest j : ℕ) → Collects (2 ^ j * (2 * rest + 1)) rest j j
collects_first rest j = record {
  exponent = 2 ^ j;
  some = pow_pos j;
  below = omega (arith, pow_pos j);
  sum = omega (arith, ap (λ (n : ℕ). n * rest) (pow-succ' 2 j));
  deep = sym (clog_power j);
}

-- one bit
collects_bit : (b : Bool) (t rest half k : ℕ) (running collected square : segment.Node) → rest ≡ bit b + 2 * half → square.depth ≡ suc running.depth
    → Collects t rest running.depth collected.depth → Collects t half square.depth (collected_by b k collected square).depth
collects_bit true t rest half k running collected square e s c =
    let j = running.depth in
    let split = ap (λ (n : ℕ). 2 ^ suc j * n) e in
    let twice = ap (λ (n : ℕ). n * half) (pow-succ' 2 (suc j)) in
    rw s (record {
      exponent = c.exponent + 2 ^ suc j;
      some = omega (arith, c.some);
      below = omega (arith, c.below);
      sum = omega (arith, c.sum, split, twice);
      deep = deeper collected.depth (suc j) c.exponent (suc j) c.some (omega (arith, c.below)) c.deep (sym (clog_power (suc j)));
    })
collects_bit false t rest half k running collected square e s c =
    let j = running.depth in
    let split = ap (λ (n : ℕ). 2 ^ suc j * n) e in
    let twice = ap (λ (n : ℕ). n * half) (pow-succ' 2 (suc j)) in
    rw s (record {
      exponent = c.exponent;
      some = c.some;
      below = omega (arith, c.below);
      sum = omega (arith, c.sum, split, twice);
      deep = c.deep;
    })

pub collects_later : (t rest k next : ℕ) (running collected square set : Node)
    → node_is square ≡ times next (node_is running) (node_is running)
    → node_is set ≡ collected_by (eqb (rest % 2) 1) k (node_is collected) (node_is square)
    → Collects t rest running.depth collected.depth → Collects t (rest / 2) square.depth set.depth
collects_later t rest k next running collected square set s e c =
    subst (Collects t (rest / 2) square.depth) (sym (ap (λ (n : segment.Node). n.depth) e))
    (collects_bit (eqb (rest % 2) 1) t rest (rest / 2) k (node_is running) (node_is collected) (node_is square)
    (omega (arith, bit_of (rest % 2) (omega arith))) (square_deep next running square s) c)

pub collects_shallow : (t rest j depth : ℕ) → 1 ≤ rest → t < 256 → Collects t rest j depth → (j ≤ 7) × (depth ≤ 8)
collects_shallow t rest j depth some small c =
    omega (arith, shallow (suc j) rest t some small (omega (arith, c.sum)), c.deep, (clog_is_ceiling c.exponent 8).0 (omega (arith, c.sum)))
