-- One bit of the chain: where the number of the bits to come is halved, what remains is the chain of its half.
-- Assumes nothing.
use Rattle.std.proofs.Common.{◌≡◌, refl, sym, ap, ap₂, ◌∙◌, Bool, true, false, List, [], ◌∷◌, ◌++◌, ℕ, suc, ◌+◌, ◌/◌, ◌%◌, ◌≤◌, arith, add-one, add-zero, eqb, length, length-append}
use Rattle.field.specs.Bit.{bit}
use Rattle.field.specs.Logarithm.{flog}
use Rattle.circuit.specs.Gate.{Gate, Flip, Mul}
use Rattle.circuit.specs.Segment.{times}
use Rattle.circuit.specs.Segment as segment
use Rattle.comparison.specs.Bits.{bits, ones}
use Rattle.comparison.specs.EqualityDigit.{Collected, nothing, power, chain, zero_chain}
use Rattle.comparison.proofs.Bits.{bits_cons, bits_length, ones_some}
use Rattle.comparison.proofs.EqualityDigit.{start_length}
use Rattle.writer.specs.declared.Node.{Node}
use Rattle.writer.specs.declared.Writer.{Writer}
use Rattle.writer.specs.Nodes.{node_is}
use Rattle.equality.specs.Collecting.{product_at, collected_by}
use Rattle.writer.specs.Leaves.{Leaves}
use Rattle.writer.specs.Writing.{HasRoom, Writes}
use Rattle.writer.proofs.Leaves.{leaves_as, leaves_then, leaves_room}

-- bit 0 of an even number
pub chain_start : (t k z : ℕ) → 1 ≤ t → t % 2 ≡ 0 → zero_chain (bits t) k z ≡ chain (bits (t / 2)) k z nothing
chain_start t k z some even = rw (bits_cons t some, even)

-- a bit that is not set, where nothing is collected
chain_unset : (t k running : ℕ) → 1 ≤ t → t % 2 ≡ 0
    → chain (bits t) k running nothing ≡ Mul running running ∷ chain (bits (t / 2)) (k + 1) k nothing
unfolding chain
chain_unset t k running some even = rw (bits_cons t some, even, add-one k)

-- the first set bit
chain_set : (t k running : ℕ) → t % 2 ≡ 1
    → chain (bits t) k running nothing ≡ Mul running running ∷ chain (bits (t / 2)) (k + 1) k (power k)
unfolding chain
chain_set t k running odd = rw (bits_cons t (omega arith), odd, add-one k)

-- a later bit
bit_later : (b : Bool) (bs : List Bool) (k running : ℕ) (collected square : segment.Node)
    → chain (b ∷ bs) k running (power collected.gate)
    ≡ Mul running running ∷ (product_at b collected.gate k ++ chain bs (k + 1 + bit b) k (power (collected_by b (k + 1) collected square).gate))
unfolding chain
bit_later true bs k running collected square = rw (add-one k, add-one (suc k))
bit_later false bs k running collected square = rw (add-zero (k + 1), add-one k)

chain_later : (t k running : ℕ) (collected square : segment.Node) → 1 ≤ t
    → chain (bits t) k running (power collected.gate)
    ≡ Mul running running
    ∷ (product_at (eqb (t % 2) 1) collected.gate k
    ++ chain (bits (t / 2)) (k + 1 + bit (eqb (t % 2) 1)) k (power (collected_by (eqb (t % 2) 1) (k + 1) collected square).gate))
chain_later t k running collected square some = rw (bits_cons t some) (bit_later (eqb (t % 2) 1) (bits (t / 2)) k running collected square)

-- after the top bit
pub chain_end : (t k running collected : ℕ) → t ≡ 0 → chain (bits t) k running (power collected) ≡ Flip collected ∷ []
unfolding chain bits
chain_end t k running collected e = rw e

-- FLIP at least is written
pub chain_some : (bs : List Bool) (k running : ℕ) (c : Collected) → 1 ≤ length (chain bs k running c)
unfolding chain
chain_some [] k running c = omega arith
chain_some (false ∷ bs) k running c = omega arith
chain_some (true ∷ bs) k running nothing = omega arith
chain_some (true ∷ bs) k running (power collected) = omega arith

product_length : (b : Bool) (collected running : ℕ) → length (product_at b collected running) ≡ bit b
product_length true collected running = refl
product_length false collected running = refl

-- how many gates there are
pub chain_size : (t k z : ℕ) → 1 ≤ t → length (zero_chain (bits t) k z) ≡ flog t + ones t
unfolding ones
chain_size t k z some = omega (arith, start_length (bits t) k z (ones_some t some), bits_length t some)

-- ---- what is left after a bit

module _ {w : Writer} {all : List Gate} {w₁ w₂ : Writer} (rest : ℕ) where
  -- nothing is collected yet: the running power is squared
  module _ (running square : Node)
      (squared : Writes w₁ (Mul running.gate running.gate ∷ []) w₂)
      (node : node_is square ≡ times w₁.pen.next (node_is running) (node_is running))
      (leaves : Leaves w all w₁ (chain (bits rest) w₁.pen.next running.gate nothing)) where
    here : w₁.pen.next ≡ square.gate
    here = sym (ap (λ (n : segment.Node). n.gate) node)

    next : w₁.pen.next + 1 ≡ w₂.pen.next
    next = sym squared.moved.0

    pub after_unset : 1 ≤ rest → rest % 2 ≡ 0 → Leaves w all w₂ (chain (bits (rest / 2)) w₂.pen.next square.gate nothing)
    after_unset some even =
        leaves_as (ap₂ (λ (k r : ℕ). chain (bits (rest / 2)) k r nothing) next here)
        (leaves_then (leaves_as (chain_unset rest _ _ some even) leaves) squared)

    pub after_set : rest % 2 ≡ 1 → Leaves w all w₂ (chain (bits (rest / 2)) w₂.pen.next square.gate (power square.gate))
    after_set odd =
        leaves_as (ap₂ (λ (k r : ℕ). chain (bits (rest / 2)) k r (power r)) next here)
        (leaves_then (leaves_as (chain_set rest _ _ odd) leaves) squared)

  -- a power is collected: the running power is squared, and the collected one multiplied by it at a set bit
  module _ (some : 1 ≤ rest) (running collected square : Node)
      (squared : Writes w₁ (Mul running.gate running.gate ∷ []) w₂)
      (node : node_is square ≡ times w₁.pen.next (node_is running) (node_is running))
      (leaves : Leaves w all w₁ (chain (bits rest) w₁.pen.next running.gate (power collected.gate))) where
    abbrev b : Bool
    b = eqb (rest % 2) 1

    -- the chain after a square at gate r, where gate number k is the next
    abbrev onward : ℕ → ℕ → List Gate
    onward k r = chain (bits (rest / 2)) (k + bit b) r (power (collected_by b k (node_is collected) (node_is square)).gate)

    abbrev later : ℕ → ℕ → List Gate
    later k r = product_at b collected.gate r ++ onward k r

    after_square : Leaves w all w₂ (later w₂.pen.next square.gate)
    after_square =
        let here : w₁.pen.next ≡ square.gate = sym (ap (λ (n : segment.Node). n.gate) node) in
        let next : w₁.pen.next + 1 ≡ w₂.pen.next = sym squared.moved.0 in
        leaves_as (ap₂ later next here)
        (leaves_then (leaves_as (chain_later rest _ _ (node_is collected) (node_is square) some) leaves) squared)

    -- the product is one of the gates that are left
    pub product_room : HasRoom w (length all) → HasRoom w₂ (bit b)
    product_room room =
        let g = collected.gate in
        let r = square.gate in
        leaves_room (bit b) room after_square
        (omega (arith, length-append (product_at b g r) (onward w₂.pen.next r), product_length b g r))

    pub after_later : {w₃ : Writer} (set : Node)
        → Writes w₂ (product_at b collected.gate square.gate) w₃
        → node_is set ≡ collected_by b w₂.pen.next (node_is collected) (node_is square)
        → Leaves w all w₃ (chain (bits (rest / 2)) w₃.pen.next square.gate (power set.gate))
    after_later {w₃} set wrote is =
        let gate = sym (ap (λ (n : segment.Node). n.gate) is) in
        let next : w₂.pen.next + bit b ≡ w₃.pen.next
        = sym (wrote.moved.0 ∙ ap (λ (n : ℕ). w₂.pen.next + n) (product_length b collected.gate square.gate)) in
        leaves_as (ap₂ (λ (k g : ℕ). chain (bits (rest / 2)) k square.gate (power g)) next gate) (leaves_then after_square wrote)
