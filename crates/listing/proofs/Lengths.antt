-- How long a listing is at most: numbers of a gate line have four digits, as a table has at most 8191 gates, or a sign and three; a refusal's number has two.
-- Assumes nothing.
use Rattle.std.proofs.Common.{◌≡◌, refl, true, List, [], ◌∷◌, ◌++◌, ℕ, suc, ◌+◌, ◌*◌, ◌≤◌, ◌<◌, arith, length, length-append}
use Rattle.answer.specs.Outcome.{Answer, refused, accepted}
use Rattle.answer.specs.Report.{Report}
use Rattle.field.proofs.Primes.{listed_is_odd_prime}
use Rattle.field.proofs.Tests.{in_range}
use Rattle.digits.specs.Number.{most_digits}
use Rattle.circuit.specs.Constant.{Constant, plus, minus}
use Rattle.circuit.specs.Gate.{Gate, Left, Right, Add, Sub, Scale, Flip, Mul, fields}
use Rattle.circuit.specs.Promises.{Bounded}
use Rattle.circuit.specs.Report.{report}
use Rattle.circuit.specs.Table.{Head, left_slots, right_slots, Table, table_bytes, most_gates, all_fit, well_formed}
use Rattle.circuit.proofs.Constant.{NearZero, near_zero}
use Rattle.circuit.proofs.Fitting.{Fitted, fitted, fit_cons}
use Rattle.circuit.proofs.Promises.{checks_tables, report_bounds}
use Rattle.circuit.proofs.WellFormed.{slot_range, well_formed_lem}
use Rattle.query.specs.Card.{Card}
use Rattle.query.specs.Reading.{read_card}
use Rattle.query.specs.Whole.{table_of}
use Rattle.query.proofs.Building.{card_refuses}
use Rattle.query.proofs.Promises.{exact_size}
use Rattle.listing.specs.Lines.{number_text, constant_text, operand_text, gate_line, gate_lines, summary_line, refusal_line}
use Rattle.listing.specs.Listing.{table_listing, listing}
use Rattle.listing.specs.Promises.{most_listing, ShortListing}
use Rattle.listing.specs.Words.{kind_name}
use Rattle.text.proofs.Text.{decimal_short}

-- ---- tables

summary_short : (told : Report) → Bounded told → length (summary_line told) ≤ 61
summary_short told (few, shallow, cheap, counts) =
    simp length-append (omega (
      arith,
      decimal_short 3 told.gates (omega arith),
      decimal_short 3 told.products (omega arith),
      decimal_short 3 told.squares (omega arith),
      decimal_short 5 told.cost (omega arith),
      decimal_short 3 told.depth (omega arith),
    ))

kind_short : (g : Gate) → length (kind_name g) ≤ 5
kind_short (Left a) = omega arith
kind_short (Right a) = omega arith
kind_short (Add a b) = omega arith
kind_short (Sub a b) = omega arith
kind_short (Scale a c) = omega arith
kind_short (Flip a) = omega arith
kind_short (Mul a b) = omega arith

-- a number of four digits, or a sign and three, after a space
number_short : (n : ℕ) → n < 10000 → length (number_text n) ≤ 5
number_short n small = simp length-append (omega (arith, decimal_short 3 n small))

constant_short : (p : ℕ) (c : Constant) → p ≤ 251 → NearZero p c → length (constant_text c) ≤ 5
constant_short p (plus n) prime h = number_short n (omega arith)
constant_short p (minus n) prime h = simp length-append (omega (arith, decimal_short 2 n (omega arith)))

-- the operands of a gate that fits
abbrev Small : Gate → Type 0
Small g = ((fields g).a < 10000) × (length (operand_text g) ≤ 5)

module _ (head : Head) (prime : head.prime ≤ 251) (left : left_slots head ≤ most_digits) (right : right_slots head ≤ most_digits) where
  operands_small : (k : ℕ) (g : Gate) → k ≤ most_gates → Fitted head k g → Small g
  operands_small k (Left a) few h = (omega arith, number_short 0 (omega arith))
  operands_small k (Right a) few h = (omega arith, number_short 0 (omega arith))
  operands_small k (Add a b) few h = (omega arith, number_short b (omega arith))
  operands_small k (Sub a b) few h = (omega arith, number_short b (omega arith))
  operands_small k (Scale a c) few h = (omega arith, constant_short head.prime c prime (near_zero head.prime c h.1))
  operands_small k (Flip a) few h = (omega arith, number_short 0 (omega arith))
  operands_small k (Mul a b) few h = (omega arith, number_short b (omega arith))

  line_short : (k : ℕ) (g : Gate) → k ≤ most_gates → Small g → length (gate_line k g) ≤ 21
  line_short k g few small =
      simp length-append (omega (
        arith,
        kind_short g,
        decimal_short 3 k (omega arith),
        number_short (fields g).a small.0,
        small.1,
      ))

  lines_short : (k : ℕ) (gs : List Gate) → k + length gs ≤ most_gates → all_fit head k gs ≡ true → length (gate_lines k gs) ≤ 21 * length gs
  unfolding gate_lines
  lines_short k [] few t = omega arith
  lines_short k (g ∷ gs) few t =
      let s = fit_cons head k g gs t in
      let here = line_short k g (omega arith) (operands_small k g (omega arith) (fitted head k g s.0)) in
      omega (arith, length-append (gate_line k g) (gate_lines (suc k) gs), here, lines_short (suc k) gs (omega arith) s.1)

table_short : (table : Table) → well_formed table ≡ true → length (table_listing table) ≤ most_listing
table_short table t =
    let w = well_formed_lem table t in
    let head = table.head in
    let prime : head.prime ≤ 251 = ((listed_is_odd_prime head.prime).0 w.prime).high in
    let slots = slot_range head.slots w.slots in
    let count = in_range (length table.gates) 1 most_gates w.count in
    let told = summary_short (report table) (report_bounds (table_bytes table ++ []) (report table) (checks_tables table [] t)) in
    let lines = lines_short head prime slots.1 slots.3 0 table.gates (omega arith) w.fitted in
    omega (arith, length-append (summary_line (report table)) (gate_lines 0 table.gates), told, lines, count)

-- ---- refusals

-- the line of a refusal, whose number has two digits at most
refusal_short : (number : ℕ) → number < 100 → length (refusal_line number) ≤ most_listing
refusal_short number n = simp length-append (omega (arith, decimal_short 1 number n))

-- ---- both

pub short_listing : ShortListing
short_listing bytes = go (read_card bytes) refl
  where
    go : (read : Answer Card) → read_card bytes ≡ read → length (listing bytes) ≤ most_listing
    go (refused number) e = rw e (refusal_short number ((card_refuses bytes).number number e).1)
    go (accepted card) e = rw e (table_short (table_of card) (exact_size bytes card e).2)
