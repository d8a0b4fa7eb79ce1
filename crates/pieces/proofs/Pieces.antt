-- A piece as it is written: its terms, or its lower and its upper piece and the last gates; and what it asks of its numbers.
-- Assumes nothing.
use Rattle.std.proofs.Common.{◌≡◌, ap, ◌∙◌, ◌++◌, ℕ, zero, suc, ◌+◌, ◌-◌, ◌*◌, ◌/◌, ◌^◌, ◌≤◌, ◌<◌, arith, mul-le-mul_right, length, length-append}
use Rattle.std.proofs.Math.Nat.{pow-succ'}
use Rattle.field.proofs.Logarithm.{clog_is_ceiling, clog_power}
use Rattle.writer.specs.declared.Writer.{Writer}
use Rattle.writer.specs.Writing.{Writes}
use Rattle.writer.proofs.Writing.{follows}
use Rattle.step.specs.Pieces.{Sum, none, held, Piece, last_gates, last_sum, terms_from, piece}
use Rattle.step.specs.Powers.{split_node}
use Rattle.step.proofs.PieceLevel.{AtMost}
use Rattle.pieces.specs.Sums.{Shallow}
use Rattle.pieces.specs.Sizes.{Spanned}

-- ---- numbers

module _ (step level o span : ℕ) (s : Spanned step level o span) where
  -- there are few levels
  pub level_few : 1 ≤ step → level ≤ 9
  level_few one =
      omega (
        arith,
        clog_power level,
        (clog_is_ceiling (2 ^ level) 9).0 (omega (arith, s.doubled, s.bounded, mul-le-mul_right (2 ^ level) one)),
      )

  module _ (some : 1 ≤ level) where
    -- one that splits does so in the middle
    half_span : span / 2 ≡ step * 2 ^ (level - 1)
    half_span = ap (λ (n : ℕ). n / 2) s.doubled ∙ go level some
      where
        go : (n : ℕ) → 1 ≤ n → (step * 2 ^ n) / 2 ≡ step * 2 ^ (n - 1)
        go zero l = absurd (omega arith)
        go (suc i) l = let e : suc i - 1 ≡ i = omega arith in rw (e, pow-succ' 2 i) (omega arith)

    pub lower_span : Spanned step (level - 1) o (span / 2)
    lower_span = record { doubled = half_span; bounded = omega (arith, s.bounded) }

    pub upper_span : Spanned step (level - 1) (o + span / 2) (span / 2)
    upper_span = record { doubled = half_span; bounded = omega (arith, s.bounded) }

-- ---- gates

module _ (p step z : ℕ) (c : ℕ → ℕ) where
  pub piece_terms : (level o k : ℕ) → level ≡ 0 → piece p step z c level o k ≡ terms_from p step z c step o 1 k none
  unfolding piece
  piece_terms level o k e = rw e

  -- the two pieces of a piece that splits at half
  abbrev pub low_of : ℕ → ℕ → ℕ → Piece
  low_of level o k = piece p step z c (level - 1) o k

  abbrev pub high_of : ℕ → ℕ → ℕ → ℕ → Piece
  high_of half level o k = piece p step z c (level - 1) (o + half) k

  piece_split : (level half o k : ℕ) → 1 ≤ level → half ≡ step * 2 ^ (level - 1)
      → let low = low_of level o k in
      let high = high_of half level o (k + length low.gates) in
      let next = k + length low.gates + length high.gates in
      let power = split_node z step (level - 1) in
      piece p step z c level o k
      ≡ record { gates = low.gates ++ (high.gates ++ last_gates power next low.sum high.sum); sum = last_sum power next low.sum high.sum }
  unfolding piece
  piece_split zero half o k some h = absurd (omega arith)
  piece_split (suc i) half o k some h = let e : suc i - 1 ≡ i = omega arith in rw (h, e)

  -- room for each of the three parts
  pub piece_room : (level o span k : ℕ) → Spanned step level o span → 1 ≤ level
      → let low = low_of level o k in
      let high = high_of (span / 2) level o (k + length low.gates) in
      let next = k + length low.gates + length high.gates in
      length (piece p step z c level o k).gates
      ≡ length low.gates + (length high.gates + length (last_gates (split_node z step (level - 1)) next low.sum high.sum))
  piece_room level o span k spanned some =
      let low = low_of level o k in
      let high = high_of (span / 2) level o (k + length low.gates) in
      let next = k + length low.gates + length high.gates in
      let last = last_gates (split_node z step (level - 1)) next low.sum high.sum in
      ap (λ (x : Piece). length x.gates) (piece_split level (span / 2) o k some (half_span step level o span spanned some))
      ∙ length-append low.gates (high.gates ++ last) ∙ ap (λ (n : ℕ). length low.gates + n) (length-append high.gates last)

  -- what was written
  pub piece_written : (level o span : ℕ) → Spanned step level o span → 1 ≤ level
      → {w w₁ w₂ w₃ : Writer} {l h s : Sum}
      → let power = split_node z step (level - 1) in
      Writes w (low_of level o w.pen.next).gates w₁ → l ≡ (low_of level o w.pen.next).sum
      → Writes w₁ (high_of (span / 2) level o w₁.pen.next).gates w₂ → h ≡ (high_of (span / 2) level o w₁.pen.next).sum
      → Writes w₂ (last_gates power w₂.pen.next l h) w₃ → s ≡ last_sum power w₂.pen.next l h
      → Writes w (piece p step z c level o w.pen.next).gates w₃ × (s ≡ (piece p step z c level o w.pen.next).sum)
  piece_written level o span spanned some {w = w} lows l highs h last s =
      rw (piece_split level (span / 2) o w.pen.next some (half_span step level o span spanned some), ← lows.wrote.number, ← highs.wrote.number, ← l, ← h) (follows lows (follows highs last), s)

-- ---- how deep

pub shallow_at_most : (d e : ℕ) (sum : Sum) → d < e → AtMost d sum → Shallow e sum
shallow_at_most d e none l h = tt
shallow_at_most d e (held s) l h = omega arith
