-- The outline of a table, from what its head and its gates were read as.
-- Assumes nothing.
use Rattle.std.proofs.Common.{◌≡◌, sym, ap, ap₂, subst, ◌∙◌, List, ℕ, ◌%◌, drop}
use Rattle.answer.specs.Outcome.{Answer, refused, accepted, on_answer}
use Rattle.answer.proofs.Outcome.{answered, accepted_same, was_refused}
use Rattle.field.proofs.Primes.{listed_is_odd_prime}
use Rattle.field.proofs.Tests.{in_range}
use Rattle.circuit.specs.Gate.{Gate}
use Rattle.circuit.specs.Reading.{read_gates, head_of, count_of, read_head, reading}
use Rattle.circuit.specs.Table.{Head, most_gates}
use Rattle.circuit.proofs.Reading.{heads, gates_fit}
use Rattle.records.specs.Read.{gates_read}
use Rattle.reader.specs.Outline.{Outline, outline, outline_in, Readable, depth_in}

-- ---- after an accepted head and its count

module _ (bytes : List ℕ) (head : Head) (count : ℕ) (passed : read_head bytes ≡ accepted head) (same : count ≡ count_of bytes) where
  -- the gates can be read: their count, the room for their records, and that the prime is odd
  pub readable : Readable bytes head count
  readable =
      let h = heads bytes head passed in
      let range = in_range (count_of bytes) 1 most_gates h.0.count in
      let odd = ((listed_is_odd_prime (head_of bytes).prime).0 h.0.prime).odd in
      rw same (range.0, range.1, h.0.room, subst (λ (head : Head). head.prime % 2 ≡ 1) h.1 odd)

  abbrev gates : Answer (List Gate)
  gates = read_gates head 0 count (drop 8 bytes)

  -- what is left to read
  read_on : on_answer gates refused (λ gs. accepted (record { head = head; gates = gs })) ≡ reading bytes
  read_on = rw (passed, same)

  -- where the gates have a depth, the table has an outline
  pub outlined : (depth : ℕ) → accepted depth ≡ depth_in gates
      → accepted (record { gates = count; weight = head.weight; depth = depth }) ≡ outline_in (reading bytes)
  outlined depth e =
      let g = answered gates _ (sym e) in
      let size = (gates_fit head 0 count (drop 8 bytes) g.0 g.1).0 in
      ap₂ (λ (n d : ℕ). accepted (record { gates = n; weight = head.weight; depth = d })) (sym size) (sym (accepted_same g.2))
      ∙ ap outline_in (rw g.1 at read_on)

-- ---- what an outline says

-- how many gates were read
pub outline_counts : (bytes : List ℕ) (told : Outline) → accepted told ≡ outline_in (reading bytes) → gates_read (reading bytes) ≡ accepted told.gates
outline_counts bytes told e =
    let t = answered (reading bytes) _ (sym e) in rw t.1 (ap (λ (told : Outline). accepted told.gates) (accepted_same t.2))

-- a refusal is that of reading
pub reading_refused : (bytes : List ℕ) (n : ℕ) → refused n ≡ outline_in (reading bytes) → reading bytes ≡ refused n
reading_refused bytes n e = was_refused n (reading bytes) outline e
