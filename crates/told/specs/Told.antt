-- What programs in Rust and C are told: whether the operation succeeded, and its values through lent numbers.
-- What the operations have to answer is in `digits`, `circuit`, `query` and `offer`.
use Rattle.std.specs.Prelude.{ℕ, ◌+◌, ◌*◌, Bool, true, false}
use Rattle.answer.specs.Outcome.{Answer, refused, accepted, on_answer}
use Rattle.answer.specs.Report.{Report}
use Rattle.offer.specs.Offer.{Which, First, Second, Handed}

-- whether the operation succeeded
abbrev pub is_accepted : {A : Type 0} → Answer A → Bool
is_accepted (refused number) = false
is_accepted (accepted a) = true

-- ---- what a lent value, such as a number, holds afterwards: a value of what was answered, or, on a refusal, what it held

abbrev pub after : {A V : Type 0} → (A → V) → V → Answer A → V
after value held (refused number) = held
after value held (accepted a) = value a

-- the number that Decode answers, the output that Run does, and the gate count that the last-use list does
abbrev pub number_after : ℕ → Answer ℕ → ℕ
number_after = after (λ x. x)

-- "Success answers G, products, squares, cost, depth"
abbrev pub gates_after : ℕ → Answer Report → ℕ
gates_after = after (λ told. told.gates)

abbrev pub products_after : ℕ → Answer Report → ℕ
products_after = after (λ told. told.products)

abbrev pub squares_after : ℕ → Answer Report → ℕ
squares_after = after (λ told. told.squares)

abbrev pub cost_after : ℕ → Answer Report → ℕ
cost_after = after (λ told. told.cost)

abbrev pub depth_after : ℕ → Answer Report → ℕ
depth_after = after (λ told. told.depth)

-- ---- of which of two tables a part is handed back (document 02, E7)

-- "Build's answers for the table handed back"
abbrev pub told_of : Answer Handed → Answer Report
told_of answer = on_answer answer refused (λ handed. accepted handed.told)

-- 1 is the first table, 2 the second
abbrev pub which_number : Which → ℕ
which_number First = 1
which_number Second = 2

abbrev pub which_after : ℕ → Answer Handed → ℕ
which_after = after (λ handed. which_number handed.which)

-- the part's 8(G+1) bytes
abbrev pub length_after : ℕ → Answer Handed → ℕ
length_after = after (λ handed. 8 * (handed.told.gates + 1))
