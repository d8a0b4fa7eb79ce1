-- What an operation answers and what it leaves in the bytes lent to it.
use Rattle.std.specs.Prelude.{◌≡◌, ℕ, zero, suc, Bool, true, false, List, [], ◌∷◌}

-- a refusal's number and nothing else, or the operation's values
pub data Answer (A : Type 0) : Type 0 where
  refused : ℕ → Answer A
  accepted : A → Answer A

-- the answer, and every lent byte afterwards
pub record Outcome (A : Type 0) : Type 0 where
  pub answer : Answer A
  pub lent : List ℕ

-- "A refusal answers its number and nothing else; every lent byte is then unaltered."
abbrev pub unaltered : {A : Type 0} → List ℕ → ℕ → Outcome A
unaltered bytes number = record { answer = refused number; lent = bytes }

-- the same, as what every operation owes of its outcome
pub record Keeps {A : Type 0} (bytes : List ℕ) (outcome : Outcome A) : Type 0 where
  pub kept : (number : ℕ) → outcome.answer ≡ refused number → outcome.lent ≡ bytes

-- the refusal where its test holds, and otherwise what the later rules say
abbrev pub refuse : {R : Type 0} → Bool → R → R → R
refuse true refusal later = refusal
refuse false refusal later = later

-- what follows a refusal's number, or the values answered
abbrev pub on_answer : {A R : Type 0} → Answer A → (ℕ → R) → (A → R) → R
on_answer (refused number) refusal later = refusal number
on_answer (accepted a) refusal later = later a

-- the refusal's number, or 0
abbrev pub refusal_in : {A : Type 0} → Answer A → ℕ
refusal_in answer = on_answer answer (λ number. number) (λ a. 0)

-- the entry at a place of a list, counting from 1, or the refusal of a place that it has not
abbrev pub numbered : {A : Type 0} → ℕ → ℕ → List A → Answer A
numbered refusal place [] = refused refusal
numbered refusal zero (a ∷ more) = refused refusal
numbered refusal (suc zero) (a ∷ more) = accepted a
numbered refusal (suc (suc place)) (a ∷ more) = numbered refusal (suc place) more
