-- The order of Encode's and Decode's refusals (document 01, "Operations and what they turn away"), on inputs that break every rule
-- and are mended one rule at a time.
-- Proved in `proofs/RefusalOrder.antt`.
use Rattle.std.specs.Prelude.{◌≡◌, List, [], ◌∷◌, ℕ, ◌-◌, ◌^◌, replicate}
use Rattle.answer.specs.Outcome.{refusal_in}
use Rattle.digits.specs.Decoding.{decoding}
use Rattle.digits.specs.Encoding.{encoding}

-- "3, 9 n, 21 out under n, 22 number (u64) not below B^n": 9 is no prime, and 17 digits at p=9 or p=5 do not hold the largest u64
abbrev pub EncodeOrder : Type 0
EncodeOrder =
    let encode : ℕ → ℕ → List ℕ → ℕ = λ p n out. refusal_in (encoding p n (2 ^ 64 - 1) out).answer in
    encode 9 17 [] ∷ encode 5 17 [] ∷ encode 5 2 [] ∷ encode 5 2 (0 ∷ 0 ∷ []) ∷ [] ≡ 3 ∷ 9 ∷ 21 ∷ 22 ∷ []

-- "3, 9 list length, 23 a digit of B or more, 24 number above 2^64-1": 249 is no prime; at p=251 B is 126
abbrev pub DecodeOrder : Type 0
DecodeOrder =
    let decode : ℕ → List ℕ → ℕ = λ p digits. refusal_in (decoding p digits) in
    decode 249 (replicate 17 126)
    ∷ decode 251 (replicate 17 126)
    ∷ decode 251 (replicate 16 126)
    ∷ decode 251 (replicate 16 125)
    ∷ []
    ≡ 3 ∷ 9 ∷ 23 ∷ 24 ∷ []
