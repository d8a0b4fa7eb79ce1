-- The best step size (document 02, E7): "No k from 1 to (p-1)/2 within the cap costs less than the one chosen;
-- equal costs go to lower depth, then lower k.", over any costs and depths of step sizes, and any test of which count.
use Rattle.std.specs.Prelude.{◌≡◌, Bool, true, false, ◌&&◌, ◌||◌, ℕ, zero, suc, ◌≤◌, ltb, eqb}

-- none, or a step size
pub data Choice : Type 0 where
  nothing : Choice
  chosen : ℕ → Choice

module _ (cost depth : ℕ → ℕ) (counts : ℕ → Bool) where
  -- a costs less, or as much and is less deep
  abbrev pub precedes : ℕ → ℕ → Bool
  precedes a b = ltb (cost a) (cost b) || (eqb (cost a) (cost b) && ltb (depth a) (depth b))

  -- k in place of the best so far, which is lower: if it counts and precedes it
  abbrev pub replaces : ℕ → Choice → Bool
  replaces k nothing = counts k
  replaces k (chosen b) = counts k && precedes k b

  abbrev pub taken : Bool → ℕ → Choice → Choice
  taken true k best = chosen k
  taken false k best = best

  abbrev pub better : ℕ → Choice → Choice
  better k best = taken (replaces k best) k best

  -- n step sizes from k on, ascending
  unfoldable pub best_from : ℕ → ℕ → Choice → Choice
  best_from zero k best = best
  best_from (suc n) k best = best_from n (suc k) (better k best)

  -- of the step sizes 1 to n
  abbrev pub best_of : ℕ → Choice
  best_of n = best_from n 1 nothing

  -- b costs no more than k; at equal costs it is no deeper, and at equal depths too no larger
  pub record NoBetter (b k : ℕ) : Type 0 where
    pub cheaper : cost b ≤ cost k
    pub shallower : cost b ≡ cost k → depth b ≤ depth k
    pub lower : cost b ≡ cost k → depth b ≡ depth k → b ≤ k

  -- what is chosen of the step sizes 1 to n: none where none counts, or one that counts and that no other which counts betters
  abbrev pub IsBest : ℕ → Choice → Type 0
  IsBest n nothing = (k : ℕ) → 1 ≤ k → k ≤ n → counts k ≡ false
  IsBest n (chosen b) = (1 ≤ b) × (b ≤ n) × (counts b ≡ true) × ((k : ℕ) → 1 ≤ k → k ≤ n → counts k ≡ true → NoBetter b k)

-- the definition chooses so. Proved in `proofs/Best.antt`
abbrev pub BestChosen : Type 0
BestChosen = (cost depth : ℕ → ℕ) (counts : ℕ → Bool) (n : ℕ) → IsBest cost depth counts n (best_of cost depth counts n)
