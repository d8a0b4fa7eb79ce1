-- What a gate list means: each gate from what the lower gates are (source document 000, section 2).
-- One interpretation serves all meanings; the value and the depth of a gate are two of them.
use Rattle.std.specs.Prelude.{◌≡◌, ℕ, suc, ◌-◌, List, [], ◌∷◌, ◌++◌, length, get_or}
use Rattle.circuit.specs.Constant.{Constant}
use Rattle.circuit.specs.Gate.{Gate, Left, Right, Add, Sub, Scale, Flip, Mul}

-- what each kind does
pub record Algebra (A : Type 0) : Type 0 where
  -- stands for a gate that is not there
  pub none : A
  pub left : ℕ → A
  pub right : ℕ → A
  pub add : A → A → A
  pub sub : A → A → A
  pub scale : A → Constant → A
  pub flip : A → A
  pub mul : A → A → A

module _ {A : Type 0} (alg : Algebra A) where
  -- a gate, from what the gates are that it names
  abbrev pub meaning : (ℕ → A) → Gate → A
  meaning entry (Left a) = alg.left a
  meaning entry (Right a) = alg.right a
  meaning entry (Add a b) = alg.add (entry a) (entry b)
  meaning entry (Sub a b) = alg.sub (entry a) (entry b)
  meaning entry (Scale a c) = alg.scale (entry a) c
  meaning entry (Flip a) = alg.flip (entry a)
  meaning entry (Mul a b) = alg.mul (entry a) (entry b)

  -- "Gates count from 0"
  abbrev pub entry_of : List A → ℕ → A
  entry_of earlier k = get_or earlier k alg.none

  -- the entries of the gates so far, then one entry more for each gate
  unfoldable pub interpret : List A → List Gate → List A
  interpret earlier [] = earlier
  interpret earlier (g ∷ gs) = interpret (earlier ++ (meaning (entry_of earlier) g ∷ [])) gs

  -- what each gate of a list is
  abbrev pub entries : List Gate → List A
  entries gates = interpret [] gates

  abbrev pub entry_at : List Gate → ℕ → A
  entry_at gates k = entry_of (entries gates) k

  -- each of these gates, of which the first has number k, is what it means by the others
  abbrev pub Solves : (ℕ → A) → ℕ → List Gate → Type 0
  Solves entry k [] = Unit {0}
  Solves entry k (g ∷ gs) = (entry k ≡ meaning entry g) × Solves entry (suc k) gs

  -- "The last gate is the output."
  abbrev pub output : List Gate → A
  output gates = entry_at gates (length gates - 1)
