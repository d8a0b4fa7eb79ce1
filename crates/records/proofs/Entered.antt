-- A number entered at places: each entry is that number, or as it was.
-- Assumes nothing.
use Rattle.std.proofs.Common.{◌≡◌, refl, sym, ◌∙◌, Bool, true, false, ◌||◌, List, [], ◌∷◌, ℕ, ◌<◌, eqb-true, eqb, length, drop, get_or, set, length-set, drop-set-lt, get_or-set_same, get_or-set_other}
use borrow.Author.Tests.{eqb-false}
use Rattle.field.specs.Member.{member}
use Rattle.circuit.specs.Every.{Every}
use Rattle.circuit.proofs.LastUse.{or_else}
use Rattle.records.specs.Operands.{entered}

pub length_entered : (number : ℕ) (places list : List ℕ) → length (entered number places list) ≡ length list
length_entered number [] list = refl
length_entered number (i ∷ is) list = length_entered number is (set list i number) ∙ length-set list i number

-- each entry is the number, or as it was
pub entered_at : (number : ℕ) (places list : List ℕ) (i : ℕ) → i < length list
    → get_or (entered number places list) i 0 ≡ or_else (member i places) number (get_or list i 0)
unfolding member
entered_at number [] list i l = refl
entered_at number (j ∷ js) list i l =
    entered_at number js (set list j number) i (rw length-set l) ∙ go (eqb j i) refl
  where
    go : (same : Bool) → eqb j i ≡ same
        → or_else (member i js) number (get_or (set list j number) i 0) ≡ or_else (same || member i js) number (get_or list i 0)
    go true e = rw (eqb-true j i e, get_or-set_same list i number 0 l) (again (member i js))
      where
        again : (t : Bool) → or_else t number number ≡ number
        again true = refl
        again false = refl
    go false e = rw (get_or-set_other list j i number 0 (λ (q : i ≡ j). eqb-false j i e (sym q)))

-- those after all places are as they were
pub entered_after : (number n : ℕ) (places list : List ℕ) → Every (λ (i : ℕ). i < n) places → drop n (entered number places list) ≡ drop n list
entered_after number n [] list low = refl
entered_after number n (i ∷ is) list low =
    entered_after number n is (set list i number) low.1 ∙ drop-set-lt n list i number low.0
