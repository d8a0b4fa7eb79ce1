-- Counting pairs group by group: the different pairs of MULs are, over all higher operands h, the different lower operands that go with h;
-- the squares among them are those h that are their own lower operand.
-- By induction on the gates: one gate more changes one group's count, by what it changes the whole.
-- Assumes nothing.
use Rattle.std.proofs.Common.{◌≡◌, refl, sym, ap, subst, ◌∙◌, ◌≢◌, inl, inr, Bool, true, false, not, ◌&&◌, ◌||◌, List, [], ◌∷◌, ◌++◌, ℕ, zero, suc, ◌+◌, ◌<◌, arith, eqb-true, eq-eqb, ne_eqb, eqb}
use mathlib.Core.Bool.{and-true, and-false}
use native.Mathlib.Decide.{dec_lt, ℕ_discrete}
use Rattle.field.specs.Bit.{bit}
use Rattle.field.specs.Member.{member}
use Rattle.field.proofs.Tests.{both, test_same, eqb_same}
use Rattle.circuit.specs.Count.{is_mul, is_square, is_product, same_pair, repeated, distinct, count}
use Rattle.circuit.specs.Every.{Every}
use Rattle.circuit.specs.Gate.{Gate, fields}
use Rattle.circuit.specs.Used.{only_if}
use Rattle.circuit.proofs.Counted.{Same, pair_facts}
use Rattle.counter.specs.Pairs.{lower, higher, lowers, different}

-- ---- sums

-- the sum of the first n numbers of a sequence
unfoldable pub sum_to : (ℕ → ℕ) → ℕ → ℕ
sum_to f zero = 0
sum_to f (suc n) = sum_to f n + f n

sum_same : (F G : ℕ → ℕ) (n : ℕ) → ((h : ℕ) → h < n → F h ≡ G h) → sum_to F n ≡ sum_to G n
unfolding sum_to
sum_same F G zero same = refl
sum_same F G (suc n) same = omega (arith, sum_same F G n (λ h l. same h (omega arith)), same n (omega arith))

-- two sequences that differ at one place
sum_one : (F G : ℕ → ℕ) (at more n : ℕ) → at < n → ((h : ℕ) → h ≢ at → F h ≡ G h) → F at ≡ more + G at → sum_to F n ≡ more + sum_to G n
unfolding sum_to
sum_one F G at more zero l same here = absurd (omega arith)
sum_one F G at more (suc n) l same here = go (dec_lt at n) (λ l. sum_one F G at more n l same here)
  where
    go : Dec (at < n) → (at < n → sum_to F n ≡ more + sum_to G n) → sum_to F n + F n ≡ more + (sum_to G n + G n)
    go (yes l) later = omega (arith, later l, same n (λ e. omega arith))
    go (no m) later =
        let last : at ≡ n = omega arith in
        omega (arith, sum_same F G n (λ h k. same h (λ e. omega arith)), subst (λ (i : ℕ). F i ≡ more + G i) last here)

sum_none : (n : ℕ) → sum_to (λ h. 0) n ≡ 0
unfolding sum_to
sum_none zero = refl
sum_none (suc n) = omega (arith, sum_none n)

-- ---- one gate

module _ (g : Gate) (gs : List Gate) where
  member_lowers : (i h : ℕ) → member i (lowers h (g ∷ gs)) ≡ (is_mul g && eqb (higher g) h && eqb (lower g) i || member i (lowers h gs))
  unfolding lowers member
  member_lowers i h = go (is_mul g && eqb (higher g) h)
    where
      go : (t : Bool) → member i (only_if t (lower g ∷ []) ++ lowers h gs) ≡ (t && eqb (lower g) i || member i (lowers h gs))
      go true = refl
      go false = refl

  different_lowers : (h : ℕ) → different (lowers h (g ∷ gs))
      ≡ bit (is_mul g && eqb (higher g) h && not (member (lower g) (lowers h gs))) + different (lowers h gs)
  unfolding lowers different
  different_lowers h = go (is_mul g && eqb (higher g) h)
    where
      go : (t : Bool) → different (only_if t (lower g ∷ []) ++ lowers h gs)
          ≡ bit (t && not (member (lower g) (lowers h gs))) + different (lowers h gs)
      go true = refl
      go false = omega arith

  count_distinct : (test : Gate → Bool) → count test (distinct (g ∷ gs)) ≡ bit (not (repeated g gs) && test g) + count test (distinct gs)
  unfolding distinct count
  count_distinct test = go (not (repeated g gs))
    where
      go : (t : Bool) → count test (only_if t (g ∷ []) ++ distinct gs) ≡ bit (t && test g) + count test (distinct gs)
      go true = refl
      go false = omega arith

-- two MULs have the same pair where both the higher and the lower operands are the same
same_pair_lem : (g h : Gate) → is_mul g ≡ true → same_pair g h ≡ (is_mul h && eqb (higher h) (higher g) && eqb (lower h) (lower g))
same_pair_lem g h mul = test_same (same_pair g h) _ (there, back)
  where
    there : same_pair g h ≡ true → (is_mul h && eqb (higher h) (higher g) && eqb (lower h) (lower g)) ≡ true
    there t = let s = (pair_facts g h).0 t in rw s.1 (go s.2)
      where
        go : Same g h → (eqb (higher h) (higher g) && eqb (lower h) (lower g)) ≡ true
        go (inl e) = rw (eq-eqb (higher h) (higher g) (omega arith), eq-eqb (lower h) (lower g) (omega arith))
        go (inr e) = rw (eq-eqb (higher h) (higher g) (omega arith), eq-eqb (lower h) (lower g) (omega arith))

    back : (is_mul h && eqb (higher h) (higher g) && eqb (lower h) (lower g)) ≡ true → same_pair g h ≡ true
    back t =
        let s = both (is_mul h && eqb (higher h) (higher g)) _ t in
        let r = both (is_mul h) _ s.0 in
        (pair_facts g h).1 (mul, r.0, go (eqb-true (higher h) (higher g) r.1) (eqb-true (lower h) (lower g) s.1) (ℕ_discrete (fields g).a (fields h).a))
      where
        go : higher h ≡ higher g → lower h ≡ lower g → Dec ((fields g).a ≡ (fields h).a) → Same g h
        go high low (yes e) = inl (e, omega arith)
        go high low (no n) = inr (omega arith)

-- a MUL's pair is repeated where its lower operand is among those of its higher one
repeated_is : (g : Gate) (gs : List Gate) → is_mul g ≡ true → repeated g gs ≡ member (lower g) (lowers (higher g) gs)
unfolding repeated lowers member
repeated_is g [] mul = refl
repeated_is g (f ∷ fs) mul =
    rw (same_pair_lem g f mul, repeated_is g fs mul) (sym (member_lowers f fs (lower g) (higher g)))

-- ---- all gates

-- the different pairs whose higher operand is below n
abbrev pub pairs_below : List Gate → ℕ → ℕ
pairs_below gates n = sum_to (λ h. different (lowers h gates)) n

-- the squares among them: those whose lower operand is the higher one too
abbrev pub squares_below : List Gate → ℕ → ℕ
squares_below gates n = sum_to (λ h. bit (member h (lowers h gates))) n

-- every MUL's higher operand is below n
abbrev pub Below : ℕ → List Gate → Type 0
Below n gs = Every (λ (g : Gate). is_mul g ≡ true → higher g < n) gs

-- one gate more, which changes the group of its own higher operand alone
one_more : (F G : ℕ → ℕ) (n whole : ℕ) (g : Gate) (new : Bool) → (is_mul g ≡ true → higher g < n) → whole ≡ sum_to G n
    → (is_mul g ≡ false → new ≡ false) → ((h : ℕ) → (is_mul g && eqb (higher g) h) ≡ false → F h ≡ G h)
    → (is_mul g ≡ true → F (higher g) ≡ bit new + G (higher g)) → bit new + whole ≡ sum_to F n
one_more F G n whole g new low e none same here = go (is_mul g) refl
  where
    go : (t : Bool) → is_mul g ≡ t → bit new + whole ≡ sum_to F n
    go true mul =
        rw e (sym (sum_one F G (higher g) (bit new) n (low mul) (λ h m. same h (rw (mul, ne_eqb (higher g) h (λ s. m (sym s))))) (here mul)))
    go false mul = rw (none mul, e) (omega (arith, sum_same F G n (λ h l. same h (rw mul))))

pub pairs_grouped : (n : ℕ) (gs : List Gate) → Below n gs → count is_mul (distinct gs) ≡ pairs_below gs n
unfolding count distinct different lowers
pairs_grouped n [] low = sym (sum_none n)
pairs_grouped n (g ∷ gs) low =
    count_distinct g gs is_mul
    ∙ one_more (λ h. different (lowers h (g ∷ gs))) (λ h. different (lowers h gs)) n _ g (not (repeated g gs) && is_mul g) low.0 (pairs_grouped n gs low.1)
    (λ e. rw e (and-false (not (repeated g gs))))
    (λ h e. different_lowers g gs h ∙ rw e (omega arith))
    (λ e.
    different_lowers g gs (higher g)
    ∙ rw (e, eq-eqb (higher g) (higher g) refl, ← repeated_is g gs e)
    (ap (λ (b : Bool). bit b + different (lowers (higher g) gs)) (sym (and-true (not (repeated g gs))))))

-- a square's two operands are one
square_is : (g : Gate) → eqb (fields g).a (fields g).b ≡ eqb (lower g) (higher g)
square_is g = eqb_same (fields g).a (fields g).b (lower g) (higher g) (λ e. omega arith, λ e. omega arith)

own_lower : (s : Bool) (high low : ℕ) (numbers : List ℕ) → eqb low high ≡ s
    → bit (s || member high numbers) ≡ bit (not (member low numbers) && s) + bit (member high numbers)
own_lower true high low numbers e = rw (eqb-true low high e) (go (member high numbers))
  where
    go : (t : Bool) → 1 ≡ bit (not t && true) + bit t
    go true = refl
    go false = refl
own_lower false high low numbers e = rw (and-false (not (member low numbers))) (omega arith)

pub squares_grouped : (n : ℕ) (gs : List Gate) → Below n gs → count is_square (distinct gs) ≡ squares_below gs n
unfolding count distinct member lowers
squares_grouped n [] low = sym (sum_none n)
squares_grouped n (g ∷ gs) low =
    count_distinct g gs is_square
    ∙ one_more (λ h. bit (member h (lowers h (g ∷ gs)))) (λ h. bit (member h (lowers h gs))) n _ g (not (repeated g gs) && is_square g) low.0 (squares_grouped n gs low.1)
    (λ e. rw e (and-false (not (repeated g gs))))
    (λ h e. rw (member_lowers g gs h h, e))
    (λ e.
    rw (member_lowers g gs (higher g) (higher g), e, eq-eqb (higher g) (higher g) refl, square_is g, repeated_is g gs e)
    (own_lower (eqb (lower g) (higher g)) (higher g) (lower g) (lowers (higher g) gs) refl))

-- every MUL is a product or a square
pub muls_split : (gs : List Gate) → count is_mul gs ≡ count is_product gs + count is_square gs
unfolding count
muls_split [] = refl
muls_split (g ∷ gs) = omega (arith, muls_split gs, one (is_mul g) (eqb (fields g).a (fields g).b))
  where
    one : (m e : Bool) → bit m ≡ bit (m && not e) + bit (m && e)
    one true true = refl
    one true false = refl
    one false e = refl
