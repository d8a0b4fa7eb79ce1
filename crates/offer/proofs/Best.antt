-- The best step size is the best: by induction over the step sizes, of which those below k were seen.
-- Assumes nothing.
use mathlib.Core.Path.{◌≡◌, refl, sym, ◌∙◌}
use mathlib.Core.Bool.{Bool, true, false, ◌&&◌, ◌||◌, false≢true, true≢false}
use Prim.Native.Nat.{ℕ, zero, suc, ◌+◌, ◌≤◌, ◌<◌}
use native.Mathlib.Omega.{arith}
use native.Mathlib.Decide.{ℕ_discrete}
use borrow.Author.Tests.{ltb-true, ltb-false, eqb-true, eqb-false}
use lib.Dec.{ltb, eqb}
use Rattle.field.proofs.Tests.{cases, both}
use Rattle.offer.specs.Best.{Choice, nothing, chosen, precedes, replaces, taken, better, best_from, IsBest, BestChosen}

module _ (cost depth : ℕ → ℕ) (counts : ℕ → Bool) where
  -- a step size that precedes a lower one
  precedes_is : (a b : ℕ) → (u v w : Bool) → ltb (cost a) (cost b) ≡ u → eqb (cost a) (cost b) ≡ v → ltb (depth a) (depth b) ≡ w
      → (u || (v && w)) ≡ true → (cost a ≤ cost b) × (cost a ≡ cost b → depth a < depth b)
  precedes_is a b true v w hu hv hw e = let l = ltb-true (cost a) (cost b) hu in (omega arith, λ q. absurd (omega arith))
  precedes_is a b false true true hu hv hw e =
      let q = eqb-true (cost a) (cost b) hv in (omega arith, λ r. ltb-true (depth a) (depth b) hw)
  precedes_is a b false true false hu hv hw e = absurd (false≢true e)
  precedes_is a b false false w hu hv hw e = absurd (false≢true e)

  precedes_not : (a b : ℕ) → (u v w : Bool) → ltb (cost a) (cost b) ≡ u → eqb (cost a) (cost b) ≡ v → ltb (depth a) (depth b) ≡ w
      → (u || (v && w)) ≡ false → (cost b ≤ cost a) × (cost b ≡ cost a → depth b ≤ depth a)
  precedes_not a b true v w hu hv hw e = absurd (true≢false e)
  precedes_not a b false true true hu hv hw e = absurd (true≢false e)
  precedes_not a b false true false hu hv hw e = (ltb-false (cost a) (cost b) hu, λ q. ltb-false (depth a) (depth b) hw)
  precedes_not a b false false w hu hv hw e =
      (ltb-false (cost a) (cost b) hu, λ q. absurd (eqb-false (cost a) (cost b) hv (sym q)))

  -- one step size more, after those up to n
  one_more : (n : ℕ) (best : Choice) (b : Bool) → replaces cost depth counts (suc n) best ≡ b → IsBest cost depth counts n best
      → IsBest cost depth counts (suc n) (taken cost depth counts b (suc n) best)
  one_more n nothing true e h = (
    omega arith,
    omega arith,
    e,
    λ k one l c.
        cases (ℕ_discrete k (suc n))
        (λ same. record { cheaper = rw same (omega arith); shallower = λ q. rw same (omega arith); lower = λ q r. omega arith })
        (λ other. absurd (false≢true (sym (h k one (omega arith)) ∙ c))),
  )
  one_more n nothing false e h = λ k one l. cases (ℕ_discrete k (suc n)) (λ same. rw same e) (λ other. h k one (omega arith))
  one_more n (chosen b) true e h =
      let two = both (counts (suc n)) _ e in
      let less = precedes_is (suc n) b _ _ _ refl refl refl two.1 in (
        omega arith,
        omega arith,
        two.0,
        λ k one l c.
            cases (ℕ_discrete k (suc n))
            (λ same. record { cheaper = rw same (omega arith); shallower = λ q. rw same (omega arith); lower = λ q r. omega arith })
            (λ other.
            let old = h.3 k one (omega arith) c in
            record {
              cheaper = omega (arith, old.cheaper, less.0);
              shallower = λ q. let r : cost (suc n) ≡ cost b = omega (arith, old.cheaper, less.0) in omega (arith, less.1 r, old.shallower (omega arith));
              lower = λ q r.
                  let s : cost (suc n) ≡ cost b = omega (arith, old.cheaper, less.0) in
                  absurd (omega (arith, less.1 s, old.shallower (omega arith)));
            }),
      )
  one_more n (chosen b) false e h = (
    h.0,
    omega (arith, h.1),
    h.2,
    λ k one l c.
        cases (ℕ_discrete k (suc n))
        (λ same.
        let more = rw same at c in
        let f : (true && precedes cost depth counts (suc n) b) ≡ false = rw more at e in
        let not = precedes_not (suc n) b _ _ _ refl refl refl f in
        record { cheaper = rw same not.0; shallower = λ q. rw same (not.1 (rw same at q)); lower = λ q r. omega (arith, h.1) })
        (λ other. h.3 k one (omega arith) c),
  )

  from_best : (n k m : ℕ) (best : Choice) → k + n ≡ m → IsBest cost depth counts k best
      → IsBest cost depth counts m (best_from cost depth counts n (suc k) best)
  unfolding best_from
  from_best zero k m best e h = let same : k ≡ m = omega arith in rw same at h
  from_best (suc n) k m best e h =
      from_best n (suc k) m (better cost depth counts (suc k) best) (omega arith)
      (one_more k best (replaces cost depth counts (suc k) best) refl h)

pub best_chosen : BestChosen
best_chosen cost depth counts n = from_best cost depth counts n 0 n nothing (omega arith) (λ k one l. absurd (omega arith))
