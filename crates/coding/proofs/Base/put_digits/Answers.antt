use Rattle.std.proofs.Common.{◌≡◌, ℕ, suc, ◌+◌, ◌-◌, ◌/◌, ◌%◌, ◌≤◌, ◌<◌, List, [], ◌∷◌, ◌++◌, length, take, drop, set, sym, ap, ◌∙◌, append_assoc, append-nil, add-one, length-set, take-suc-set, take_all, arith}
use Rattle.digits.specs.Number.{digits_of}
use Rattle.coding.proofs.Base.put_digits.Goals as goal

module _ (base n : ℕ) (list : List ℕ) (rest i : ℕ) (long : length list ≡ n) where
  turn : i < n → take (i + 1) (set list i (rest % base)) ++ digits_of base (n - (i + 1)) (rest / base) ≡ take i list ++ digits_of base (n - i) rest
  unfolding digits_of
  turn l =
      let d : ℕ = rest % base in
      let more : n - i ≡ suc (n - (i + 1)) = omega arith in
      ap (λ (t : List ℕ). t ++ digits_of base (n - (i + 1)) (rest / base))
      (ap (λ (k : ℕ). take k (set list i d)) (add-one i) ∙ take-suc-set list i d (omega arith))
      ∙ append_assoc (take i list) (d ∷ []) _
      ∙ ap (λ (k : ℕ). take i list ++ digits_of base k rest) (sym more)

  ended : n ≤ i → take i list ++ digits_of base (n - i) rest ≡ list
  unfolding digits_of
  ended l =
      let none : n - i ≡ 0 = omega arith in
      rw none (append-nil (take i list) ∙ take_all i list (omega arith))

pub loop-place-preserved : goal.loop-place-preserved
loop-place-preserved c =
    let l = c.loop-place in
    (simp length-set l.invariant.0, turn _ _ _ l.rest l.place-index l.invariant.0 (omega arith) ∙ l.invariant.1)

pub returns : goal.returns
returns c =
    let l = c.loop-place in
    ap (λ (t : List ℕ). t ++ drop c.args.n c.args.out.now) (sym (ended _ _ _ l.rest l.place-index l.invariant.0 (omega arith)) ∙ l.invariant.1)
