-- A list that begins with the constants of p: where the sixteen bits of each stand.
-- Assumes nothing.
use Rattle.std.proofs.Common.{◌≡◌, sym, ap, ◌∙◌, List, [], ◌++◌, ℕ, ◌+◌, ◌-◌, ◌*◌, ◌<◌, arith, length, length-take, get_or, get_or-take}
use Rattle.std.proofs.Math.ListN.{get_or-append}
use Rattle.std.proofs.lemmas.List.{length-map, get_or_at, get_or-map}
use Rattle.field.specs.Half.{half}
use Rattle.field.specs.Polynomials.{every_second, order_exponents, order_constant, order_constants}
use Rattle.field.proofs.OrderConstants.{length_second, second_at}
use Rattle.circuit.specs.Constant.{bits_of}
use Rattle.comparison.proofs.OrderDigit.{exponents_length}
use Rattle.powers.specs.Prepared.{Constants}

second_then : (n i m : ℕ) (later : List ℕ) → m < n → get_or (every_second n i ++ later) m 0 ≡ i + 2 * m
second_then n i m later l =
    get_or-append (every_second n i) later 0 m (omega (arith, length_second n i)) ∙ second_at n i m l

module _ (p : ℕ) (list : List ℕ) (c : Constants p list) where
  abbrev count : ℕ
  count = length (order_constants p)

  sized : count ≡ half p + 1
  unfolding order_constants
  sized = omega (arith, length-map (order_exponents p) (order_constant p), exponents_length p)

  -- there is one for each exponent
  pub constants_long : half p < length list
  constants_long = omega (arith, sized, ap length c.begins, length-take count list, length-map (order_constants p) (bits_of p))

  -- number m of the list is that of the exponent number m
  bits_at : (m : ℕ) → m < half p + 1 → get_or list m 0 ≡ bits_of p (order_constant p (get_or (order_exponents p) m 0))
  unfolding order_constants
  bits_at m l =
      sym (get_or-take count list m 0 (omega (arith, sized)))
      ∙ ap (λ (bits : List ℕ). get_or bits m 0) c.begins
      ∙ get_or-map (bits_of p) (order_constants p) m 0 0 (omega (arith, sized))
      ∙ ap (bits_of p) (get_or-map (order_constant p) (order_exponents p) m 0 0 (omega (arith, exponents_length p)))

  pub bits_odd : (m : ℕ) → m < half p → get_or list m 0 ≡ bits_of p (order_constant p (2 * m + 1))
  unfolding order_exponents
  bits_odd m l =
      let e : 1 + 2 * m ≡ 2 * m + 1 = omega arith in
      bits_at m (omega arith) ∙ ap (λ i. bits_of p (order_constant p i)) (second_then (half p) 1 m _ l ∙ e)

  pub bits_top : get_or list (half p) 0 ≡ bits_of p (order_constant p (p - 1))
  unfolding order_exponents
  bits_top =
      bits_at (half p) (omega arith)
      ∙ ap (λ i. bits_of p (order_constant p i)) (get_or_at (every_second (half p) 1) (p - 1) [] 0 (half p) (length_second (half p) 1))
