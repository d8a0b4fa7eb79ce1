-- Why the code's order constants are those of the definition. A list that is filled from the front holds the first values of a function; the products of the powers
-- b^d and b^e are the powers b^(d+e), modulo p; and the sum of the powers b^(p-2m) is the constant number m, counted from 1. So with m constants to write the powers
-- are b^(p-2m), and each turn writes one and raises the powers by b^2.
-- Assumes nothing.
use Rattle.std.proofs.Common.{◌≡◌, refl, sym, ap, ap₂, ◌∙◌, List, [], ◌∷◌, ◌++◌, map, append_assoc, ℕ, zero, suc, ◌+◌, ◌-◌, ◌*◌, ◌/◌, ◌%◌, ◌^◌, ◌≤◌, ◌<◌, arith, add-one, sub-one, pow-add, length, take, drop, set, get_or, length-append, length-drop, length-set, drop_of_length-le, length-take-le, take_at, drop-cons, drop-set-lt, get_or-set_same}
use mathlib.Core.List.{map-append}
use native.Mathlib.Nat.{mod-mod, pow-zero, pow-succ'}
use lib.ListN.{get_or-map, length-map}
use lib.Seq.{set_at, get_or_at}
use Rattle.field.specs.FirstValues.{first_values}
use Rattle.field.specs.Sum.{sum, total}
use Rattle.field.specs.Modular.{residue, mul_mod}
use Rattle.field.specs.Polynomials.{every_second, order_exponents, order_constant, order_constants}
use Rattle.circuit.specs.Constant.{bits_of}
use Rattle.constants.specs.Constants.{one_to, products_mod, powers_mod, odd_constants, odd_bits}
use Rattle.field.proofs.FirstValues.{length_first, first_at, first_same, total_first}
use Rattle.field.proofs.Modular.{mod_same, strip, residue_is, residue_small}
use Rattle.field.proofs.OrderConstants.{length_second, second_at, constant_odd, constant_last}
use Rattle.field.proofs.Sum.{sum_cong}

-- ---- filling a list from the front

-- the first i entries are the first values, and the others are as they were
pub record Filled (f : ℕ → ℕ) (before now : List ℕ) (i : ℕ) : Type 0 where
  pub within : i ≤ length before
  pub is : now ≡ first_values i f ++ drop i before

module _ (f : ℕ → ℕ) (l : List ℕ) where
  pub filled_none : Filled f l l 0
  unfolding first_values
  filled_none = record { within = omega arith; is = refl }

  module _ (now : List ℕ) (i : ℕ) (h : Filled f l now i) where
    pub filled_length : length now ≡ length l
    filled_length =
        ap length h.is
        ∙ length-append (first_values i f) (drop i l)
        ∙ omega (arith, length_first i f, length-drop i l, h.within)

    parted : i < length l → now ≡ first_values i f ++ (get_or l i 0 ∷ drop (suc i) l)
    parted k = h.is ∙ ap (λ (t : List ℕ). first_values i f ++ t) (drop-cons l i 0 k)

    -- the next entry is as it was
    pub filled_next : i < length l → get_or now i 0 ≡ get_or l i 0
    filled_next k =
        ap (λ (t : List ℕ). get_or t i 0) (parted k)
        ∙ get_or_at (first_values i f) (get_or l i 0) (drop (suc i) l) 0 i (length_first i f)

    pub fill : (x : ℕ) → i < length l → x ≡ f i → Filled f l (set now i x) (i + 1)
    unfolding first_values
    fill x k e = record {
      within = omega arith;
      is =
          ap (λ (t : List ℕ). set t i x) (parted k)
          ∙ set_at (first_values i f) (get_or l i 0) (drop (suc i) l) x i (length_first i f)
          ∙ ap (λ (y : ℕ). first_values i f ++ (y ∷ drop (suc i) l)) e
          ∙ rw add-one (sym (append_assoc (first_values i f) (f i ∷ []) (drop (suc i) l)));
    }

-- the first i entries are multiplied by the factors at their places
abbrev pub Multiplied : ℕ → List ℕ → List ℕ → List ℕ → ℕ → Type 0
Multiplied p factors before list i = Filled (λ k. mul_mod p (get_or before k 0) (get_or factors k 0)) before list i

-- ---- the first n entries of an array, lent and filled

module _ (n : ℕ) (f : ℕ → ℕ) (l part : List ℕ) (fits : n ≤ length l) (e : part ≡ first_values (length (take n l)) f) where
  part_is : part ≡ first_values n f
  part_is = e ∙ ap (λ (k : ℕ). first_values k f) (length-take-le n l fits)

  pub filled_part_is : take n (part ++ drop n l) ≡ first_values n f
  filled_part_is = take_at part (drop n l) n (ap length part_is ∙ length_first n f) ∙ part_is

-- ---- powers modulo p

power_one : (b : ℕ) → b ^ 1 ≡ b
power_one b = pow-succ' b 0 ∙ rw (pow-zero b) (omega arith)

pub power_two : (b : ℕ) → b * b ≡ b ^ 2
power_two b = sym (pow-succ' b 1 ∙ ap (λ (t : ℕ). b * t) (power_one b))

pub counting_powers : (p n : ℕ) → n < p → one_to n ≡ powers_mod p 1 n
counting_powers p n l =
    first_same n _ _ (λ b k. sym (ap (residue p) (power_one (suc b)) ∙ residue_small p (suc b) (omega arith)))

-- exponents add up
pub powers_product : (p d e n : ℕ) → 0 < p → products_mod p (powers_mod p d n) (powers_mod p e n) ≡ powers_mod p (d + e) n
powers_product p d e n some =
    ap (λ (k : ℕ). first_values k products) (length_first n (power d)) ∙ first_same n products (power (d + e)) same
  where
    is : (x : ℕ) → residue p x ≡ x % p
    is x = residue_is p x some

    power : ℕ → ℕ → ℕ
    power k b = residue p (suc b ^ k)

    products : ℕ → ℕ
    products b = mul_mod p (get_or (powers_mod p d n) b 0) (get_or (powers_mod p e n) b 0)

    same : (b : ℕ) → b < n → products b ≡ power (d + e) b
    same b l =
        ap₂ (mul_mod p) (first_at n (power d) b l) (first_at n (power e) b l)
        ∙ simp is (simp strip (mod_same p (sym (pow-add (suc b) d e))))

pub powers_sum : (p e n : ℕ) → 0 < p → residue p (total (powers_mod p e n)) ≡ sum n (λ b. suc b ^ e) % p
powers_sum p e n some =
    residue_is p _ some
    ∙ mod_same p (total_first n _)
    ∙ sum_cong p n _ _ (λ b l. mod_same p (residue_is p _ some) ∙ mod-mod _ p)

-- ---- the constants

length_odd : (p : ℕ) → length (odd_bits p) ≡ p / 2
unfolding odd_constants
length_odd p =
    length-map (odd_constants p) (bits_of p) ∙ length-map (every_second (p / 2) 1) (order_constant p) ∙ length_second (p / 2) 1

odd_from : (p k : ℕ) → k < p / 2 → drop k (odd_bits p) ≡ bits_of p (order_constant p (1 + 2 * k)) ∷ drop (suc k) (odd_bits p)
unfolding odd_constants
odd_from p k l =
    let c = order_constant p in
    let is = every_second (p / 2) 1 in
    drop-cons (odd_bits p) k (bits_of p (c 0)) (omega (arith, length_odd p))
    ∙ ap (λ (x : ℕ). x ∷ drop (suc k) (odd_bits p))
    (get_or-map (bits_of p) (odd_constants p) k (c 0) ∙ ap (bits_of p) (get_or-map c is k 0 ∙ ap c (second_at (p / 2) 1 k l)))

module _ (p : ℕ) (odd : p % 2 ≡ 1) where
  -- the sum of the powers that stand there where k constants are left after this one
  constant_sum : (k : ℕ) → k < p / 2 → residue p (total (powers_mod p (1 + 2 * (p / 2 - suc k)) (p / 2))) ≡ order_constant p (1 + 2 * k)
  constant_sum k l =
      let e : 1 + 2 * (p / 2 - suc k) ≡ 2 * (p / 2) - (1 + 2 * k) = omega arith in
      rw e (powers_sum p (2 * (p / 2) - (1 + 2 * k)) (p / 2) (omega arith)) ∙ sym (constant_odd p (p / 2) (omega arith) k l)

  constants_are : order_constants p ≡ odd_constants p ++ (suc (p / 2) ∷ [])
  unfolding order_constants order_exponents odd_constants
  constants_are =
      let half : (p - 1) / 2 ≡ p / 2 = omega arith in
      map-append (order_constant p) (every_second ((p - 1) / 2) 1) ((p - 1) ∷ [])
      ∙ rw (half, constant_last p (p / 2) (omega arith))

  -- as SCALEs have them
  bits_are : map (bits_of p) (order_constants p) ≡ odd_bits p ++ (bits_of p (suc (p / 2)) ∷ [])
  bits_are = ap (map (bits_of p)) constants_are ∙ map-append (bits_of p) (odd_constants p) (suc (p / 2) ∷ [])

  -- the last constant, and those before it
  pub constants_with_last : (half last : ℕ) (entry exit : List ℕ) → half ≡ p / 2 → last ≡ bits_of p (p / 2 + 1) → p / 2 + 1 ≤ length entry
      → exit ≡ odd_bits p ++ drop (p / 2) (set entry half last) → exit ≡ map (bits_of p) (order_constants p) ++ drop (p / 2 + 1) entry
  constants_with_last half last entry exit is told l e =
      e
      ∙ ap (λ (k : ℕ). odd_bits p ++ drop h (set entry k last)) is
      ∙ ap (λ (t : List ℕ). odd_bits p ++ t)
      (drop-cons (set entry h last) h 0 (rw length-set (omega arith))
      ∙ ap₂ (λ (x : ℕ) (t : List ℕ). x ∷ t) (get_or-set_same entry h last 0 (omega arith) ∙ told ∙ ap (bits_of p) (add-one h)) (drop-set-lt (suc h) entry h last (omega arith)))
      ∙ sym (append_assoc (odd_bits p) (bits_of p (suc h) ∷ []) (drop (suc h) entry))
      ∙ rw (← bits_are, add-one)
    where
      h : ℕ
      h = p / 2

-- ---- writing them from the last one down

-- with m constants to write: those after them stand there, and the powers are those that the next one sums
pub record Descending (p : ℕ) (before constants powers : List ℕ) (m : ℕ) : Type 0 where
  pub within : m ≤ p / 2
  pub long : length constants ≡ length before
  pub raised : powers ≡ powers_mod p (1 + 2 * (p / 2 - m)) (p / 2)
  pub written : drop m constants ≡ drop m (odd_bits p) ++ drop (p / 2) before

pub descend_begin : (p : ℕ) (before powers : List ℕ) → powers ≡ powers_mod p 1 (p / 2) → Descending p before before powers (length powers)
descend_begin p before powers e =
    let all : length powers ≡ p / 2 = ap length e ∙ length_first (p / 2) _ in
    let none : p / 2 - p / 2 ≡ 0 = omega arith in
    rw all record {
      within = omega arith;
      long = refl;
      raised = rw none e;
      written = rw (drop_of_length-le (odd_bits p) {i = p / 2} (omega (arith, length_odd p)));
    }

module _ (p : ℕ) (before constants powers : List ℕ) where
  pub length_powers : (m : ℕ) → Descending p before constants powers m → length powers ≡ p / 2
  length_powers m u = ap length u.raised ∙ length_first (p / 2) _

  -- one constant down
  down : (k x : ℕ) (squares next : List ℕ) → p % 2 ≡ 1 → p / 2 ≤ length before → squares ≡ powers_mod p 2 (p / 2) → Descending p before constants powers (suc k)
      → x ≡ bits_of p (residue p (total powers)) → next ≡ products_mod p powers squares → Descending p before (set constants k x) next k
  down k x squares next odd room e u sum product = record {
    within = omega (arith, u.within);
    long = length-set constants k x ∙ u.long;
    raised =
        product
        ∙ ap₂ (products_mod p) u.raised e
        ∙ powers_product p _ 2 (p / 2) (omega arith)
        ∙ ap (λ (i : ℕ). powers_mod p i (p / 2)) (omega (arith, u.within));
    written =
        drop-cons (set constants k x) k 0 inside
        ∙ ap₂ (λ (y : ℕ) (t : List ℕ). y ∷ t)
        (get_or-set_same constants k x 0 (omega (arith, u.within, u.long)) ∙ sum
        ∙ ap (bits_of p) (ap (λ (t : List ℕ). residue p (total t)) u.raised ∙ constant_sum p odd k (omega (arith, u.within))))
        (drop-set-lt (suc k) constants k x (omega arith) ∙ u.written)
        ∙ sym (ap (λ (t : List ℕ). t ++ drop (p / 2) before) (odd_from p k (omega (arith, u.within))));
  }
    where
      inside : k < length (set constants k x)
      inside = rw length-set (omega (arith, u.within, u.long))

  pub descend_one : (m x : ℕ) (squares next : List ℕ) → p % 2 ≡ 1 → p / 2 ≤ length before → squares ≡ powers_mod p 2 (p / 2) → 0 < m → Descending p before constants powers m
      → x ≡ bits_of p (residue p (total powers)) → next ≡ products_mod p powers squares → Descending p before (set constants (m - 1) x) next (m - 1)
  descend_one zero x squares next odd room e l u sum product = absurd (omega arith)
  descend_one (suc k) x squares next odd room e l u sum product = simp sub-one (down k x squares next odd room e u sum product)

  pub descended : (m : ℕ) → m ≤ 0 → Descending p before constants powers m → constants ≡ odd_bits p ++ drop (p / 2) before
  descended zero l u = u.written
  descended (suc m) l u = absurd (omega arith)
