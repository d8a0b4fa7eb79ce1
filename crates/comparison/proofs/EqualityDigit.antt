-- The gates of the equality digit, for any p from 2 on: their value and their depth, what they name, and how many there are.
-- By induction on the bits of p - 1; one induction serves value and depth: what a product of powers keeps, the last power has.
-- Assumes nothing.
use mathlib.Core.Path.{◌≡◌, refl, sym, ap, subst, ◌∙◌}
use mathlib.Core.Bool.{Bool, true, false}
use mathlib.Core.List.{List, [], ◌∷◌}
use Prim.Native.Nat.{ℕ, suc, ◌+◌, ◌-◌, ◌*◌, ◌%◌, ◌^◌, ◌≤◌, ◌<◌, max}
use native.Mathlib.Omega.{arith}
use native.Mathlib.Nat.{le_refl, max-eq_right, mod-mod, mul-one, pow-zero, pow-succ'}
use borrow.Author.Tests.{eq-eqb, ne_eqb}
use lib.ListN.{length}
use lib.Pow.{pow_pos, pow-add}
use Rattle.field.specs.Bit.{bit}
use Rattle.field.specs.Logarithm.{flog, clog}
use Rattle.field.specs.Modular.{residue}
use Rattle.field.specs.Polynomials.{zero_test}
use Rattle.field.proofs.Logarithm.{clog_is_ceiling, clog_small, clog_between, clog_power}
use Rattle.field.proofs.Modular.{mod_same, mul_cong, mul_mod_is, sub_cong}
use Rattle.circuit.specs.Count.{count, is_product, is_square}
use Rattle.circuit.specs.Depth.{depths}
use Rattle.circuit.specs.Meaning.{Algebra, Solves}
use Rattle.circuit.specs.Table.{Head, all_fit}
use Rattle.circuit.specs.Value.{values}
use Rattle.circuit.proofs.Fitting.{AllFitted, all_fit_lem}
use Rattle.comparison.specs.Bits.{bits, set_bits, ones}
use Rattle.comparison.specs.Difference.{z_gate}
use Rattle.comparison.specs.DigitPromises.{EqualityDigitCounts}
use Rattle.comparison.specs.EqualityDigit.{Collected, nothing, power, held_by, chain, zero_chain, zero_gates}
use Rattle.comparison.proofs.Bits.{bits_length, worth, bits_worth, ones_some}

-- ---- the last power, over any entries that solve the gates

-- gate `last` flips a gate that holds the e-th power
record Flips {A : Type 0} (alg : Algebra A) (Power : A → ℕ → Type 0) (E : ℕ → A) (last e : ℕ) : Type 0 where
  pub gate : ℕ
  pub flips : E last ≡ alg.flip (E gate)
  pub holds : Power (E gate) e

-- what is known of the collected power where the running one is the 2^j-th: it is the e-th
abbrev Collects : {A : Type 0} (Power : A → ℕ → Type 0) (E : ℕ → A) → Collected → ℕ → ℕ → Type 0
Collects Power E nothing j e = e ≡ 0
Collects Power E (power collected) j e = (1 ≤ e) × (e < 2 ^ suc j) × Power (E collected) e

collects_later : {A : Type 0} (Power : A → ℕ → Type 0) (E : ℕ → A) (c : Collected) (j e : ℕ) → Collects Power E c j e
    → Collects Power E c (suc j) e
collects_later Power E nothing j e known = known
collects_later Power E (power collected) j e known = (known.0, omega arith, known.2)

-- a bit, and the later ones with the next weight
weighed : (b : Bool) (bs : List Bool) (j : ℕ) → 2 ^ j * worth (b ∷ bs) ≡ 2 ^ j * bit b + 2 ^ suc j * worth bs
unfolding worth
weighed b bs j = rw (pow-succ' 2 j) (omega arith)

-- `Power x e` says of an entry x what is known of the e-th power
module _ {A : Type 0} (alg : Algebra A) (Power : A → ℕ → Type 0)
    (multiplied : (a b : A) (e j : ℕ) → 1 ≤ e → e ≤ 2 ^ j → Power a e → Power b (2 ^ j) → Power (alg.mul a b) (e + 2 ^ j))
    (E : ℕ → A) where
  squared : (k running j : ℕ) → E k ≡ alg.mul (E running) (E running) → Power (E running) (2 ^ j) → Power (E k) (2 ^ suc j)
  squared k running j s known =
      subst (Power (E k)) (omega arith)
      (subst (λ (x : A). Power x (2 ^ j + 2 ^ j)) (sym s) (multiplied _ _ (2 ^ j) j (pow_pos j) (le_refl _) known known))

  chain_power : (bs : List Bool) (k running : ℕ) (c : Collected) (j e last : ℕ) → Solves alg E k (chain bs k running c)
      → suc last ≡ k + length (chain bs k running c) → Power (E running) (2 ^ j) → Collects Power E c j e → 1 ≤ e + worth bs
      → Flips alg Power E last (e + 2 ^ suc j * worth bs)
  unfolding chain worth
  chain_power [] k running nothing j e last s n known collected some = absurd (omega arith)
  chain_power [] k running (power gate) j e last s n known collected some = record {
    gate = gate;
    flips = ap E (omega arith) ∙ s.0;
    holds = subst (Power (E gate)) (omega arith) collected.2;
  }
  chain_power (false ∷ bs) k running c j e last s n known collected some =
      subst (Flips alg Power E last) (omega (arith, weighed false bs (suc j)))
      (chain_power bs (suc k) k c (suc j) e last s.1 (omega arith) (squared k running j s.0 known)
      (collects_later Power E c j e collected) (omega arith))
  chain_power (true ∷ bs) k running nothing j e last s n known collected some =
      let new = squared k running j s.0 known in
      let positive = pow_pos j in
      subst (Flips alg Power E last) (omega (arith, weighed true bs (suc j)))
      (chain_power bs (suc k) k (power k) (suc j) (2 ^ suc j) last s.1 (omega arith) new
      (omega arith, omega arith, new) (omega arith))
  chain_power (true ∷ bs) k running (power gate) j e last s n known collected some =
      let new = squared k running j s.0 known in
      let times = multiplied _ _ e (suc j) collected.0 (omega arith) collected.2 new in
      let product = subst (λ (x : A). Power x (e + 2 ^ suc j)) (sym s.1.0) times in
      subst (Flips alg Power E last) (omega (arith, weighed true bs (suc j)))
      (chain_power bs (suc (suc k)) k (power (suc k)) (suc j) (e + 2 ^ suc j) last s.1.1 (omega arith) new
      (omega arith, omega arith, product) (omega arith))

  start_power : (bs : List Bool) (k z last : ℕ) → Solves alg E k (zero_chain bs k z) → suc last ≡ k + length (zero_chain bs k z)
      → Power (E z) 1 → 1 ≤ worth bs → Flips alg Power E last (worth bs)
  unfolding worth
  start_power [] k z last s n known some = absurd (omega arith)
  start_power (false ∷ bs) k z last s n known some = chain_power bs k z nothing 0 0 last s n known refl (omega arith)
  start_power (true ∷ bs) k z last s n known some =
      chain_power bs k z (power z) 0 1 last s n known (omega arith, omega arith, known) (omega arith)

  zero_power : (p k z last : ℕ) → 2 ≤ p → Solves alg E k (zero_chain (bits (p - 1)) k z)
      → suc last ≡ k + length (zero_chain (bits (p - 1)) k z) → Power (E z) 1 → Flips alg Power E last (p - 1)
  zero_power p k z last h s n known =
      let t = p - 1 in
      subst (Flips alg Power E _) (bits_worth t) (start_power (bits t) k z last s n known (omega (arith, bits_worth t)))

-- ---- value and depth, of the chain from gate number k on over any gate z

pub chain_value : (p : ℕ) (left right : List ℕ) (E : ℕ → ℕ) (k z last : ℕ) → 2 ≤ p
    → Solves (values p left right) E k (zero_chain (bits (p - 1)) k z) → suc last ≡ k + length (zero_chain (bits (p - 1)) k z)
    → E last ≡ zero_test p (E z)
chain_value p left right E k z last h s n =
    let found = zero_power (values p left right) IsPower multiplied E p k z last h s n (mod_same p (sym once)) in
    found.flips ∙ sub_cong p 1 _ _ some found.holds
  where
    some : 0 < p
    some = omega arith

    once : E z ^ 1 ≡ E z
    once = pow-succ' _ 0 ∙ simp (pow-zero, mul-one)

    IsPower : ℕ → ℕ → Type 0
    IsPower x e = x % p ≡ (E z ^ e) % p

    multiplied : (a b e j : ℕ) → 1 ≤ e → e ≤ 2 ^ j → IsPower a e → IsPower b (2 ^ j) → IsPower (residue p (a * b)) (e + 2 ^ j)
    multiplied a b e j l m f g =
        mod_same p (mul_mod_is p a b some) ∙ mod-mod _ p ∙ mul_cong p a _ b _ f g ∙ mod_same p (sym (pow-add _ e (2 ^ j)))

-- the depth of the e-th power, e at most 2^j, times the 2^j-th
pub deeper : (a b e j : ℕ) → 1 ≤ e → e ≤ 2 ^ j → a ≡ clog e → b ≡ clog (2 ^ j) → suc (max a b) ≡ clog (e + 2 ^ j)
deeper a b e j l m f g =
    let top = clog_power j in
    let low = (clog_is_ceiling e j).0 m in
    rw (max-eq_right {n = a} {m = b} (omega arith)) (omega (arith, clog_between (e + 2 ^ j) j (omega arith) (omega arith)))

pub chain_depth : (E : ℕ → ℕ) (p k z last : ℕ) → 2 ≤ p → Solves depths E k (zero_chain (bits (p - 1)) k z)
    → suc last ≡ k + length (zero_chain (bits (p - 1)) k z) → E z ≡ 0 → E last ≡ clog (p - 1)
chain_depth E p k z last h s n known =
    let found = zero_power depths (λ x e. x ≡ clog e) deeper E p k z last h s n (known ∙ sym (clog_small 1 (le_refl 1))) in
    found.flips ∙ found.holds

-- ---- what the gates name

held_later : (c : Collected) (k running : ℕ) → held_by c running < k → held_by c k < suc k
held_later nothing k running h = le_refl (suc k)
held_later (power collected) k running h = omega arith

chain_fitted : (head : Head) (bs : List Bool) (k running : ℕ) (c : Collected) → running < k → held_by c running < k
    → AllFitted head k (chain bs k running c)
unfolding chain
chain_fitted head [] k running c l h = (h, tt)
chain_fitted head (false ∷ bs) k running c l h =
    ((l, l), chain_fitted head bs (suc k) k c (le_refl _) (held_later c k running h))
chain_fitted head (true ∷ bs) k running nothing l h =
    ((l, l), chain_fitted head bs (suc k) k (power k) (le_refl _) (le_refl _))
chain_fitted head (true ∷ bs) k running (power collected) l h =
    ((l, l), ((omega arith, le_refl _), chain_fitted head bs (suc (suc k)) k (power (suc k)) (omega arith) (le_refl _)))

start_fitted : (head : Head) (bs : List Bool) (k z : ℕ) → z < k → AllFitted head k (zero_chain bs k z)
unfolding chain
start_fitted head [] k z l = (l, tt)
start_fitted head (false ∷ bs) k z l = chain_fitted head bs k z nothing l l
start_fitted head (true ∷ bs) k z l = chain_fitted head bs k z (power z) l l

pub chain_fits : (head : Head) (p k z : ℕ) → z < k → all_fit head k (zero_chain (bits (p - 1)) k z) ≡ true
chain_fits head p k z l = all_fit_lem head _ _ (start_fitted head (bits (p - 1)) k z l)

-- ---- how many there are

-- how many powers are collected
abbrev had : Collected → ℕ
had nothing = 0
had (power collected) = 1

-- one square for each bit, one product for each set bit but the first, and FLIP
chain_length : (bs : List Bool) (k running : ℕ) (c : Collected)
    → length (chain bs k running c) ≡ suc (length bs + (set_bits bs + had c - 1))
unfolding chain set_bits
chain_length [] k running nothing = refl
chain_length [] k running (power collected) = refl
chain_length (false ∷ bs) k running c = omega (arith, chain_length bs (suc k) k c)
chain_length (true ∷ bs) k running nothing = omega (arith, chain_length bs (suc k) k (power k))
chain_length (true ∷ bs) k running (power collected) = omega (arith, chain_length bs (suc (suc k)) k (power (suc k)))

pub start_length : (bs : List Bool) (k z : ℕ) → 1 ≤ set_bits bs → suc (length (zero_chain bs k z)) ≡ length bs + set_bits bs
unfolding set_bits
start_length [] k z some = absurd (omega arith)
start_length (false ∷ bs) k z some = omega (arith, chain_length bs k z nothing)
start_length (true ∷ bs) k z some = omega (arith, chain_length bs k z (power z))

pub chain_size : (p k z : ℕ) → 2 ≤ p → length (zero_chain (bits (p - 1)) k z) ≡ flog (p - 1) + ones (p - 1)
unfolding ones
chain_size p k z h =
    let t = p - 1 in
    let some : 1 ≤ t = omega arith in
    omega (arith, start_length (bits t) k z (ones_some t some), bits_length t some)

pub zero_length : (p k : ℕ) → 2 ≤ p → length (zero_gates p k) ≡ flog (p - 1) + ones (p - 1)
zero_length p k h = chain_size p (suc (z_gate k)) (z_gate k) h

-- no power that is collected is multiplied by itself
chain_count : (bs : List Bool) (k running : ℕ) (c : Collected) → held_by c running < k
    → (count is_product (chain bs k running c) ≡ set_bits bs + had c - 1) × (count is_square (chain bs k running c) ≡ length bs)
unfolding chain set_bits count
chain_count [] k running nothing h = (refl, refl)
chain_count [] k running (power collected) h = (refl, refl)
chain_count (false ∷ bs) k running c h =
    let later = chain_count bs (suc k) k c (held_later c k running h) in
    rw (eq-eqb running running refl) (omega (arith, later))
chain_count (true ∷ bs) k running nothing h =
    let later = chain_count bs (suc k) k (power k) (le_refl _) in
    rw (eq-eqb running running refl) (omega (arith, later))
chain_count (true ∷ bs) k running (power collected) h =
    let later = chain_count bs (suc (suc k)) k (power (suc k)) (le_refl _) in
    rw (eq-eqb running running refl, ne_eqb collected k (λ e. omega arith)) (omega (arith, later))

start_count : (bs : List Bool) (k z : ℕ) → z < k → 1 ≤ set_bits bs
    → (count is_product (zero_chain bs k z) ≡ set_bits bs - 1) × (suc (count is_square (zero_chain bs k z)) ≡ length bs)
unfolding set_bits
start_count [] k z l some = absurd (omega arith)
start_count (false ∷ bs) k z l some = omega (arith, chain_count bs k z nothing l)
start_count (true ∷ bs) k z l some = omega (arith, chain_count bs k z (power z) l)

pub equality_digit_counts : EqualityDigitCounts
unfolding ones
equality_digit_counts p k h =
    let t = p - 1 in
    let some : 1 ≤ t = omega arith in
    omega (arith, start_count (bits t) (suc (z_gate k)) (z_gate k) (le_refl _) (ones_some t some), bits_length t some)
