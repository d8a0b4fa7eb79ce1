-- The promises of digits. Encode's digits are below B and few enough that their number is the one encoded; digits below B are those of their number;
-- and the last rule of each operation decides alone where the others are met.
-- Assumes nothing.
use mathlib.Core.Path.{◌≡◌, sym, ap, ◌∙◌}
use mathlib.Core.Bool.{not}
use mathlib.Core.List.{List, ◌++◌}
use Prim.Native.Nat.{ℕ, ◌-◌, ◌^◌, ◌≤◌, ◌<◌}
use native.Mathlib.Omega.{arith}
use native.Mathlib.Nat.{lt_of_not-le, le_of_suc-le-suc}
use lib.Dec.{ltb, leb}
use lib.ListN.{length, take, drop}
use lib.Seq.{take_at}
use Rattle.answer.specs.Outcome.{Outcome, refused, accepted}
use Rattle.answer.proofs.Outcome.{refused≢accepted, accepted_keeps, refuse_keeps}
use Rattle.field.specs.Primes.{listed}
use Rattle.digits.specs.Number.{base, wrong_count, number, digits_of}
use Rattle.digits.specs.Encoding.{encoding}
use Rattle.digits.specs.Decoding.{total_of, decoding}
use Rattle.digits.specs.Promises.{EncodesBelow, NumberReadsBack, SameDigits, EncodeKeeps, TooLarge, TooWide}
use Rattle.digits.proofs.Number.{base_pos, length_digits, digits_below, number_digits, digits_number, number_below}
use Rattle.digits.proofs.Encoding.{large_refused, encoded, encodes}
use Rattle.digits.proofs.Decoding.{decoded, total_refused, total_fits, decodes}

-- what Encode writes
written : (p n x : ℕ) (out : List ℕ) → (encoding p n x out).answer ≡ accepted tt → take n (encoding p n x out).lent ≡ digits_of (base p) n x
written p n x out e =
    let a = encodes p n x out e in
    ap (λ (o : Outcome Unit). take n o.lent) (encoded p n x out a.prime a.one a.most a.room a.small)
    ∙ take_at (digits_of (base p) n x) (drop n out) n (length_digits (base p) n x)

pub encodes_below : EncodesBelow
encodes_below p n x out e =
    let a = encodes p n x out e in
    let pos = base_pos p a.prime in
    rw (written p n x out e) (length_digits (base p) n x, digits_below (base p) pos n x, number_digits (base p) pos n x a.small)

pub number_reads_back : NumberReadsBack
number_reads_back p n x out fits e =
    let a = encodes p n x out e in
    let B : ℕ = base p in
    let ds : List ℕ = digits_of B n x in
    let pos = base_pos p a.prime in
    let back : number B ds ≡ x = number_digits B pos n x a.small in
    let count : length ds ≡ n = length_digits B n x in
    ap (decoding p) (written p n x out e)
    ∙ decoded p ds a.prime (omega (arith, a.one)) (omega (arith, a.most)) (digits_below B pos n x)
    ∙ total_fits B ds (omega arith)
    ∙ ap accepted back

pub same_digits : SameDigits
same_digits p x digits out e room =
    let a = decodes p digits x e in
    let B : ℕ = base p in
    let small : x < B ^ length digits = rw a.same at (number_below B digits a.below) in
    let back : digits_of B (length digits) x ≡ digits
    = ap (digits_of B (length digits)) (sym a.same) ∙ digits_number B digits a.below in
    encoded p (length digits) x out a.prime a.one a.most room small
    ∙ ap (λ (ds : List ℕ). record { answer = accepted tt; lent = ds ++ drop (length digits) out }) back

pub encode_keeps : EncodeKeeps
encode_keeps p n x out =
    refuse_keeps (not (listed p)) 3
    (refuse_keeps (wrong_count n) 9 (refuse_keeps (ltb (length out) n) 21 (refuse_keeps (leb (base p ^ n) x) 22 accepted_keeps)))

pub too_large : TooLarge
too_large p n x out t l g r = (
  (refused_large, λ h. ap (λ o. o.answer) (large_refused p n x out t l g r h)),
  (λ e. (encodes p n x out e).small, λ h. ap (λ o. o.answer) (encoded p n x out t l g r h)),
)
  where
    refused_large : (encoding p n x out).answer ≡ refused 22 → base p ^ n ≤ x
    refused_large e =
        le_of_suc-le-suc (lt_of_not-le (λ h. refused≢accepted (sym e ∙ ap (λ o. o.answer) (encoded p n x out t l g r h))))

pub too_wide : TooWide
too_wide p digits t l g b = (
  (refused_wide, λ h. picked ∙ total_refused (base p) digits h),
  (λ e. (decodes p digits _ e).fits, λ h. picked ∙ total_fits (base p) digits h),
)
  where
    picked : decoding p digits ≡ total_of (base p) digits
    picked = decoded p digits t l g b

    refused_wide : decoding p digits ≡ refused 24 → 2 ^ 64 - 1 < number (base p) digits
    refused_wide e =
        lt_of_not-le (λ h. refused≢accepted (sym e ∙ picked ∙ total_fits (base p) digits h))
