use Rattle.std.proofs.Common.{◌≡◌, ℕ, ◌*◌, ◌≤◌, List, length, sum_by, get_or, refl, sym, ◌∙◌, rules, arith}
use Rattle.std.proofs.lemmas.List.Elements.{All-from_get_or}
use Rattle.std.proofs.lemmas.List.Recursion.{is_sum_by}
use Rattle.std.proofs.lemmas.List.Sums.{sum_by-le}
use Rattle.field.specs.Sum.{total}
use Rattle.constants.proofs.sum_of.Goals as goal

total_is : (list : List ℕ) → total list ≡ sum_by (λ x. x) list
unfolding total
total_is list = is_sum_by total (λ x. x) refl (λ _ _. refl) list

bytes_sum : (list : List ℕ) → ((i : ℕ) → get_or list i 0 ≤ 255) → sum_by (λ x. x) list ≤ length list * 255
bytes_sum list bytes = sum_by-le (λ x. x) 255 list (All-from_get_or (λ x. x ≤ 255) list 0 (λ i l. bytes i))

pub returns : goal.returns
returns c =
    let sum : c.sum.result ≡ sum_by (λ x. x) c.args.list.now = search rules in
    (sum ∙ sym (total_is _), omega (arith, sum, bytes_sum c.args.list.now (λ i. omega (arith, c.type_inv.list i))))
