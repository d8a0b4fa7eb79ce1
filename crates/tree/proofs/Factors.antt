-- Laws of factors held as nodes: taking out the first of the least depths is the product tree's choice. By induction over the nodes.
-- Assumes nothing.
use Rattle.std.specs.List.{remove}
use Rattle.std.proofs.lemmas.Bool.{le-leb, lt-leb}
use Rattle.std.proofs.lemmas.List.{length-map, map-append, get_or-map, take-append-le, length-take-le, drop-map, get_or-take}
use Rattle.std.proofs.Common.{◌≡◌, refl, sym, ap, ◌∙◌, List, [], ◌∷◌, ◌++◌, map, ℕ, zero, suc, ◌+◌, ◌-◌, ◌≤◌, ◌<◌, Bool, true, false, length, get_or, take, drop, set, length-append, take-suc-set, add-one, drop-cons, arith}
use Rattle.std.proofs.Math.Decide.{dec_lt}
use Rattle.circuit.specs.Every.{Every}
use Rattle.circuit.specs.ProductTree.{Choice, goes_first, pick, least, choose}
use Rattle.circuit.specs.Segment as segment
use Rattle.tree.specs.Factors.{depths, FirstLeast}
use Rattle.writer.specs.declared.Node.{Node}
use Rattle.writer.specs.Nodes.{node_is}
use Rattle.tree.proofs.ProductTree.{Taken, taken}

-- a fact of the depths, as one of the factors
depths_every : (P : ℕ → Type 0) (nodes : List Node) → ((k : ℕ) → k < length nodes → P (get_or (depths nodes) k 0))
    → Every (λ (f : segment.Node). P f.depth) (map node_is nodes)
depths_every P [] h = tt
depths_every P (x ∷ nodes) h = (h 0 (omega arith), depths_every P nodes (λ k m. h (suc k) (omega arith)))

-- ---- the choice

pick_every : (P : segment.Node → Type 0) (b : Bool) (x : segment.Node) (later : List segment.Node) (choice : Choice) → P x → P choice.chosen
    → P (pick b x later choice).chosen
pick_every P true x later choice h k = h
pick_every P false x later choice h k = k

-- what holds of every factor holds of the chosen one
chosen_every : (P : segment.Node → Type 0) (x : segment.Node) (xs : List segment.Node) → Every P (x ∷ xs) → P (least x xs).chosen
unfolding least
chosen_every P x [] h = h.0
chosen_every P x (y ∷ ys) h = pick_every P (goes_first x (least y ys).chosen) x (y ∷ ys) (least y ys) h.0 (chosen_every P y ys h.1)

-- the first factor, where no later one is less deep
here : (x : segment.Node) (xs : List segment.Node) → Every (λ (f : segment.Node). x.depth ≤ f.depth) xs
    → least x xs ≡ record { chosen = x; others = xs }
unfolding least
here x [] h = refl
here x (y ∷ ys) h = rw (le-leb _ _ (chosen_every (λ (f : segment.Node). x.depth ≤ f.depth) y ys h))

-- or a later one, where it is less deep
there : (x : segment.Node) (xs : List segment.Node) (f : segment.Node) (rest : List segment.Node) → f.depth < x.depth
    → 1 ≤ length xs → choose xs ≡ record { chosen = f; others = rest }
    → least x xs ≡ record { chosen = f; others = x ∷ rest }
unfolding least
there x [] f rest deeper one e = absurd (omega arith)
there x (y ∷ ys) f rest deeper one e = rw (e, lt-leb _ _ deeper)

-- one entry fewer
later : (d : ℕ) (list : List ℕ) (n place : ℕ) → FirstLeast (d ∷ list) (suc n) (suc place) → FirstLeast list n place
later d list n place h = record {
  within = omega (arith, h.within);
  before = λ k l. h.before (suc k) (omega arith);
  lowest = λ k l. h.lowest (suc k) (omega arith);
}

-- the first of the least depths is the one chosen, and the nodes without it are the others
pub chosen_is : (nodes : List Node) (none : Node) (place : ℕ) → FirstLeast (depths nodes) (length nodes) place
    → choose (map node_is nodes) ≡ record { chosen = node_is (get_or nodes place none); others = map node_is (remove nodes place) }
chosen_is [] none place h = absurd (omega (arith, h.within))
chosen_is (x ∷ nodes) none zero h = here _ _ (depths_every (λ (t : ℕ). x.depth ≤ t) nodes (λ k l. h.lowest (suc k) (omega arith)))
chosen_is (x ∷ nodes) none (suc place) h =
    let rest = later x.depth (depths nodes) (length nodes) place h in
    let deeper : (get_or nodes place none).depth < x.depth = rw (sym (get_or-map (λ (n : Node). n.depth) nodes place none 0 rest.within)) (h.before 0 (omega arith)) in
    there _ _ _ _ deeper (omega (arith, length-map nodes node_is, rest.within)) (chosen_is nodes none place rest)

-- ---- the search for it

-- the depth at a place
pub depth_at : (nodes : List Node) (k : ℕ) → get_or (depths nodes) k 0 ≡ (get_or nodes k (record { gate = 0; depth = 0 })).depth
depth_at [] k = refl
depth_at (x ∷ nodes) zero = refl
depth_at (x ∷ nodes) (suc k) = depth_at nodes k

-- the next one is the first of the least where it is less deep, and else the same one
pub next_least : {list : List ℕ} {i place : ℕ} → FirstLeast list i place → get_or list i 0 < get_or list place 0 → FirstLeast list (i + 1) i
next_least {list = list} {i = i} h less = record {
  within = omega arith;
  before = λ k l. omega (arith, less, h.lowest k l);
  lowest = λ k l. go k (dec_lt k i) l;
}
  where
    go : (k : ℕ) → Dec (k < i) → k < i + 1 → get_or list i 0 ≤ get_or list k 0
    go k (yes before) l = omega (arith, less, h.lowest k before)
    go k (no late) l =
        let same : k ≡ i = omega arith in
        rw same (omega arith)

pub same_least : {list : List ℕ} {i place : ℕ} → FirstLeast list i place → get_or list place 0 ≤ get_or list i 0
    → FirstLeast list (i + 1) place
same_least {list = list} {i = i} {place = place} h more = record {
  within = omega (arith, h.within);
  before = h.before;
  lowest = λ k l. go k (dec_lt k i) l;
}
  where
    go : (k : ℕ) → Dec (k < i) → k < i + 1 → get_or list place 0 ≤ get_or list k 0
    go k (yes before) l = h.lowest k before
    go k (no late) l =
        let same : k ≡ i = omega arith in
        rw same more

-- ---- one factor taken out

gap_after : (nodes : List Node) (none : Node) (k : ℕ) → suc k < length nodes
    → remove (set nodes k (get_or nodes (suc k) none)) (suc k) ≡ remove nodes k
gap_after [] none k l = absurd (omega arith)
gap_after (x ∷ []) none k l = absurd (omega arith)
gap_after (x ∷ y ∷ nodes) none zero l = refl
gap_after (x ∷ y ∷ nodes) none (suc k) l = ap (λ (rest : List Node). x ∷ rest) (gap_after (y ∷ nodes) none k (omega arith))

-- the one after a gap moves down by one: the gap is one further on
pub gap_on : (nodes : List Node) (none : Node) (k i : ℕ) → i ≡ suc k → i < length nodes
    → remove (set nodes k (get_or nodes i none)) i ≡ remove nodes k
gap_on nodes none k i e l = rw e (gap_after nodes none k (omega arith))

-- a gap at the end
pub gap_last : (nodes : List Node) (n : ℕ) → length nodes ≡ suc n → remove nodes n ≡ take n nodes
gap_last [] n e = absurd (omega arith)
gap_last (x ∷ []) zero e = refl
gap_last (x ∷ y ∷ nodes) zero e = absurd (omega arith)
gap_last (x ∷ nodes) (suc n) e = ap (λ (rest : List Node). x ∷ rest) (gap_last nodes n (omega arith))

-- ---- the first factors

-- the first n
abbrev pub first : ℕ → List Node → List segment.Node
first n nodes = map node_is (take n nodes)

pub length_first : (n : ℕ) (nodes : List Node) → n ≤ length nodes → length (first n nodes) ≡ n
length_first n nodes l = length-map (take n nodes) node_is ∙ length-take-le n nodes l

-- a single one
pub single : (n : ℕ) (nodes : List Node) → n ≡ 1 → n ≤ length nodes
    → first n nodes ≡ node_is (get_or nodes 0 (record { gate = 0; depth = 0 })) ∷ []
single n [] one l = absurd (omega arith)
single n (x ∷ nodes) one l = rw one refl

-- one more at the end
pub added : (m : ℕ) (nodes : List Node) (node : Node) → m < length nodes
    → first (m + 1) (set nodes m node) ≡ first m nodes ++ (node_is node ∷ [])
added m nodes node l = rw (add-one m) (ap (map node_is) (take-suc-set nodes m node l) ∙ map-append node_is (take m nodes) (node ∷ []))

-- the one at a place, and those after it
pub first_from : (n k : ℕ) (nodes : List Node) → k < n → n ≤ length nodes
    → drop k (first n nodes) ≡ node_is (get_or nodes k (record { gate = 0; depth = 0 })) ∷ drop (k + 1) (first n nodes)
first_from n k nodes l room =
    rw (add-one k, drop-map node_is k (take n nodes), drop-map node_is (suc k) (take n nodes), ← get_or-take n nodes k (record { gate = 0; depth = 0 }) l)
    (ap (map node_is) (drop-cons (take n nodes) k (record { gate = 0; depth = 0 }) (omega (arith, length-take-le n nodes room))))

-- ---- two factors taken out of the first n + 1, and their product in their place

-- what the two turns leave: one node fewer is looked at the second time
module _ (n : ℕ) (nodes once twice : List Node) (some : 1 ≤ n) (room : n + 1 ≤ length nodes)
    (once-long : length once ≡ length (take (n + 1) nodes)) (twice-long : length twice ≡ length (take n (once ++ drop (n + 1) nodes))) where
  before_last : take n (once ++ drop (n + 1) nodes) ≡ take n once
  before_last = take-append-le n once _ (omega (arith, length-take-le (n + 1) nodes room))

  long_twice : length twice ≡ n
  long_twice = rw (twice-long, before_last) (length-take-le n once (omega (arith, length-take-le (n + 1) nodes room)))

  pub two_taken : {a b : Node} (m : ℕ) → m ≡ n + 1 → node_is a ≡ (choose (first (n + 1) nodes)).chosen
      → map node_is (take (length (take (n + 1) nodes) - 1) once) ≡ (choose (first (n + 1) nodes)).others
      → node_is b ≡ (choose (first n (once ++ drop (n + 1) nodes))).chosen
      → map node_is (take (length (take n (once ++ drop (n + 1) nodes)) - 1) twice) ≡ (choose (first n (once ++ drop (n + 1) nodes))).others
      → (2 ≤ length (first m nodes)) × Taken (first m nodes) (node_is a) (node_is b) (first (n - 1) twice)
  two_taken m more a_is a_others b_is b_others =
      let fewer : n ≡ length (take (n + 1) nodes) - 1 = omega (arith, length-take-le (n + 1) nodes room) in
      let fewest : n - 1 ≡ length (take n (once ++ drop (n + 1) nodes)) - 1 = omega (arith, long_twice) in
      rw more
      (omega (arith, length_first (n + 1) nodes room), taken a_is (ap (map node_is) before_last ∙ ap (λ (k : ℕ). first k once) fewer ∙ a_others) b_is (ap (λ (k : ℕ). first k twice) fewest ∙ b_others))

  pub product_last : (rest : List Node) (product : Node) → first n (set (twice ++ rest) (n - 1) product) ≡ first (n - 1) twice ++ (node_is product ∷ [])
  product_last rest product =
      let m : ℕ = n - 1 in
      let one : n ≡ m + 1 = omega arith in
      let long : m < length (twice ++ rest) = omega (arith, length-append twice rest, long_twice) in
      ap (λ (k : ℕ). first k (set (twice ++ rest) m product)) one
      ∙ added m (twice ++ rest) product long
      ∙ ap (λ (t : List Node). map node_is t ++ (node_is product ∷ [])) (take-append-le m twice rest (omega (arith, long_twice)))
