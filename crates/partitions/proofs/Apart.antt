-- Partitions in order have no page in common.
use Rattle.std.proofs.Common.{◌≡◌, ℕ, ◌+◌, ◌≤◌, true, leb, List, [], ◌∷◌, get_or, arith}
use Rattle.std.specs.List.{All}
use Rattle.std.proofs.lemmas.Bool.{and_parts, leb-true}
use Rattle.std.proofs.lemmas.List.Elements.{All-cons, All-nil}
use Rattle.std.proofs.lemmas.List.Kept.{AllPairs-cons}
use Rattle.model.specs.declared.shape.Partition.{Partition}
use Rattle.model.specs.Ipl.{in_order}
use Rattle.partitions.specs.Partitions.{Apart}

-- What the first of the partitions in order gives: where it starts, and that the others are in order behind it.
first_of_all : (n v : ℕ) (a : Partition) (rest : List Partition) → in_order n v (a ∷ rest) ≡ true → (n ≤ a.first) × (in_order (a.first + a.count) v rest ≡ true)
first_of_all n v a rest e =
    let x = and_parts (leb 1 a.count) _ e in
    let y = and_parts (leb 1 a.key) _ x.1 in
    let z = and_parts (leb a.key 15) _ y.1 in
    let u = and_parts (leb n a.first) _ z.1 in
    let t = and_parts (leb (a.first + a.count) v) _ u.1 in
    (leb-true _ _ u.0, t.1)

-- None of the partitions in order starts below the number that they are tested from.
starts_from : (n v : ℕ) (list : List Partition) → in_order n v list ≡ true → All (λ b. n ≤ b.first) list
starts_from n v [] e = All-nil (λ b. n ≤ b.first)
starts_from n v (a ∷ rest) e =
    let one = first_of_all n v a rest e in
    let low : n ≤ a.first = one.0 in
    All-cons (λ b. n ≤ b.first) a rest low
    (λ k d lt. let behind : a.first + a.count ≤ (get_or rest k d).first = starts_from (a.first + a.count) v rest one.1 k d lt in omega arith)

pub apart : (n v : ℕ) (list : List Partition) → in_order n v list ≡ true → Apart list
apart n v [] e = λ i j d below inside. omega arith
apart n v (a ∷ rest) e =
    let one = first_of_all n v a rest e in
    AllPairs-cons (λ x y. x.first + x.count ≤ y.first) a rest (starts_from (a.first + a.count) v rest one.1) (apart (a.first + a.count) v rest one.1)
