-- An array of five places of which the first are in use, and partitions that have no page in common.
use Rattle.std.specs.Prelude.{◌≡◌, ℕ, ◌+◌, ◌-◌, ◌≤◌, List, ◌++◌, length, replicate, take}
use Rattle.std.specs.List.{AllPairs}
use Rattle.std.proofs.Common.{sym, ap, ◌∙◌, arith}
use Rattle.std.proofs.lemmas.List.{length-take-le}
use Rattle.model.specs.declared.shape.Partition.{Partition}

-- What a place holds that is not in use.
abbrev pub spare : Partition
spare = record { first = 0; count = 0; key = 0 }

-- The array with these partitions at its front.
abbrev pub padded : List Partition → List Partition
padded ps = ps ++ replicate (5 - length ps) spare

-- The first `count` places of the array are in use, and the places behind them are not.
pub record IsPadded (list : List Partition) (count : ℕ) : Type 0 where
  pub few : count ≤ 5
  pub long : length list ≡ 5
  pub rest : list ≡ padded (take count list)

-- The partitions in use, with no others behind them, are the whole array, and there are as many as the count says.
pub made_same : {X : Type 0} (make : List Partition → ℕ → X) (list : List Partition) (count : ℕ) → IsPadded list count
    → make (padded (take count list)) (length (take count list)) ≡ make list count
made_same make list count h =
    ap (λ l. make l (length (take count list))) (sym h.rest) ∙ ap (make list) (length-take-le count list (let f = h.few in let l = h.long in omega arith))

-- No two partitions have a page in common: each ends before any later one starts.
abbrev pub Apart : List Partition → Type 0
Apart list = AllPairs (λ a b. a.first + a.count ≤ b.first) list
