-- A list that was put together from two parts gives them back.
use Rattle.std.specs.Prelude.{◌≡◌, ℕ, List, ◌++◌, length, take, drop}
use Rattle.std.proofs.Common.{ap, ◌∙◌}
use Rattle.std.proofs.lemmas.List.{take_at, drop_at}

-- what is made of both parts is made of the whole list, cut behind the first part
pub parted_same : {X : Type 0} (make : List ℕ → List ℕ → X) (n : ℕ) (xs ys : List ℕ) → length xs ≡ n
    → make (take n (xs ++ ys)) (drop n (xs ++ ys)) ≡ make xs ys
parted_same make n xs ys e =
    ap (λ l. make l (drop n (xs ++ ys))) (take_at xs ys n e) ∙ ap (make xs) (drop_at xs ys n e)
