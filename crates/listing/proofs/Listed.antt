-- A line of things, made one after another.
use Rattle.std.proofs.Common.{◌≡◌, ℕ, ◌+◌, ◌<◌, ◌≤◌, List, [], ◌∷◌, ◌++◌, length, take, get_or, Some, Option, IfSome, arith}
use Rattle.std.specs.Fmt.{◌++?◌}
use Rattle.std.proofs.lemmas.List.{flat_map_more, take_more}
use Rattle.std.proofs.lemmas.Grind.{common_steps}
use Rattle.listing.specs.Lines.{listed}

-- nothing is listed yet
pub listed-none : {A : Type 0} (text : A → List ℕ) (line start : List ℕ) (xs : List A) → line ≡ start → line ≡ listed text start (take 0 xs)
listed-none text line start xs h = grind (arith, common_steps)

-- what is printed of one thing, behind a blank
pub shown : {A : Type 0} (output : A → Option (List ℕ)) (text : A → List ℕ) (x : A) (piece : List ℕ) → output x ≡ Some (text x)
    → IfSome (Some (32 ∷ []) ++? output x) (λ bs. piece ≡ bs) → piece ≡ 32 ∷ text x
shown output text x piece e h = rw e at h

-- one thing more
pub listed-more : {A : Type 0} (text : A → List ℕ) (start : List ℕ) (xs : List A) (i : ℕ) (x : A) (line piece next : List ℕ)
    → i < length xs → x ≡ get_or xs i x → line ≡ listed text start (take i xs) → piece ≡ 32 ∷ text x → next ≡ line ++ piece
    → next ≡ listed text start (take (i + 1) xs)
listed-more text start xs i x line piece next l at before p n =
    let front = take_more xs i x l in
    let on = flat_map_more (λ y. 32 ∷ text y) start (take i xs) x in
    cc

-- all are listed
pub listed-all : {A : Type 0} (text : A → List ℕ) (start : List ℕ) (xs : List A) (i : ℕ) (line : List ℕ)
    → length xs ≤ i → line ≡ listed text start (take i xs) → line ≡ listed text start xs
listed-all text start xs i line h e = grind (arith, common_steps)
