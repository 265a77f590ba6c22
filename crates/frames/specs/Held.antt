-- Lists of frames: how often a frame stands in one, and the list without it.
use Rattle.std.specs.Prelude.{◌≡◌, ℕ, ◌≤◌, cond, List, [], ◌∷◌, ◌==◌}
use Rattle.recency.specs.Places.{count_of}

-- how often a frame stands in the list
abbrev pub times_in : ℕ → List ℕ → ℕ
times_in f xs = count_of (λ x. x) f xs

-- the list without a frame
abbrev pub without : ℕ → List ℕ → List ℕ
without f [] = []
without f (x ∷ xs) = cond (x == f) (without f xs) (x ∷ without f xs)

-- each number stands in the list at most once, and is a frame's: at most 255
abbrev pub Once : List ℕ → Type 0
Once xs = (f : ℕ) → (times_in f xs ≤ 1) × (256 ≤ f → times_in f xs ≡ 0)
