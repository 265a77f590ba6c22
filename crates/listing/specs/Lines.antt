-- Lines that list things, each behind a blank.
use Rattle.std.specs.Prelude.{ℕ, List, ◌∷◌, ◌++◌}
use Rattle.std.specs.List.{flat_map}

abbrev pub listed : {A : Type 0} → (A → List ℕ) → List ℕ → List A → List ℕ
listed text start items = start ++ flat_map (λ x. 32 ∷ text x) items
