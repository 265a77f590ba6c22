-- Places in a list, and what it is without an element, with it at the end, or with a new one put last.
use Rattle.std.specs.Prelude.{ℕ, zero, suc, ◌+◌, ◌-◌, cond, List, [], ◌∷◌, ◌++◌, length, take, drop, Option, ◌==◌}
use Rattle.std.specs.List.{position_from, remove}

-- the place of the first element with this key, where the first place is n
abbrev pub place_of : {E : Type 0} → (E → ℕ) → ℕ → List E → ℕ → Option ℕ
place_of keyed k xs n = position_from (λ x. keyed x == k) n xs

-- how many elements have this key
abbrev pub count_of : {E : Type 0} → (E → ℕ) → ℕ → List E → ℕ
count_of keyed k [] = 0
count_of keyed k (x ∷ xs) = cond (keyed x == k) 1 0 + count_of keyed k xs

-- the list with the element at place i moved to the end; the list as it is, if it has no place i
abbrev pub at_end : {E : Type 0} → List E → ℕ → List E
at_end xs i = remove xs i ++ take 1 (drop i xs)

-- the list with x put last, in a room for so many elements: where it is full the first element goes out
abbrev pub put_last : {E : Type 0} → ℕ → List E → E → List E
put_last zero xs x = []
put_last (suc n) xs x = drop (length xs - n) xs ++ (x ∷ [])
