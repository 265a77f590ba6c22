-- Words of the form name=value, and what the words of a name say.
use Rattle.std.specs.Prelude.{◌≡◌, ℕ, ◌+◌, Bool, true, false, ◌||◌, if◌then◌else◌, List, [], ◌∷◌, ◌++◌, length, drop, ◌⊎◌, Option, Some, None, IsSomeAnd, MatchOption, nat_eq}
use Rattle.std.specs.List.{All, filter_map, starts_with}
use Rattle.std.proofs.Common.{Bor}

-- The value of a word name=value, where its name is this one.
abbrev pub value_for : List ℕ → List ℕ → Option (List ℕ)
value_for name word = if starts_with nat_eq word (name ++ 61 ∷ []) then Some (drop (length name + 1) word) else None

-- The values of all words of a name, in their order.
abbrev pub values : List ℕ → List (Bor (List ℕ)) → List (List ℕ)
values name words = filter_map (λ w. value_for name w.now) words

-- Whether a word is name=value with one of some names.
abbrev pub has_name : List (List ℕ) → List ℕ → Bool
has_name [] word = false
has_name (name ∷ names) word = starts_with nat_eq word (name ++ 61 ∷ []) || has_name names word

-- Each word has one of some names: none is left aside.
abbrev pub AllNamed : List (List ℕ) → List (Bor (List ℕ)) → Type 0
AllNamed names words = All (λ w. has_name names w.now ≡ true) words

-- There is one value, and it says x.
abbrev pub Once : {A : Type 0} → (List ℕ → A → Type 0) → List (List ℕ) → A → Type 0
Once Says texts x = (text : List ℕ) × (texts ≡ text ∷ []) × Says text x

-- There is one value, and it says the number; or there is none, and the number is 0.
abbrev pub OnceOrZero : (List ℕ → ℕ → Type 0) → List (List ℕ) → ℕ → Type 0
OnceOrZero Says texts n = ((texts ≡ []) × (n ≡ 0)) ⊎ Once Says texts n

-- What a word leaves of a value that may be said once: a word of another name leaves it, and one of its name is the first.
abbrev pub Takes : {A : Type 0} → (List ℕ → A → Type 0) → Option (List ℕ) → Option A → Option A → Type 0
Takes Says word old new = MatchOption word (new ≡ old) (λ text. (old ≡ None) × IsSomeAnd new (Says text))

-- What a word leaves of a list of values: one of its name puts its value at the end.
abbrev pub Appends : {A : Type 0} → (List ℕ → A → Type 0) → Option (List ℕ) → List A → List A → Type 0
Appends {A} Says word old new = MatchOption word (new ≡ old) (λ text. (x : A) × (new ≡ old ++ x ∷ []) × Says text x)
