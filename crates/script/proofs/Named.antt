-- Words of the form name=value: which value a word has for a name, and what is said once.
use Rattle.std.proofs.Common.{◌≡◌, ℕ, ◌+◌, ◌<◌, ◌≤◌, List, [], ◌∷◌, ◌++◌, length, get_or, take, Option, Some, None, Ok, Err, Result, MatchOption, MatchResult, Bor, OnOk, true, append-nil, refl, ap, ◌∙◌, inl, inr, lit<}
use Rattle.std.specs.Option.{unwrap_or}
use Rattle.std.specs.List.{AllZip, cons_option}
use Rattle.std.proofs.lemmas.List.{take_all, take_more}
use Rattle.std.proofs.lemmas.List.Elements.{All-push, filter_map-append}
use Rattle.std.proofs.lemmas.Str.Pattern.{IsSplitOnceResult, split_parts}
use Rattle.script.specs.Said.{AllNamed, Appends, has_name, Once, OnceOrZero, Takes, value_for, values}

-- There is no value, or one, and it says what is held.
abbrev pub AtMostOnce : {A : Type 0} → (List ℕ → A → Type 0) → List (List ℕ) → Option A → Type 0
AtMostOnce Says texts held = MatchOption held (texts ≡ []) (Once Says texts)

-- What stands in front of the = and behind it.
pub cut : (word : List ℕ) (r : Option (Bor (List ℕ) × Bor (List ℕ))) (x : Bor (List ℕ) × Bor (List ℕ)) (name : List ℕ)
    → IsSplitOnceResult 61 word r → r ≡ Some x → x.0.now ≡ name → word ≡ name ++ (61 ∷ x.1.now)
cut word r x name split is named =
    let parts = rw is at (split_parts 61 word r split (lit< tt)) in
    parts.0 ∙ ap (λ n. n ++ (61 ∷ x.1.now)) named

-- The first value of a name is held.
pub takes_first : {A : Type 0} {E : Type 0} (Says : List ℕ → A → Type 0) (r : Result (Unit {0}) E) (Q : E → Type 0) (word : Option (List ℕ)) (old new : Option A)
    (text : List ℕ) (x : A) → word ≡ Some text → MatchResult r (λ _. (old ≡ None) × (new ≡ Some x)) Q → Says text x → OnOk r (Takes Says word old new)
takes_first Says (Ok u) Q word old new text x e h s = rw (e, h.1) (h.0, s)
takes_first Says (Err why) Q word old new text x e h s = tt

-- A word of another name.
pub takes_none : {A : Type 0} (Says : List ℕ → A → Type 0) (word : Option (List ℕ)) (old : Option A) → word ≡ None → Takes Says word old old
takes_none Says word old e = rw e refl

-- One word more.
pub values_more : (name : List ℕ) (words : List (Bor (List ℕ))) (i : ℕ) (d : Bor (List ℕ)) → i < length words
    → values name (take (i + 1) words) ≡ values name (take i words) ++ cons_option (value_for name (get_or words i d).now) []
values_more name words i d lt =
    ap (values name) (take_more words i d lt) ∙ filter_map-append (λ (w : Bor (List ℕ)). value_for name w.now) (take i words) (get_or words i d ∷ [])

at_most_once_push : {A : Type 0} (Says : List ℕ → A → Type 0) (texts : List (List ℕ)) (word : Option (List ℕ)) (old new : Option A)
    → AtMostOnce Says texts old → Takes Says word old new → AtMostOnce Says (texts ++ cons_option word []) new
at_most_once_push Says texts None old new had e = rw (e, append-nil) had
at_most_once_push Says texts (Some text) old None had (none, h) = absurd h
at_most_once_push Says texts (Some text) old (Some x) had (none, h) =
    let empty : texts ≡ [] = rw none at had in
    (text, rw empty refl, h)

-- What is said once, with one word more.
pub at_most_once_more : {A : Type 0} (Says : List ℕ → A → Type 0) (name : List ℕ) (words : List (Bor (List ℕ))) (i : ℕ) (d : Bor (List ℕ))
    (old new : Option A) → i < length words → AtMostOnce Says (values name (take i words)) old
    → Takes Says (value_for name (get_or words i d).now) old new → AtMostOnce Says (values name (take (i + 1) words)) new
at_most_once_more Says name words i d old new lt had h =
    rw (values_more name words i d lt) (at_most_once_push Says (values name (take i words)) (value_for name (get_or words i d).now) old new had h)

-- A number that is not said is 0.
pub once_or_zero : (Says : List ℕ → ℕ → Type 0) (texts : List (List ℕ)) (held : Option ℕ) → AtMostOnce Says texts held → OnceOrZero Says texts (unwrap_or held 0)
once_or_zero Says texts None h = inl (h, refl)
once_or_zero Says texts (Some n) h = inr h

-- One element more on both sides.
pub all_zip_push : {A B : Type 0} (R : A → B → Type 0) (xs : List A) (ys : List B) (x : A) (y : B) → AllZip R xs ys → R x y → AllZip R (xs ++ x ∷ []) (ys ++ y ∷ [])
all_zip_push R [] [] x y h r = (r, tt)
all_zip_push R [] (b ∷ ys) x y h r = absurd h
all_zip_push R (a ∷ xs) [] x y h r = absurd h
all_zip_push R (a ∷ xs) (b ∷ ys) x y h r = (h.0, all_zip_push R xs ys x y h.1 r)

appended : {A : Type 0} (Says : List ℕ → A → Type 0) (texts : List (List ℕ)) (word : Option (List ℕ)) (old new : List A)
    → AllZip Says texts old → Appends Says word old new → AllZip Says (texts ++ cons_option word []) new
appended Says texts None old new had e = rw (e, append-nil) had
appended Says texts (Some text) old new had (x, e, s) = rw e (all_zip_push Says texts old text x had s)

-- A list of values, with one word more.
pub appended_more : {A : Type 0} (Says : List ℕ → A → Type 0) (name : List ℕ) (words : List (Bor (List ℕ))) (i : ℕ) (d : Bor (List ℕ))
    (old new : List A) → i < length words → AllZip Says (values name (take i words)) old
    → Appends Says (value_for name (get_or words i d).now) old new → AllZip Says (values name (take (i + 1) words)) new
appended_more Says name words i d old new lt had h =
    rw (values_more name words i d lt) (appended Says (values name (take i words)) (value_for name (get_or words i d).now) old new had h)

-- What is said once, when all words were met.
pub said_all : {A : Type 0} (Says : List ℕ → A → Type 0) (name : List ℕ) (words : List (Bor (List ℕ))) (i : ℕ) (held : Option A)
    → length words ≤ i → AtMostOnce Says (values name (take i words)) held → AtMostOnce Says (values name words) held
said_all Says name words i held all h = rw (take_all i words all) at h

-- The list of all values, when all words were met.
pub appended_all : {A : Type 0} (Says : List ℕ → A → Type 0) (name : List ℕ) (words : List (Bor (List ℕ))) (i : ℕ) (had : List A)
    → length words ≤ i → AllZip Says (values name (take i words)) had → AllZip Says (values name words) had
appended_all Says name words i had all h = rw (take_all i words all) at h

-- A word of one of some names.
pub is_named : {E : Type 0} (names : List (List ℕ)) (r : Result (Unit {0}) E) (word text : List ℕ) → word ≡ text → has_name names text ≡ true
    → OnOk r (has_name names word ≡ true)
is_named names (Ok u) word text e h = rw e h
is_named names (Err why) word text e h = tt

-- Words of some names, with one word more.
pub named_more : (names : List (List ℕ)) (words : List (Bor (List ℕ))) (i : ℕ) (d : Bor (List ℕ)) → i < length words
    → AllNamed names (take i words) → has_name names (get_or words i d).now ≡ true → AllNamed names (take (i + 1) words)
named_more names words i d lt had h =
    rw (take_more words i d lt) (All-push (λ (w : Bor (List ℕ)). has_name names w.now ≡ true) (take i words) (get_or words i d) had h)

-- All words have one of some names, when all were met.
pub named_all : (names : List (List ℕ)) (words : List (Bor (List ℕ))) (i : ℕ) → length words ≤ i → AllNamed names (take i words) → AllNamed names words
named_all names words i all h = rw (take_all i words all) at h
