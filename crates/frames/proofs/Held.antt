-- Counts of frames in lists.
use Rattle.std.proofs.Common.{◌≡◌, ℕ, zero, suc, ◌+◌, ◌<◌, ◌≤◌, true, false, ◌||◌, cond, eqb, true≢false, List, [], ◌∷◌, ◌++◌, length, get_or, sym, refl, ap, ◌∙◌, inl, inr, arith}
use Rattle.std.proofs.lemmas.Bool.{cases_eq, cases_lt, eq-eqb, ne_eqb, cond-true, cond-false}
use Rattle.std.specs.List.{remove, list_any, AllByRecursion, IsDistinct}
use Rattle.std.proofs.lemmas.Map.Steps.{length-le_from_distinct_below}
use Rattle.recency.proofs.Count.{count_append}
use Rattle.frames.specs.Held.{times_in, without, Once}

-- a frame's own share in the count of f
abbrev pub share : ℕ → ℕ → ℕ
share x f = cond (eqb x f) 1 0

pub share_same : (x f : ℕ) → x ≡ f → share x f ≡ 1
share_same x f e = ap (λ b. cond b 1 0) (eq-eqb x f e)

pub share_other : (x f : ℕ) → (x ≡ f → ⊥) → share x f ≡ 0
share_other x f ne = ap (λ b. cond b 1 0) (ne_eqb x f ne)

pub times_append : (f : ℕ) (xs ys : List ℕ) → times_in f (xs ++ ys) ≡ times_in f xs + times_in f ys
times_append f xs ys = count_append (λ x. x) f xs ys

-- the first element is the frame that goes, or it stays
pub without_first : (f x : ℕ) (xs : List ℕ) → x ≡ f → without f (x ∷ xs) ≡ without f xs
without_first f x xs e = cond-true (eqb x f) (without f xs) (x ∷ without f xs) (eq-eqb x f e)

pub without_later : (f x : ℕ) (xs : List ℕ) → (x ≡ f → ⊥) → without f (x ∷ xs) ≡ x ∷ without f xs
without_later f x xs ne = cond-false (eqb x f) (without f xs) (x ∷ without f xs) (ne_eqb x f ne)

pub without_append : (f : ℕ) (xs ys : List ℕ) → without f (xs ++ ys) ≡ without f xs ++ without f ys
without_append f [] ys = refl
without_append f (x ∷ xs) ys = elim (cases_eq x f) [
  | inl e ↦ without_first f x (xs ++ ys) e ∙ without_append f xs ys ∙ ap (λ l. l ++ without f ys) (sym (without_first f x xs e))
  | inr ne ↦ without_later f x (xs ++ ys) ne ∙ ap (λ l. x ∷ l) (without_append f xs ys) ∙ ap (λ l. l ++ without f ys) (sym (without_later f x xs ne))
]

-- the frame is gone
pub without_same : (f : ℕ) (xs : List ℕ) → times_in f (without f xs) ≡ 0
without_same f [] = refl
without_same f (x ∷ xs) = elim (cases_eq x f) [
  | inl e ↦ ap (times_in f) (without_first f x xs e) ∙ without_same f xs
  | inr ne ↦ omega (arith, ap (times_in f) (without_later f x xs ne), share_other x f ne, without_same f xs)
]

-- every other frame is there as often as before
pub without_other : (f g : ℕ) (xs : List ℕ) → (g ≡ f → ⊥) → times_in g (without f xs) ≡ times_in g xs
without_other f g [] ne = refl
without_other f g (x ∷ xs) ne = elim (cases_eq x f) [
  | inl e ↦ omega (arith, ap (times_in g) (without_first f x xs e), share_other x g (λ q. ne (sym q ∙ e)), without_other f g xs ne)
  | inr nx ↦ omega (arith, ap (times_in g) (without_later f x xs nx), without_other f g xs ne)
]

-- a frame that is not there leaves the list as it is
pub without_none : (f : ℕ) (xs : List ℕ) → times_in f xs ≡ 0 → without f xs ≡ xs
without_none f [] z = refl
without_none f (x ∷ xs) z = elim (cases_eq x f) [
  | inl e ↦ absurd (let s = share_same x f e in omega arith)
  | inr ne ↦ (let s = share_other x f ne in without_later f x xs ne ∙ ap (λ l. x ∷ l) (without_none f xs (omega arith)))
]

-- what is there at most once, and not once, is not there
pub times_none : (n : ℕ) → n ≤ 1 → eqb n 1 ≡ false → n ≡ 0
times_none zero h e = refl
times_none (suc n) h e = absurd (true≢false (sym (eq-eqb (suc n) 1 (omega arith)) ∙ e))

-- what stands at a place stands in the list
pub times_at : (xs : List ℕ) (i : ℕ) → i < length xs → 1 ≤ times_in (get_or xs i 0) xs
times_at [] i h = absurd (omega arith)
times_at (x ∷ xs) zero h = let s = share_same x x refl in omega arith
times_at (x ∷ xs) (suc i) h = let t = times_at xs i (omega arith) in omega arith

-- where a frame stands once, the list without it is the list with its place removed
pub without_removed : (f : ℕ) (xs : List ℕ) (i : ℕ) → i < length xs → get_or xs i 0 ≡ f → times_in f xs ≤ 1 → without f xs ≡ remove xs i
without_removed f [] i h e t = absurd (omega arith)
without_removed f (x ∷ xs) zero h e t = let s = share_same x f e in without_first f x xs e ∙ without_none f xs (omega arith)
without_removed f (x ∷ xs) (suc i) h e t = elim (cases_eq x f) [
  | inl q ↦ (let s = share_same x f q in let w = times_at xs i (omega arith) in absurd (omega (arith, ap (λ k. times_in k xs) e)))
  | inr ne ↦ (let s = share_other x f ne in without_later f x xs ne ∙ ap (λ l. x ∷ l) (without_removed f xs i (omega arith) e (omega arith)))
]

-- a frame that is found in the list stands there
any_times : (f : ℕ) (xs : List ℕ) → list_any (eqb f) xs ≡ true → 1 ≤ times_in f xs
any_times f [] y = absurd (true≢false (sym y))
any_times f (x ∷ xs) y = elim (cases_eq x f) [
  | inl e ↦ omega (arith, share_same x f e)
  | inr ne ↦ omega (arith, any_times f xs (sym (ap (λ b. b || list_any (eqb f) xs) (ne_eqb f x (λ e. ne (sym e)))) ∙ y))
]

-- one that does not stand there differs from each that does
others : (f : ℕ) (xs : List ℕ) → times_in f xs ≡ 0 → AllByRecursion (λ x. eqb f x ≡ false) xs
others f [] z = tt
others f (x ∷ xs) z = (ne_eqb f x (λ e. let s = share_same x f (sym e) in omega arith), others f xs (omega arith))

-- a list that has each frame at most once has no two equal
distinct : (xs : List ℕ) → ((f : ℕ) → times_in f xs ≤ 1) → IsDistinct eqb xs
unfolding IsDistinct
distinct [] single = tt
distinct (x ∷ xs) single = (others x xs (let s = share_same x x refl in omega (arith, single x)), distinct xs (λ f. omega (arith, single f)))

-- a list of frames, each there at most once, has at most 256 of them
pub once_length : (xs : List ℕ) → Once xs → length xs ≤ 256
once_length xs o =
    length-le_from_distinct_below xs 256 (distinct xs (λ f. (o f).0))
    (λ f y. let t = any_times f xs y in elim (cases_lt f 256) [ inl l ↦ l | inr g ↦ absurd (omega (arith, (o f).1 g)) ])
