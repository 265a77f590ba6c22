-- Which pairs a list has after each step of the TLB.
use Rattle.std.specs.Prelude.{◌≡◌, ℕ, zero, suc, ◌+◌, ◌-◌, ◌<◌, ◌≤◌, true, false, cond, ◌&&◌, ◌||◌, ◌⊎◌, List, [], ◌∷◌, ◌++◌, length, take, drop, Some, None, ◌==◌, slice_index_or, refl}
use Rattle.std.proofs.Common.{ap, subst, ◌∙◌, inl, inr, arith}
use Rattle.std.proofs.lemmas.List.{length-append, length-take, length-drop}
use Rattle.std.proofs.lemmas.Bool.{and_parts, eqb-true, eq-eqb, and_left, or_cases, or_left, or_right, or_from}
use Rattle.std.specs.List.{remove}
use Rattle.recency.specs.Places.{at_end, place_of, put_last}
use Rattle.recency.proofs.Look.{found}
use Rattle.translation.specs.declared.pair.Pair.{Pair}
use Rattle.translation.specs.Layers.{has, pair_of, page_of, without}

-- The pair itself.
one : (p : Pair) (page start : ℕ) → ((p.page == page && p.start == start) || false) ≡ true → (p.page ≡ page) × (p.start ≡ start)
one p page start e = elim (or_cases _ false e) [
  | inl h ↦ let q = and_parts (p.page == page) _ h in (eqb-true _ _ q.0, eqb-true _ _ q.1)
  | inr h ↦ let z : ◌≡◌ {A = ℕ} 0 1 = cc in absurd (omega arith)
]

pub has_append : (xs ys : List Pair) (page start : ℕ) → has (xs ++ ys) page start ≡ true → (has xs page start ≡ true) ⊎ (has ys page start ≡ true)
has_append [] ys page start e = inr e
has_append (x ∷ xs) ys page start e = elim (or_cases _ (has (xs ++ ys) page start) e) [
  | inl h ↦ inl (or_left _ _ h)
  | inr h ↦ elim (has_append xs ys page start h) [ inl k ↦ inl (or_right (x.page == page && x.start == start) _ k) | inr k ↦ inr k ]
]

pub has_take : (n : ℕ) (xs : List Pair) (page start : ℕ) → has (take n xs) page start ≡ true → has xs page start ≡ true
has_take zero xs page start e = let z : ◌≡◌ {A = ℕ} 0 1 = cc in absurd (omega arith)
has_take (suc n) [] page start e = e
has_take (suc n) (x ∷ xs) page start e = elim (or_cases _ (has (take n xs) page start) e) [
  | inl h ↦ or_left _ _ h
  | inr h ↦ or_right (x.page == page && x.start == start) _ (has_take n xs page start h)
]

pub has_drop : (n : ℕ) (xs : List Pair) (page start : ℕ) → has (drop n xs) page start ≡ true → has xs page start ≡ true
has_drop zero xs page start e = e
has_drop (suc n) [] page start e = e
has_drop (suc n) (x ∷ xs) page start e = or_right (x.page == page && x.start == start) _ (has_drop n xs page start e)

-- A pair moved to the end is one that was there.
pub has_at_end : (xs : List Pair) (i page start : ℕ) → has (at_end xs i) page start ≡ true → has xs page start ≡ true
has_at_end xs i page start e = elim (has_append (remove xs i) (take 1 (drop i xs)) page start e) [
  | inl h ↦ elim (has_append (take i xs) (drop (suc i) xs) page start h) [ inl k ↦ has_take i xs page start k | inr k ↦ has_drop (suc i) xs page start k ]
  | inr h ↦ has_drop i xs page start (has_take 1 (drop i xs) page start h)
]

-- A pair put last is there, beside pairs that were there.
pub has_put : (n : ℕ) (xs : List Pair) (p : Pair) (page start : ℕ) → has (put_last n xs p) page start ≡ true
    → (has xs page start ≡ true) ⊎ ((p.page ≡ page) × (p.start ≡ start))
has_put zero xs p page start e = let z : ◌≡◌ {A = ℕ} 0 1 = cc in absurd (omega arith)
has_put (suc n) xs p page start e = elim (has_append (drop (length xs - n) xs) (p ∷ []) page start e)
    [ inl h ↦ inl (has_drop (length xs - n) xs page start h) | inr h ↦ inr (one p page start h) ]

has_at : (xs : List Pair) (i : ℕ) → i < length xs → has xs (slice_index_or xs i (pair_of 0 0)).page (slice_index_or xs i (pair_of 0 0)).start ≡ true
has_at [] i h = absurd (omega arith)
has_at (x ∷ xs) zero h =
    ap (λ b. (b && x.start == x.start) || has xs x.page x.start) (eq-eqb x.page x.page refl)
    ∙ ap (λ b. b || has xs x.page x.start) (eq-eqb x.start x.start refl)
has_at (x ∷ xs) (suc i) h = or_right (x.page == (slice_index_or xs i (pair_of 0 0)).page && x.start == (slice_index_or xs i (pair_of 0 0)).start) _ (has_at xs i (omega arith))

-- A place where the page is found has a pair of the page.
pub has_found : (xs : List Pair) (page i : ℕ) → place_of page_of page xs 0 ≡ Some i
    → (i < length xs) × (has xs page (slice_index_or xs i (pair_of 0 0)).start ≡ true)
has_found xs page i e =
    let f = found page_of page xs 0 i (pair_of 0 0) e in
    let same : i - 0 ≡ i = omega arith in
    let within : i < length xs = subst (λ n. n < length xs) same f.within in
    let keyed : (slice_index_or xs i (pair_of 0 0)).page ≡ page = subst (λ n. (slice_index_or xs n (pair_of 0 0)).page ≡ page) same f.keyed_so in
    (within, subst (λ n. has xs n (slice_index_or xs i (pair_of 0 0)).start ≡ true) keyed (has_at xs i within))

-- Where the page is not found there is no pair of it.
pub has_nowhere : (xs : List Pair) (page n : ℕ) → place_of page_of page xs n ≡ None → (start : ℕ) → has xs page start ≡ false
has_nowhere [] page n e start = refl
has_nowhere (x ∷ xs) page n e start =
    (elim (x.page == page) as (λ b. cond b (Some n) (place_of page_of page xs (n + 1)) ≡ None → ((b && x.start == start) || has xs page start) ≡ false) [
      | true ↦ λ h. let z : ◌≡◌ {A = ℕ} 0 1 = cc in absurd (omega arith)
      | false ↦ λ h. has_nowhere xs page (n + 1) h start
    ]) e

-- Forget ends every pair of its page, and adds none.
pub without_ends : (xs : List Pair) (page start : ℕ) → has (without page xs) page start ≡ false
without_ends [] page start = refl
without_ends (x ∷ xs) page start =
    (elim (x.page == page) as (λ b. (x.page == page) ≡ b → has (cond b (without page xs) (x ∷ without page xs)) page start ≡ false) [
      | true ↦ λ h. without_ends xs page start
      | false ↦ λ h. or_from _ _ (and_left _ _ h) (without_ends xs page start)
    ]) refl

pub without_adds : (xs : List Pair) (gone page start : ℕ) → has (without gone xs) page start ≡ true → has xs page start ≡ true
without_adds [] gone page start e = e
without_adds (x ∷ xs) gone page start e =
    (elim (x.page == gone) as (λ b. has (cond b (without gone xs) (x ∷ without gone xs)) page start ≡ true → has (x ∷ xs) page start ≡ true) [
      | true ↦ λ h. or_right (x.page == page && x.start == start) _ (without_adds xs gone page start h)
      | false ↦ λ h. elim (or_cases _ (has (without gone xs) page start) h)
          [ inl k ↦ or_left _ _ k | inr k ↦ or_right (x.page == page && x.start == start) _ (without_adds xs gone page start k) ]
    ]) e

-- No step makes more than eight.
pub at_end_long : (xs : List Pair) (i : ℕ) → length (at_end xs i) ≤ length xs
at_end_long xs i = simp (length-append, length-take, length-drop) (omega arith)

pub put_long : (n : ℕ) (xs : List Pair) (p : Pair) → length (put_last n xs p) ≤ n
put_long zero xs p = omega arith
put_long (suc n) xs p = simp (length-append, length-drop) (omega arith)

pub without_long : (xs : List Pair) (page : ℕ) → length (without page xs) ≤ length xs
without_long [] page = omega arith
without_long (x ∷ xs) page =
    let r = without_long xs page in
    elim (x.page == page) as (λ b. length (cond b (without page xs) (x ∷ without page xs)) ≤ length (x ∷ xs))
    [ true ↦ omega arith | false ↦ omega arith ]
