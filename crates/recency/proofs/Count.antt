-- How many elements have a key.
use Rattle.std.proofs.Common.{◌≡◌, ℕ, ◌+◌, ◌<◌, cond, eqb, List, [], ◌∷◌, ◌++◌, Some, None, sym, refl, ap, ◌∙◌, inl, inr, add_assoc, zero-add, arith}
use Rattle.std.proofs.lemmas.Bool.{cond-true, cond-false}
use Rattle.recency.specs.Places.{place_of, count_of}
use Rattle.recency.proofs.Look.{first, nowhere}

module _ {E : Type 0} (keyed : E → ℕ) (k : ℕ) where
  -- one element's own share
  abbrev pub one : E → ℕ
  one x = cond (eqb (keyed x) k) 1 0

  pub count_append : (xs ys : List E) → count_of keyed k (xs ++ ys) ≡ count_of keyed k xs + count_of keyed k ys
  count_append [] ys = sym (zero-add _)
  count_append (x ∷ xs) ys = ap (λ n. one x + n) (count_append xs ys) ∙ sym (add_assoc (one x) (count_of keyed k xs) (count_of keyed k ys))

  -- a key that no element has
  pub count_nowhere : (xs : List E) (n : ℕ) → place_of keyed k xs n ≡ None → count_of keyed k xs ≡ 0
  count_nowhere [] n e = refl
  count_nowhere (x ∷ xs) n e =
      elim (first keyed k x) [
        | inl y ↦ absurd (nowhere keyed k (x ∷ xs) n x e 0 (omega arith) y.0)
        | inr y ↦ omega (arith, cond-false {A = ℕ} (eqb (keyed x) k) 1 0 y.1, count_nowhere xs (n + 1) (sym (cond-false (eqb (keyed x) k) (Some n) (place_of keyed k xs (n + 1)) y.1) ∙ e))
      ]

  -- a key that is found
  pub count_found : (xs : List E) (n i : ℕ) → place_of keyed k xs n ≡ Some i → 0 < count_of keyed k xs
  count_found [] n i e = let z : ◌≡◌ {A = ℕ} 0 1 = cc in absurd (omega arith)
  count_found (x ∷ xs) n i e =
      elim (first keyed k x) [
        | inl y ↦ omega (arith, cond-true {A = ℕ} (eqb (keyed x) k) 1 0 y.1)
        | inr y ↦ (let h = count_found xs (n + 1) i (sym (cond-false (eqb (keyed x) k) (Some n) (place_of keyed k xs (n + 1)) y.1) ∙ e) in omega arith)
      ]
