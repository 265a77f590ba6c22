-- What looking for a key finds.
use Rattle.std.proofs.Common.{◌≡◌, ℕ, zero, suc, ◌+◌, ◌-◌, ◌<◌, ◌≤◌, true, false, eqb, ◌⊎◌, List, [], ◌∷◌, length, get_or, Some, None, sym, ◌∙◌, inl, inr, arith}
use Rattle.std.proofs.lemmas.Bool.{eq-eqb, ne_eqb, cases_eq, cond-true, cond-false}
use Rattle.recency.specs.Places.{place_of}

-- a test of the first element's key, and the equation that says how it came out
pub first : {E : Type 0} (keyed : E → ℕ) (k : ℕ) (x : E) → ((keyed x ≡ k) × (eqb (keyed x) k ≡ true)) ⊎ ((keyed x ≡ k → ⊥) × (eqb (keyed x) k ≡ false))
first keyed k x = elim (cases_eq (keyed x) k) [ inl e ↦ inl (e, eq-eqb _ _ e) | inr ne ↦ inr (ne, ne_eqb _ _ ne) ]

-- Where no place is found, no element has the key.
pub nowhere : {E : Type 0} (keyed : E → ℕ) (k : ℕ) (xs : List E) (n : ℕ) (d : E)
    → place_of keyed k xs n ≡ None → (i : ℕ) → i < length xs → keyed (get_or xs i d) ≡ k → ⊥
nowhere keyed k [] n d e i h q = omega arith
nowhere keyed k (x ∷ xs) n d e zero h q =
    elim (first keyed k x) [
      | inl y ↦ (let z : ◌≡◌ {A = ℕ} 0 1 = (let s = cond-true (eqb (keyed x) k) (Some n) (place_of keyed k xs (n + 1)) y.1 in cc) in omega arith)
      | inr y ↦ y.0 q
    ]
nowhere keyed k (x ∷ xs) n d e (suc i) h q =
    elim (first keyed k x) [
      | inl y ↦ (let z : ◌≡◌ {A = ℕ} 0 1 = (let s = cond-true (eqb (keyed x) k) (Some n) (place_of keyed k xs (n + 1)) y.1 in cc) in omega arith)
      | inr y ↦ nowhere keyed k xs (n + 1) d (sym (cond-false (eqb (keyed x) k) (Some n) (place_of keyed k xs (n + 1)) y.1) ∙ e) i (omega arith) q
    ]

-- What is true of a place i that is found, where the first place is n: the element there has the key, and none before it.
pub record Found {E : Type 0} (keyed : E → ℕ) (k : ℕ) (xs : List E) (n i : ℕ) (d : E) : Type 0 where
  pub from : n ≤ i
  pub within : i - n < length xs
  pub keyed_so : keyed (get_or xs (i - n) d) ≡ k
  pub first_so : (j : ℕ) → j < i - n → keyed (get_or xs j d) ≡ k → ⊥

further : {E : Type 0} (keyed : E → ℕ) (k : ℕ) (x : E) (xs : List E) (n i : ℕ) (d : E) → (keyed x ≡ k → ⊥)
    → Found keyed k xs (n + 1) i d → Found keyed k (x ∷ xs) n i d
further keyed k x xs n i d ne f =
    let lt = f.from in
    let step : i - n ≡ suc (i - (n + 1)) = omega arith in
    record {
      from = omega arith;
      within = rw step (let w = f.within in omega arith);
      keyed_so = rw step f.keyed_so;
      first_so = λ j h q. before j (rw step at h) q;
    }
  where
    before : (j : ℕ) → j < suc (i - (n + 1)) → keyed (get_or (x ∷ xs) j d) ≡ k → ⊥
    before zero h q = ne q
    before (suc j) h q = f.first_so j (omega arith) q

pub found : {E : Type 0} (keyed : E → ℕ) (k : ℕ) (xs : List E) (n i : ℕ) (d : E) → place_of keyed k xs n ≡ Some i → Found keyed k xs n i d
found keyed k [] n i d e = let z : ◌≡◌ {A = ℕ} 0 1 = cc in absurd (omega arith)
found keyed k (x ∷ xs) n i d e =
    elim (first keyed k x) [
      | inl y ↦ (let is : n ≡ i = (let s = cond-true (eqb (keyed x) k) (Some n) (place_of keyed k xs (n + 1)) y.1 in cc) in
          let none : i - n ≡ 0 = omega arith in
          record { from = omega arith; within = rw none (omega arith); keyed_so = rw none y.0; first_so = λ j h q. absurd (omega arith) })
      | inr y ↦ further keyed k x xs n i d y.0 (found keyed k xs (n + 1) i d (sym (cond-false (eqb (keyed x) k) (Some n) (place_of keyed k xs (n + 1)) y.1) ∙ e))
    ]
