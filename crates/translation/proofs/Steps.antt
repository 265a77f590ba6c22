-- What is left of a list of pairs when those of a page are taken out one by one.
use Rattle.std.proofs.Common.{◌≡◌, ℕ, suc, ◌+◌, ◌-◌, true, false, cond, eqb, List, [], ◌∷◌, Some, None, refl, ap, ◌∙◌, arith}
use Rattle.std.specs.List.{remove}
use Rattle.recency.specs.Places.{place_of}
use Rattle.recency.proofs.Look.{found}
use Rattle.translation.specs.declared.pair.Pair.{Pair}
use Rattle.translation.specs.Layers.{page_of, pair_of, without}

-- A list without a page, when the first pair of the page is taken out.
without_removed : (xs : List Pair) (page n i : ℕ) → place_of page_of page xs n ≡ Some i → without page (remove xs (i - n)) ≡ without page xs
without_removed [] page n i e = let z : ◌≡◌ {A = ℕ} 0 1 = cc in absurd (omega arith)
without_removed (x ∷ xs) page n i e =
    (elim (eqb x.page page) as (λ b. eqb x.page page ≡ b → cond b (Some n) (place_of page_of page xs (n + 1)) ≡ Some i
    → without page (remove (x ∷ xs) (i - n)) ≡ cond b (without page xs) (x ∷ without page xs)) [
      | true ↦ λ h k. let s : n ≡ i = cc in let q : i - n ≡ 0 = omega arith in ap (λ j. without page (remove (x ∷ xs) j)) q
      | false ↦ λ h k.
          let f = found page_of page xs (n + 1) i (pair_of 0 0) k in
          let l = f.from in
          let q : i - n ≡ suc (i - (n + 1)) = omega arith in
          ap (λ j. without page (remove (x ∷ xs) j)) q
          ∙ ap (λ b. cond b (without page (remove xs (i - (n + 1)))) (x ∷ without page (remove xs (i - (n + 1))))) h
          ∙ ap (λ l. x ∷ l) (without_removed xs page (n + 1) i k)
    ]) refl e

pub without_first : (xs : List Pair) (page i : ℕ) → place_of page_of page xs 0 ≡ Some i → without page (remove xs i) ≡ without page xs
without_first xs page i e = ap (λ j. without page (remove xs j)) (let q : i ≡ i - 0 = omega arith in q) ∙ without_removed xs page 0 i e

pub without_nowhere : (xs : List Pair) (page n : ℕ) → place_of page_of page xs n ≡ None → without page xs ≡ xs
without_nowhere [] page n e = refl
without_nowhere (x ∷ xs) page n e =
    (elim (eqb x.page page) as (λ b. cond b (Some n) (place_of page_of page xs (n + 1)) ≡ None → cond b (without page xs) (x ∷ without page xs) ≡ x ∷ xs) [
      | true ↦ λ h. let z : ◌≡◌ {A = ℕ} 0 1 = cc in absurd (omega arith)
      | false ↦ λ h. ap (λ l. x ∷ l) (without_nowhere xs page (n + 1) h)
    ]) e
