-- The number of fixed pages, as one fix count changes.
use Rattle.std.proofs.Common.{◌≡◌, ℕ, zero, suc, ◌+◌, ◌-◌, ◌<◌, ◌≤◌, Bool, true, false, cond, ◌&&◌, ltb, leb, ◌⊎◌, List, length, sym, ap, ◌∙◌, inl, inr, arith}
use Rattle.std.proofs.lemmas.Bool.{and_cases, and_parts, cases_eq, leb-false, leb-true, ltb-false, ltb-true}
use Rattle.model.specs.declared.shape.FrameRecord.{FrameRecord}
use Rattle.model.specs.Layout.{counted, fixed_in, fixes_in}
use Rattle.model.proofs.Find.{counted_same}
use Rattle.model.proofs.Own.{fixes_here, fixes_there}
use Rattle.model.specs.World.{Config}
use Rattle.table.specs.Table.{with_fixes}
use Rattle.state.specs.Bare.{IsCounted}

pub most : (P : ℕ → Bool) (f n : ℕ) → counted P f n ≤ n
unfolding counted
most P f zero = omega arith
most P f (suc n) =
    let rest = most P (f + 1) n in
    elim (P f) as (λ b. cond b 1 0 + counted P (f + 1) n ≤ suc n) [ true ↦ omega arith | false ↦ omega arith ]

-- Two tests that differ at most at one number.
differ : (P Q : ℕ → Bool) (f n h : ℕ) → f ≤ h → h < f + n → ((g : ℕ) → (g ≡ h → ⊥) → Q g ≡ P g) → counted Q f n + cond (P h) 1 0 ≡ counted P f n + cond (Q h) 1 0
unfolding counted
differ P Q f zero h a b same = absurd (omega arith)
differ P Q f (suc n) h a b same = elim (cases_eq f h) [
  | inl e ↦
      let rest = counted_same P Q (f + 1) n (λ g x y. same g (λ z. omega arith)) in
      let p : ◌≡◌ {A = ℕ} (cond (P f) 1 0) (cond (P h) 1 0) = ap (λ k. cond (P k) 1 0) e in
      let q : ◌≡◌ {A = ℕ} (cond (Q f) 1 0) (cond (Q h) 1 0) = ap (λ k. cond (Q k) 1 0) e in
      omega (arith, rest, p, q)
  | inr e ↦
      let rest = differ P Q (f + 1) n h (omega arith) (omega arith) same in
      let q : ◌≡◌ {A = ℕ} (cond (Q f) 1 0) (cond (P f) 1 0) = ap (λ b. cond b 1 0) (same f e) in
      omega (arith, rest, q)
]

-- The count as one frame gets another fix count: of a pageable frame, and of another.
module _ (c : Config) (rs ts : List FrameRecord) (f n fixed : ℕ) (counts : IsCounted c rs fixed) (long : length rs ≡ 256) (row : f < 256) (one : ts ≡ with_fixes rs f n) where
  abbrev test : ℕ → Bool
  test g = ltb 0 (fixes_in rs g)

  abbrev after : ℕ → Bool
  after g = ltb 0 (fixes_in (with_fixes rs f n) g)

  there : (g : ℕ) → (g ≡ f → ⊥) → after g ≡ test g
  there g ne = ap (ltb 0) (fixes_there rs f _ g ne)

  whole : (k : ℕ) → k ≡ counted after c.supervisor (c.frames - c.supervisor) → IsCounted c ts k
  whole k e = record { count = e ∙ ap (λ xs. fixed_in xs c.supervisor (c.frames - c.supervisor)) (sym one); few = counts.few }

  pub recounted : (was is : ℕ) → true ≡ (leb c.supervisor f && ltb f c.frames) → was ≡ cond (test f) 1 0 → is ≡ cond (ltb 0 n) 1 0
      → (was ≤ fixed + is) × IsCounted c ts (fixed + is - was)
  recounted was is t w i =
      let a = and_parts (leb c.supervisor f) _ (sym t) in
      let low : c.supervisor ≤ f = leb-true _ _ a.0 in
      let high : f < c.frames = ltb-true _ _ a.1 in
      let d = differ test after c.supervisor (c.frames - c.supervisor) f low (omega arith) there in
      let here : cond (after f) 1 0 ≡ is = ap (λ k. cond (ltb 0 k) 1 0) (fixes_here rs f _ (omega arith)) ∙ sym i in
      let count = counts.count in
      (omega arith, whole _ (omega arith))

  pub uncounted : false ≡ (leb c.supervisor f && ltb f c.frames) → IsCounted c ts fixed
  uncounted t = whole fixed (counts.count ∙ sym (counted_same test after c.supervisor (c.frames - c.supervisor) (λ g a b. there g (λ e. outside g a b e (and_cases _ _ (sym t))))))
    where
      outside : (g : ℕ) → c.supervisor ≤ g → g < c.supervisor + (c.frames - c.supervisor) → g ≡ f → (leb c.supervisor f ≡ false) ⊎ (ltb f c.frames ≡ false) → ⊥
      outside g a b e (inl q) = let z = leb-false _ _ q in omega arith
      outside g a b e (inr q) = let z = ltb-false _ _ q in omega arith
