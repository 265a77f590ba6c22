-- The steps of a page fault, as the code makes them, and the rules: one hypothesis for each call on the way.
use Rattle.std.proofs.Common.{◌≡◌, ℕ, ◌+◌, ◌*◌, ◌<◌, Bool, true, false, cond, ltb, List, length, take, drop, Some, None, sym, refl, ap, ◌∙◌, arith}
use borrow.Rule.Slice.PartMut.{put_mid}
use Rattle.std.proofs.lemmas.Bool.{cond-true, leb-false, ne_eqb}
use Rattle.model.specs.Steps.{connected, emptied, faulted, fill_frame, filled, put_out, read_in, taken, taken_frame}
use Rattle.model.specs.World.{Parts, World}
use Rattle.pages.specs.declared.fault.StoreRefusal.TheVariants.{BadSlot, NoSuchSlot, WrongLength}
use Rattle.pages.specs.Store as stores
use Rattle.storage.proofs.Parted.{page_short, part, put_mid_lem}
use Rattle.storage.specs.Bytes.{fits, frame, page, page_at, put_page}
use Rattle.paging.specs.Seen.{access_for}

-- No page stands there.
out_by : (b : Bool) (p : List ℕ) → None ≡ cond b (Some p) None → b ≡ false
out_by true p e = let z : ◌≡◌ {A = ℕ} 0 1 = cc in absurd (omega arith)
out_by false p e = refl

module _ {S : Type 0} (r : stores.Rules S) (m : S) (k : ℕ) (s : List ℕ) where
  -- what is not a whole page is not put out
  pub not_put : (f at : ℕ) → at ≡ 2048 * f → None ≡ page_at s at → m ≡ put_out r m k (frame s f)
  not_put f at is e =
      let out : length s < at + 2048 = leb-false _ _ (out_by (fits 2048 s at) (page s at) e) in
      let short = page_short s at out in
      let n : length (page s at) ≡ 2048 → ⊥ = λ q. omega arith in
      sym (ap (λ b. stores.written r m k (page s at) (cond b (cond (ltb k (r.count m)) (cond (r.bad m k) (Some BadSlot) None) (Some NoSuchSlot)) (Some WrongLength))) (ne_eqb _ _ n))
      ∙ ap (λ x. put_out r m k (page s x)) is

  -- a slot read straight into its frame, which stands wholly in storage
  pub read_told : (f at n slot : ℕ) (buffer left : List ℕ) → at ≡ 2048 * f → n ≡ 2048 → fits 2048 s at ≡ true → slot ≡ k → buffer ≡ take n (drop at s)
      → left ≡ stores.read_into r m slot buffer (stores.refusal_at r m slot (length buffer)) → put_mid at n s left ≡ fill_frame s f (read_in r m k (frame s f))
  read_told f at n slot buffer left e h whole same b l =
      put_mid_lem s left at n h
      ∙ ap (put_page s at) (l ∙ ap (λ x. read_in r m x buffer) same ∙ ap (read_in r m k) (b ∙ part s at n h))
      ∙ sym (cond-true (fits 2048 s at) (put_page s at (read_in r m k (page s at))) s whole)
      ∙ ap (λ x. cond (fits 2048 s x) (put_page s x (read_in r m k (page s x))) s) e

-- The four steps.
pub fault_told : {T P S : Type 0} (r : Parts T P S) (w w₁ w₂ w₃ w₄ : World T P S) (f₁ f₂ f₃ f₄ p p₁ p₂ p₃ : ℕ)
    → f₁ ≡ taken_frame r w → p₁ ≡ p → w₁ ≡ taken r w
    → f₂ ≡ f₁ → p₂ ≡ p₁ → w₂ ≡ emptied r f₁ w₁
    → f₃ ≡ f₂ → p₃ ≡ p₂ → w₃ ≡ filled r f₂ p₂ w₂
    → f₄ ≡ f₃ → w₄ ≡ connected r f₃ p₃ (access_for w₃.config p₃) w₃
    → w₄ ≡ faulted r f₄ p (access_for w.config p) w
fault_told r w w₁ w₂ w₃ w₄ f₁ f₂ f₃ f₄ p p₁ p₂ p₃ a b c d e f g h i j k = rw (k, i, f, c, j, g, d, h, e, b) refl
