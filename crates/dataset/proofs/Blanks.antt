-- The bytes of a data set of blank slots: how the code lays them out, and what they mean.
use Rattle.std.proofs.Common.{◌≡◌, ℕ, ◌+◌, ◌*◌, ◌<◌, ◌≤◌, false, cond, ◌&&◌, eqb, ltb, List, length, replicate, Ok, Vec, sym, refl, ap, ◌∙◌, inl, inr, arith}
use Rattle.std.specs.Vec.{with_items}
use Rattle.std.specs.declared.alloc.Global.{Global}
use Rattle.std.proofs.lemmas.List.{length-replicate, get_or-replicate, with_items_is}
use Rattle.std.proofs.lemmas.Bool.{lt-ltb}
use Rattle.storage.specs.Bytes.{word, put_word, page, zeros}
use Rattle.storage.specs.Laws.{Within}
use Rattle.storage.specs.Over.{laws, elsewhere}
use Rattle.dataset.specs.Format.{Formed, mark_of, slots_of, slots_in, place_of, blank_set, Blank}
use Rattle.dataset.specs.Formed.{formed_opened}

-- The area with the first number put, and with both.
module _ (n : ℕ) (bare first both : List ℕ) (b : bare ≡ replicate (8 + n + 2048 * n) 0) (f : first ≡ put_word bare 0 n)
    (s : both ≡ put_word first 4 2048) where
  bare_long : length bare ≡ 8 + n + 2048 * n
  bare_long = ap length b ∙ length-replicate {A = ℕ} (8 + n + 2048 * n) 0

  first_within : Within 4 0 bare (put_word bare 0 n)
  first_within = laws.beside.word_within bare 0 n

  pub first_long : length first ≡ 8 + n + 2048 * n
  first_long = ap length f ∙ first_within.long ∙ bare_long

  both_within : Within 4 4 first (put_word first 4 2048)
  both_within = laws.beside.word_within first 4 2048

  pub both_long : length both ≡ 8 + n + 2048 * n
  both_long = ap length s ∙ both_within.long ∙ first_long

  size_is : word both 4 ≡ 2048
  size_is = ap (λ l. word l 4) s ∙ laws.same.word_same first 4 2048 (let l = first_long in omega arith) (omega arith)

  slots_is : n ≤ 8192 → word both 0 ≡ n
  slots_is few =
      ap (λ l. word l 0) s ∙ elsewhere.word_other 4 4 0 first (put_word first 4 2048) both_within (inl (omega arith))
      ∙ ap (λ l. word l 0) f ∙ laws.same.word_same bare 0 n (let l = bare_long in omega arith) (omega arith)

  mark_is : (k : ℕ) → k < n → mark_of both k ≡ 0
  mark_is k h =
      ap (λ l. mark_of l k) s ∙ both_within.kept (8 + k) (inr (omega arith))
      ∙ ap (λ l. mark_of l k) f ∙ first_within.kept (8 + k) (inr (omega arith))
      ∙ ap (λ l. mark_of l k) b ∙ get_or-replicate (8 + n + 2048 * n) (8 + k) 0 0 (omega arith)

  formed : n ≤ 8192 → Formed both
  formed few =
      let e = slots_is few in
      let l = both_long in
      record {
        size = size_is;
        few = omega arith;
        long = omega arith;
        marks = λ k h. let m = mark_is k (omega arith) in omega arith;
      }

  pub blank_both : n ≤ 8192 → Blank n both
  blank_both few = record {
    accepted = formed_opened both (formed few) ∙ ap Ok (slots_is few);
    marks = mark_is;
    good = λ k h.
        ap (λ m. ltb k (slots_in both) && eqb m 2) (mark_is k h)
        ∙ ap (λ r. ltb k (slots_of r) && false) (formed_opened both (formed few) ∙ ap Ok (slots_is few))
        ∙ ap (λ t. t && false) (lt-ltb k n h);
    zero_pages = λ k h. ap (λ m. cond (eqb m 1) (page both (place_of both k)) zeros) (mark_is k h);
  }

pub blank_set_lem : (n : ℕ) → n ≤ 8192 → Blank n (blank_set n)
unfolding blank_set
blank_set_lem n few =
    blank_both n (replicate (8 + n + 2048 * n) 0) (put_word (replicate (8 + n + 2048 * n) 0) 0 n)
    (put_word (put_word (replicate (8 + n + 2048 * n) 0) 0 n) 4 2048) refl refl refl few

-- What the code lays out: `d` is the area as it is lent each time, and `s` as it comes back.
pub laid : (v : Vec ℕ Global) (n : ℕ) (d₁ s₁ d₂ s₂ : List ℕ) → v.items ≡ replicate (8 + n + 2048 * n) 0
    → d₁ ≡ v.items → s₁ ≡ put_word d₁ 0 n → d₂ ≡ (with_items v s₁).items → s₂ ≡ put_word d₂ 4 2048
    → (with_items (with_items v s₁) s₂).items ≡ blank_set n
unfolding blank_set
laid v n d₁ s₁ d₂ s₂ z e₁ q₁ e₂ q₂ =
    let bare = e₁ ∙ z in
    let f₁ = first_long n d₁ s₁ (put_word s₁ 4 2048) bare q₁ refl in
    let lv : v.len ≡ 8 + n + 2048 * n = v.ok.0 ∙ ap length z ∙ length-replicate {A = ℕ} (8 + n + 2048 * n) 0 in
    let d₂_is : d₂ ≡ s₁ = e₂ ∙ with_items_is v s₁ (f₁ ∙ sym lv) in
    let s₂_is : s₂ ≡ put_word s₁ 4 2048 = q₂ ∙ ap (λ l. put_word l 4 2048) d₂_is in
    let b₂ = both_long n d₁ s₁ s₂ bare q₁ s₂_is in
    with_items_is (with_items v s₁) s₂ (b₂ ∙ sym lv) ∙ s₂_is
    ∙ ap (λ l. put_word l 4 2048) (q₁ ∙ ap (λ l. put_word l 0 n) bare)
