-- The front of a data set of more slots than one may have: opening refuses it.
use Rattle.std.proofs.Common.{◌≡◌, ℕ, ◌^◌, ◌<◌, List, length, replicate, Err, Vec, sym, refl, ap, ◌∙◌, inl, arith}
use Rattle.std.specs.Vec.{with_items}
use Rattle.std.specs.declared.alloc.Global.{Global}
use Rattle.std.proofs.lemmas.List.{length-replicate, with_items_is}
use Rattle.std.proofs.lemmas.Bool.{le-leb, lt-leb, eq-eqb}
use Rattle.storage.specs.Bytes.{word, put_word}
use Rattle.storage.specs.Laws.{Within}
use Rattle.storage.specs.Over.{laws, elsewhere}
use Rattle.dataset.specs.Format.{opened}
use Rattle.dataset.specs.declared.refusal.OpenRefusal.TheVariants.{TooManySlots}

-- The eight bytes with the first number put, and with both.
module _ (n : ℕ) (bare first both : List ℕ) (b : bare ≡ replicate 8 0) (f : first ≡ put_word bare 0 n) (s : both ≡ put_word first 4 2048) where
  bare_long : length bare ≡ 8
  bare_long = ap length b ∙ length-replicate {A = ℕ} 8 0

  first_long : length first ≡ 8
  first_long = ap length f ∙ (laws.beside.word_within bare 0 n).long ∙ bare_long

  both_within : Within 4 4 first (put_word first 4 2048)
  both_within = laws.beside.word_within first 4 2048

  both_long : length both ≡ 8
  both_long = ap length s ∙ both_within.long ∙ first_long

  size_is : word both 4 ≡ 2048
  size_is = ap (λ l. word l 4) s ∙ laws.same.word_same first 4 2048 (let l = first_long in omega arith) (omega arith)

  slots_are : n < 2 ^ 32 → word both 0 ≡ n
  slots_are few =
      ap (λ l. word l 0) s ∙ elsewhere.word_other 4 4 0 first (put_word first 4 2048) both_within (inl (omega arith))
      ∙ ap (λ l. word l 0) f ∙ laws.same.word_same bare 0 n (let l = bare_long in omega arith) few

  too_many : n < 2 ^ 32 → 8192 < n → opened both ≡ Err TooManySlots
  unfolding opened
  too_many few many =
      rw (
        le-leb 8 (length both) (let l = both_long in omega arith),
        eq-eqb (word both 4) 2048 size_is,
        lt-leb (word both 0) 8192 (let e = slots_are few in omega arith),
      )

-- What the code lays out: `d` is the area as it is lent each time, and `s` as it comes back.
pub laid : (v : Vec ℕ Global) (n : ℕ) (d₁ s₁ d₂ s₂ : List ℕ) → v.items ≡ replicate 8 0
    → d₁ ≡ v.items → s₁ ≡ put_word d₁ 0 n → d₂ ≡ (with_items v s₁).items → s₂ ≡ put_word d₂ 4 2048
    → n < 2 ^ 32 → 8192 < n → opened (with_items (with_items v s₁) s₂).items ≡ Err TooManySlots
laid v n d₁ s₁ d₂ s₂ z e₁ q₁ e₂ q₂ few many =
    let bare = e₁ ∙ z in
    let lv : v.len ≡ 8 = v.ok.0 ∙ ap length z ∙ length-replicate {A = ℕ} 8 0 in
    let d₂_is : d₂ ≡ s₁ = e₂ ∙ with_items_is v s₁ (first_long n d₁ s₁ (put_word s₁ 4 2048) bare q₁ refl ∙ sym lv) in
    let s₂_is : s₂ ≡ put_word s₁ 4 2048 = q₂ ∙ ap (λ l. put_word l 4 2048) d₂_is in
    let b₂ = both_long n d₁ s₁ s₂ bare q₁ s₂_is in
    ap opened (with_items_is (with_items v s₁) s₂ (b₂ ∙ sym lv)) ∙ too_many n d₁ s₁ s₂ bare q₁ s₂_is few many
