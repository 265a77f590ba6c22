-- The laws of reading over writing: each read by its own bytes, each write beside its own bytes, and their meeting.
use Rattle.std.proofs.Common.{◌≡◌, ℕ, ◌+◌, ◌-◌, ◌*◌, ◌/◌, ◌%◌, ◌^◌, ◌<◌, ◌≤◌, ◌⊎◌, List, ◌++◌, length, get_or, take, drop, set, replicate, sym, ap, ◌∙◌, inl, inr, arith}
use Rattle.std.proofs.lemmas.List.{length-take, length-drop, length-append, length-set, length-replicate, length-take-le, get_or-take, get_or-drop, take_at, drop_at, same_lists, get_or-set_same, get_or-set_other, get_or_append_left, get_or-append_right, get_or-replicate, get_or_past, get_or_default, drop-set-add, drop-replicate, take-replicate}
use lib.Seq.{take-set-lt}
use Rattle.std.proofs.lemmas.Bool.{cases_lt}
use Rattle.storage.specs.Bytes.{half, word, put_half, put_word, page, put_page, zeros}
use Rattle.storage.specs.Laws.{Alike, Within, Local, Beside, Same, Pages, Laws, Elsewhere}

half_alike : (s t : List ℕ) (at : ℕ) → Alike 2 at s t → half s at ≡ half t at
unfolding half
half_alike s t at h =
    ap (λ n. 256 * n + get_or s (at + 1) 0) (h at (omega arith) (omega arith))
    ∙ ap (λ n. 256 * get_or t at 0 + n) (h (at + 1) (omega arith) (omega arith))

word_alike : (s t : List ℕ) (at : ℕ) → Alike 4 at s t → word s at ≡ word t at
unfolding word
word_alike s t at h =
    ap (λ n. 65536 * n + half s (at + 2)) (half_alike s t at (λ j l m. h j l (omega arith)))
    ∙ ap (λ n. 65536 * half t at + n) (half_alike s t (at + 2) (λ j l m. h j (omega arith) (omega arith)))

page_long : (s : List ℕ) (at : ℕ) → at + 2048 ≤ length s → length (page s at) ≡ 2048
unfolding page
page_long s at h = length-take-le 2048 (drop at s) (let e = length-drop at s in omega arith)

-- An element of a page, at any default.
page_item : (s : List ℕ) (at i d : ℕ) → i < 2048 → get_or (page s at) i d ≡ get_or s (at + i) d
unfolding page
page_item s at i d h = get_or-take 2048 (drop at s) i d h ∙ get_or-drop at s i d

-- Within the list the default does not matter; past it, it is the value.
at_default : (xs ys : List ℕ) (i j d : ℕ) → i < length xs → j < length ys → get_or xs i 0 ≡ get_or ys j 0 → get_or xs i d ≡ get_or ys j d
at_default xs ys i j d h k e =
    get_or_default xs i d 0 h ∙ e ∙ get_or_default ys j 0 d k

page_alike : (s t : List ℕ) (at : ℕ) → at + 2048 ≤ length s → at + 2048 ≤ length t → Alike 2048 at s t → page s at ≡ page t at
page_alike s t at hs ht h =
    let ls = page_long s at hs in
    same_lists (page s at) (page t at) (ls ∙ sym (page_long t at ht)) (λ i d l.
    let il : i < 2048 = omega arith in
    page_item s at i d il
    ∙ at_default s t (at + i) (at + i) d (omega arith) (omega arith) (h (at + i) (omega arith) (omega arith))
    ∙ sym (page_item t at i d il))

local : Local
local = record { half_alike = half_alike; word_alike = word_alike; page_alike = page_alike }

outside : (at n j k : ℕ) → (j < at) ⊎ (at + n ≤ j) → at ≤ k → k < at + n → j ≡ k → ⊥
outside at n j k (inl l) h h' e = omega arith
outside at n j k (inr l) h h' e = omega arith

set_within : (s : List ℕ) (at v : ℕ) → Within 1 at s (set s at v)
set_within s at v = record {
  long = length-set s at v;
  kept = λ j h. get_or-set_other s at j v 0 (outside at 1 j at h (omega arith) (omega arith));
}

half_within : (s : List ℕ) (at v : ℕ) → Within 2 at s (put_half s at v)
unfolding put_half
half_within s at v = record {
  long = length-set (set s at (v / 256)) (at + 1) (v % 256) ∙ length-set s at (v / 256);
  kept = λ j h.
      get_or-set_other (set s at (v / 256)) (at + 1) j (v % 256) 0 (outside at 2 j (at + 1) h (omega arith) (omega arith))
      ∙ get_or-set_other s at j (v / 256) 0 (outside at 2 j at h (omega arith) (omega arith));
}

-- A write within a part of a part.
pub narrow : (n at m b j : ℕ) → at ≤ b → b + m ≤ at + n → (j < at) ⊎ (at + n ≤ j) → (j < b) ⊎ (b + m ≤ j)
narrow n at m b j h k (inl l) = inl (omega arith)
narrow n at m b j h k (inr l) = inr (omega arith)

word_within : (s : List ℕ) (at v : ℕ) → Within 4 at s (put_word s at v)
unfolding put_word
word_within s at v =
    let first = half_within s at (v / 65536) in
    let second = half_within (put_half s at (v / 65536)) (at + 2) (v % 65536) in
    record {
      long = second.long ∙ first.long;
      kept = λ j h.
          second.kept j (narrow 4 at 2 (at + 2) j (omega arith) (omega arith) h)
          ∙ first.kept j (narrow 4 at 2 at j (omega arith) (omega arith) h);
    }

-- The bytes before a page that is put, and behind it.
module _ (s : List ℕ) (at : ℕ) (p : List ℕ) (h : at + 2048 ≤ length s) (k : length p ≡ 2048) where
  front_long : length (take at s) ≡ at
  front_long = length-take-le at s (omega arith)

  put_long : length (put_page s at p) ≡ length s
  unfolding put_page
  put_long = simp (length-append, length-take, length-drop) (omega arith)

  put_kept : (j : ℕ) → (j < at) ⊎ (at + 2048 ≤ j) → get_or (put_page s at p) j 0 ≡ get_or s j 0
  unfolding put_page
  put_kept j (inl l) =
      let fl = front_long in
      get_or_append_left (take at s) (p ++ drop (at + 2048) s) 0 j (omega arith) ∙ get_or-take at s j 0 l
  put_kept j (inr l) =
      let fl = front_long in
      get_or-append_right (take at s) (p ++ drop (at + 2048) s) at j 0 fl (omega arith)
      ∙ get_or-append_right p (drop (at + 2048) s) 2048 (j - at) 0 k (omega arith)
      ∙ get_or-drop (at + 2048) s (j - at - 2048) 0
      ∙ ap (λ n. get_or s n 0) (let e : at + 2048 + (j - at - 2048) ≡ j = omega arith in e)

  page_within : Within 2048 at s (put_page s at p)
  page_within = record { long = put_long; kept = put_kept }

  page_same : page (put_page s at p) at ≡ p
  unfolding page put_page
  page_same =
      ap (take 2048) (drop_at (take at s) (p ++ drop (at + 2048) s) at front_long) ∙ take_at p (drop (at + 2048) s) 2048 k

beside : Beside
beside = record { set_within = set_within; half_within = half_within; word_within = word_within; page_within = page_within }

-- A read elsewhere has the same bytes.
elsewhere_alike : (n at m b : ℕ) (s t : List ℕ) → Within n at s t → (b + m ≤ at) ⊎ (at + n ≤ b) → Alike m b t s
elsewhere_alike n at m b s t w (inl l) j h k = w.kept j (inl (omega arith))
elsewhere_alike n at m b s t w (inr l) j h k = w.kept j (inr (omega arith))

pub elsewhere : Elsewhere
elsewhere = record {
  half_other = λ n at b s t w h. half_alike t s b (elsewhere_alike n at 2 b s t w h);
  word_other = λ n at b s t w h. word_alike t s b (elsewhere_alike n at 4 b s t w h);
  page_other = λ n at b s t w l h.
      let e = w.long in
      page_alike t s b (omega arith) l (elsewhere_alike n at 2048 b s t w h);
}

half_same : (s : List ℕ) (at v : ℕ) → at + 2 ≤ length s → v < 2 ^ 16 → half (put_half s at v) at ≡ v
unfolding half put_half
half_same s at v h k =
    let high : get_or (set (set s at (v / 256)) (at + 1) (v % 256)) at 0 ≡ v / 256 =
    get_or-set_other (set s at (v / 256)) (at + 1) at (v % 256) 0 (λ e. omega arith) ∙ get_or-set_same s at (v / 256) 0 (omega arith) in
    let l = length-set s at (v / 256) in
    let low : get_or (set (set s at (v / 256)) (at + 1) (v % 256)) (at + 1) 0 ≡ v % 256 =
    get_or-set_same (set s at (v / 256)) (at + 1) (v % 256) 0 (omega arith) in
    rw (high, low) (omega arith)

word_same : (s : List ℕ) (at v : ℕ) → at + 4 ≤ length s → v < 2 ^ 32 → word (put_word s at v) at ≡ v
unfolding word put_word
word_same s at v h k =
    let first = half_within s at (v / 65536) in
    let second = half_within (put_half s at (v / 65536)) (at + 2) (v % 65536) in
    let fl = first.long in
    let high : half (put_half (put_half s at (v / 65536)) (at + 2) (v % 65536)) at ≡ v / 65536 =
    elsewhere.half_other 2 (at + 2) at _ _ second (inl (omega arith)) ∙ half_same s at (v / 65536) (omega arith) (omega arith) in
    let low : half (put_half (put_half s at (v / 65536)) (at + 2) (v % 65536)) (at + 2) ≡ v % 65536 =
    half_same (put_half s at (v / 65536)) (at + 2) (v % 65536) (omega arith) (omega arith) in
    rw (high, low) (omega arith)

same : Same
same = record { half_same = half_same; word_same = word_same; page_same = page_same }

set_page : (s : List ℕ) (at i v : ℕ) → i < 2048 → page (set s (at + i) v) at ≡ set (page s at) i v
unfolding page
set_page s at i v h = ap (take 2048) (drop-set-add at s i v) ∙ take-set-lt 2048 (drop at s) i v h

zeros_long : length zeros ≡ 2048
unfolding zeros
zeros_long = length-replicate {A = ℕ} 2048 0

zeros_at : (i : ℕ) → get_or zeros i 0 ≡ 0
unfolding zeros
zeros_at i = elim (cases_lt i 2048) [ inl h ↦ get_or-replicate 2048 i 0 0 h | inr h ↦ get_or_past (replicate 2048 0) i 0 (let e = length-replicate {A = ℕ} 2048 0 in omega arith) ]

blank : (n at : ℕ) → at + 2048 ≤ n → page (replicate n 0) at ≡ zeros
unfolding page zeros
blank n at h = ap (take 2048) (drop-replicate at n 0) ∙ take-replicate 2048 (n - at) 0 (omega arith)

pages : Pages
pages = record {
  page_long = page_long;
  zeros_long = zeros_long;
  zeros_at = zeros_at;
  page_at = λ s at i h. page_item s at i 0 h;
  set_page = set_page;
  blank = blank;
}

pub laws : Laws
laws = record { alike = local; beside = beside; same = same; pages = pages }
