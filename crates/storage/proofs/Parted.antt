-- What a write to a part of storage leaves, as the checker reads it.
use Rattle.std.proofs.Common.{◌≡◌, ℕ, ◌+◌, ◌*◌, ◌/◌, ◌%◌, ◌^◌, ◌<◌, List, [], ◌∷◌, ◌++◌, length, get_or, take, drop, set, replicate, refl, ap, ◌∙◌, arith}
use borrow.Rule.Slice.PartMut.{put_mid}
use Rattle.std.proofs.lemmas.List.{drop-drop, length-drop, length-take}
use Rattle.storage.specs.Bytes.{half, word, put_half, put_word, page, put_page, zeros}

-- After a write of the bytes p to `&mut s[at..at + 2048]`, where k is the length of the part.
pub put_mid_lem : (s p : List ℕ) (at k : ℕ) → k ≡ 2048 → put_mid at k s p ≡ put_page s at p
unfolding put_page
put_mid_lem s p at k e = ap (λ l. take at s ++ (p ++ l)) (ap (λ n. drop n (drop at s)) e ∙ drop-drop 2048 at s)

-- The four bytes of a word, set one by one.
four : (s : List ℕ) (at v : ℕ)
    → set (set (set (set s at (v / 65536 / 256)) (at + 1) (v / 65536 % 256)) (at + 2) (v % 65536 / 256)) (at + 3) (v % 65536 % 256)
    ≡ put_word s at v
unfolding put_half put_word
four s at v = let e : at + 2 + 1 ≡ at + 3 = omega arith in rw e refl

-- The bytes of a number, set one after another.
pub set_two : (s t u bytes : List ℕ) (at v : ℕ) → v < 2 ^ 16 → bytes ≡ v / 256 % 256 ∷ v % 256 ∷ []
    → t ≡ set s at (get_or bytes 0 0) → u ≡ set t (at + 1) (get_or bytes 1 0) → u ≡ put_half s at v
unfolding put_half
set_two s t u bytes at v fits is e f =
    let high : get_or bytes 0 0 ≡ v / 256 = ap (λ l. get_or l 0 0) is ∙ omega arith in
    let low : get_or bytes 1 0 ≡ v % 256 = ap (λ l. get_or l 1 0) is in
    rw (f, e, high, low) refl

pub set_four : (s t u w x bytes : List ℕ) (at v : ℕ) → v < 2 ^ 32
    → bytes ≡ v / 16777216 % 256 ∷ v / 65536 % 256 ∷ v / 256 % 256 ∷ v % 256 ∷ []
    → t ≡ set s at (get_or bytes 0 0) → u ≡ set t (at + 1) (get_or bytes 1 0) → w ≡ set u (at + 2) (get_or bytes 2 0)
    → x ≡ set w (at + 3) (get_or bytes 3 0) → x ≡ put_word s at v
set_four s t u w x bytes at v fits is e f g h =
    let a : get_or bytes 0 0 ≡ v / 65536 / 256 = ap (λ l. get_or l 0 0) is ∙ omega arith in
    let b : get_or bytes 1 0 ≡ v / 65536 % 256 = ap (λ l. get_or l 1 0) is in
    let c : get_or bytes 2 0 ≡ v % 65536 / 256 = ap (λ l. get_or l 2 0) is ∙ omega arith in
    let d : get_or bytes 3 0 ≡ v % 65536 % 256 = ap (λ l. get_or l 3 0) is ∙ omega arith in
    rw (h, g, f, e, a, b, c, d) (four s at v)

-- A part of 2,048 bytes.
pub part : (s : List ℕ) (at k : ℕ) → k ≡ 2048 → take k (drop at s) ≡ page s at
unfolding page
part s at k e = ap (λ n. take n (drop at s)) e

-- A part filled with zeros.
pub cleared : (p : List ℕ) (n : ℕ) → n ≡ 2048 → p ≡ replicate n 0 → p ≡ zeros
unfolding zeros
cleared p n e h = h ∙ ap (λ k. replicate k 0) e

-- A number as its bytes.
pub two : (s : List ℕ) (at h l : ℕ) → h ≡ get_or s at 0 → l ≡ get_or s (at + 1) 0 → h * 256 + l ≡ half s at
unfolding half
two s at h l e d = rw (e, d) (omega arith)

pub four_read : (s : List ℕ) (at a b c d : ℕ) → a ≡ get_or s at 0 → b ≡ get_or s (at + 1) 0 → c ≡ get_or s (at + 2) 0 → d ≡ get_or s (at + 3) 0
    → a * 16777216 + b * 65536 + c * 256 + d ≡ word s at
unfolding half word
four_read s at a b c d e f g h = let k : at + 2 + 1 ≡ at + 3 = omega arith in rw (e, f, g, h, k) (omega arith)

-- A page that does not stand wholly in storage is short.
pub page_short : (s : List ℕ) (at : ℕ) → length s < at + 2048 → length (page s at) < 2048
unfolding page
page_short s at h = let e = length-take 2048 (drop at s) in let d = length-drop at s in omega arith
