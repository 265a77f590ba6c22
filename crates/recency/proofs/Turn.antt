-- What a turn by one place leaves.
use Rattle.std.proofs.Common.{◌≡◌, ℕ, zero, suc, ◌-◌, ◌<◌, List, [], ◌∷◌, ◌++◌, length, take, drop, sym, ap, ◌∙◌, add-one, arith, length-drop}
use borrow.Rule.Slice.PartMut.{put_mid}
use Rattle.std.proofs.lemmas.List.{take_rest, drop-drop, drop_all, append-nil, append_assoc}
use Rattle.recency.specs.Places.{at_end, put_last}

-- the part from i to the end n, turned by one
pub turned : {E : Type 0} (xs ys : List E) (i n : ℕ) → n ≡ length xs → i < length xs
    → ys ≡ drop 1 (take (n - i) (drop i xs)) ++ take 1 (take (n - i) (drop i xs)) → put_mid i (n - i) xs ys ≡ at_end xs i
turned xs ys i n e h is =
    let part : take (n - i) (drop i xs) ≡ drop i xs = ap (λ m. take (m - i) (drop i xs)) e ∙ take_rest xs i in
    let rest : drop (n - i) (drop i xs) ≡ [] = drop_all (n - i) (drop i xs) (simp length-drop (omega arith)) in
    rw (is, part, rest, append-nil, drop-drop, add-one) (sym (append_assoc (take i xs) (drop (suc i) xs) (take 1 (drop i xs))))

-- there is room for one more
pub put_room : {E : Type 0} (n : ℕ) (xs : List E) (x : E) → length xs < n → put_last n xs x ≡ xs ++ (x ∷ [])
put_room zero xs x h = absurd (omega arith)
put_room (suc n) xs x h = ap (λ k. drop k xs ++ (x ∷ [])) (let none : length xs - n ≡ 0 = omega arith in none)
