-- Take ends: each step that takes no frame lowers a weight of what is held.
use Rattle.std.specs.Prelude.{◌≡◌, ℕ, zero, suc, ◌+◌, ◌*◌, ◌<◌, ◌≤◌, Bool, true, false, cond, ◌⊎◌, List, [], ◌∷◌, ◌++◌, length, Some, None, Option, slice_index, refl}
use Rattle.std.proofs.Common.{sym, ap, ◌∙◌, inl, inr, arith}
use Rattle.std.proofs.lemmas.List.{get_or-set_same, get_or-set_other, set_past, nil_from_length, get_or_past}
use Rattle.std.proofs.lemmas.Bool.{cases_eq, cases_lt, cases_Bool, cond-true, cond-false}
use Rattle.frames.specs.Held.{without}
use Rattle.frames.specs.Keys.{referred, changed, reference_off}
use Rattle.frames.proofs.Held.{without_first, without_later}
use Rattle.frames.proofs.KeysKept.{off_referred}
use Rattle.queues.specs.Five.{Five, empty, size, turned, turned_off, seen_q00, seen_q01, step, step_at, first_of, steps}

-- what a frame weighs more where its reference bit is on
abbrev bonus : List ℕ → ℕ → ℕ
bonus keys f = cond (referred (slice_index keys f)) 2 0

bonus_on : (keys : List ℕ) (f : ℕ) → referred (slice_index keys f) ≡ true → bonus keys f ≡ 2
bonus_on keys f e = cond-true (referred (slice_index keys f)) 2 0 e

bonus_off : (keys : List ℕ) (f : ℕ) → referred (slice_index keys f) ≡ false → bonus keys f ≡ 0
bonus_off keys f e = cond-false (referred (slice_index keys f)) 2 0 e

bonus_small : (keys : List ℕ) (f : ℕ) → bonus keys f ≤ 2
bonus_small keys f = elim (cases_Bool (referred (slice_index keys f))) [ inl e ↦ omega (arith, bonus_on keys f e) | inr e ↦ omega (arith, bonus_off keys f e) ]

-- the weight of the frames of one queue, where each weighs w or more
abbrev pub weigh : List ℕ → ℕ → List ℕ → ℕ
weigh keys w [] = 0
weigh keys w (x ∷ xs) = w + bonus keys x + weigh keys w xs

-- the weight of all
abbrev pub weight : Five → List ℕ → ℕ
weight m keys = weigh keys 2 m.q00 + weigh keys 1 m.q01 + weigh keys 3 m.q10 + weigh keys 2 m.q11 + weigh keys 4 m.hq

weigh_more : (keys : List ℕ) (w : ℕ) (xs : List ℕ) → weigh keys (suc w) xs ≡ weigh keys w xs + length xs
weigh_more keys w [] = refl
weigh_more keys w (x ∷ xs) = omega (arith, weigh_more keys w xs)

weigh_long : (keys : List ℕ) (w : ℕ) (xs : List ℕ) → 1 ≤ w → length xs ≤ weigh keys w xs
weigh_long keys w [] h = omega arith
weigh_long keys w (x ∷ xs) h = omega (arith, weigh_long keys w xs h)

weigh_six : (keys : List ℕ) (w : ℕ) (xs : List ℕ) → w ≤ 4 → weigh keys w xs ≤ 6 * length xs
weigh_six keys w [] h = omega arith
weigh_six keys w (x ∷ xs) h = omega (arith, weigh_six keys w xs h, bonus_small keys x)

pub weight_six : (m : Five) (keys : List ℕ) → weight m keys ≤ 6 * size m
weight_six m keys =
    let a = weigh_six keys 2 m.q00 (omega arith) in
    let b = weigh_six keys 1 m.q01 (omega arith) in
    let d = weigh_six keys 3 m.q10 (omega arith) in
    let e = weigh_six keys 2 m.q11 (omega arith) in
    let f = weigh_six keys 4 m.hq (omega arith) in
    omega arith

pub size_weight : (m : Five) (keys : List ℕ) → size m ≤ weight m keys
size_weight m keys =
    let a = weigh_long keys 2 m.q00 (omega arith) in
    let b = weigh_long keys 1 m.q01 (omega arith) in
    let d = weigh_long keys 3 m.q10 (omega arith) in
    let e = weigh_long keys 2 m.q11 (omega arith) in
    let f = weigh_long keys 4 m.hq (omega arith) in
    omega arith

-- the frame f is looked at
module _ (keys : List ℕ) (f : ℕ) where
  abbrev off : List ℕ
  off = turned_off keys f

  off_none : bonus off f ≡ 0
  off_none = elim (cases_lt f (length keys)) [
    | inl h ↦ bonus_off off f (ap referred (get_or-set_same keys f (reference_off (slice_index keys f)) 0 h) ∙ off_referred (slice_index keys f))
    | inr g ↦ bonus_off off f (ap (λ l. referred (slice_index l f)) (set_past keys f (reference_off (slice_index keys f)) g) ∙ ap referred (get_or_past keys f 0 g))
  ]

  off_less : (x : ℕ) → bonus off x ≤ bonus keys x
  off_less x = elim (cases_eq x f) [
    | inl e ↦ (let n = off_none in omega (arith, ap (bonus off) e))
    | inr ne ↦ omega (arith, ap {B = ℕ} (λ k. cond (referred k) 2 0) (get_or-set_other keys f x (reference_off (slice_index keys f)) 0 ne))
  ]

  weigh_off : (w : ℕ) (xs : List ℕ) → weigh off w (without f xs) ≤ weigh keys w xs
  weigh_off w [] = omega arith
  weigh_off w (x ∷ xs) = elim (cases_eq x f) [
    | inl e ↦ omega (arith, ap (weigh off w) (without_first f x xs e), weigh_off w xs)
    | inr ne ↦ omega (arith, ap (weigh off w) (without_later f x xs ne), weigh_off w xs, off_less x)
  ]

  weigh_head : (w : ℕ) (xs : List ℕ) → weigh off w (without f (f ∷ xs)) ≤ weigh keys w xs
  weigh_head w xs = omega (arith, ap (weigh off w) (without_first f f xs refl), weigh_off w xs)

  weigh_last : (w : ℕ) (xs : List ℕ) → weigh off w (xs ++ (f ∷ [])) ≡ weigh off w xs + w
  weigh_last w [] = let n = off_none in omega arith
  weigh_last w (x ∷ xs) = omega (arith, weigh_last w xs)

-- each step that takes no frame lowers the weight, as long as a frame is held
less_q00 : (ref chg : Bool) (m : Five) (keys : List ℕ) (f : ℕ) (fs : List ℕ) → m.q00 ≡ f ∷ fs → referred (slice_index keys f) ≡ ref
    → (seen_q00 ref chg m keys f).frame ≡ None → weight (seen_q00 ref chg m keys f).left (seen_q00 ref chg m keys f).keys < weight m keys
less_q00 false false m keys f fs e r n = let z : ◌≡◌ {A = ℕ} 0 1 = cc in absurd (omega arith)
less_q00 false true m keys f fs e r n =
    let a = weigh_head keys f 2 fs in let b = weigh_off keys f 1 m.q01 in let d = weigh_off keys f 3 m.q10 in
    let g = weigh_off keys f 2 m.q11 in let h = weigh_off keys f 4 m.hq in let l = weigh_last keys f 1 (without f m.q01) in
    omega (arith, ap (λ l. weigh (turned_off keys f) 2 (without f l)) e, ap (weigh keys 2) e)
less_q00 true false m keys f fs e r n =
    let a = weigh_head keys f 2 fs in let b = weigh_off keys f 1 m.q01 in let d = weigh_off keys f 3 m.q10 in
    let g = weigh_off keys f 2 m.q11 in let h = weigh_off keys f 4 m.hq in let l = weigh_last keys f 3 (without f m.q10) in
    omega (arith, ap (λ l. weigh (turned_off keys f) 2 (without f l)) e, ap (weigh keys 2) e, bonus_on keys f r)
less_q00 true true m keys f fs e r n =
    let a = weigh_head keys f 2 fs in let b = weigh_off keys f 1 m.q01 in let d = weigh_off keys f 3 m.q10 in
    let g = weigh_off keys f 2 m.q11 in let h = weigh_off keys f 4 m.hq in let l = weigh_last keys f 2 (without f m.q11) in
    omega (arith, ap (λ l. weigh (turned_off keys f) 2 (without f l)) e, ap (weigh keys 2) e, bonus_on keys f r)

less_q01 : (ref : Bool) (m : Five) (keys : List ℕ) (f : ℕ) (fs : List ℕ) → m.q01 ≡ f ∷ fs → referred (slice_index keys f) ≡ ref
    → (seen_q01 ref m keys f).frame ≡ None → weight (seen_q01 ref m keys f).left (seen_q01 ref m keys f).keys < weight m keys
less_q01 false m keys f fs e r n = let z : ◌≡◌ {A = ℕ} 0 1 = cc in absurd (omega arith)
less_q01 true m keys f fs e r n =
    let a = weigh_off keys f 2 m.q00 in let b = weigh_head keys f 1 fs in let d = weigh_off keys f 3 m.q10 in
    let g = weigh_off keys f 2 m.q11 in let h = weigh_off keys f 4 m.hq in let l = weigh_last keys f 2 (without f m.q11) in
    omega (arith, ap (λ l. weigh (turned_off keys f) 1 (without f l)) e, ap (weigh keys 1) e, bonus_on keys f r)

less_turned : (m : Five) (keys : List ℕ) → m.q00 ≡ [] → m.q01 ≡ [] → 0 < size m → weight (turned m) keys < weight m keys
less_turned m keys e d h =
    let a = ap length e in
    let b = ap length d in
    let l : weight (turned m) keys ≡ weigh keys 2 m.q10 + weigh keys 1 m.q11 + weigh keys 3 m.hq + weigh keys 2 m.q00 + weigh keys 4 m.q01 = refl in
    omega (arith, ap (weigh keys 2) e, ap (weigh keys 1) d, ap (weigh keys 4) d, weigh_more keys 2 m.q10, weigh_more keys 1 m.q11, weigh_more keys 3 m.hq)

less_at : (xs ys : List ℕ) (m : Five) (keys : List ℕ) → m.q00 ≡ xs → m.q01 ≡ ys → 0 < size m
    → (step_at xs ys m keys).frame ≡ None → weight (step_at xs ys m keys).left (step_at xs ys m keys).keys < weight m keys
less_at (f ∷ fs) ys m keys e d h n = less_q00 (referred (slice_index keys f)) (changed (slice_index keys f)) m keys f fs e refl n
less_at [] (f ∷ fs) m keys e d h n = less_q01 (referred (slice_index keys f)) m keys f fs d refl n
less_at [] [] m keys e d h n = less_turned m keys e d h

pub step_less : (m : Five) (keys : List ℕ) → 0 < size m → (step m keys).frame ≡ None → weight (step m keys).left (step m keys).keys < weight m keys
step_less m keys h n = less_at m.q00 m.q01 m keys refl refl h n

-- five queues that are the same one by one
pub five_same : (m n : Five) → m.q00 ≡ n.q00 → m.q01 ≡ n.q01 → m.q10 ≡ n.q10 → m.q11 ≡ n.q11 → m.hq ≡ n.hq → m ≡ n
five_same m n a b c d e =
    ap (λ x. record { q00 = x; q01 = m.q01; q10 = m.q10; q11 = m.q11; hq = m.hq }) a
    ∙ ap (λ x. record { q00 = n.q00; q01 = x; q10 = m.q10; q11 = m.q11; hq = m.hq }) b
    ∙ ap (λ x. record { q00 = n.q00; q01 = n.q01; q10 = x; q11 = m.q11; hq = m.hq }) c
    ∙ ap (λ x. record { q00 = n.q00; q01 = n.q01; q10 = n.q10; q11 = x; hq = m.hq }) d
    ∙ ap (λ x. record { q00 = n.q00; q01 = n.q01; q10 = n.q10; q11 = n.q11; hq = x }) e

-- nothing is held
pub is_empty : (m : Five) → size m ≡ 0 → m ≡ empty
is_empty m z =
    five_same m empty (nil_from_length m.q00 (omega arith)) (nil_from_length m.q01 (omega arith)) (nil_from_length m.q10 (omega arith))
    (nil_from_length m.q11 (omega arith)) (nil_from_length m.hq (omega arith))

empty_steps : (n : ℕ) (keys : List ℕ) → steps n empty keys ≡ record { frame = None; keys = keys; left = empty }
unfolding steps
empty_steps zero keys = refl
empty_steps (suc n) keys = empty_steps n keys

pub none_steps : (n : ℕ) (m : Five) (keys : List ℕ) → size m ≡ 0 → steps n m keys ≡ record { frame = None; keys = keys; left = m }
none_steps n m keys z = ap (λ x. steps n x keys) (is_empty m z) ∙ empty_steps n keys ∙ ap (λ x. record { frame = None; keys = keys; left = x }) (sym (is_empty m z))

-- one step, and the others
pub step_first : (n : ℕ) (m : Five) (keys : List ℕ) (f : ℕ) → (step m keys).frame ≡ Some f → steps (suc n) m keys ≡ step m keys
unfolding steps
step_first n m keys f e = ap (λ o. first_of o (step m keys) (steps n (step m keys).left (step m keys).keys)) e

pub step_on : (n : ℕ) (m : Five) (keys : List ℕ) → (step m keys).frame ≡ None → steps (suc n) m keys ≡ steps n (step m keys).left (step m keys).keys
unfolding steps
step_on n m keys e = ap (λ o. first_of o (step m keys) (steps n (step m keys).left (step m keys).keys)) e

pub cases_step : (o : Option ℕ) → (o ≡ None) ⊎ ((f : ℕ) × (o ≡ Some f))
cases_step None = inl refl
cases_step (Some f) = inr (f, refl)

-- More steps than the weight change nothing.
pub settle : (n k : ℕ) (m : Five) (keys : List ℕ) → weight m keys ≤ n → weight m keys ≤ k → steps n m keys ≡ steps k m keys
settle zero k m keys a b = let s = size_weight m keys in none_steps zero m keys (omega arith) ∙ sym (none_steps k m keys (omega arith))
settle (suc n) zero m keys a b = let s = size_weight m keys in none_steps (suc n) m keys (omega arith) ∙ sym (none_steps zero m keys (omega arith))
settle (suc n) (suc k) m keys a b = elim (cases_lt 0 (size m)) [
  | inr z ↦ none_steps (suc n) m keys (omega arith) ∙ sym (none_steps (suc k) m keys (omega arith))
  | inl h ↦ (elim (cases_step (step m keys).frame) [
    | inr y ↦ step_first n m keys y.0 y.1 ∙ sym (step_first k m keys y.0 y.1)
    | inl e ↦ (let l = step_less m keys h e in
        step_on n m keys e ∙ settle n k (step m keys).left (step m keys).keys (omega arith) (omega arith) ∙ sym (step_on k m keys e))
  ])
]
