-- The nodes of a queue, and the frames that its links lead through.
use Rattle.std.specs.Prelude.{◌≡◌, ℕ, zero, suc, ◌+◌, ◌<◌, ◌≤◌, cond, ◌⊎◌, List, [], ◌∷◌, length, get_or, drop, ◌==◌, nat_lt, slice_index, slice_index_or, refl}
use Rattle.std.proofs.Math.Path.{sym, ap}
use Rattle.std.proofs.Common.{◌∙◌, arith, add-one}
use Rattle.std.proofs.Math.Logic.{inl, inr}
use Rattle.std.proofs.lemmas.List.{get_or_past, get_or_append_left, get_or_at, drop_more, drop_all}
use Rattle.std.proofs.lemmas.Bool.{cases_eq, cases_lt, cases_Bool, ne_eqb, eqb-true, lt-ltb, le-ltb, cond-true, cond-false}
use Rattle.frames.specs.Held.{times_in, Once}
use Rattle.frames.proofs.Held.{share_same, share_other, times_at, once_length}
use Rattle.queues.specs.Links.{walk, list_of, node_at}

-- The queue q has the frames xs.
pub record Ring (next prev place : List ℕ) (q : ℕ) (xs : List ℕ) : Type 0 where
  pub placed : (f : ℕ) → times_in f xs ≡ cond (slice_index_or place f 5 == q) 1 0
  pub forward : (i : ℕ) → i ≤ length xs → slice_index next (node_at xs q i) ≡ node_at xs q (suc i)
  pub backward : (i : ℕ) → i ≤ length xs → slice_index prev (node_at xs q (suc i)) ≡ node_at xs q i

-- a list that has each frame at most once has it at one place
pub apart : (xs : List ℕ) → ((f : ℕ) → times_in f xs ≤ 1) → (i j : ℕ) → i < length xs → j < length xs → slice_index xs i ≡ slice_index xs j → i ≡ j
apart [] o i j hi hj e = absurd (omega arith)
apart (x ∷ xs) o zero zero hi hj e = refl
apart (x ∷ xs) o zero (suc j) hi hj e =
    let s = share_same x x refl in let t = times_at xs j (omega arith) in absurd (omega (arith, o x, ap (λ k. times_in k xs) e))
apart (x ∷ xs) o (suc i) zero hi hj e =
    let s = share_same x x refl in let t = times_at xs i (omega arith) in absurd (omega (arith, o x, ap (λ k. times_in k xs) e))
apart (x ∷ xs) o (suc i) (suc j) hi hj e = ap suc (apart xs (λ f. omega (arith, o f)) i j (omega arith) (omega arith) e)

-- a frame that is there has a place
pub somewhere : (f : ℕ) (xs : List ℕ) → 1 ≤ times_in f xs → (k : ℕ) × (k < length xs) × (slice_index xs k ≡ f)
somewhere f [] h = absurd (omega arith)
somewhere f (x ∷ xs) h = elim (cases_eq x f) [
  | inl e ↦ (0, omega arith, e)
  | inr ne ↦ (let s = share_other x f ne in let t = somewhere f xs (omega arith) in (suc t.0, omega (arith, t.1), t.2))
]

-- a node of the queue q: a frame placed there, or its end mark
abbrev pub Owned : List ℕ → ℕ → ℕ → Type 0
Owned place q n = ((n < 256) × (slice_index_or place n 5 ≡ q)) ⊎ (n ≡ 256 + q)

pub owned_same : (place : List ℕ) (q r n m : ℕ) → q < 5 → r < 5 → Owned place q n → Owned place r m → n ≡ m → q ≡ r
owned_same place q r n m q< r< (inl a) (inl b) e = sym a.1 ∙ ap (λ k. get_or place k 5) e ∙ b.1
owned_same place q r n m q< r< (inl a) (inr b) e = absurd (omega (arith, a.0))
owned_same place q r n m q< r< (inr a) (inl b) e = absurd (omega (arith, b.0))
owned_same place q r n m q< r< (inr a) (inr b) e = omega arith

-- the nodes of one queue
module _ (next prev place : List ℕ) (q : ℕ) (xs : List ℕ) (long : length place ≡ 256) (q< : q < 5) (ring : Ring next prev place q xs) where
  pub single : (f : ℕ) → times_in f xs ≤ 1
  single f = elim (cases_Bool (slice_index_or place f 5 == q)) [
    | inl y ↦ omega (arith, ring.placed f, cond-true {A = ℕ} (slice_index_or place f 5 == q) 1 0 y)
    | inr n ↦ omega (arith, ring.placed f, cond-false {A = ℕ} (slice_index_or place f 5 == q) 1 0 n)
  ]

  pub in_place : (i : ℕ) → i < length xs → slice_index_or place (slice_index xs i) 5 ≡ q
  in_place i h = elim (cases_Bool (slice_index_or place (slice_index xs i) 5 == q)) [
    | inl y ↦ eqb-true _ _ y
    | inr n ↦ absurd (let t = times_at xs i h in omega (arith, ring.placed (slice_index xs i), cond-false {A = ℕ} (slice_index_or place (slice_index xs i) 5 == q) 1 0 n))
  ]

  placed_below : (f : ℕ) → slice_index_or place f 5 < 5 → f < 256
  placed_below f h = elim (cases_lt f 256) [ inl l ↦ l | inr g ↦ absurd (omega (arith, get_or_past place f 5 (omega arith))) ]

  pub below : (i : ℕ) → i < length xs → slice_index xs i < 256
  below i h = placed_below (slice_index xs i) (let e = in_place i h in omega arith)

  pub once : Once xs
  once f = (single f, λ big. ring.placed f ∙ cond-false {A = ℕ} (slice_index_or place f 5 == q) 1 0 (ne_eqb _ _ (λ e. omega (arith, get_or_past place f 5 (omega arith)))))

  pub node_in : (i : ℕ) → i < length xs → node_at xs q (suc i) ≡ slice_index xs i
  node_in i h = get_or_append_left xs ((256 + q) ∷ []) 0 i h

  pub node_end : (i : ℕ) → i ≡ length xs → node_at xs q (suc i) ≡ 256 + q
  node_end i e = get_or_at xs (256 + q) [] 0 i (sym e)

  -- each node is the queue's own
  pub owned_behind : (i : ℕ) → i ≤ length xs → Owned place q (node_at xs q (suc i))
  owned_behind i h = elim (cases_lt i (length xs)) [
    | inl l ↦ (let e = node_in i l in inl (omega (arith, below i l), ap (λ k. get_or place k 5) e ∙ in_place i l))
    | inr g ↦ inr (node_end i (omega arith))
  ]

  pub owned : (i : ℕ) → i ≤ length xs → Owned place q (node_at xs q i)
  owned zero h = inr refl
  owned (suc i) h = owned_behind i (omega arith)

  -- two nodes before the last are the same at one place alone, and so are two behind the first
  pub behind_apart : (i j : ℕ) → i ≤ length xs → j ≤ length xs → node_at xs q (suc i) ≡ node_at xs q (suc j) → i ≡ j
  behind_apart i j hi hj e = elim (cases_lt i (length xs)) [
    | inl a ↦ (elim (cases_lt j (length xs)) [
      | inl b ↦ apart xs single i j a b (sym (node_in i a) ∙ e ∙ node_in j b)
      | inr b ↦ absurd (let m = node_end j (omega arith) in let n = node_in i a in omega (arith, below i a, e))
    ])
    | inr a ↦ (elim (cases_lt j (length xs)) [
      | inl b ↦ absurd (let m = node_end i (omega arith) in let n = node_in j b in omega (arith, below j b, e))
      | inr b ↦ omega arith
    ])
  ]

  pub before_apart : (i j : ℕ) → i ≤ length xs → j ≤ length xs → node_at xs q i ≡ node_at xs q j → i ≡ j
  before_apart zero zero hi hj e = refl
  before_apart zero (suc j) hi hj e = absurd (let n = node_in j (omega arith) in let b = below j (omega arith) in omega (arith, e))
  before_apart (suc i) zero hi hj e = absurd (let n = node_in i (omega arith) in let b = below i (omega arith) in omega (arith, e))
  before_apart (suc i) (suc j) hi hj e = ap suc (behind_apart i j (omega arith) (omega arith) e)

  -- the links lead through the frames from place j on
  walk_from : (n j : ℕ) → j ≤ length xs → length xs ≤ n + j → walk n next (node_at xs q (suc j)) ≡ drop j xs
  unfolding walk
  walk_from zero j h k = sym (drop_all j xs (omega arith))
  walk_from (suc n) j h k = elim (cases_lt j (length xs)) [
    | inl l ↦ (let e = node_in j l in let b = below j l in
        cond-true (nat_lt (node_at xs q (suc j)) 256) (node_at xs q (suc j) ∷ walk n next (slice_index next (node_at xs q (suc j)))) [] (lt-ltb _ _ (omega arith))
        ∙ ap (λ k. node_at xs q (suc j) ∷ walk n next k) (ring.forward (suc j) (omega arith))
        ∙ ap (λ l. node_at xs q (suc j) ∷ l) (walk_from n (suc j) (omega arith) (omega arith))
        ∙ ap (λ k. k ∷ drop (suc j) xs) e
        ∙ sym (drop_more xs j 0 l ∙ ap (λ k. slice_index xs j ∷ drop k xs) (add-one j)))
    | inr g ↦ (let e = node_end j (omega arith) in
        cond-false (nat_lt (node_at xs q (suc j)) 256) (node_at xs q (suc j) ∷ walk n next (slice_index next (node_at xs q (suc j)))) [] (le-ltb _ _ (omega arith))
        ∙ sym (drop_all j xs (omega arith)))
  ]

  pub walked : list_of next q ≡ xs
  walked =
      ap (walk 256 next) (ring.forward 0 (omega arith)) ∙ walk_from 256 0 (omega arith) (let l = once_length xs once in omega arith)
