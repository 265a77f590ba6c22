-- What linking in and taking out leave of the five queues by name.
use Rattle.std.specs.Prelude.{◌≡◌, ℕ, zero, suc, ◌+◌, ◌-◌, ◌%◌, ◌<◌, ◌≤◌, cond, ◌≢◌, List, [], ◌∷◌, ◌++◌, length, get_or, replicate, Some, None, ◌==◌, nat_lt, slice_index, slice_index_or, slice_set}
use Rattle.std.proofs.Math.Path.{refl}
use Rattle.std.proofs.Common.{sym, ap, subst, ◌∙◌, inl, inr, arith}
use Rattle.std.proofs.lemmas.List.{get_or-replicate, get_or_past, get_or-append-add, length-replicate, append_assoc, append-nil}
use Rattle.std.proofs.lemmas.Bool.{cases_eq, cases_lt, eq-eqb, ne_eqb, lt-ltb, le-ltb, cond-true, cond-false}
use Rattle.frames.specs.Held.{without}
use Rattle.frames.proofs.Held.{without_none}
use Rattle.queues.specs.declared.queue.Queue.{Queue}
use Rattle.queues.specs.declared.queue.Queue.TheVariants.{Q00, Q01, Q10, Q11, Hq}
use Rattle.queues.specs.Five.{Five, empty, times_held, dropped, turned, on}
use Rattle.queues.specs.Links.{walk, list_of, node_at, Placed, Forward, Backward}
use Rattle.queues.specs.Names.{number_of, frames_of, head_of, named}
use Rattle.queues.specs.Rings.{Ring, somewhere, walked}
use Rattle.queues.specs.Linking.{linked_this, linked_other, linked_longs}
use Rattle.queues.specs.Unlinking.{unlinked_this, unlinked_other, unlinked_none, unlinked_longs, less_is}
use Rattle.queues.specs.Weight.{five_same}

-- what the type keeps true of its links
abbrev pub Kept : List ℕ → List ℕ → List ℕ → Type 0
Kept next prev place = Placed next place × Forward next × Backward next prev

-- each queue, as the links make it
module _ (next prev place : List ℕ) (kept : Kept next prev place) where
  pub ring_of : (q : ℕ) → q < 5 → Ring next prev place q (list_of next q)
  ring_of q q< = record { placed = λ f. kept.0 q f q<; forward = λ i h. kept.1 q i (q<, h); backward = λ i h. kept.2 q i (q<, h) }

-- lists that the links lead through are the queues
module _ (next prev place : List ℕ) (long : length place ≡ 256) (lists : ℕ → List ℕ) (rings : (q : ℕ) → q < 5 → Ring next prev place q (lists q)) where
  pub list_is : (q : ℕ) → q < 5 → list_of next q ≡ lists q
  list_is q q< = walked next prev place q (lists q) long q< (rings q q<)

  ring_is : (q : ℕ) → q < 5 → Ring next prev place q (list_of next q)
  ring_is q q< = subst (Ring next prev place q) (sym (list_is q q<)) (rings q q<)

  pub kept_by : Kept next prev place
  kept_by = (λ q f q<. (ring_is q q<).placed f, λ q i h. (ring_is q h.0).forward i h.1, λ q i h. (ring_is q h.0).backward i h.1)

-- one frame is linked in at the tail of the queue q
module _ (next prev place : List ℕ) (q f : ℕ) (kept : Kept next prev place) (n-long : length next ≡ 261) (p-long : length prev ≡ 261) (long : length place ≡ 256)
    (q< : q < 5) (f< : f < 256) (free : 5 ≤ slice_index_or place f 5) where
  abbrev tail : ℕ
  tail = slice_index prev (256 + q)

  abbrev next' : List ℕ
  next' = slice_set (slice_set next tail f) f (256 + q)

  abbrev prev' : List ℕ
  prev' = slice_set (slice_set prev f tail) (256 + q) f

  abbrev place' : List ℕ
  place' = slice_set place f q

  abbrev lists' : ℕ → List ℕ
  lists' r = cond (r == q) (list_of next r ++ (f ∷ [])) (list_of next r)

  rings' : (r : ℕ) → r < 5 → Ring next' prev' place' r (lists' r)
  rings' r r< = elim (cases_eq r q) [
    | inl e ↦ subst (λ k. Ring next' prev' place' k (lists' k)) (sym e)
        (subst (Ring next' prev' place' q) (sym (cond-true (q == q) (list_of next q ++ (f ∷ [])) (list_of next q) (eq-eqb q q refl)))
        (linked_this next prev place q f (list_of next q) n-long p-long long q< f< free (ring_of next prev place kept q q<)))
    | inr ne ↦ subst (Ring next' prev' place' r) (sym (cond-false (r == q) (list_of next r ++ (f ∷ [])) (list_of next r) (ne_eqb r q ne)))
        (linked_other next prev place q f (list_of next q) n-long p-long long q< f< free (ring_of next prev place kept q q<) r (list_of next r) r< ne (ring_of next prev place kept r r<))
  ]

  longs' : (length next' ≡ 261) × (length prev' ≡ 261) × (length place' ≡ 256)
  longs' = linked_longs next prev place q f (list_of next q) n-long p-long long q< f< free (ring_of next prev place kept q q<)

  pub link_keeps : Kept next' prev' place'
  link_keeps = kept_by next' prev' place' longs'.2 lists' rings'

  pub link_list : (r : ℕ) → r < 5 → list_of next' r ≡ cond (r == q) (list_of next r ++ (f ∷ [])) (list_of next r)
  link_list r r< = list_is next' prev' place' longs'.2 lists' rings' r r<

-- one frame is taken out
module _ (next prev place : List ℕ) (f : ℕ) (kept : Kept next prev place) (n-long : length next ≡ 261) (p-long : length prev ≡ 261) (long : length place ≡ 256)
    (held : get_or place f 5 < 5) where
  abbrev q : ℕ
  q = slice_index_or place f 5

  at : (k : ℕ) × (k < length (list_of next q)) × (slice_index (list_of next q) k ≡ f)
  at = somewhere f (list_of next q) (let t = kept.0 q f held ∙ cond-true {A = ℕ} (q == q) 1 0 (eq-eqb q q refl) in omega arith)

  abbrev nextₒ : List ℕ
  nextₒ = slice_set next (slice_index prev f) (slice_index next f)

  abbrev prevₒ : List ℕ
  prevₒ = slice_set prev (slice_index next f) (slice_index prev f)

  abbrev placeₒ : List ℕ
  placeₒ = slice_set place f 5

  rest : (r : ℕ) → r < 5 → Ring nextₒ prevₒ placeₒ r (without f (list_of next r))
  rest r r< = elim (cases_eq r q) [
    | inl e ↦ subst (λ k. Ring nextₒ prevₒ placeₒ k (without f (list_of next k))) (sym e)
        (subst (Ring nextₒ prevₒ placeₒ q) (sym (less_is next prev place q f at.0 (list_of next q) n-long p-long long held at.1 at.2 (ring_of next prev place kept q held)))
        (unlinked_this next prev place q f at.0 (list_of next q) n-long p-long long held at.1 at.2 (ring_of next prev place kept q held)))
    | inr ne ↦ subst (Ring nextₒ prevₒ placeₒ r)
        (sym (without_none f (list_of next r)
        (unlinked_none next prev place q f at.0 (list_of next q) n-long p-long long held at.1 at.2 (ring_of next prev place kept q held) r (list_of next r) r< ne (ring_of next prev place kept r r<))))
        (unlinked_other next prev place q f at.0 (list_of next q) n-long p-long long held at.1 at.2 (ring_of next prev place kept q held) r (list_of next r) r< ne (ring_of next prev place kept r r<))
  ]

  longsₒ : (length nextₒ ≡ 261) × (length prevₒ ≡ 261) × (length placeₒ ≡ 256)
  longsₒ = unlinked_longs next prev place q f at.0 (list_of next q) n-long p-long long held at.1 at.2 (ring_of next prev place kept q held)

  pub unlink_keeps : Kept nextₒ prevₒ placeₒ
  unlink_keeps = kept_by nextₒ prevₒ placeₒ longsₒ.2 (λ r. without f (list_of next r)) rest

  pub unlink_list : (r : ℕ) → r < 5 → list_of nextₒ r ≡ without f (list_of next r)
  unlink_list r r< = list_is nextₒ prevₒ placeₒ longsₒ.2 (λ r. without f (list_of next r)) rest r r<

-- a number of a queue
round : (n : ℕ) → n % 5 < 5
round n = omega arith

-- every queue without the frame
pub named_dropped : (lists lists' : ℕ → List ℕ) (first f : ℕ) → ((r : ℕ) → r < 5 → lists' r ≡ without f (lists r)) → named lists' first ≡ dropped (named lists first) f
named_dropped lists lists' first f h =
    five_same (named lists' first) (dropped (named lists first) f)
    (h ((first + 0) % 5) (round (first + 0))) (h ((first + 1) % 5) (round (first + 1))) (h ((first + 2) % 5) (round (first + 2)))
    (h ((first + 3) % 5) (round (first + 3))) (h ((first + 4) % 5) (round (first + 4)))

-- one queue with a frame more
module _ (lists lists' : ℕ → List ℕ) (first f : ℕ) (first< : first < 5) where
  module _ (j : ℕ) (h : (r : ℕ) → r < 5 → lists' r ≡ cond (r == (first + j) % 5) (lists r ++ (f ∷ [])) (lists r)) where
    hit : lists' ((first + j) % 5) ≡ lists ((first + j) % 5) ++ (f ∷ [])
    hit = h ((first + j) % 5) (round (first + j))
        ∙ cond-true ((first + j) % 5 == (first + j) % 5) (lists ((first + j) % 5) ++ (f ∷ [])) (lists ((first + j) % 5)) (eq-eqb _ _ refl)

    miss : (k : ℕ) → (first + k) % 5 ≢ (first + j) % 5 → lists' ((first + k) % 5) ≡ lists ((first + k) % 5)
    miss k ne = h ((first + k) % 5) (round (first + k))
        ∙ cond-false ((first + k) % 5 == (first + j) % 5) (lists ((first + k) % 5) ++ (f ∷ [])) (lists ((first + k) % 5)) (ne_eqb _ _ ne)

  pub named_on : (queue : Queue) → ((r : ℕ) → r < 5 → lists' r ≡ cond (r == (first + number_of queue) % 5) (lists r ++ (f ∷ [])) (lists r))
      → named lists' first ≡ on queue (named lists first) f
  named_on Q00 h = five_same (named lists' first) (on Q00 (named lists first) f)
      (hit 0 h) (miss 0 h 1 (λ e. omega arith)) (miss 0 h 2 (λ e. omega arith)) (miss 0 h 3 (λ e. omega arith)) (miss 0 h 4 (λ e. omega arith))
  named_on Q01 h = five_same (named lists' first) (on Q01 (named lists first) f)
      (miss 1 h 0 (λ e. omega arith)) (hit 1 h) (miss 1 h 2 (λ e. omega arith)) (miss 1 h 3 (λ e. omega arith)) (miss 1 h 4 (λ e. omega arith))
  named_on Q10 h = five_same (named lists' first) (on Q10 (named lists first) f)
      (miss 2 h 0 (λ e. omega arith)) (miss 2 h 1 (λ e. omega arith)) (hit 2 h) (miss 2 h 3 (λ e. omega arith)) (miss 2 h 4 (λ e. omega arith))
  named_on Q11 h = five_same (named lists' first) (on Q11 (named lists first) f)
      (miss 3 h 0 (λ e. omega arith)) (miss 3 h 1 (λ e. omega arith)) (miss 3 h 2 (λ e. omega arith)) (hit 3 h) (miss 3 h 4 (λ e. omega arith))
  named_on Hq h = five_same (named lists' first) (on Hq (named lists first) f)
      (miss 4 h 0 (λ e. omega arith)) (miss 4 h 1 (λ e. omega arith)) (miss 4 h 2 (λ e. omega arith)) (miss 4 h 3 (λ e. omega arith)) (hit 4 h)

-- the names turn
pub named_turned : (lists : ℕ → List ℕ) (first : ℕ) → first < 5 → named lists ((first + 2) % 5) ≡ turned (named lists first)
named_turned lists first h =
    five_same (named lists ((first + 2) % 5)) (turned (named lists first))
    (ap lists (let e : ((first + 2) % 5 + 0) % 5 ≡ (first + 2) % 5 = omega arith in e))
    (ap lists (let e : ((first + 2) % 5 + 1) % 5 ≡ (first + 3) % 5 = omega arith in e))
    (ap lists (let e : ((first + 2) % 5 + 2) % 5 ≡ (first + 4) % 5 = omega arith in e))
    (ap lists (let e : ((first + 2) % 5 + 3) % 5 ≡ (first + 0) % 5 = omega arith in e))
    (ap lists (let e : ((first + 2) % 5 + 4) % 5 ≡ (first + 1) % 5 = omega arith in e))

-- how often a frame is held, by its place
abbrev sign : ℕ → ℕ → ℕ
sign p r = cond (p == r) 1 0

sign_same : (p r : ℕ) → p ≡ r → sign p r ≡ 1
sign_same p r e = cond-true (p == r) 1 0 (eq-eqb p r e)

sign_other : (p r : ℕ) → p ≢ r → sign p r ≡ 0
sign_other p r ne = cond-false (p == r) 1 0 (ne_eqb p r ne)

-- one place, and the four others
only : (p a b c d e : ℕ) → p ≡ a → p ≢ b → p ≢ c → p ≢ d → p ≢ e → sign p a + (sign p b + sign p c + sign p d + sign p e) ≡ 1
only p a b c d e h i j k l = omega (arith, sign_same p a h, sign_other p b i, sign_other p c j, sign_other p d k, sign_other p e l)

module _ (p first : ℕ) (p< : p < 5) (first< : first < 5) where
  abbrev n0 : ℕ
  n0 = (first + 0) % 5

  abbrev n1 : ℕ
  n1 = (first + 1) % 5

  abbrev n2 : ℕ
  n2 = (first + 2) % 5

  abbrev n3 : ℕ
  n3 = (first + 3) % 5

  abbrev n4 : ℕ
  n4 = (first + 4) % 5

  -- a number of a queue is one of the five names' numbers
  one_of_five : sign p n0 + sign p n1 + sign p n2 + sign p n3 + sign p n4 ≡ 1
  one_of_five = elim (cases_eq p n0) [
    | inl e ↦ (let o = only p n0 n1 n2 n3 n4 e (λ z. omega arith) (λ z. omega arith) (λ z. omega arith) (λ z. omega arith) in omega arith)
    | inr a ↦ (elim (cases_eq p n1) [
      | inl e ↦ (let o = only p n1 n0 n2 n3 n4 e a (λ z. omega arith) (λ z. omega arith) (λ z. omega arith) in omega arith)
      | inr b ↦ (elim (cases_eq p n2) [
        | inl e ↦ (let o = only p n2 n0 n1 n3 n4 e a b (λ z. omega arith) (λ z. omega arith) in omega arith)
        | inr c ↦ (elim (cases_eq p n3) [
          | inl e ↦ (let o = only p n3 n0 n1 n2 n4 e a b c (λ z. omega arith) in omega arith)
          | inr d ↦ (let e : p ≡ n4 = omega arith in let o = only p n4 n0 n1 n2 n3 e a b c d in omega arith)
        ])
      ])
    ])
  ]

module _ (next place : List ℕ) (first f : ℕ) (first< : first < 5) (placed : Placed next place) where
  abbrev m : Five
  m = named (list_of next) first

  sum_of : times_held m f ≡ sign (slice_index_or place f 5) ((first + 0) % 5) + sign (slice_index_or place f 5) ((first + 1) % 5) + sign (slice_index_or place f 5) ((first + 2) % 5)
      + sign (slice_index_or place f 5) ((first + 3) % 5) + sign (slice_index_or place f 5) ((first + 4) % 5)
  sum_of =
      let a = placed ((first + 0) % 5) f (round (first + 0)) in
      let b = placed ((first + 1) % 5) f (round (first + 1)) in
      let c = placed ((first + 2) % 5) f (round (first + 2)) in
      let d = placed ((first + 3) % 5) f (round (first + 3)) in
      let e = placed ((first + 4) % 5) f (round (first + 4)) in
      omega arith

  pub held_none : 5 ≤ slice_index_or place f 5 → times_held m f ≡ 0
  held_none h =
      let s = sum_of in
      let a = sign_other (slice_index_or place f 5) ((first + 0) % 5) (λ e. omega arith) in
      let b = sign_other (slice_index_or place f 5) ((first + 1) % 5) (λ e. omega arith) in
      let c = sign_other (slice_index_or place f 5) ((first + 2) % 5) (λ e. omega arith) in
      let d = sign_other (slice_index_or place f 5) ((first + 3) % 5) (λ e. omega arith) in
      let e = sign_other (slice_index_or place f 5) ((first + 4) % 5) (λ e. omega arith) in
      omega arith

  pub held_once : get_or place f 5 < 5 → times_held m f ≡ 1
  held_once h = sum_of ∙ one_of_five (slice_index_or place f 5) first h first<

-- a frame that is not held
pub dropped_none : (m : Five) (f : ℕ) → times_held m f ≡ 0 → m ≡ dropped m f
dropped_none m f z =
    five_same m (dropped m f) (sym (without_none f m.q00 (omega arith))) (sym (without_none f m.q01 (omega arith))) (sym (without_none f m.q10 (omega arith)))
    (sym (without_none f m.q11 (omega arith))) (sym (without_none f m.hq (omega arith)))

-- the queues of a fresh value, each end mark linked to itself
abbrev pub fresh : List ℕ
fresh = replicate 256 0 ++ (256 ∷ (257 ∷ (258 ∷ (259 ∷ (260 ∷ [])))))

own_mark : (q : ℕ) → q < 5 → slice_index (256 ∷ (257 ∷ (258 ∷ (259 ∷ (260 ∷ []))))) q ≡ 256 + q
own_mark zero h = refl
own_mark (suc zero) h = refl
own_mark (suc (suc zero)) h = refl
own_mark (suc (suc (suc zero))) h = refl
own_mark (suc (suc (suc (suc zero)))) h = refl
own_mark (suc (suc (suc (suc (suc q))))) h = absurd (omega arith)

fresh_mark : (n q : ℕ) (ends : List ℕ) → slice_index (replicate n 0 ++ ends) (n + q) ≡ slice_index ends q
fresh_mark n q ends = ap (λ k. slice_index (replicate n 0 ++ ends) (k + q)) (sym (length-replicate n 0)) ∙ get_or-append-add (replicate n 0) ends q 0

pub nowhere : {A : Type 0} (n : ℕ) (d : A) (f : ℕ) → slice_index_or (replicate n d) f d ≡ d
nowhere n d f = elim (cases_lt f n) [ inl h ↦ get_or-replicate n f d d h | inr h ↦ get_or_past (replicate n d) f d (omega (arith, length-replicate n d)) ]

-- links that lead from each end mark to itself, and frames that stand nowhere
module _ (next prev place : List ℕ) (n : next ≡ fresh) (p : prev ≡ fresh) (w : place ≡ replicate 256 5) where
  mark_next : (q : ℕ) → q < 5 → slice_index next (256 + q) ≡ 256 + q
  mark_next q h = ap (λ l. slice_index l (256 + q)) n ∙ fresh_mark 256 q (256 ∷ (257 ∷ (258 ∷ (259 ∷ (260 ∷ []))))) ∙ own_mark q h

  mark_prev : (q : ℕ) → q < 5 → slice_index prev (256 + q) ≡ 256 + q
  mark_prev q h = ap (λ l. slice_index l (256 + q)) p ∙ fresh_mark 256 q (256 ∷ (257 ∷ (258 ∷ (259 ∷ (260 ∷ []))))) ∙ own_mark q h

  fresh_place : (f : ℕ) → slice_index_or place f 5 ≡ 5
  fresh_place f = ap (λ l. get_or l f 5) w ∙ nowhere 256 5 f

  pub fresh_long : length place ≡ 256
  fresh_long = ap length w ∙ length-replicate {A = ℕ} 256 5

  fresh_ring : (q : ℕ) → q < 5 → Ring next prev place q []
  fresh_ring q h = record {
    placed = λ f. sym (cond-false {A = ℕ} (slice_index_or place f 5 == q) 1 0 (ne_eqb _ _ (λ e. let g = fresh_place f in omega arith)));
    forward = λ i l. let z : i ≡ 0 = omega arith in ap (λ k. slice_index next (node_at [] q k)) z ∙ mark_next q h ∙ ap (λ k. node_at [] q (suc k)) (sym z);
    backward = λ i l. let z : i ≡ 0 = omega arith in ap (λ k. slice_index prev (node_at [] q (suc k))) z ∙ mark_prev q h ∙ ap (node_at [] q) (sym z);
  }

  pub fresh_keeps : Kept next prev place
  fresh_keeps = kept_by next prev place fresh_long (λ q. []) fresh_ring

  pub fresh_named : (first : ℕ) → named (list_of next) first ≡ empty
  fresh_named first =
      let h = list_is next prev place fresh_long (λ q. []) fresh_ring in
      five_same (named (list_of next) first) empty
      (h ((first + 0) % 5) (round (first + 0))) (h ((first + 1) % 5) (round (first + 1))) (h ((first + 2) % 5) (round (first + 2)))
      (h ((first + 3) % 5) (round (first + 3))) (h ((first + 4) % 5) (round (first + 4)))

-- the head of a queue
walk_head : (n : ℕ) (next : List ℕ) (node : ℕ) → head_of (walk (suc n) next node) ≡ cond (nat_lt node 256) (Some node) None
unfolding walk
walk_head n next node = elim (cases_lt node 256) [
  | inl h ↦ ap head_of (cond-true (nat_lt node 256) (node ∷ walk n next (slice_index next node)) [] (lt-ltb node 256 h)) ∙ sym (cond-true (nat_lt node 256) (Some node) None (lt-ltb node 256 h))
  | inr g ↦ ap head_of (cond-false (nat_lt node 256) (node ∷ walk n next (slice_index next node)) [] (le-ltb node 256 g)) ∙ sym (cond-false (nat_lt node 256) (Some node) None (le-ltb node 256 g))
]

pub named_at : (lists : ℕ → List ℕ) (first : ℕ) (queue : Queue) → frames_of (named lists first) queue ≡ lists ((first + number_of queue) % 5)
named_at lists first Q00 = refl
named_at lists first Q01 = refl
named_at lists first Q10 = refl
named_at lists first Q11 = refl
named_at lists first Hq = refl

module _ (next : List ℕ) (first node : ℕ) (queue : Queue) (is : node ≡ slice_index next (256 + (first + number_of queue) % 5)) where
  pub head_is : head_of (frames_of (named (list_of next) first) queue) ≡ cond (nat_lt node 256) (Some node) None
  head_is = ap head_of (named_at (list_of next) first queue) ∙ ap (λ k. head_of (walk 256 next k)) (sym is) ∙ walk_head 255 next node

  pub head_some : node < 256 → Some node ≡ head_of (frames_of (named (list_of next) first) queue)
  head_some h = sym (head_is ∙ cond-true (nat_lt node 256) (Some node) None (lt-ltb node 256 h))

  pub head_none : 256 ≤ node → None ≡ head_of (frames_of (named (list_of next) first) queue)
  head_none h = sym (head_is ∙ cond-false (nat_lt node 256) (Some node) None (le-ltb node 256 h))

-- the walk through a queue, frame by frame
module _ (next : List ℕ) (node : ℕ) (done all : List ℕ) where
  walk_step : (n : ℕ) → node < 256 → walk (suc n) next node ≡ node ∷ walk n next (slice_index next node)
  unfolding walk
  walk_step n h = cond-true (nat_lt node 256) (node ∷ walk n next (slice_index next node)) [] (lt-ltb node 256 h)

  walk_stop : (n : ℕ) → 256 ≤ node → walk n next node ≡ []
  unfolding walk
  walk_stop zero h = refl
  walk_stop (suc n) h = cond-false (nat_lt node 256) (node ∷ walk n next (slice_index next node)) [] (le-ltb node 256 h)

  walk_over : (n : ℕ) → n ≡ 0 → walk n next node ≡ []
  unfolding walk
  walk_over zero e = refl
  walk_over (suc n) e = absurd (omega arith)

  pub listed_more : (left node' : ℕ) (done' : List ℕ) → 0 < left → node < 256 → node' ≡ slice_index next node → done' ≡ done ++ (node ∷ [])
      → done ++ walk left next node ≡ all → done' ++ walk (left - 1) next node' ≡ all
  listed_more left node' done' some h e d inv =
      let is : left ≡ suc (left - 1) = omega arith in
      ap (λ l. l ++ walk (left - 1) next node') d ∙ append_assoc done (node ∷ []) (walk (left - 1) next node')
      ∙ ap (λ k. done ++ (node ∷ walk (left - 1) next k)) e
      ∙ ap (λ l. done ++ l) (sym (walk_step (left - 1) h)) ∙ ap (λ k. done ++ walk k next node) (sym is) ∙ inv

  pub listed_all : (left : ℕ) → 256 ≤ node → done ++ walk left next node ≡ all → done ≡ all
  listed_all left h inv = sym (append-nil done) ∙ ap (λ l. done ++ l) (sym (walk_stop left h)) ∙ inv

  pub listed_over : (left : ℕ) → left ≤ 0 → done ++ walk left next node ≡ all → done ≡ all
  listed_over left h inv = sym (append-nil done) ∙ ap (λ l. done ++ l) (sym (walk_over left (omega arith))) ∙ inv

-- at the start
pub listed_none : (next : List ℕ) (first node : ℕ) (queue : Queue) (done : List ℕ) → done ≡ [] → node ≡ slice_index next (256 + (first + number_of queue) % 5)
    → done ++ walk 256 next node ≡ frames_of (named (list_of next) first) queue
listed_none next first node queue done e is =
    ap (λ l. l ++ walk 256 next node) e ∙ ap (walk 256 next) is ∙ sym (named_at (list_of next) first queue)
