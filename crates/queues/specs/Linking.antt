-- How the queues change where a frame is linked in at a tail.
use Rattle.std.specs.Prelude.{◌≡◌, ℕ, zero, suc, ◌+◌, ◌<◌, ◌≤◌, cond, ◌≢◌, List, [], ◌∷◌, ◌++◌, length, get_or, ◌==◌, slice_index, slice_index_or, slice_set, refl}
use Rattle.std.proofs.Common.{sym, ap, subst, ◌∙◌, inl, inr, arith}
use Rattle.std.proofs.lemmas.List.{get_or-set_same, get_or-set_other, get_or_append_left, get_or_at, length-append, length-set}
use Rattle.std.proofs.lemmas.Bool.{cases_eq, cases_lt, eq-eqb, ne_eqb, cond-true, cond-false}
use Rattle.frames.specs.Held.{times_in}
use Rattle.frames.proofs.Held.{share_same, share_other, times_append}
use Rattle.queues.specs.Links.{node_at}
use Rattle.queues.specs.Rings.{Ring, Owned, owned_same, below, node_in, node_end, owned, owned_behind, before_apart}

-- The frame f, which stands in no queue, is linked in at the tail of the queue q, which has the frames xs.
module _ (next prev place : List ℕ) (q f : ℕ) (xs : List ℕ) (n-long : length next ≡ 261) (p-long : length prev ≡ 261) (long : length place ≡ 256)
    (q< : q < 5) (f< : f < 256) (free : 5 ≤ slice_index_or place f 5) (ring : Ring next prev place q xs) where
  abbrev tail : ℕ
  tail = slice_index prev (256 + q)

  abbrev mark : ℕ
  mark = 256 + q

  abbrev next' : List ℕ
  next' = slice_set (slice_set next tail f) f mark

  abbrev prev' : List ℕ
  prev' = slice_set (slice_set prev f tail) mark f

  abbrev place' : List ℕ
  place' = slice_set place f q

  tail_is : tail ≡ node_at xs q (length xs)
  tail_is = ap (λ k. slice_index prev k) (sym (node_end next prev place q xs long q< ring (length xs) refl)) ∙ ring.backward (length xs) (omega arith)

  -- the new frame is no node of any queue yet
  strange : (r n : ℕ) → r < 5 → Owned place r n → n ≢ f
  strange r n r< (inl a) e = omega (arith, a.1, ap (λ k. get_or place k 5) e)
  strange r n r< (inr a) e = omega arith

  tail_owned : Owned place q tail
  tail_owned = subst (Owned place q) (sym tail_is) (owned next prev place q xs long q< ring (length xs) (omega arith))

  tail_below : tail < 261
  tail_below = small tail_owned
    where
      small : Owned place q tail → tail < 261
      small (inl a) = omega (arith, a.0)
      small (inr a) = omega arith

  tail_strange : tail ≢ f
  tail_strange = strange q tail q< tail_owned

  -- where the links lead now
  next_other : (n : ℕ) → n ≢ tail → n ≢ f → slice_index next' n ≡ slice_index next n
  next_other n a b = get_or-set_other (slice_set next tail f) f n mark 0 b ∙ get_or-set_other next tail n f 0 a

  next_tail : get_or next' tail 0 ≡ f
  next_tail = get_or-set_other (slice_set next tail f) f tail mark 0 tail_strange ∙ get_or-set_same next tail f 0 (let t = tail_below in omega arith)

  next_new : get_or next' f 0 ≡ mark
  next_new = get_or-set_same (slice_set next tail f) f mark 0 (omega (arith, length-set next tail f))

  prev_other : (n : ℕ) → n ≢ f → n ≢ mark → slice_index prev' n ≡ slice_index prev n
  prev_other n a b = get_or-set_other (slice_set prev f tail) mark n f 0 b ∙ get_or-set_other prev f n tail 0 a

  prev_new : get_or prev' f 0 ≡ tail
  prev_new = get_or-set_other (slice_set prev f tail) mark f f 0 (λ e. omega arith) ∙ get_or-set_same prev f tail 0 (omega arith)

  prev_mark : get_or prev' mark 0 ≡ f
  prev_mark = get_or-set_same (slice_set prev f tail) mark f 0 (omega (arith, length-set prev f tail))

  place_new : get_or place' f 5 ≡ q
  place_new = get_or-set_same place f q 5 (omega arith)

  place_other : (g : ℕ) → g ≢ f → slice_index_or place' g 5 ≡ slice_index_or place g 5
  place_other g ne = get_or-set_other place f g q 5 ne

  pub linked_longs : (length next' ≡ 261) × (length prev' ≡ 261) × (length place' ≡ 256)
  linked_longs = (
    length-set (slice_set next tail f) f mark ∙ length-set next tail f ∙ n-long,
    length-set (slice_set prev f tail) mark f ∙ length-set prev f tail ∙ p-long,
    length-set place f q ∙ long,
  )

  -- the queue with one more frame
  abbrev more : List ℕ
  more = xs ++ (f ∷ [])

  more_long : length more ≡ suc (length xs)
  more_long = length-append xs (f ∷ []) ∙ omega arith

  more_old : (i : ℕ) → i ≤ length xs → node_at more q i ≡ node_at xs q i
  more_old zero h = refl
  more_old (suc i) h =
      get_or_append_left more (mark ∷ []) 0 i (omega (arith, more_long)) ∙ get_or_append_left xs (f ∷ []) 0 i (omega arith)
      ∙ sym (get_or_append_left xs (mark ∷ []) 0 i (omega arith))

  more_new : (i : ℕ) → i ≡ suc (length xs) → node_at more q i ≡ f
  more_new zero e = absurd (omega arith)
  more_new (suc i) e = get_or_append_left more (mark ∷ []) 0 i (omega (arith, more_long)) ∙ get_or_at xs f [] 0 i (omega arith)

  more_mark : (i : ℕ) → i ≡ suc (suc (length xs)) → node_at more q i ≡ mark
  more_mark zero e = absurd (omega arith)
  more_mark (suc i) e = get_or_at more mark [] 0 i (omega (arith, more_long))

  frame_below : (i : ℕ) → i < length xs → node_at xs q (suc i) < 256
  frame_below i h = let e = node_in next prev place q xs long q< ring i h in omega (arith, below next prev place q xs long q< ring i h)

  pub linked_this : Ring next' prev' place' q more
  linked_this = record {
    placed = λ g. times_append g xs (f ∷ []) ∙ (elim (cases_eq g f) [
      | inl e ↦ (let t : times_in g xs ≡ 0 = ring.placed g ∙ cond-false {A = ℕ} (slice_index_or place g 5 == q) 1 0 (ne_eqb _ _ (λ z. omega (arith, ap (λ k. get_or place k 5) e))) in
          let s = share_same f g (sym e) in
          let y = cond-true {A = ℕ} (slice_index_or place' g 5 == q) 1 0 (eq-eqb _ _ (ap (λ k. get_or place' k 5) e ∙ place_new)) in omega arith)
      | inr ne ↦ (let s = share_other f g (λ e. ne (sym e)) in
          let t : times_in g xs ≡ cond (slice_index_or place' g 5 == q) 1 0 = ring.placed g ∙ ap (λ k. cond (k == q) 1 0) (sym (place_other g ne)) in omega arith)
    ]);
    forward = λ i h. elim (cases_lt i (length xs)) [
      | inl l ↦ (let e = more_old i (omega arith) in
          ap (λ k. slice_index next' k) e
          ∙ next_other (node_at xs q i)
          (λ t. omega (arith, before_apart next prev place q xs long q< ring i (length xs) (omega arith) (omega arith) (t ∙ tail_is)))
          (strange q (node_at xs q i) q< (owned next prev place q xs long q< ring i (omega arith)))
          ∙ ring.forward i (omega arith) ∙ sym (more_old (suc i) (omega arith)))
      | inr g ↦ (elim (cases_eq i (length xs)) [
        | inl e ↦ ap (λ k. slice_index next' k) (more_old i (omega arith) ∙ ap (node_at xs q) e ∙ sym tail_is) ∙ next_tail ∙ sym (more_new (suc i) (omega arith))
        | inr ne ↦ (let is : i ≡ suc (length xs) = omega (arith, more_long) in
            ap (λ k. slice_index next' k) (more_new i is) ∙ next_new ∙ sym (more_mark (suc i) (omega arith)))
      ])
    ];
    backward = λ i h. elim (cases_lt i (length xs)) [
      | inl l ↦ (let b = frame_below i l in
          ap (λ k. slice_index prev' k) (more_old (suc i) (omega arith))
          ∙ prev_other (node_at xs q (suc i)) (strange q (node_at xs q (suc i)) q< (owned_behind next prev place q xs long q< ring i (omega arith))) (λ e. omega arith)
          ∙ ring.backward i (omega arith) ∙ sym (more_old i (omega arith)))
      | inr g ↦ (elim (cases_eq i (length xs)) [
        | inl e ↦ ap (λ k. slice_index prev' k) (more_new (suc i) (omega arith)) ∙ prev_new ∙ tail_is ∙ ap (node_at xs q) (sym e) ∙ sym (more_old i (omega arith))
        | inr ne ↦ (let is : i ≡ suc (length xs) = omega (arith, more_long) in
            ap (λ k. slice_index prev' k) (more_mark (suc i) (omega arith)) ∙ prev_mark ∙ sym (more_new i is))
      ])
    ];
  }

  -- every other queue is as it was
  module _ (r : ℕ) (ys : List ℕ) (r< : r < 5) (r≢ : r ≢ q) (other : Ring next prev place r ys) where
    pub linked_other : Ring next' prev' place' r ys
    linked_other = record {
      placed = λ g. elim (cases_eq g f) [
        | inl e ↦ other.placed g ∙ cond-false {A = ℕ} (slice_index_or place g 5 == r) 1 0 (ne_eqb _ _ (λ z. omega (arith, ap (λ k. get_or place k 5) e)))
            ∙ sym (cond-false {A = ℕ} (slice_index_or place' g 5 == r) 1 0 (ne_eqb _ _ (λ z. r≢ (sym z ∙ ap (λ k. get_or place' k 5) e ∙ place_new))))
        | inr ne ↦ other.placed g ∙ ap (λ k. cond (k == r) 1 0) (sym (place_other g ne))
      ];
      forward = λ i h.
          let o = owned next prev place r ys long r< other i h in
          next_other (node_at ys r i) (λ t. r≢ (owned_same place r q (node_at ys r i) tail r< q< o tail_owned t)) (strange r (node_at ys r i) r< o) ∙ other.forward i h;
      backward = λ i h.
          let o = owned_behind next prev place r ys long r< other i h in
          prev_other (node_at ys r (suc i)) (strange r (node_at ys r (suc i)) r< o) (λ t. r≢ (owned_same place r q (node_at ys r (suc i)) mark r< q< o (inr refl) t))
          ∙ other.backward i h;
    }
