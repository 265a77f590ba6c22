-- How the queues change where a frame is taken out, wherever it stands.
use Rattle.std.specs.Prelude.{◌≡◌, ℕ, suc, ◌+◌, ◌<◌, ◌≤◌, cond, ◌≢◌, List, [], ◌∷◌, ◌++◌, length, get_or, take, drop, ◌==◌, slice_index, slice_index_or, slice_set}
use Rattle.std.proofs.Common.{sym, ap, subst, ◌∙◌, inl, inr, arith, add-one}
use Rattle.std.proofs.lemmas.List.{get_or-set_same, get_or-set_other, length-append, length-set, append_assoc, take-append-le, drop-append-le}
use Rattle.std.proofs.lemmas.List.Edits.{length-remove, get_or-remove_below, get_or-remove_above}
use Rattle.std.proofs.lemmas.Bool.{cases_eq, cases_lt, ne_eqb, cond-false}
use Rattle.std.specs.List.{remove}
use Rattle.frames.specs.Held.{times_in, without}
use Rattle.frames.proofs.Held.{without_same, without_other, without_removed}
use Rattle.queues.specs.Links.{node_at}
use Rattle.queues.specs.Rings.{Ring, Owned, owned_same, single, in_place, below, node_in, owned, owned_behind, before_apart, behind_apart}

-- the nodes of a queue without the frame at place k
ring_removed : (xs : List ℕ) (q k : ℕ) → k < length xs
    → (256 + q) ∷ (remove xs k ++ ((256 + q) ∷ [])) ≡ remove ((256 + q) ∷ (xs ++ ((256 + q) ∷ []))) (suc k)
ring_removed xs q k h =
    ap (λ l. (256 + q) ∷ l) (append_assoc (take k xs) (drop (suc k) xs) ((256 + q) ∷ [])
    ∙ ap (λ l. l ++ (drop (suc k) xs ++ ((256 + q) ∷ []))) (sym (take-append-le k xs ((256 + q) ∷ []) (omega arith)))
    ∙ ap (λ l. take k (xs ++ ((256 + q) ∷ [])) ++ l) (sym (drop-append-le (suc k) xs ((256 + q) ∷ []) (omega arith))))

-- The frame f, at place k of the frames xs of the queue q, is taken out.
module _ (next prev place : List ℕ) (q f k : ℕ) (xs : List ℕ) (n-long : length next ≡ 261) (p-long : length prev ≡ 261) (long : length place ≡ 256)
    (q< : q < 5) (k< : k < length xs) (f-is : get_or xs k 0 ≡ f) (ring : Ring next prev place q xs) where
  abbrev before : ℕ
  before = slice_index prev f

  abbrev behind : ℕ
  behind = slice_index next f

  abbrev nextₒ : List ℕ
  nextₒ = slice_set next before behind

  abbrev prevₒ : List ℕ
  prevₒ = slice_set prev behind before

  abbrev placeₒ : List ℕ
  placeₒ = slice_set place f 5

  node_f : node_at xs q (suc k) ≡ f
  node_f = node_in next prev place q xs long q< ring k k< ∙ f-is

  before_is : before ≡ node_at xs q k
  before_is = ap (λ n. slice_index prev n) (sym node_f) ∙ ring.backward k (omega arith)

  behind_is : behind ≡ node_at xs q (suc (suc k))
  behind_is = ap (λ n. slice_index next n) (sym node_f) ∙ ring.forward (suc k) (omega arith)

  before_owned : Owned place q before
  before_owned = subst (Owned place q) (sym before_is) (owned next prev place q xs long q< ring k (omega arith))

  behind_owned : Owned place q behind
  behind_owned = subst (Owned place q) (sym behind_is) (owned_behind next prev place q xs long q< ring (suc k) (omega arith))

  small : (n : ℕ) → Owned place q n → n < 261
  small n (inl a) = omega (arith, a.0)
  small n (inr a) = omega arith

  pub f_placed : get_or place f 5 ≡ q
  f_placed = ap (λ n. get_or place n 5) (sym f-is) ∙ in_place next prev place q xs long q< ring k k<

  pub f_below : f < 256
  f_below = let b = below next prev place q xs long q< ring k k< in omega (arith, f-is)

  next_other : (n : ℕ) → n ≢ before → slice_index nextₒ n ≡ slice_index next n
  next_other n a = get_or-set_other next before n behind 0 a

  next_before : get_or nextₒ before 0 ≡ behind
  next_before = get_or-set_same next before behind 0 (let b = small before before_owned in omega arith)

  prev_other : (n : ℕ) → n ≢ behind → slice_index prevₒ n ≡ slice_index prev n
  prev_other n a = get_or-set_other prev behind n before 0 a

  prev_behind : get_or prevₒ behind 0 ≡ before
  prev_behind = get_or-set_same prev behind before 0 (let b = small behind behind_owned in omega arith)

  place_gone : get_or placeₒ f 5 ≡ 5
  place_gone = get_or-set_same place f 5 5 (let b = f_below in omega arith)

  place_other : (g : ℕ) → g ≢ f → slice_index_or placeₒ g 5 ≡ slice_index_or place g 5
  place_other g ne = get_or-set_other place f g 5 5 ne

  pub unlinked_longs : (length nextₒ ≡ 261) × (length prevₒ ≡ 261) × (length placeₒ ≡ 256)
  unlinked_longs = (length-set next before behind ∙ n-long, length-set prev behind before ∙ p-long, length-set place f 5 ∙ long)

  abbrev less : List ℕ
  less = remove xs k

  pub less_is : without f xs ≡ less
  less_is = without_removed f xs k k< f-is (single next prev place q xs long q< ring f)

  less_long : length less + 1 ≡ length xs
  less_long = length-remove xs k k<

  ring_long : length ((256 + q) ∷ (xs ++ ((256 + q) ∷ []))) ≡ suc (suc (length xs))
  ring_long = ap suc (length-append xs ((256 + q) ∷ []) ∙ omega arith)

  less_below : (i : ℕ) → i ≤ k → node_at less q i ≡ node_at xs q i
  less_below i h =
      ap (λ l. slice_index l i) (ring_removed xs q k k<)
      ∙ get_or-remove_below ((256 + q) ∷ (xs ++ ((256 + q) ∷ []))) (suc k) 0 i (omega arith) (omega (arith, ring_long))

  less_above : (i : ℕ) → k < i → node_at less q i ≡ node_at xs q (suc i)
  less_above i h =
      ap (λ l. slice_index l i) (ring_removed xs q k k<)
      ∙ get_or-remove_above ((256 + q) ∷ (xs ++ ((256 + q) ∷ []))) (suc k) 0 i (omega arith) (omega (arith, ring_long))
      ∙ ap (node_at xs q) (add-one i)

  pub unlinked_this : Ring nextₒ prevₒ placeₒ q less
  unlinked_this = record {
    placed = λ g. ap (times_in g) (sym less_is) ∙ (elim (cases_eq g f) [
      | inl e ↦ ap (λ n. times_in n (without f xs)) e ∙ without_same f xs
          ∙ sym (cond-false {A = ℕ} (slice_index_or placeₒ g 5 == q) 1 0 (ne_eqb _ _ (λ z. omega (arith, place_gone, ap (λ n. get_or placeₒ n 5) e))))
      | inr ne ↦ without_other f g xs ne ∙ ring.placed g ∙ ap (λ n. cond (n == q) 1 0) (sym (place_other g ne))
    ]);
    forward = λ i h. elim (cases_lt i k) [
      | inl l ↦ ap (λ n. slice_index nextₒ n) (less_below i (omega arith))
          ∙ next_other (node_at xs q i) (λ t. omega (arith, before_apart next prev place q xs long q< ring i k (omega arith) (omega arith) (t ∙ before_is)))
          ∙ ring.forward i (omega arith) ∙ sym (less_below (suc i) (omega arith))
      | inr g ↦ (elim (cases_eq i k) [
        | inl e ↦ ap (λ n. slice_index nextₒ n) (less_below i (omega arith) ∙ ap (node_at xs q) e ∙ sym before_is) ∙ next_before ∙ behind_is
            ∙ ap (λ n. node_at xs q (suc (suc n))) (sym e) ∙ sym (less_above (suc i) (omega arith))
        | inr ne ↦ (let l = less_long in
            ap (λ n. slice_index nextₒ n) (less_above i (omega arith))
            ∙ next_other (node_at xs q (suc i)) (λ t. omega (arith, before_apart next prev place q xs long q< ring (suc i) k (omega arith) (omega arith) (t ∙ before_is)))
            ∙ ring.forward (suc i) (omega arith) ∙ sym (less_above (suc i) (omega arith)))
      ])
    ];
    backward = λ i h. elim (cases_lt i k) [
      | inl l ↦ ap (λ n. slice_index prevₒ n) (less_below (suc i) (omega arith))
          ∙ prev_other (node_at xs q (suc i)) (λ t. omega (arith, behind_apart next prev place q xs long q< ring i (suc k) (omega arith) (omega arith) (t ∙ behind_is)))
          ∙ ring.backward i (omega arith) ∙ sym (less_below i (omega arith))
      | inr g ↦ (elim (cases_eq i k) [
        | inl e ↦ ap (λ n. slice_index prevₒ n) (less_above (suc i) (omega arith) ∙ ap (λ n. node_at xs q (suc (suc n))) e ∙ sym behind_is) ∙ prev_behind ∙ before_is
            ∙ ap (node_at xs q) (sym e) ∙ sym (less_below i (omega arith))
        | inr ne ↦ (let l = less_long in
            ap (λ n. slice_index prevₒ n) (less_above (suc i) (omega arith))
            ∙ prev_other (node_at xs q (suc (suc i))) (λ t. omega (arith, behind_apart next prev place q xs long q< ring (suc i) (suc k) (omega arith) (omega arith) (t ∙ behind_is)))
            ∙ ring.backward (suc i) (omega arith) ∙ sym (less_above i (omega arith)))
      ])
    ];
  }

  -- every other queue is as it was
  module _ (r : ℕ) (ys : List ℕ) (r< : r < 5) (r≢ : r ≢ q) (other : Ring next prev place r ys) where
    pub unlinked_none : times_in f ys ≡ 0
    unlinked_none = other.placed f ∙ cond-false {A = ℕ} (slice_index_or place f 5 == r) 1 0 (ne_eqb _ _ (λ z. r≢ (sym z ∙ f_placed)))

    pub unlinked_other : Ring nextₒ prevₒ placeₒ r ys
    unlinked_other = record {
      placed = λ g. elim (cases_eq g f) [
        | inl e ↦ ap (λ n. times_in n ys) e ∙ unlinked_none
            ∙ sym (cond-false {A = ℕ} (slice_index_or placeₒ g 5 == r) 1 0 (ne_eqb _ _ (λ z. omega (arith, place_gone, ap (λ n. get_or placeₒ n 5) e))))
        | inr ne ↦ other.placed g ∙ ap (λ n. cond (n == r) 1 0) (sym (place_other g ne))
      ];
      forward = λ i h.
          next_other (node_at ys r i) (λ t. r≢ (owned_same place r q (node_at ys r i) before r< q< (owned next prev place r ys long r< other i h) before_owned t)) ∙ other.forward i h;
      backward = λ i h.
          prev_other (node_at ys r (suc i)) (λ t. r≢ (owned_same place r q (node_at ys r (suc i)) behind r< q< (owned_behind next prev place r ys long r< other i h) behind_owned t))
          ∙ other.backward i h;
    }
