-- The laws of Take.
use Rattle.std.proofs.Common.{◌≡◌, ℕ, zero, suc, ◌*◌, Bool, true, false, List, [], ◌∷◌, ◌++◌, get_or, Some, None, Option, sym, refl, ap, ◌∙◌, subst, inl, inr, arith}
use Rattle.std.proofs.lemmas.List.{append-nil}
use Rattle.std.proofs.lemmas.Bool.{cases_eq}
use Rattle.frames.specs.Held.{times_in, without}
use Rattle.frames.specs.Keys.{referred, changed}
use Rattle.frames.specs.Policy.{Took}
use Rattle.frames.proofs.Held.{without_first, without_later, without_append}
use Rattle.frames.proofs.KeysKept.{kept_changed}
use Rattle.queues.specs.declared.queue.Queue.{Queue}
use Rattle.queues.specs.declared.queue.Queue.TheVariants.{Q00, Q01, Q10, Q11, Hq}
use Rattle.queues.specs.Five.{Five, times_held, size, dropped, on, turned, seen_q00, seen_q01, step, step_at, steps, taken, Good}
use Rattle.queues.specs.Laws.{looks_at, looked_at, turns_from, turned_by, unless, looked, turns, keep, Unreferred, InOne, TakeLaws}
use Rattle.queues.specs.Names.{frames_of}
use Rattle.queues.specs.Weight.{five_same, step_first, step_on, cases_step}
use Rattle.queues.specs.Lawful.{keys_kept, taken_times}

-- frames that are left out of a list
without_twice : (f : ℕ) (xs : List ℕ) → without f (without f xs) ≡ without f xs
without_twice f [] = refl
without_twice f (x ∷ xs) = elim (cases_eq x f) [
  | inl e ↦ ap (without f) (without_first f x xs e) ∙ without_twice f xs ∙ sym (without_first f x xs e)
  | inr ne ↦ ap (without f) (without_later f x xs ne) ∙ without_later f x (without f xs) ne ∙ ap (λ l. x ∷ l) (without_twice f xs) ∙ sym (without_later f x xs ne)
]

without_swap : (f g : ℕ) (xs : List ℕ) → without f (without g xs) ≡ without g (without f xs)
without_swap f g [] = refl
without_swap f g (x ∷ xs) = elim (cases_eq x f) [
  | inl e ↦ (elim (cases_eq x g) [
    | inl d ↦ ap (without f) (without_first g x xs d) ∙ without_swap f g xs ∙ ap (without g) (sym (without_first f x xs e))
    | inr nd ↦ ap (without f) (without_later g x xs nd) ∙ without_first f x (without g xs) e ∙ without_swap f g xs ∙ ap (without g) (sym (without_first f x xs e))
  ])
  | inr ne ↦ (elim (cases_eq x g) [
    | inl d ↦ ap (without f) (without_first g x xs d) ∙ without_swap f g xs ∙ sym (ap (without g) (without_later f x xs ne) ∙ without_first g x (without f xs) d)
    | inr nd ↦ ap (without f) (without_later g x xs nd) ∙ without_later f x (without g xs) ne ∙ ap (λ l. x ∷ l) (without_swap f g xs)
        ∙ sym (ap (without g) (without_later f x xs ne) ∙ without_later g x (without f xs) nd)
  ])
]

without_self : (f : ℕ) → without f (f ∷ []) ≡ []
without_self f = without_first f f [] refl

-- a frame at the tail, where it is left out
without_tail : (f : ℕ) (xs : List ℕ) → without f (xs ++ (f ∷ [])) ≡ without f xs
without_tail f xs = without_append f xs (f ∷ []) ∙ ap (λ l. without f xs ++ l) (without_self f) ∙ append-nil (without f xs)

-- frames that are left out of the queues
dropped_twice : (m : Five) (f : ℕ) → dropped (dropped m f) f ≡ dropped m f
dropped_twice m f = five_same (dropped (dropped m f) f) (dropped m f) (without_twice f m.q00) (without_twice f m.q01) (without_twice f m.q10) (without_twice f m.q11) (without_twice f m.hq)

dropped_swap : (m : Five) (f g : ℕ) → dropped (dropped m g) f ≡ dropped (dropped m f) g
dropped_swap m f g =
    five_same (dropped (dropped m g) f) (dropped (dropped m f) g) (without_swap f g m.q00) (without_swap f g m.q01) (without_swap f g m.q10) (without_swap f g m.q11) (without_swap f g m.hq)

dropped_on : (q : Queue) (m : Five) (f : ℕ) → dropped (on q m f) f ≡ dropped m f
dropped_on Q00 m f = five_same (dropped (on Q00 m f) f) (dropped m f) (without_tail f m.q00) refl refl refl refl
dropped_on Q01 m f = five_same (dropped (on Q01 m f) f) (dropped m f) refl (without_tail f m.q01) refl refl refl
dropped_on Q10 m f = five_same (dropped (on Q10 m f) f) (dropped m f) refl refl (without_tail f m.q10) refl refl
dropped_on Q11 m f = five_same (dropped (on Q11 m f) f) (dropped m f) refl refl refl (without_tail f m.q11) refl
dropped_on Hq m f = five_same (dropped (on Hq m f) f) (dropped m f) refl refl refl refl (without_tail f m.hq)

keep_dropped : (fs : List ℕ) (m : Five) (f : ℕ) → keep fs (dropped m f) ≡ dropped (keep fs m) f
keep_dropped [] m f = refl
keep_dropped (g ∷ fs) m f = ap (λ x. dropped x g) (keep_dropped fs m f) ∙ dropped_swap (keep fs m) g f

keep_turned : (fs : List ℕ) (m : Five) → keep fs (turned m) ≡ turned (keep fs m)
keep_turned [] m = refl
keep_turned (f ∷ fs) m = ap (λ x. dropped x f) (keep_turned fs m)

turned_dropped : (n : ℕ) (m : Five) (f : ℕ) → turned_by n (dropped m f) ≡ dropped (turned_by n m) f
turned_dropped zero m f = refl
turned_dropped (suc n) m f = turned_dropped n (turned m) f

-- a step that looks at f leaves every other frame where it was
abbrev Only : Five → ℕ → Five → Type 0
Only m f left = dropped left f ≡ dropped m f

only_q00 : (ref chg : Bool) (m : Five) (keys : List ℕ) (f : ℕ) → Only m f (seen_q00 ref chg m keys f).left
only_q00 false false m keys f = dropped_twice m f
only_q00 false true m keys f = dropped_on Q01 (dropped m f) f ∙ dropped_twice m f
only_q00 true false m keys f = dropped_on Q10 (dropped m f) f ∙ dropped_twice m f
only_q00 true true m keys f = dropped_on Q11 (dropped m f) f ∙ dropped_twice m f

only_q01 : (ref : Bool) (m : Five) (keys : List ℕ) (f : ℕ) → Only m f (seen_q01 ref m keys f).left
only_q01 false m keys f = dropped_twice m f
only_q01 true m keys f = dropped_on Q11 (dropped m f) f ∙ dropped_twice m f

-- the same, without the frames of a list too
keep_only : (fs : List ℕ) (m left : Five) (f : ℕ) → Only m f left → keep (f ∷ fs) left ≡ keep (f ∷ fs) m
keep_only fs m left f e = sym (keep_dropped fs left f) ∙ ap (keep fs) e ∙ keep_dropped fs m f

-- one step that takes none, before others that keep the order
abbrev Kept : Five → Five → List ℕ → ℕ → Type 0
Kept m left fs n = keep fs left ≡ turned_by n (keep fs m)

look_on : (m mid left : Five) (f : ℕ) (fs : List ℕ) (n : ℕ) → Only m f mid → Kept mid left fs n → Kept m left (f ∷ fs) n
look_on m mid left f fs n only kept =
    ap (λ x. dropped x f) kept ∙ sym (turned_dropped n (keep fs mid) f) ∙ ap (turned_by n) (keep_only fs m mid f only)

on_at : (xs ys : List ℕ) (m : Five) (keys : List ℕ) (left : Five) (fs : List ℕ) (n : ℕ)
    → Kept (step_at xs ys m keys).left left fs n → Kept m left (looks_at xs ys ++ fs) (turns_from xs ys n)
on_at (f ∷ xs) ys m keys left fs n kept =
    look_on m (seen_q00 (referred (get_or keys f 0)) (changed (get_or keys f 0)) m keys f).left left f fs n (only_q00 (referred (get_or keys f 0)) (changed (get_or keys f 0)) m keys f) kept
on_at [] (f ∷ ys) m keys left fs n kept =
    look_on m (seen_q01 (referred (get_or keys f 0)) m keys f).left left f fs n (only_q01 (referred (get_or keys f 0)) m keys f) kept
on_at [] [] m keys left fs n kept = kept ∙ ap (turned_by n) (keep_turned fs m)

-- a step that takes a frame
took_at : (xs ys : List ℕ) (m : Five) (keys : List ℕ) (f : ℕ) → (step_at xs ys m keys).frame ≡ Some f
    → (looks_at xs ys ≡ f ∷ []) × (referred (get_or keys f 0) ≡ false) × Only m f (step_at xs ys m keys).left
took_at (g ∷ xs) ys m keys f e = taken_q00 (referred (get_or keys g 0)) (changed (get_or keys g 0)) refl e
  where
    taken_q00 : (ref chg : Bool) → referred (get_or keys g 0) ≡ ref → (seen_q00 ref chg m keys g).frame ≡ Some f
        → (g ∷ [] ≡ f ∷ []) × (referred (get_or keys f 0) ≡ false) × Only m f (seen_q00 ref chg m keys g).left
    taken_q00 false false r e =
        let is : g ≡ f = cc in
        (ap (λ k. k ∷ []) is, ap (λ k. referred (get_or keys k 0)) (sym is) ∙ r, subst (λ k. Only m k (dropped m g)) is (dropped_twice m g))
    taken_q00 false true r e = let z : ◌≡◌ {A = ℕ} 0 1 = cc in absurd (omega arith)
    taken_q00 true false r e = let z : ◌≡◌ {A = ℕ} 0 1 = cc in absurd (omega arith)
    taken_q00 true true r e = let z : ◌≡◌ {A = ℕ} 0 1 = cc in absurd (omega arith)
took_at [] (g ∷ ys) m keys f e = taken_q01 (referred (get_or keys g 0)) refl e
  where
    taken_q01 : (ref : Bool) → referred (get_or keys g 0) ≡ ref → (seen_q01 ref m keys g).frame ≡ Some f
        → (g ∷ [] ≡ f ∷ []) × (referred (get_or keys f 0) ≡ false) × Only m f (seen_q01 ref m keys g).left
    taken_q01 false r e =
        let is : g ≡ f = cc in
        (ap (λ k. k ∷ []) is, ap (λ k. referred (get_or keys k 0)) (sym is) ∙ r, subst (λ k. Only m k (dropped m g)) is (dropped_twice m g))
    taken_q01 true r e = let z : ◌≡◌ {A = ℕ} 0 1 = cc in absurd (omega arith)
took_at [] [] m keys f e = let z : ◌≡◌ {A = ℕ} 0 1 = cc in absurd (omega arith)

-- what is looked at, and how often the names turn, after one step
looked_took : (n : ℕ) (m : Five) (keys : List ℕ) (f : ℕ) → (step m keys).frame ≡ Some f → looked (suc n) m keys ≡ looked_at m
unfolding looked
looked_took n m keys f e = ap (λ o. looked_at m ++ unless o [] (looked n (step m keys).left (step m keys).keys)) e ∙ append-nil (looked_at m)

looked_on : (n : ℕ) (m : Five) (keys : List ℕ) → (step m keys).frame ≡ None → looked (suc n) m keys ≡ looked_at m ++ looked n (step m keys).left (step m keys).keys
unfolding looked
looked_on n m keys e = ap (λ o. looked_at m ++ unless o [] (looked n (step m keys).left (step m keys).keys)) e

turns_took : (n : ℕ) (m : Five) (keys : List ℕ) (f : ℕ) → (step m keys).frame ≡ Some f → turns (suc n) m keys ≡ 0
unfolding turns
turns_took n m keys f e = ap (λ o. unless o 0 (turns_from m.q00 m.q01 (turns n (step m keys).left (step m keys).keys))) e

turns_on : (n : ℕ) (m : Five) (keys : List ℕ) → (step m keys).frame ≡ None → turns (suc n) m keys ≡ turns_from m.q00 m.q01 (turns n (step m keys).left (step m keys).keys)
unfolding turns
turns_on n m keys e = ap (λ o. unless o 0 (turns_from m.q00 m.q01 (turns n (step m keys).left (step m keys).keys))) e

kept_same : (m left left' : Five) (fs fs' : List ℕ) (n n' : ℕ) → left' ≡ left → fs' ≡ fs → n' ≡ n → Kept m left fs n → Kept m left' fs' n'
kept_same m left left' fs fs' n n' a b c k = subst (λ x. Kept m x fs' n') (sym a) (subst (λ x. Kept m left x n') (sym b) (subst (Kept m left fs) (sym c) k))

order : (n : ℕ) (m : Five) (keys : List ℕ) → Kept m (steps n m keys).left (looked n m keys) (turns n m keys)
unfolding steps looked turns
order zero m keys = refl
order (suc n) m keys = elim (cases_step (step m keys).frame) [
  | inr y ↦ (let t = took_at m.q00 m.q01 m keys y.0 y.1 in
      kept_same m (step m keys).left (steps (suc n) m keys).left (y.0 ∷ []) (looked (suc n) m keys) 0 (turns (suc n) m keys)
      (ap (λ (t : Took Five). t.left) (step_first n m keys y.0 y.1)) (looked_took n m keys y.0 y.1 ∙ t.0) (turns_took n m keys y.0 y.1)
      t.2)
  | inl e ↦ kept_same m (steps n (step m keys).left (step m keys).keys).left (steps (suc n) m keys).left
      (looked_at m ++ looked n (step m keys).left (step m keys).keys) (looked (suc n) m keys)
      (turns_from m.q00 m.q01 (turns n (step m keys).left (step m keys).keys)) (turns (suc n) m keys)
      (ap (λ (t : Took Five). t.left) (step_on n m keys e)) (looked_on n m keys e) (turns_on n m keys e)
      (on_at m.q00 m.q01 m keys (steps n (step m keys).left (step m keys).keys).left (looked n (step m keys).left (step m keys).keys) (turns n (step m keys).left (step m keys).keys)
      (order n (step m keys).left (step m keys).keys))
]

-- the moment at which the frame taken was looked at
abbrev Moment : Five → List ℕ → ℕ → Type 0
Moment m keys f = Unreferred m keys (Some f)

moment_first : (m : Five) (keys : List ℕ) (f : ℕ) → (step m keys).frame ≡ Some f → Moment m keys f
unfolding steps
moment_first m keys f e = let t = took_at m.q00 m.q01 m keys f e in (0, refl, t.0, t.1)

moment_on : (m : Five) (keys : List ℕ) (f : ℕ) → (step m keys).frame ≡ None → Moment (step m keys).left (step m keys).keys f → Moment m keys f
moment_on m keys f e w =
    let s = step_on w.0 m keys e in
    (suc w.0, ap (λ (t : Took Five). t.frame) s ∙ w.1, ap (λ (t : Took Five). looked_at t.left) s ∙ w.2, ap (λ (t : Took Five). referred (get_or t.keys f 0)) s ∙ w.3)

moment : (n : ℕ) (m : Five) (keys : List ℕ) (f : ℕ) → (steps n m keys).frame ≡ Some f → Moment m keys f
unfolding steps
moment zero m keys f e = let z : ◌≡◌ {A = ℕ} 0 1 = cc in absurd (omega arith)
moment (suc n) m keys f e = elim (cases_step (step m keys).frame) [
  | inr y ↦ (let s = ap (λ (t : Took Five). t.frame) (step_first n m keys y.0 y.1) in moment_first m keys f (sym s ∙ e))
  | inl d ↦ (let s = ap (λ (t : Took Five). t.frame) (step_on n m keys d) in
      moment_on m keys f d (moment n (step m keys).left (step m keys).keys f (sym s ∙ e)))
]

unreferred_of : (m : Five) (keys : List ℕ) (o : Option ℕ) → (taken m keys).frame ≡ o → Unreferred m keys o
unreferred_of m keys None e = tt
unreferred_of m keys (Some f) e = moment (6 * size m) m keys f e

-- a frame that is held once stands in one queue
in_one_of : (m : Five) (f : ℕ) → times_held m f ≡ 1 → InOne m f
in_one_of m f h = elim (cases_eq (times_in f m.q00) 1) [
  | inl e ↦ record { queue = Q00; there = e; nowhere_else = others Q00 e }
  | inr a ↦ (elim (cases_eq (times_in f m.q01) 1) [
    | inl e ↦ record { queue = Q01; there = e; nowhere_else = others Q01 e }
    | inr b ↦ (elim (cases_eq (times_in f m.q10) 1) [
      | inl e ↦ record { queue = Q10; there = e; nowhere_else = others Q10 e }
      | inr c ↦ (elim (cases_eq (times_in f m.q11) 1) [
        | inl e ↦ record { queue = Q11; there = e; nowhere_else = others Q11 e }
        | inr d ↦ record { queue = Hq; there = omega arith; nowhere_else = others Hq (omega arith) }
      ])
    ])
  ])
]
  where
    others : (q : Queue) → times_in f (frames_of m q) ≡ 1 → (r : Queue) → (r ≡ q → ⊥) → times_in f (frames_of m r) ≡ 0
    others Q00 e Q00 ne = absurd (ne refl)
    others Q00 e Q01 ne = omega arith
    others Q00 e Q10 ne = omega arith
    others Q00 e Q11 ne = omega arith
    others Q00 e Hq ne = omega arith
    others Q01 e Q00 ne = omega arith
    others Q01 e Q01 ne = absurd (ne refl)
    others Q01 e Q10 ne = omega arith
    others Q01 e Q11 ne = omega arith
    others Q01 e Hq ne = omega arith
    others Q10 e Q00 ne = omega arith
    others Q10 e Q01 ne = omega arith
    others Q10 e Q10 ne = absurd (ne refl)
    others Q10 e Q11 ne = omega arith
    others Q10 e Hq ne = omega arith
    others Q11 e Q00 ne = omega arith
    others Q11 e Q01 ne = omega arith
    others Q11 e Q10 ne = omega arith
    others Q11 e Q11 ne = absurd (ne refl)
    others Q11 e Hq ne = omega arith
    others Hq e Q00 ne = omega arith
    others Hq e Q01 ne = omega arith
    others Hq e Q10 ne = omega arith
    others Hq e Q11 ne = omega arith
    others Hq e Hq ne = absurd (ne refl)

take_laws : (m : Five) (keys : List ℕ) → Good m → TakeLaws m keys (taken m keys).frame (taken m keys).keys (taken m keys).left
take_laws m keys good = record {
  unreferred = unreferred_of m keys (taken m keys).frame refl;
  change_kept = kept_changed keys (taken m keys).keys (keys_kept (6 * size m) m keys);
  in_one = λ f h ne. in_one_of (taken m keys).left f (taken_times m keys good f ne ∙ h);
  order_kept = order (6 * size m) m keys;
}

-- the laws, at what the call gives
pub laws_at : (m : Five) (keys : List ℕ) (o : Option ℕ) (keys' : List ℕ) (left : Five) → Good m
    → o ≡ (taken m keys).frame → keys' ≡ (taken m keys).keys → left ≡ (taken m keys).left → TakeLaws m keys o keys' left
laws_at m keys o keys' left good a b c =
    subst (λ x. TakeLaws m keys x keys' left) (sym a) (subst (λ x. TakeLaws m keys (taken m keys).frame x left) (sym b)
    (subst (TakeLaws m keys (taken m keys).frame (taken m keys).keys) (sym c) (take_laws m keys good)))
