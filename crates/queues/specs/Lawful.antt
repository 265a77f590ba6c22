-- What is certain of the five queues.
use Rattle.std.specs.Prelude.{◌≡◌, ℕ, zero, suc, ◌+◌, ◌*◌, ◌≤◌, Bool, true, false, cond, ◌&&◌, List, [], ◌∷◌, Some, None, Option, ◌==◌, ◌≢◌, nat_lt, slice_index, refl}
use Rattle.std.proofs.Common.{sym, ap, subst, ◌∙◌, inl, inr, arith}
use Rattle.std.proofs.lemmas.Bool.{cases_eq, cases_lt, cases_Bool, eq-eqb, ne_eqb, eqb-true, ltb-true, and_parts, cond-true, cond-false}
use Rattle.frames.specs.Held.{times_in}
use Rattle.frames.specs.Keys.{referred, changed}
use Rattle.frames.specs.Policy.{Lawful, Picks, KeysKept, Took}
use Rattle.frames.proofs.Held.{share, share_same, share_other, times_append, without_same, without_other, times_none}
use Rattle.frames.proofs.KeysKept.{kept_one, kept_all, kept_then}
use Rattle.queues.specs.Five.{Five, times_held, size, dropped, on, queue_for, free_in, seen_q00, seen_q01, step, step_at, steps, taken, Good, five_rules}
use Rattle.queues.specs.declared.queue.Queue.{Queue}
use Rattle.queues.specs.declared.queue.Queue.TheVariants.{Q00, Q01, Q10, Q11, Hq}
use Rattle.queues.specs.Operations.{dropped_none}
use Rattle.queues.specs.Weight.{weight, weight_six, size_weight, step_less, is_empty, step_first, step_on, cases_step}

-- one more frame at a tail
pub on_times : (q : Queue) (m : Five) (f g : ℕ) → times_held (on q m f) g ≡ times_held m g + share f g
on_times Q00 m f g = omega (arith, times_append g m.q00 (f ∷ []))
on_times Q01 m f g = omega (arith, times_append g m.q01 (f ∷ []))
on_times Q10 m f g = omega (arith, times_append g m.q10 (f ∷ []))
on_times Q11 m f g = omega (arith, times_append g m.q11 (f ∷ []))
on_times Hq m f g = omega (arith, times_append g m.hq (f ∷ []))

-- a frame that is put into other queues if it is free, where it stands once more there and nothing else is altered
module _ (m x : Five) (f : ℕ) (more : (g : ℕ) → times_held x g ≡ times_held m g + share f g) where
  abbrev put : Five
  put = cond (free_in m f) x m

  put_times : (g : ℕ) → times_held put g ≡ cond (g == f && free_in m f) 1 (times_held m g)
  put_times g = elim (cases_Bool (free_in m f)) [
    | inl y ↦ (let none : times_held m f ≡ 0 = eqb-true _ _ (and_parts (nat_lt f 256) (times_held m f == 0) y).1 in
        ap (λ n. times_held n g) (cond-true (free_in m f) x m y) ∙ more g ∙ (elim (cases_eq g f) [
          | inl e ↦ (let s = share_same f g (sym e) in let t : times_held m g + share f g ≡ 1 = omega (arith, ap (times_held m) e) in
              t ∙ sym (cond-true (g == f && free_in m f) 1 (times_held m g) (ap (λ b. b && free_in m f) (eq-eqb g f e) ∙ y)))
          | inr ne ↦ (let s = share_other f g (λ e. ne (sym e)) in let t : times_held m g + share f g ≡ times_held m g = omega arith in
              t ∙ sym (cond-false (g == f && free_in m f) 1 (times_held m g) (ap (λ b. b && free_in m f) (ne_eqb g f ne))))
        ]))
    | inr n ↦ ap (λ k. times_held k g) (cond-false (free_in m f) x m n) ∙ sym (unchanged (g == f) n)
  ]
    where
      unchanged : (b : Bool) → free_in m f ≡ false → cond (b && free_in m f) 1 (times_held m g) ≡ times_held m g
      unchanged true n = cond-false (free_in m f) 1 (times_held m g) n
      unchanged false n = refl

  put_good : Good m → Good put
  put_good o g = elim (cases_Bool (g == f && free_in m f)) [
    | inl y ↦ (let p = and_parts (g == f) (free_in m f) y in
        let l = ltb-true f 256 (and_parts (nat_lt f 256) (times_held m f == 0) p.1).0 in
        let e = eqb-true g f p.0 in
        let t : times_held put g ≡ 1 = put_times g ∙ cond-true (g == f && free_in m f) 1 (times_held m g) y in
        (omega arith, λ big. absurd (omega arith)))
    | inr n ↦ (let t : times_held put g ≡ times_held m g = put_times g ∙ cond-false (g == f && free_in m f) 1 (times_held m g) n in
        (omega (arith, (o g).0), λ big. t ∙ (o g).1 big))
  ]

-- a frame that is put at the tail of a queue if it is free
pub entered_times : (q : Queue) (m : Five) (f g : ℕ) → times_held (cond (free_in m f) (on q m f) m) g ≡ cond (g == f && free_in m f) 1 (times_held m g)
entered_times q m f g = put_times m (on q m f) f (on_times q m f) g

pub entered_good : (q : Queue) (m : Five) (f : ℕ) → Good m → Good (cond (free_in m f) (on q m f) m)
entered_good q m f good = put_good m (on q m f) f (on_times q m f) good

-- a frame that is dropped
pub dropped_same : (m : Five) (f : ℕ) → times_held (dropped m f) f ≡ 0
dropped_same m f = omega (arith, without_same f m.q00, without_same f m.q01, without_same f m.q10, without_same f m.q11, without_same f m.hq)

pub dropped_other : (m : Five) (f g : ℕ) → (g ≢ f) → times_held (dropped m f) g ≡ times_held m g
dropped_other m f g ne =
    omega (arith, without_other f g m.q00 ne, without_other f g m.q01 ne, without_other f g m.q10 ne, without_other f g m.q11 ne, without_other f g m.hq ne)

pub dropped_times : (m : Five) (f g : ℕ) → times_held (dropped m f) g ≡ cond (g == f) 0 (times_held m g)
dropped_times m f g = elim (cases_eq g f) [
  | inl e ↦ ap (times_held (dropped m f)) e ∙ dropped_same m f ∙ sym (cond-true (g == f) 0 (times_held m g) (eq-eqb g f e))
  | inr ne ↦ dropped_other m f g ne ∙ sym (cond-false (g == f) 0 (times_held m g) (ne_eqb g f ne))
]

-- What a step or a whole Take leaves of the holdings: all, or all but the frame taken, which was held once.
abbrev Keeps : Five → Five → Option ℕ → Type 0
Keeps m left None = (g : ℕ) → times_held left g ≡ times_held m g
Keeps m left (Some f) = (times_held m f ≡ 1) × ((g : ℕ) → times_held left g ≡ cond (g == f) 0 (times_held m g))

keeps_good : (m left : Five) (o : Option ℕ) → Good m → Keeps m left o → Good left
keeps_good m left None good k g = let t = k g in (omega (arith, (good g).0), λ big. t ∙ (good g).1 big)
keeps_good m left (Some f) good k g = elim (cases_eq g f) [
  | inl e ↦ (let t : times_held left g ≡ 0 = k.1 g ∙ cond-true (g == f) 0 (times_held m g) (eq-eqb g f e) in (omega arith, λ big. t))
  | inr ne ↦ (let t : times_held left g ≡ times_held m g = k.1 g ∙ cond-false (g == f) 0 (times_held m g) (ne_eqb g f ne) in
      (omega (arith, (good g).0), λ big. t ∙ (good g).1 big))
]

-- after what keeps all
keeps_after : (m mid left : Five) (o : Option ℕ) → ((g : ℕ) → times_held mid g ≡ times_held m g) → Keeps mid left o → Keeps m left o
keeps_after m mid left None same k = λ g. k g ∙ same g
keeps_after m mid left (Some f) same k = (sym (same f) ∙ k.0, λ g. k.1 g ∙ ap (λ n. cond (g == f) 0 n) (same g))

-- a held frame goes to another tail
moved_times : (q : Queue) (m : Five) (f : ℕ) → times_held m f ≡ 1 → (g : ℕ) → times_held (on q (dropped m f) f) g ≡ times_held m g
moved_times q m f one g = on_times q (dropped m f) f g ∙ (elim (cases_eq g f) [
  | inl e ↦ omega (arith, share_same f g (sym e), ap (times_held m) e, ap (times_held (dropped m f)) e, dropped_same m f)
  | inr ne ↦ omega (arith, share_other f g (λ e. ne (sym e)), dropped_other m f g ne)
])

keeps_q00 : (ref chg : Bool) (m : Five) (keys : List ℕ) (f : ℕ) → times_held m f ≡ 1
    → Keeps m (seen_q00 ref chg m keys f).left (seen_q00 ref chg m keys f).frame
keeps_q00 false false m keys f one = (one, dropped_times m f)
keeps_q00 false true m keys f one = moved_times Q01 m f one
keeps_q00 true false m keys f one = moved_times Q10 m f one
keeps_q00 true true m keys f one = moved_times Q11 m f one

keeps_q01 : (ref : Bool) (m : Five) (keys : List ℕ) (f : ℕ) → times_held m f ≡ 1
    → Keeps m (seen_q01 ref m keys f).left (seen_q01 ref m keys f).frame
keeps_q01 false m keys f one = (one, dropped_times m f)
keeps_q01 true m keys f one = moved_times Q11 m f one

keeps_at : (xs ys : List ℕ) (m : Five) (keys : List ℕ) → m.q00 ≡ xs → m.q01 ≡ ys → Good m
    → Keeps m (step_at xs ys m keys).left (step_at xs ys m keys).frame
keeps_at (f ∷ fs) ys m keys e d good =
    keeps_q00 (referred (slice_index keys f)) (changed (slice_index keys f)) m keys f (let s = share_same f f refl in omega (arith, ap (times_in f) e, (good f).0))
keeps_at [] (f ∷ fs) m keys e d good =
    keeps_q01 (referred (slice_index keys f)) m keys f (let s = share_same f f refl in omega (arith, ap (times_in f) d, (good f).0))
keeps_at [] [] m keys e d good = λ g. omega arith

pub step_keeps : (m : Five) (keys : List ℕ) → Good m → Keeps m (step m keys).left (step m keys).frame
step_keeps m keys good = keeps_at m.q00 m.q01 m keys refl refl good

-- one step that takes none keeps all
pub step_same : (m : Five) (keys : List ℕ) → Good m → (step m keys).frame ≡ None → (g : ℕ) → times_held (step m keys).left g ≡ times_held m g
step_same m keys good e = subst (Keeps m (step m keys).left) e (step_keeps m keys good)

pub step_good : (m : Five) (keys : List ℕ) → Good m → Good (step m keys).left
step_good m keys good = keeps_good m (step m keys).left (step m keys).frame good (step_keeps m keys good)

abbrev Result : Five → Took Five → Type 0
Result m t = Keeps m t.left t.frame

steps_keep : (n : ℕ) (m : Five) (keys : List ℕ) → Good m → Result m (steps n m keys)
unfolding steps
steps_keep zero m keys good = λ g. refl
steps_keep (suc n) m keys good = elim (cases_step (step m keys).frame) [
  | inr y ↦ subst (Result m) (sym (step_first n m keys y.0 y.1)) (step_keeps m keys good)
  | inl e ↦ subst (Result m) (sym (step_on n m keys e))
      (keeps_after m (step m keys).left (steps n (step m keys).left (step m keys).keys).left (steps n (step m keys).left (step m keys).keys).frame
      (step_same m keys good e) (steps_keep n (step m keys).left (step m keys).keys (step_good m keys good)))
]

-- Enough steps that take none: nothing is held.
ends : (n : ℕ) (m : Five) (keys : List ℕ) → Good m → weight m keys ≤ n → (steps n m keys).frame ≡ None → (g : ℕ) → times_held m g ≡ 0
ends zero m keys good w e g = ap (λ x. times_held x g) (is_empty m (let s = size_weight m keys in omega arith))
ends (suc n) m keys good w e g = elim (cases_lt 0 (size m)) [
  | inr z ↦ ap (λ x. times_held x g) (is_empty m (omega arith))
  | inl h ↦ (elim (cases_step (step m keys).frame) [
    | inr y ↦ (let s = ap (λ (t : Took Five). t.frame) (step_first n m keys y.0 y.1) in let d = y.1 in let z : ◌≡◌ {A = ℕ} 0 1 = cc in absurd (omega arith))
    | inl d ↦ (let l = step_less m keys h d in
        sym (step_same m keys good d g)
        ∙ ends n (step m keys).left (step m keys).keys (step_good m keys good) (omega arith) (sym (ap (λ (t : Took Five). t.frame) (step_on n m keys d)) ∙ e) g)
  ])
]

picks_of : (m left : Five) (o : Option ℕ) → (o ≡ None → (g : ℕ) → times_held m g ≡ 0) → Keeps m left o → Picks five_rules m left o
picks_of m left None none k = (none refl, λ g. k g ∙ none refl g)
picks_of m left (Some f) none k = k

picks : (m : Five) (keys : List ℕ) → Good m → Picks five_rules m (taken m keys).left (taken m keys).frame
picks m keys good =
    picks_of m (taken m keys).left (taken m keys).frame (ends (6 * size m) m keys good (weight_six m keys)) (steps_keep (6 * size m) m keys good)

-- the keys
keys_q00 : (ref chg : Bool) (m : Five) (keys : List ℕ) (f : ℕ) → KeysKept keys (seen_q00 ref chg m keys f).keys
keys_q00 false false m keys f = kept_one keys f
keys_q00 false true m keys f = kept_one keys f
keys_q00 true false m keys f = kept_one keys f
keys_q00 true true m keys f = kept_one keys f

keys_q01 : (ref : Bool) (m : Five) (keys : List ℕ) (f : ℕ) → KeysKept keys (seen_q01 ref m keys f).keys
keys_q01 false m keys f = kept_one keys f
keys_q01 true m keys f = kept_one keys f

keys_at : (xs ys : List ℕ) (m : Five) (keys : List ℕ) → KeysKept keys (step_at xs ys m keys).keys
keys_at (f ∷ fs) ys m keys = keys_q00 (referred (slice_index keys f)) (changed (slice_index keys f)) m keys f
keys_at [] (f ∷ fs) m keys = keys_q01 (referred (slice_index keys f)) m keys f
keys_at [] [] m keys = kept_all keys

pub keys_kept : (n : ℕ) (m : Five) (keys : List ℕ) → KeysKept keys (steps n m keys).keys
unfolding steps
keys_kept zero m keys = kept_all keys
keys_kept (suc n) m keys = elim (cases_step (step m keys).frame) [
  | inr y ↦ subst (λ (t : Took Five). KeysKept keys t.keys) (sym (step_first n m keys y.0 y.1)) (keys_at m.q00 m.q01 m keys)
  | inl e ↦ subst (λ (t : Took Five). KeysKept keys t.keys) (sym (step_on n m keys e))
      (kept_then keys (step m keys).keys (steps n (step m keys).left (step m keys).keys).keys (keys_at m.q00 m.q01 m keys)
      (keys_kept n (step m keys).left (step m keys).keys))
]

pub taken_good : (m : Five) (keys : List ℕ) → Good m → Good (taken m keys).left
taken_good m keys good = keeps_good m (taken m keys).left (taken m keys).frame good (steps_keep (6 * size m) m keys good)

pub five_lawful : Lawful five_rules
five_lawful = record {
  once = λ m f o. (o f).0;
  small = λ m f o. (o f).1;
  enter_good = λ m f o. entered_good Hq m f o;
  enter_times = λ m f g o. entered_times Hq m f g;
  enter_no = λ m f o e. cond-false (free_in m f) (on Hq m f) m e;
  return_good = λ m f ref chg o. entered_good (queue_for ref chg) m f o;
  return_times = λ m f g ref chg o. entered_times (queue_for ref chg) m f g;
  return_no = λ m f ref chg o e. cond-false (free_in m f) (on (queue_for ref chg) m f) m e;
  leave_good = λ m f o g. elim (cases_eq g f) [
    | inl e ↦ (let t : times_held (dropped m f) g ≡ 0 = ap (times_held (dropped m f)) e ∙ dropped_same m f in (omega arith, λ big. t))
    | inr ne ↦ (let t = dropped_other m f g ne in (omega (arith, (o g).0), λ big. t ∙ (o g).1 big))
  ];
  leave_times = λ m f g o. dropped_times m f g;
  leave_no = λ m f o e. sym (dropped_none m f (times_none (times_held m f) (o f).0 e));
  touch_good = λ m f o. o;
  touch_times = λ m f g o. refl;
  clear_good = λ m o g. (omega arith, λ big. refl);
  clear_times = λ m g o. refl;
  take_good = taken_good;
  take_picks = picks;
  take_keys = λ m keys o. keys_kept (6 * size m) m keys;
}

-- a frame that is not the one taken is held as it was
pub taken_times : (m : Five) (keys : List ℕ) → Good m → (g : ℕ) → ((taken m keys).frame ≢ Some g) → times_held (taken m keys).left g ≡ times_held m g
taken_times m keys good g ne = others (taken m keys).frame ne (steps_keep (6 * size m) m keys good)
  where
    others : (o : Option ℕ) → (o ≢ Some g) → Keeps m (taken m keys).left o → times_held (taken m keys).left g ≡ times_held m g
    others None ne k = k g
    others (Some f) ne k = k.1 g ∙ cond-false (g == f) 0 (times_held m g) (ne_eqb g f (λ e. ne (ap Some (sym e))))
