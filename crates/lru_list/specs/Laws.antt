-- What is certain of the policy by recency.
use Rattle.std.specs.Prelude.{◌≡◌, ℕ, ◌+◌, Bool, true, false, cond, ◌&&◌, List, [], ◌∷◌, ◌++◌, ◌==◌, nat_lt, refl}
use Rattle.std.proofs.Common.{sym, ap, ◌∙◌, inl, inr, arith}
use Rattle.std.proofs.lemmas.Bool.{cases_eq, cases_Bool, eq-eqb, ne_eqb, eqb-true, ltb-true, and_parts, cond-true, cond-false}
use Rattle.frames.specs.Held.{times_in, without, Once}
use Rattle.frames.specs.Policy.{Lawful, Picks, KeysKept, free}
use Rattle.frames.proofs.Held.{share, share_same, share_other, times_append, without_same, without_other, without_none, times_none}
use Rattle.lru_list.specs.Rules.{entered, touched, taken, lru_rules}

-- one more frame at the end
times_last : (xs : List ℕ) (f g : ℕ) → times_in g (xs ++ (f ∷ [])) ≡ times_in g xs + share f g
times_last xs f g = omega (arith, times_append g xs (f ∷ []))

enter_times : (xs : List ℕ) (f g : ℕ) → times_in g (entered xs f) ≡ cond (g == f && free lru_rules xs f) 1 (times_in g xs)
enter_times xs f g = elim (cases_Bool (free lru_rules xs f)) [
  | inl y ↦ (let is : entered xs f ≡ xs ++ (f ∷ []) = cond-true (free lru_rules xs f) (xs ++ (f ∷ [])) xs y in
      let none : times_in f xs ≡ 0 = eqb-true _ _ (and_parts (nat_lt f 256) (times_in f xs == 0) y).1 in
      ap (times_in g) is ∙ times_last xs f g ∙ (elim (cases_eq g f) [
        | inl e ↦ (let s = share_same f g (sym e) in let t : times_in g xs + share f g ≡ 1 = omega (arith, ap (λ k. times_in k xs) e) in
            t ∙ ap (λ b. cond b 1 (times_in g xs)) (sym (ap (λ b. b && free lru_rules xs f) (eq-eqb g f e) ∙ y)))
        | inr ne ↦ (let s = share_other f g (λ e. ne (sym e)) in let t : times_in g xs + share f g ≡ times_in g xs = omega arith in
            t ∙ ap (λ b. cond b 1 (times_in g xs)) (sym (ap (λ b. b && free lru_rules xs f) (ne_eqb g f ne))))
      ]))
  | inr n ↦ ap (times_in g) (cond-false (free lru_rules xs f) (xs ++ (f ∷ [])) xs n) ∙ sym (unchanged (g == f) n)
]
  where
    unchanged : (b : Bool) → free lru_rules xs f ≡ false → cond (b && free lru_rules xs f) 1 (times_in g xs) ≡ times_in g xs
    unchanged true n = cond-false (free lru_rules xs f) 1 (times_in g xs) n
    unchanged false n = refl

-- a new frame, put last, leaves each frame there at most once
pub once_entered : (xs : List ℕ) (f : ℕ) → Once xs → Once (entered xs f)
once_entered xs f o g = elim (cases_Bool (g == f && free lru_rules xs f)) [
  | inl y ↦ (let p = and_parts (g == f) (free lru_rules xs f) y in
      let l = ltb-true f 256 (and_parts (nat_lt f 256) (times_in f xs == 0) p.1).0 in
      let e = eqb-true g f p.0 in
      let t : times_in g (entered xs f) ≡ 1 = enter_times xs f g ∙ cond-true (g == f && free lru_rules xs f) 1 (times_in g xs) y in
      (omega arith, λ big. absurd (omega arith)))
  | inr n ↦ (let t : times_in g (entered xs f) ≡ times_in g xs = enter_times xs f g ∙ cond-false (g == f && free lru_rules xs f) 1 (times_in g xs) n in
      (omega (arith, (o g).0), λ big. t ∙ (o g).1 big))
]

leave_times : (xs : List ℕ) (f g : ℕ) → times_in g (without f xs) ≡ cond (g == f) 0 (times_in g xs)
leave_times xs f g = elim (cases_eq g f) [
  | inl e ↦ ap (λ k. times_in k (without f xs)) e ∙ without_same f xs ∙ sym (cond-true (g == f) 0 (times_in g xs) (eq-eqb g f e))
  | inr ne ↦ without_other f g xs ne ∙ sym (cond-false (g == f) 0 (times_in g xs) (ne_eqb g f ne))
]

pub once_without : (xs : List ℕ) (f : ℕ) → Once xs → Once (without f xs)
once_without xs f o g = elim (cases_eq g f) [
  | inl e ↦ (let t : times_in g (without f xs) ≡ 0 = ap (λ k. times_in k (without f xs)) e ∙ without_same f xs in (omega arith, λ big. t))
  | inr ne ↦ (let t : times_in g (without f xs) ≡ times_in g xs = without_other f g xs ne in (omega (arith, (o g).0), λ big. t ∙ (o g).1 big))
]

touch_times : (xs : List ℕ) (f g : ℕ) → times_in g (touched xs f) ≡ times_in g xs
touch_times xs f g = elim (cases_Bool (times_in f xs == 1)) [
  | inl y ↦ (let is : touched xs f ≡ without f xs ++ (f ∷ []) = cond-true (times_in f xs == 1) (without f xs ++ (f ∷ [])) xs y in
      let one = eqb-true _ _ y in
      ap (times_in g) is ∙ times_last (without f xs) f g ∙ (elim (cases_eq g f) [
        | inl e ↦ omega (arith, share_same f g (sym e), ap (λ k. times_in k (without f xs)) e, ap (λ k. times_in k xs) e, without_same f xs)
        | inr ne ↦ omega (arith, share_other f g (λ e. ne (sym e)), without_other f g xs ne)
      ]))
  | inr n ↦ ap (times_in g) (cond-false (times_in f xs == 1) (without f xs ++ (f ∷ [])) xs n)
]

pub once_touched : (xs : List ℕ) (f : ℕ) → Once xs → Once (touched xs f)
once_touched xs f o g = let t = touch_times xs f g in (omega (arith, (o g).0), λ big. t ∙ (o g).1 big)

pub once_rest : (f : ℕ) (xs : List ℕ) → Once (f ∷ xs) → Once xs
once_rest f xs o g = (omega (arith, (o g).0), λ big. omega (arith, (o g).1 big))

picks : (xs keys : List ℕ) → Once xs → Picks lru_rules xs (taken xs keys).left (taken xs keys).frame
picks [] keys o = (λ g. refl, λ g. refl)
picks (f ∷ xs) keys o =
    let s = share_same f f refl in
    let none : times_in f xs ≡ 0 = omega (arith, (o f).0) in (
      omega arith,
      λ g. elim (cases_eq g f) [
        | inl e ↦ ap (λ k. times_in k xs) e ∙ none ∙ sym (cond-true (g == f) 0 (times_in g (f ∷ xs)) (eq-eqb g f e))
        | inr ne ↦ (let t = share_other f g (λ e. ne (sym e)) in let r : times_in g xs ≡ times_in g (f ∷ xs) = omega arith in
            r ∙ sym (cond-false (g == f) 0 (times_in g (f ∷ xs)) (ne_eqb g f ne)))
      ],
    )

take_good : (xs keys : List ℕ) → Once xs → Once (taken xs keys).left
take_good [] keys o = o
take_good (f ∷ xs) keys o = once_rest f xs o

same_keys : (xs keys : List ℕ) → KeysKept keys (taken xs keys).keys
same_keys [] keys = record { long = refl; each = λ i. inl refl }
same_keys (f ∷ xs) keys = record { long = refl; each = λ i. inl refl }

pub lru_lawful : Lawful lru_rules
lru_lawful = record {
  once = λ m f o. (o f).0;
  small = λ m f o. (o f).1;
  enter_good = λ m f o. once_entered m f o;
  enter_times = λ m f g o. enter_times m f g;
  enter_no = λ m f o e. cond-false (free lru_rules m f) (m ++ (f ∷ [])) m e;
  return_good = λ m f ref chg o. once_entered m f o;
  return_times = λ m f g ref chg o. enter_times m f g;
  return_no = λ m f ref chg o e. cond-false (free lru_rules m f) (m ++ (f ∷ [])) m e;
  leave_good = λ m f o. once_without m f o;
  leave_times = λ m f g o. leave_times m f g;
  leave_no = λ m f o e. without_none f m (times_none (times_in f m) (o f).0 e);
  touch_good = λ m f o. once_touched m f o;
  touch_times = λ m f g o. touch_times m f g;
  clear_good = λ m o g. (omega arith, λ big. refl);
  clear_times = λ m g o. refl;
  take_good = take_good;
  take_picks = picks;
  take_keys = λ m keys o. same_keys m keys;
}
