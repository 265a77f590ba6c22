-- After any list of calls the frames held are those that the answers say.
use Rattle.std.proofs.Common.{◌≡◌, ℕ, ◌≤◌, Bool, true, false, cond, ◌&&◌, eqb, List, [], ◌∷◌, Some, None, Option, sym, refl, ap, ◌∙◌, subst, inl, inr, arith}
use Rattle.std.proofs.lemmas.Bool.{cases_eq, eq-eqb, ne_eqb, and_left, cond-false}
use Rattle.frames.specs.declared.calls.Call.{Call}
use Rattle.frames.specs.declared.calls.Call.TheVariants.{Enter, Return, Leave, Touch, Empty, Take}
use Rattle.frames.specs.declared.calls.Answer.{Answer}
use Rattle.frames.specs.declared.calls.Answer.TheVariants.{Took as TookFrame}
use Rattle.frames.specs.Policy.{Rules, Lawful, Picks, free, holds}
use Rattle.frames.specs.Runs.{called_of, run, held_after, held_by, HeldAsTold}

-- a count that was set to 1 where a test is true
set_one : (b : Bool) (n n' : ℕ) → n' ≡ cond b 1 n → eqb n' 1 ≡ cond b true (eqb n 1)
set_one true n n' e = eq-eqb n' 1 e
set_one false n n' e = ap (λ k. eqb k 1) e

-- or to 0
set_none : (b : Bool) (n n' : ℕ) → n' ≡ cond b 0 n → eqb n' 1 ≡ cond b false (eqb n 1)
set_none true n n' e = ne_eqb n' 1 (λ d. omega arith)
set_none false n n' e = ap (λ k. eqb k 1) e

-- a frame that is not held is not lost where it leaves
left_none : (b h : Bool) (n : ℕ) → h ≡ eqb n 1 → n ≤ 1 → cond (b && h) false h ≡ cond b false h
left_none true true n e l = refl
left_none true false n e l = refl
left_none false h n e l = refl

module _ {M : Type 0} (r : Rules M) (law : Lawful r) where
  good_after : (c : Call) (m : M) (keys : List ℕ) → r.good m → r.good (called_of r c m keys).left
  good_after (Enter f) m keys good = law.enter_good m f good
  good_after (Return f bits) m keys good = law.return_good m f bits.referred bits.changed good
  good_after (Leave f) m keys good = law.leave_good m f good
  good_after (Touch f) m keys good = law.touch_good m f good
  good_after Empty m keys good = law.clear_good m good
  good_after Take m keys good = law.take_good m keys good

  -- Leave of g, or of another frame
  leave_told : (m : M) (f g : ℕ) → r.good m → holds r (r.leave m f) g ≡ cond (eqb g f && holds r m f) false (holds r m g)
  leave_told m f g good =
      set_none (eqb g f) (r.times m g) (r.times (r.leave m f) g) (law.leave_times m f g good) ∙ (elim (cases_eq g f) [
        | inl e ↦ (let same : holds r m f ≡ holds r m g = ap (holds r m) (sym e) in
            sym (ap (λ h. cond (eqb g f && h) false (holds r m g)) same ∙ left_none (eqb g f) (holds r m g) (r.times m g) refl (law.once m g good)))
        | inr ne ↦ cond-false (eqb g f) false (holds r m g) (ne_eqb g f ne)
            ∙ sym (cond-false (eqb g f && holds r m f) false (holds r m g) (and_left (eqb g f) (holds r m f) (ne_eqb g f ne)))
      ])

  picks_told : (m left : M) (o : Option ℕ) (g : ℕ) → Picks r m left o → holds r left g ≡ held_after g (holds r m g) Take (TookFrame o)
  picks_told m left None g p = ap (λ n. eqb n 1) (p.1 g ∙ sym (p.0 g))
  picks_told m left (Some f) g p = set_none (eqb g f) (r.times m g) (r.times left g) (p.1 g)

  told_after : (c : Call) (m : M) (keys : List ℕ) (g : ℕ) → r.good m
      → holds r (called_of r c m keys).left g ≡ held_after g (holds r m g) c (called_of r c m keys).answer
  told_after (Enter f) m keys g good = set_one (eqb g f && free r m f) (r.times m g) (r.times (r.enter m f) g) (law.enter_times m f g good)
  told_after (Return f bits) m keys g good =
      set_one (eqb g f && free r m f) (r.times m g) (r.times (r.return_frame m f bits.referred bits.changed) g) (law.return_times m f g bits.referred bits.changed good)
  told_after (Leave f) m keys g good = leave_told m f g good
  told_after (Touch f) m keys g good = ap (λ n. eqb n 1) (law.touch_times m f g good)
  told_after Empty m keys g good = ap (λ n. eqb n 1) (law.clear_times m g good)
  told_after Take m keys g good = picks_told m (r.take m keys).left (r.take m keys).frame g (law.take_picks m keys good)

  run_good : (cs : List Call) (m : M) (keys : List ℕ) → r.good m → r.good (run r cs m keys).left
  run_good [] m keys good = good
  run_good (c ∷ cs) m keys good = run_good cs (called_of r c m keys).left (called_of r c m keys).keys (good_after c m keys good)

  run_told : (cs : List Call) (m : M) (keys : List ℕ) (g : ℕ) → r.good m → holds r (run r cs m keys).left g ≡ held_by g (holds r m g) cs (run r cs m keys).answers
  run_told [] m keys g good = refl
  run_told (c ∷ cs) m keys g good =
      run_told cs (called_of r c m keys).left (called_of r c m keys).keys g (good_after c m keys good)
      ∙ ap (λ b. held_by g b cs (run r cs (called_of r c m keys).left (called_of r c m keys).keys).answers) (told_after c m keys g good)

  pub held_as_told : (cs : List Call) (m : M) (keys : List ℕ) → r.good m → HeldAsTold r m cs (run r cs m keys).answers (run r cs m keys).left
  held_as_told cs m keys good g = (law.once (run r cs m keys).left g (run_good cs m keys good), run_told cs m keys g good)

  -- the theorem, at what the loop leaves
  pub told_at : (cs : List Call) (m left : M) (keys : List ℕ) (says : List Answer) → r.good m
      → says ≡ (run r cs m keys).answers → left ≡ (run r cs m keys).left → HeldAsTold r m cs says left
  told_at cs m left keys says good a b =
      subst (λ x. HeldAsTold r m cs x left) (sym a) (subst (HeldAsTold r m cs (run r cs m keys).answers) (sym b) (held_as_told cs m keys good))
