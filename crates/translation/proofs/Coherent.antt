-- After LoadControls or Purge, any list of calls on the same storage is answered as the walk alone answers it.
use Rattle.std.proofs.Common.{◌≡◌, ℕ, true, List, [], ◌∷◌, ◌++◌, Ok, Err, Result, sym, refl, ◌∙◌, inl, inr}
use Rattle.tables.specs.declared.Controls.{Controls}
use Rattle.tables.specs.declared.Refusal.{Refusal}
use Rattle.tables.specs.declared.Sizes.{Sizes}
use Rattle.tables.specs.Walk.{checked, page_number, walk}
use Rattle.translation.specs.declared.runs.Ask.{Ask}
use Rattle.translation.specs.declared.runs.Ask.TheVariants.{Translate, Forget, Controls as Words}
use Rattle.translation.specs.declared.runs.Start.{Start}
use Rattle.translation.specs.declared.runs.Start.TheVariants.{Load, Purge}
use Rattle.translation.specs.declared.runs.Told.{Told}
use Rattle.translation.specs.Runs.{answers, last_of, started, walk_answers, words_of}
use Rattle.translation.specs.Translator.{Agrees, Answer, Answers, Lawful, Rules}
use Rattle.translation.specs.Walked.{agreed_by, by_agreed, walk_stops}

-- Every pair agrees with the walk.
abbrev pub Coherent : {M : Type 0} → Rules M → List ℕ → M → Type 0
Coherent r s m = (page start : ℕ) → r.has_pair m page start ≡ true → Agrees s (r.controls m) page start

module _ {M : Type 0} (r : Rules M) (law : Lawful r) (s : List ℕ) (m : M) (g : r.good m) (agree : Coherent r s m) where
  by_any : (a : ℕ) (q : Result Sizes Refusal) (answer : Answer) → checked (r.controls m) a ≡ q → Answers r m s a q answer → answer ≡ walk s (r.controls m) a
  by_any a (Err why) answer e h = h ∙ sym (walk_stops s (r.controls m) a why e)
  by_any a (Ok z) answer e (inl p) = p.answered ∙ sym (by_agreed s (r.controls m) a p.start z e (agree (page_number z a) p.start p.paired))
  by_any a (Ok z) answer e (inr w) = w.answered

  pub as_walk : (a : ℕ) → (r.translate m s a).answer ≡ walk s (r.controls m) a
  as_walk a = by_any a (checked (r.controls m) a) (r.translate m s a).answer refl (law.translate_answer m s a g)

  pub translate_coherent : (a : ℕ) → Coherent r s (r.translate m s a).left
  translate_coherent a page start h =
      rw (law.translate_controls m s a g)
      (elim (law.translate_pairs m s a page start g h) [
        | inl k ↦ agree page start k
        | inr j ↦ rw (j.page_is) (agreed_by s (r.controls m) a start j.sizes j.passed (sym (as_walk a) ∙ j.answered))
      ])

  pub forget_coherent : (gone : ℕ) → Coherent r s (r.forget m gone)
  forget_coherent gone page start h =
      rw (law.forget_controls m gone g) (agree page start (law.forget_adds_none m gone page start g h))

pub walked : {M : Type 0} (r : Rules M) → Lawful r → (s : List ℕ) (w : Controls) (m : M) → r.good m → r.controls m ≡ w → Coherent r s m
    → (asks : List Ask) → answers r s m asks ≡ walk_answers s w asks
walked r law s w m g c agree [] = refl
walked r law s w m g c agree (Translate a ∷ asks) =
    rw (
      as_walk r law s m g agree a,
      c,
      walked r law s w (r.translate m s a).left (law.translate_good m s a g) (law.translate_controls m s a g ∙ c) (translate_coherent r law s m g agree a) asks,
    )
walked r law s w m g c agree (Forget page ∷ asks) =
    rw (walked r law s w (r.forget m page) (law.forget_good m page g) (law.forget_controls m page g ∙ c) (forget_coherent r law s m g agree page) asks)
walked r law s w m g c agree (Words ∷ asks) = rw (c, walked r law s w m g c agree asks)

-- The start of a run.
pub run_walked : {M : Type 0} (r : Rules M) → Lawful r → (s : List ℕ) (m : M) → r.good m → (start : Start) (asks : List Ask)
    → answers r s (started r s m start) asks ≡ walk_answers s (words_of (r.controls m) start) asks
run_walked r law s m g (Load w) asks =
    walked r law s w (r.load m s w) (law.load_good m s w g) (law.load_controls m s w g)
    (λ page start h. rw (law.load_controls m s w g) (law.load_agrees m s w page start g h)) asks
run_walked r law s m g Purge asks =
    walked r law s (r.controls m) (r.purge m s) (law.purge_good m s g) (law.purge_controls m s g)
    (λ page start h. rw (law.purge_controls m s g) (law.purge_agrees m s page start g h)) asks

-- What is done and what is left of a list of calls make the whole.
pub record Left {M : Type 0} (r : Rules M) (s : List ℕ) (rest all : List Ask) (now before : M) (done : List Told) : Type 0 where
  pub told : done ++ answers r s now rest ≡ answers r s before all
  pub last : last_of r s now rest ≡ last_of r s before all
