-- A run, call by call.
use Rattle.std.proofs.Common.{◌≡◌, ℕ, ◌+◌, ◌<◌, ◌≤◌, List, [], ◌∷◌, ◌++◌, length, get_or, drop, Ok, Err, Result, sym, refl, ap, ◌∙◌}
use Rattle.std.proofs.lemmas.List.{append_assoc, append-nil, at_drop_all, at_drop_more}
use Rattle.model.proofs.Runs.{law_of}
use Rattle.model.specs.declared.calls.Reply.{Reply}
use Rattle.model.specs.declared.calls.Call.{Call}
use Rattle.model.specs.declared.calls.IplRefusal.{IplRefusal}
use Rattle.model.specs.declared.calls.Refusal.{Refusal}
use Rattle.model.specs.Flat.{Flat, blank, flat, flat_answers}
use Rattle.model.specs.Ipl.{ipl}
use Rattle.model.specs.Law.{Sound}
use Rattle.model.specs.Steps.{worked}
use Rattle.model.specs.World.{Config, GoodParts, LawfulParts, Parts, World}
use Rattle.runs.specs.Whole.{Lawfully, Run, answers_of, last_of}

-- What is done and what is left make the whole.
pub record Left {T P S : Type 0} (r : Parts T P S) (left all : List Call) (at before : World T P S) (done old : List (Result Reply Refusal)) : Type 0 where
  pub answers : done ++ answers_of r left at ≡ old ++ answers_of r all before
  pub last : last_of r left at ≡ last_of r all before

module _ {T P S : Type 0} (r : Parts T P S) where
  pub one_more : (cs : List Call) (i : ℕ) (d : Call) (at next before : World T P S) (a : Result Reply Refusal) (done done' old : List (Result Reply Refusal))
      → i < length cs → (a, next) ≡ worked r (get_or cs i d) at → done' ≡ done ++ (a ∷ [])
      → Left r (drop i cs) cs at before done old → Left r (drop (i + 1) cs) cs next before done' old
  one_more cs i d at next before a done done' old h step grown k =
      let one : answers_of r (drop i cs) at ≡ a ∷ answers_of r (drop (i + 1) cs) next =
      at_drop_more (λ l. answers_of r l at) cs i d h ∙ ap (λ (q : Result Reply Refusal × World T P S). q.0 ∷ answers_of r (drop (i + 1) cs) q.1) (sym step) in
      let end : last_of r (drop i cs) at ≡ last_of r (drop (i + 1) cs) next =
      at_drop_more (λ l. last_of r l at) cs i d h ∙ ap (λ (q : Result Reply Refusal × World T P S). last_of r (drop (i + 1) cs) q.1) (sym step) in
      record {
        answers = ap (λ l. l ++ answers_of r (drop (i + 1) cs) next) grown ∙ append_assoc done (a ∷ []) (answers_of r (drop (i + 1) cs) next) ∙ ap (λ l. done ++ l) (sym one) ∙ k.answers;
        last = sym end ∙ k.last;
      }

  pub all_done : (cs : List Call) (i : ℕ) (at before : World T P S) (done old : List (Result Reply Refusal)) → length cs ≤ i
      → Left r (drop i cs) cs at before done old → Run r cs before at old done
  all_done cs i at before done old h k = record {
    answers = sym (append-nil done) ∙ ap (λ l. done ++ l) (sym (at_drop_all (λ l. answers_of r l at) cs i h)) ∙ k.answers;
    last = sym (at_drop_all (λ l. last_of r l at) cs i h) ∙ k.last;
  }

  -- answers that agree call by call
  flat_answers_lem : (cs : List Call) (w : World T P S) (m : Flat) → Sound r cs w m → answers_of r cs w ≡ flat_answers cs m
  flat_answers_lem [] w m s = refl
  flat_answers_lem (c ∷ cs) w m s =
      ap (λ a. a ∷ answers_of r cs (worked r c w).1) s.1 ∙ ap (λ l. (flat c m).0 ∷ l) (flat_answers_lem cs (worked r c w).1 (flat c m).1 s.3)

  pub lawfully : LawfulParts r → (c : Config) (cs : List Call) (w w₁ w₂ : World T P S) → GoodParts r w.translator w.policy w.store
      → (old new : List (Result Reply Refusal)) → (Ok tt, w₁) ≡ ipl r c w → old ≡ [] → Run r cs w₁ w₂ old new → Lawfully r c cs w w₂ new
  lawfully law c cs w w₁ w₂ good old new e none run =
      let start : (ipl r c w).0 ≡ Ok tt = sym (ap (λ (q : Result (Unit {0}) IplRefusal × World T P S). q.0) e) in
      let from : w₁ ≡ (ipl r c w).1 = ap (λ (q : Result (Unit {0}) IplRefusal × World T P S). q.1) e in
      let all = law_of r law c w good start cs in
      let told : new ≡ answers_of r cs (ipl r c w).1 = run.answers ∙ ap (λ l. l ++ answers_of r cs w₁) none ∙ ap (answers_of r cs) from in
      record {
        started = start;
        by_rules = told;
        last = run.last ∙ ap (last_of r cs) from;
        by_flat = told ∙ flat_answers_lem cs (ipl r c w).1 (blank c) all;
        sound = all;
      }

  pub not_begun : (c : Config) (w w₁ : World T P S) (why : IplRefusal) → (Err why, w₁) ≡ ipl r c w → (ipl r c w).0 ≡ Err why
  not_begun c w w₁ why e = sym (ap (λ (q : Result (Unit {0}) IplRefusal × World T P S). q.0) e)
