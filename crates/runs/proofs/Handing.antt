-- A disturbed run, call by call.
use Rattle.std.proofs.Common.{◌≡◌, ℕ, ◌+◌, ◌<◌, ◌≤◌, List, [], ◌∷◌, ◌++◌, length, get_or, take, drop, set, Ok, vec_items, Result, sym, refl, ap, ◌∙◌, subst, arith}
use Rattle.std.proofs.lemmas.List.{append_assoc, append-nil, at_drop_all, at_drop_more, drop-drop, drop-set-lt, get_or-drop, with_items_is, take_all, take_more_set}
use Rattle.std.specs.Vec.{with_items}
use Rattle.model.proofs.Runs.{steady_of}
use Rattle.model.specs.declared.calls.Reply.{Reply}
use Rattle.model.specs.declared.calls.Call.{Call}
use Rattle.model.specs.declared.calls.IplRefusal.{IplRefusal}
use Rattle.model.specs.declared.calls.Refusal.{Refusal}
use Rattle.model.specs.Ipl.{ipl}
use Rattle.model.specs.Law.{handed}
use Rattle.model.specs.Steps.{worked}
use Rattle.model.specs.World.{Config, GoodParts, LawfulParts, Parts, World}
use Rattle.runs.specs.declared.handed.Handed.{Handed}
use Rattle.runs.specs.Disturbed.{Moved, Steadily, disturbed_answers, disturbed_last, disturbed_storages, handing, storages_of}

-- The storages of a list that is made longer by one.
storages_push : (hs : List Handed) (h : Handed) → storages_of (hs ++ (h ∷ [])) ≡ storages_of hs ++ (vec_items h.storage ∷ [])
storages_push [] h = refl
storages_push (x ∷ hs) h = ap (λ l. vec_items x.storage ∷ l) (storages_push hs h)

module _ {T P S : Type 0} (r : Parts T P S) where
  -- what is done and what is left make the whole
  pub record Left (left all : List (List ℕ × Call)) (at before : World T P S) (done old : List (Result Reply Refusal)) (finished : List (List ℕ)) : Type 0 where
    pub answers : done ++ disturbed_answers r left at ≡ old ++ disturbed_answers r all before
    pub storages : finished ++ disturbed_storages r left at ≡ disturbed_storages r all before
    pub last : (s : List ℕ) → handed r s (disturbed_last r left at) ≡ handed r s (disturbed_last r all before)

  -- the storage of the world does not count, since each call is handed its own
  answers_any : (hs : List (List ℕ × Call)) (w : World T P S) → disturbed_answers r hs w ≡ disturbed_answers r hs (handed r [] w)
  answers_any [] w = refl
  answers_any (h ∷ hs) w = refl

  storages_any : (hs : List (List ℕ × Call)) (w : World T P S) → disturbed_storages r hs w ≡ disturbed_storages r hs (handed r [] w)
  storages_any [] w = refl
  storages_any (h ∷ hs) w = refl

  last_any : (hs : List (List ℕ × Call)) (w : World T P S) (s : List ℕ) → handed r s (disturbed_last r hs w) ≡ handed r s (disturbed_last r hs (handed r [] w))
  last_any [] w s = refl
  last_any (h ∷ hs) w s = refl

  module _ (hs : List Handed) (i : ℕ) (d : Handed) (h : i < length hs) (at next before : World T P S) (a : Result Reply Refusal)
      (step : (a, next) ≡ worked r (get_or hs i d).call (handed r (vec_items (get_or hs i d).storage) at)) where
    abbrev rest : List (List ℕ × Call)
    rest = handing (drop (i + 1) hs)

    pub one_more : (done done' old : List (Result Reply Refusal)) (finished finished' : List (List ℕ)) (all : List (List ℕ × Call))
        → done' ≡ done ++ (a ∷ []) → finished' ≡ finished ++ (next.storage ∷ [])
        → Left (handing (drop i hs)) all at before done old finished → Left rest all (handed r [] next) before done' old finished'
    one_more done done' old finished finished' all grown more k =
        let one : disturbed_answers r (handing (drop i hs)) at ≡ a ∷ disturbed_answers r rest (handed r [] next) =
        at_drop_more (λ l. disturbed_answers r (handing l) at) hs i d h
        ∙ ap (λ (q : Result Reply Refusal × World T P S). q.0 ∷ disturbed_answers r rest q.1) (sym step) ∙ ap (λ l. a ∷ l) (answers_any rest next) in
        let two : disturbed_storages r (handing (drop i hs)) at ≡ next.storage ∷ disturbed_storages r rest (handed r [] next) =
        at_drop_more (λ l. disturbed_storages r (handing l) at) hs i d h
        ∙ ap (λ (q : Result Reply Refusal × World T P S). q.1.storage ∷ disturbed_storages r rest q.1) (sym step) ∙ ap (λ l. next.storage ∷ l) (storages_any rest next) in
        record {
          answers = ap (λ l. l ++ disturbed_answers r rest (handed r [] next)) grown ∙ append_assoc done (a ∷ []) (disturbed_answers r rest (handed r [] next)) ∙ ap (λ l. done ++ l) (sym one) ∙ k.answers;
          storages = ap (λ l. l ++ disturbed_storages r rest (handed r [] next)) more ∙ append_assoc finished (next.storage ∷ []) (disturbed_storages r rest (handed r [] next)) ∙ ap (λ l. finished ++ l) (sym two) ∙ k.storages;
          last = λ s.
              sym (last_any rest next s) ∙ ap (λ (q : Result Reply Refusal × World T P S). handed r s (disturbed_last r rest q.1)) step
              ∙ sym (at_drop_more (λ l. handed r s (disturbed_last r (handing l) at)) hs i d h) ∙ k.last s;
        }

  pub all_done : (hs now' : List Handed) (i : ℕ) (at before : World T P S) (done old : List (Result Reply Refusal)) → length hs ≤ i → length now' ≤ i
      → Left (handing (drop i hs)) (handing hs) at before done old (storages_of (take i now'))
      → Moved r (handing hs) before (λ s. handed r s at) old done (storages_of now')
  all_done hs now' i at before done old h l k = record {
    answers = sym (append-nil done) ∙ ap (λ x. done ++ x) (sym (at_drop_all (λ x. disturbed_answers r (handing x) at) hs i h)) ∙ k.answers;
    storages =
        ap storages_of (sym (take_all i now' l)) ∙ sym (append-nil (storages_of (take i now')))
        ∙ ap (λ x. storages_of (take i now') ++ x) (sym (at_drop_all (λ x. disturbed_storages r (handing x) at) hs i h)) ∙ k.storages;
    last = λ s. sym (at_drop_all (λ x. handed r s (disturbed_last r (handing x) at)) hs i h) ∙ k.last s;
  }

  pub steadily : LawfulParts r → (c : Config) (hs : List (List ℕ × Call)) (w w₁ : World T P S) → GoodParts r w.translator w.policy w.store
      → (after : List ℕ → World T P S) (old new : List (Result Reply Refusal)) (left : List (List ℕ)) → (Ok tt, w₁) ≡ ipl r c w → old ≡ []
      → Moved r hs (handed r [] w₁) after old new left → Steadily r c hs w after new left
  steadily law c hs w w₁ good after old new left e none m =
      let start : (ipl r c w).0 ≡ Ok tt = sym (ap (λ (q : Result (Unit {0}) IplRefusal × World T P S). q.0) e) in
      let from : w₁ ≡ (ipl r c w).1 = ap (λ (q : Result (Unit {0}) IplRefusal × World T P S). q.1) e in
      let moved : Moved r hs w₁ after [] new left = record {
        answers = m.answers ∙ ap (λ l. l ++ disturbed_answers r hs (handed r [] w₁)) none ∙ sym (answers_any hs w₁);
        storages = m.storages ∙ sym (storages_any hs w₁);
        last = λ s. m.last s ∙ sym (last_any hs w₁ s);
      } in
      record {
        started = start;
        moved = subst (λ x. Moved r hs x after [] new left) from moved;
        steady = steady_of r law c w good start hs;
      }

-- The list with one element replaced: what is behind it is as it was, and what is done is longer by one.
module _ (now' hs : List Handed) (i : ℕ) (d : Handed) (s : List ℕ) (h : i < length now') (same : drop i now' ≡ drop i hs) where
  abbrev pub new : Handed
  new = record { storage = with_items (get_or now' i d).storage s; call = (get_or now' i d).call }

  pub here : get_or now' i d ≡ get_or hs i d
  here =
      let at : (l : List Handed) → get_or (drop i l) 0 d ≡ get_or l i d = λ l. get_or-drop i l 0 d ∙ ap (λ n. get_or l n d) (let e : i + 0 ≡ i = omega arith in e) in
      sym (at now') ∙ ap (λ l. get_or l 0 d) same ∙ at hs

  pub behind : drop (i + 1) (set now' i new) ≡ drop (i + 1) hs
  behind =
      let tail : (l : List Handed) → drop (i + 1) l ≡ drop 1 (drop i l) = λ l. sym (drop-drop 1 i l) in
      drop-set-lt (i + 1) now' i new (omega arith) ∙ tail now' ∙ ap (drop 1) same ∙ sym (tail hs)

  pub longer : length s ≡ (get_or now' i d).storage.len → storages_of (take (i + 1) (set now' i new)) ≡ storages_of (take i now') ++ (s ∷ [])
  longer e =
      ap storages_of (take_more_set now' i new h) ∙ storages_push (take i now') new
      ∙ ap (λ x. storages_of (take i now') ++ (x ∷ [])) (with_items_is (get_or now' i d).storage s e)
