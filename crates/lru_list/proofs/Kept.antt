-- What the calls of the recency list leave of the frames held.
use Rattle.std.proofs.Common.{◌≡◌, ℕ, ◌-◌, ◌<◌, true, false, eqb, ltb, List, [], ◌∷◌, ◌++◌, length, get_or, take, drop, Some, None, Option, sym, ap, ◌∙◌, arith, length-append}
use Rattle.std.proofs.lemmas.List.{drop_more}
use Rattle.std.proofs.lemmas.Bool.{eq-eqb, ne_eqb, lt-ltb, and_from, and_right, cond-true, cond-false}
use Rattle.std.specs.List.{remove}
use Rattle.std.specs.Option.{is_some}
use Rattle.recency.specs.Places.{place_of, at_end, put_last}
use Rattle.recency.proofs.Look.{found}
use Rattle.recency.proofs.Count.{count_nowhere, count_found}
use Rattle.recency.proofs.Turn.{put_room}
use Rattle.frames.specs.Held.{times_in, without, Once}
use Rattle.frames.specs.Policy.{free, holds}
use Rattle.frames.proofs.Held.{without_removed, without_none, once_length}
use Rattle.lru_list.specs.Rules.{entered, touched, lru_rules}
use Rattle.lru_list.specs.Laws.{once_entered, once_rest}

-- the frame f is found at place i of a list that has each frame once
module _ (xs : List ℕ) (f i : ℕ) (o : Once xs) (at : place_of (λ x. x) f xs 0 ≡ Some i) where
  within : i < length xs
  within = let w = (found (λ x. x) f xs 0 i 0 at).within in omega arith

  is_f : get_or xs i 0 ≡ f
  is_f = ap (λ k. get_or xs k 0) (let z : i ≡ i - 0 = omega arith in z) ∙ (found (λ x. x) f xs 0 i 0 at).keyed_so

  single : times_in f xs ≡ 1
  single = let s = count_found (λ x. x) f xs 0 i at in omega (arith, (o f).0)

  pub found_held : true ≡ holds lru_rules xs f
  found_held = sym (eq-eqb _ _ single)

  pub found_taken : false ≡ free lru_rules xs f
  found_taken = sym (and_right (ltb f 256) (eqb (times_in f xs) 0) (ne_eqb _ _ (λ z. omega (arith, single))))

  pub found_removed : remove xs i ≡ without f xs
  found_removed = sym (without_removed f xs i within is_f (o f).0)

  pub found_moved : at_end xs i ≡ touched xs f
  found_moved =
      let last : take 1 (drop i xs) ≡ f ∷ [] = ap (take 1) (drop_more xs i 0 within) ∙ ap (λ k. k ∷ []) is_f in
      ap (λ l. l ++ take 1 (drop i xs)) found_removed ∙ ap (λ l. without f xs ++ l) last
      ∙ sym (cond-true (eqb (times_in f xs) 1) (without f xs ++ (f ∷ [])) xs (eq-eqb _ _ single))

-- the frame f is found nowhere
module _ (xs : List ℕ) (f : ℕ) (at : place_of (λ x. x) f xs 0 ≡ None) where
  nowhere_none : times_in f xs ≡ 0
  nowhere_none = count_nowhere (λ x. x) f xs 0 at

  pub nowhere_held : false ≡ holds lru_rules xs f
  nowhere_held = sym (ne_eqb _ _ (λ e. omega (arith, nowhere_none)))

  pub nowhere_free : f < 256 → true ≡ free lru_rules xs f
  nowhere_free h = sym (and_from (ltb f 256) (eqb (times_in f xs) 0) (lt-ltb f 256 h) (eq-eqb _ _ nowhere_none))

  pub nowhere_left : xs ≡ without f xs
  nowhere_left = sym (without_none f xs nowhere_none)

  pub nowhere_touched : xs ≡ touched xs f
  nowhere_touched = sym (cond-false (eqb (times_in f xs) 1) (without f xs ++ (f ∷ [])) xs (sym nowhere_held))

-- a frame that cannot be entered leaves the list as it is
pub refused : (xs : List ℕ) (f : ℕ) → false ≡ free lru_rules xs f → xs ≡ entered xs f
refused xs f e = sym (cond-false (free lru_rules xs f) (xs ++ (f ∷ [])) xs (sym e))

-- a new frame has room, and stands last
module _ (xs : List ℕ) (f : ℕ) (o : Once xs) (yes : true ≡ free lru_rules xs f) where
  stands_last : entered xs f ≡ xs ++ (f ∷ [])
  stands_last = cond-true (free lru_rules xs f) (xs ++ (f ∷ [])) xs (sym yes)

  has_room : length xs < 256
  has_room =
      let l = once_length (entered xs f) (once_entered xs f o) in
      omega (arith, ap length stands_last, length-append xs (f ∷ []))

  put_entered : put_last 256 xs f ≡ entered xs f
  put_entered = put_room 256 xs f has_room ∙ sym stands_last

pub put_new : (xs new : List ℕ) (f n : ℕ) → Once xs → true ≡ free lru_rules xs f → n ≡ f → new ≡ put_last 256 xs n → new ≡ entered xs f
put_new xs new f n o t same is = is ∙ ap (put_last 256 xs) same ∙ put_entered xs f o t

-- a frame above 255, or one that is held, cannot be entered; any other can
pub some_taken : (xs : List ℕ) (f : ℕ) (p : Option ℕ) → Once xs → p ≡ place_of (λ x. x) f xs 0 → true ≡ is_some p → false ≡ free lru_rules xs f
some_taken xs f (Some i) o e t = found_taken xs f i o (sym e)
some_taken xs f None o e t = cc

pub none_free : (xs : List ℕ) (f : ℕ) (p : Option ℕ) → f < 256 → p ≡ place_of (λ x. x) f xs 0 → false ≡ is_some p → true ≡ free lru_rules xs f
none_free xs f (Some i) h e t = cc
none_free xs f None h e t = nowhere_free xs f (sym e) h

-- without the first frame
pub once_dropped : (xs : List ℕ) → Once xs → Once (drop 1 xs)
once_dropped [] o = o
once_dropped (f ∷ xs) o = once_rest f xs o
