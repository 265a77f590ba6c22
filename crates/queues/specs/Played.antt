-- The policy's calls, over the five queues.
use Rattle.std.specs.Prelude.{◌≡◌, ℕ, suc, ◌-◌, ◌*◌, ◌<◌, true, false, cond, ◌&&◌, List, length, Some, None, ◌==◌, nat_lt, slice_index_or}
use Rattle.std.proofs.Common.{sym, ap, ◌∙◌, arith, inl, inr}
use Rattle.std.proofs.lemmas.List.{get_or_past}
use Rattle.std.proofs.lemmas.Bool.{cases_lt, lt-ltb, le-ltb, and_left, ltb-false, ltb-true, ne_eqb, cond-false}
use Rattle.frames.specs.Policy.{Took, holds}
use Rattle.queues.specs.Five.{Five, times_held, size, dropped, free_in, step, steps, taken, Good, five_rules}
use Rattle.queues.specs.Links.{list_of, Placed}
use Rattle.queues.specs.Names.{named}
use Rattle.queues.specs.Weight.{weight, weight_six, size_weight, step_less, none_steps, step_first, step_on, settle}
use Rattle.queues.specs.Operations.{held_none, held_once, dropped_none}

-- a value of the type holds each frame at most once
pub good_of : (next place : List ℕ) (first : ℕ) → length place ≡ 256 → first < 5 → Placed next place → Good (named (list_of next) first)
good_of next place first long first< placed f = elim (cases_lt (slice_index_or place f 5) 5) [
  | inl h ↦ (let t = held_once next place first f first< placed h in (omega arith, λ big. absurd (omega (arith, get_or_past place f 5 (omega arith)))))
  | inr h ↦ (let t = held_none next place first f first< placed h in (omega arith, λ big. t))
]

-- a number above 255
pub big_free : (m : Five) (f : ℕ) → 255 < f → false ≡ free_in m f
big_free m f h = sym (and_left (nat_lt f 256) (times_held m f == 0) (le-ltb f 256 (omega arith)))

pub refused : (m x : Five) (f : ℕ) → false ≡ free_in m f → m ≡ cond (free_in m f) x m
refused m x f e = sym (cond-false (free_in m f) x m (sym e))

-- and one up to 255
pub small_free : (m : Five) (f : ℕ) → f < 256 → (times_held m f == 0) ≡ free_in m f
small_free m f h = ap (λ b. b && times_held m f == 0) (sym (lt-ltb f 256 h))

-- a frame up to 255 that is linked in where it is not held is entered
pub linked_entered : (m x m' : Five) (f : ℕ) → f < 256 → m' ≡ cond (times_held m f == 0) x m → m' ≡ cond (free_in m f) x m
linked_entered m x m' f h e = e ∙ ap (λ b. cond b x m) (small_free m f h)

module _ (m : Five) (f : ℕ) (good : Good m) (h : 255 < f) where
  pub big_held : false ≡ holds five_rules m f
  big_held = sym (ne_eqb _ _ (λ e. let z = (good f).1 (omega arith) in omega arith))

  pub big_left : m ≡ dropped m f
  big_left = dropped_none m f ((good f).1 (omega arith))

-- what is left of Take
abbrev pub rest : Five → List ℕ → Took Five
rest m keys = steps (weight m keys) m keys

pub rest_start : (m : Five) (keys : List ℕ) → rest m keys ≡ taken m keys
rest_start m keys = settle (weight m keys) (6 * size m) m keys (omega arith) (weight_six m keys)

pub rest_on : (m : Five) (keys : List ℕ) → 0 < size m → (step m keys).frame ≡ None → rest (step m keys).left (step m keys).keys ≡ rest m keys
rest_on m keys h e =
    let l = step_less m keys h e in
    let w : weight m keys ≡ suc (weight m keys - 1) = omega arith in
    settle (weight (step m keys).left (step m keys).keys) (weight m keys - 1) (step m keys).left (step m keys).keys (omega arith) (omega arith)
    ∙ sym (step_on (weight m keys - 1) m keys e) ∙ ap (λ n. steps n m keys) (sym w)

pub rest_taken : (m : Five) (keys : List ℕ) (f : ℕ) → 0 < size m → (step m keys).frame ≡ Some f → step m keys ≡ rest m keys
rest_taken m keys f h e =
    let s = size_weight m keys in
    let w : weight m keys ≡ suc (weight m keys - 1) = omega arith in
    sym (step_first (weight m keys - 1) m keys f e) ∙ ap (λ n. steps n m keys) (sym w)

pub rest_none : (m : Five) (keys : List ℕ) → size m ≡ 0 → record { frame = None; keys = keys; left = m } ≡ rest m keys
rest_none m keys z = sym (none_steps (weight m keys) m keys z)

-- the loop of Take, from m₀ and k₀, at m and k
module _ (m₀ m m' : Five) (k₀ k k' : List ℕ) (inv : rest m k ≡ rest m₀ k₀) where
  all : rest m k ≡ taken m₀ k₀
  all = inv ∙ rest_start m₀ k₀

  module _ (some : true ≡ nat_lt 0 (size m)) (keys : k' ≡ (step m k).keys) (after : m' ≡ (step m k).left) where
    pub loop_taken : (f : ℕ) → Some f ≡ (step m k).frame → (Some f ≡ (taken m₀ k₀).frame) × (k' ≡ (taken m₀ k₀).keys) × (m' ≡ (taken m₀ k₀).left)
    loop_taken f e =
        let t = rest_taken m k f (ltb-true 0 (size m) (sym some)) (sym e) ∙ all in
        (e ∙ ap (λ (t : Took Five). t.frame) t, keys ∙ ap (λ (t : Took Five). t.keys) t, after ∙ ap (λ (t : Took Five). t.left) t)

    pub loop_less : None ≡ (step m k).frame → weight m' k' < weight m k
    loop_less e =
        let l = step_less m k (ltb-true 0 (size m) (sym some)) (sym e) in
        let w : weight m' k' ≡ weight (step m k).left (step m k).keys = ap (λ x. weight x k') after ∙ ap (weight (step m k).left) keys in
        omega arith

    pub loop_again : None ≡ (step m k).frame → rest m' k' ≡ rest m₀ k₀
    loop_again e =
        ap (λ x. rest x k') after ∙ ap (rest (step m k).left) keys ∙ rest_on m k (ltb-true 0 (size m) (sym some)) (sym e) ∙ inv

  pub loop_none : false ≡ nat_lt 0 (size m) → (None ≡ (taken m₀ k₀).frame) × (k ≡ (taken m₀ k₀).keys) × (m ≡ (taken m₀ k₀).left)
  loop_none none =
      let t = rest_none m k (let z = ltb-false 0 (size m) (sym none) in omega arith) ∙ all in
      (ap (λ (t : Took Five). t.frame) t, ap (λ (t : Took Five). t.keys) t, ap (λ (t : Took Five). t.left) t)
