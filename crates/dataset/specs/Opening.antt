-- What opening an area finds, test by test, and what is known of an area that it accepts.
use Rattle.std.specs.Prelude.{◌≡◌, ℕ, zero, suc, ◌+◌, ◌*◌, ◌<◌, ◌≤◌, Bool, true, false, cond, ◌&&◌, leb, List, length, take, drop, Some, None, Ok, Err, is_ok, ◌==◌, ◌≢◌, nat_le, nat_lt, refl}
use Rattle.std.specs.List.{list_all}
use Rattle.std.proofs.Common.{sym, ap, ◌∙◌, inl, inr, arith, add-one, length-drop, get_or-drop}
use Rattle.std.proofs.lemmas.Bool.{cases_lt, cases_Bool, both_ways, lt-ltb, ltb-true, le-leb, lt-leb, leb-true, eq-eqb, ne_eqb}
use Rattle.std.proofs.lemmas.Bool.Decides.{nat_tests}
use Rattle.std.proofs.lemmas.List.Folds.{list_all_more}
use Rattle.storage.specs.Bytes.{word, word_at}
use Rattle.dataset.specs.declared.refusal.OpenRefusal.TheVariants.{TooShort, OtherPageSize, TooManySlots, OtherLength, UnknownMark}
use Rattle.dataset.specs.Format.{mark_of, marks_known, opened}
use Rattle.dataset.specs.Marks.{mark_from}

-- Marks one by one.
pub known_none : (b : List ℕ) → marks_known b 0 ≡ true
unfolding marks_known
known_none b = refl

known_step : (b : List ℕ) (n : ℕ) → marks_known b (suc n) ≡ cond (nat_lt (mark_of b n) 3) (marks_known b n) false
unfolding marks_known
known_step b n = refl

pub known_more : (b : List ℕ) (n : ℕ) → marks_known b n ≡ true → mark_of b n < 3 → marks_known b (n + 1) ≡ true
known_more b n h l = ap (marks_known b) (add-one n) ∙ known_step b n ∙ ap (λ t. cond t (marks_known b n) false) (lt-ltb (mark_of b n) 3 l) ∙ h

both_true : (x y : Bool) → cond x y false ≡ true → (x ≡ true) × (y ≡ true)
both_true true y h = (refl, h)
both_true false y h = absurd (both_ways false refl h)

pub known_at : (b : List ℕ) (n k : ℕ) → marks_known b n ≡ true → k < n → mark_of b k < 3
known_at b zero k h l = absurd (omega arith)
known_at b (suc n) k h l =
    let t = both_true (nat_lt (mark_of b n) 3) (marks_known b n) (sym (known_step b n) ∙ h) in
    elim (cases_lt k n) [
      | inl q ↦ known_at b n k t.1 q
      | inr q ↦ let e : k ≡ n = omega arith in let g = ltb-true (mark_of b n) 3 t.0 in rw e g
    ]

pub known_from : (b : List ℕ) (n : ℕ) → ((k : ℕ) → k < n → mark_of b k < 3) → marks_known b n ≡ true
known_from b zero h = known_none b
known_from b (suc n) h = known_step b n ∙ ap (λ t. cond t (marks_known b n) false) (lt-ltb (mark_of b n) 3 (h n (omega arith))) ∙ known_from b n (λ k l. h k (omega arith))

pub unknown : (b : List ℕ) (n k : ℕ) → k < n → 3 ≤ mark_of b k → marks_known b n ≡ false
unknown b n k l h =
    elim (cases_Bool (marks_known b n)) [ inl t ↦ absurd (let g = known_at b n k t l in omega arith) | inr t ↦ t ]

-- The numbers that tell a mark.
is_mark : (m : ℕ) → is_ok (mark_from m) ≡ nat_lt m 3
is_mark zero = refl
is_mark (suc zero) = refl
is_mark (suc (suc zero)) = refl
is_mark (suc (suc (suc m))) = grind (arith, nat_tests)

and_turned : (x y : Bool) → cond x y false ≡ (y && x)
and_turned true true = refl
and_turned true false = refl
and_turned false true = refl
and_turned false false = refl

-- The marks of the first n slots all tell one.
pub known_list : (b : List ℕ) (n : ℕ) → 8 + n ≤ length b → marks_known b n ≡ list_all (λ m. is_ok (mark_from m)) (take n (drop 8 b))
known_list b zero h = known_none b
known_list b (suc n) h =
    let at : n < length (drop 8 b) = simp length-drop (omega arith) in
    let more = list_all_more (λ m. is_ok (mark_from m)) (drop 8 b) n 0 at in
    let there = get_or-drop 8 b n 0 in
    let here = is_mark (mark_of b n) in
    let step = known_step b n in
    let turned = and_turned (nat_lt (mark_of b n) 3) (marks_known b n) in
    let rest = known_list b n (omega arith) in
    let one = add-one n in
    cc

-- A number that was read, or not, says where the area ends.
some_picked : (t : Bool) (x y : ℕ) → Some x ≡ cond t (Some y) None → (t ≡ true) × (x ≡ y)
some_picked true x y e = (refl, cc)
some_picked false x y e = absurd (let z : ◌≡◌ {A = ℕ} 0 1 = cc in omega arith)

none_picked : (t : Bool) (y : ℕ) → None ≡ cond t (Some y) None → t ≡ false
none_picked true y e = absurd (let z : ◌≡◌ {A = ℕ} 0 1 = cc in omega arith)
none_picked false y e = refl

found : (b : List ℕ) (at x : ℕ) → Some x ≡ word_at b at → (at + 4 ≤ length b) × (x ≡ word b at)
found b at x e = let t = some_picked (nat_le (at + 4) (length b)) x (word b at) e in (leb-true (at + 4) (length b) t.0, t.1)

missing : (b : List ℕ) (at : ℕ) → None ≡ word_at b at → length b < at + 4
missing b at e =
    elim (cases_lt (length b) (at + 4)) [
      | inl l ↦ l
      | inr l ↦ absurd (both_ways (nat_le (at + 4) (length b)) (none_picked (nat_le (at + 4) (length b)) (word b at) e) (le-leb (at + 4) (length b) l))
    ]

-- The tests of opening in their order, on what the code has read.
pub short : (b : List ℕ) → None ≡ word_at b 4 → Err TooShort ≡ opened b
unfolding opened
short b e = sym (rw (lt-leb 8 (length b) (missing b 4 e)))

pub shorter : (b : List ℕ) → None ≡ word_at b 0 → Err TooShort ≡ opened b
unfolding opened
shorter b e = sym (rw (lt-leb 8 (length b) (let l = missing b 0 e in omega arith)))

module _ (b : List ℕ) (size slots : ℕ) (read-size : Some size ≡ word_at b 4) (read-slots : Some slots ≡ word_at b 0) where
  there : leb 8 (length b) ≡ true
  there = le-leb 8 (length b) (found b 4 size read-size).0

  size_is : size ≡ word b 4
  size_is = (found b 4 size read-size).1

  slots_is : slots ≡ word b 0
  slots_is = (found b 0 slots read-slots).1

  pub other_size : (size ≢ 2048) → Err OtherPageSize ≡ opened b
  unfolding opened
  other_size h = sym (rw (there, ne_eqb (word b 4) 2048 (λ q. h (size_is ∙ q))))

  right_size : size ≡ 2048 → (word b 4 == 2048) ≡ true
  right_size h = eq-eqb (word b 4) 2048 (sym size_is ∙ h)

  pub too_many : size ≡ 2048 → 8192 < slots → Err TooManySlots ≡ opened b
  unfolding opened
  too_many h n = sym (rw (there, right_size h, lt-leb (word b 0) 8192 (let e = slots_is in omega arith)))

  few_enough : slots ≤ 8192 → nat_le (word b 0) 8192 ≡ true
  few_enough n = le-leb (word b 0) 8192 (let e = slots_is in omega arith)

  pub other_length : size ≡ 2048 → slots ≤ 8192 → (length b ≢ 8 + slots + 2048 * slots) → Err OtherLength ≡ opened b
  unfolding opened
  other_length h n l =
      sym (rw (there, right_size h, few_enough n, ne_eqb (length b) (8 + word b 0 + 2048 * word b 0) (λ q. l (let e = slots_is in omega arith))))

  -- What the last test decides.
  by_marks : size ≡ 2048 → slots ≤ 8192 → length b ≡ 8 + slots + 2048 * slots
      → opened b ≡ cond (marks_known b (word b 0)) (Ok (word b 0)) (Err UnknownMark)
  unfolding opened
  by_marks h n l =
      rw (there, right_size h, few_enough n, eq-eqb (length b) (8 + word b 0 + 2048 * word b 0) (let e = slots_is in omega arith))

  pub last_test : size ≡ 2048 → slots ≤ 8192 → length b ≡ 8 + slots + 2048 * slots
      → (t : Bool) → t ≡ marks_known b slots → cond t (Ok slots) (Err UnknownMark) ≡ opened b
  last_test h n l t m =
      sym (by_marks h n l ∙ ap (λ w. cond (marks_known b w) (Ok w) (Err UnknownMark)) (sym slots_is)
      ∙ ap (λ x. cond x (Ok slots) (Err UnknownMark)) (sym m))
