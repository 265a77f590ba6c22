-- The calls of the linked queues, step by step.
use Rattle.std.proofs.Common.{◌≡◌, ℕ, ◌+◌, ◌%◌, ◌<◌, true, false, cond, eqb, List, [], ◌∷◌, ◌++◌, length, map, Some, None, Option, Ok, Err, Result, nat_lt, ◌||◌, is_none, is_some, IfSome, get_or, set, replicate, sym, refl, ap, ◌∙◌, subst, inl, inr, arith}
use Rattle.std.proofs.Math.ListN.{get_or-map}
use Rattle.std.proofs.lemmas.List.{map-set, length-map, length-set, get_or-set_same, get_or-set_other}
use Rattle.std.proofs.lemmas.Bool.{eq-eqb, ne_eqb, cond-true, cond-false, true≢false, cases_eq, lt-ltb, le-ltb}
use Rattle.std.specs.List.{list_any}
use Rattle.std.specs.Result.{OkIff, result_ok}
use Rattle.queues.specs.declared.queue.Queue.{Queue}
use Rattle.queues.specs.declared.queue.Queue.TheVariants.{Q00, Q01, Q10, Q11, Hq}
use Rattle.queues.specs.Five.{Five, empty, size, times_held, dropped, on}
use Rattle.queues.specs.Links.{list_of, number_in, Placed, Forward, Backward, IsLinked}
use Rattle.queues.specs.Names.{number_of, frames_of, head_of, named}
use Rattle.queues.specs.Operations.{Kept, link_keeps, link_list, unlink_keeps, unlink_list, named_on, named_dropped, fresh, nowhere, fresh_keeps, fresh_named, held_none, held_once, dropped_none}
use Rattle.queues.specs.Lawful.{dropped_same}

-- the number of a frame that stands in a queue, and of one that stands in none
in_queue : (o : Option ℕ) → is_none o ≡ false → IfSome o (λ q. q < 5) → number_in o < 5
in_queue None h five = absurd (true≢false h)
in_queue (Some q) h five = five

in_none : (o : Option ℕ) → is_none o ≡ true → number_in o ≡ 5
in_none None h = refl
in_none (Some q) h = absurd (true≢false (sym h))

-- the links of a value, with the queues that they make
module _ (next prev : List ℕ) (place : List (Option ℕ)) (first f : ℕ) (m : Five) (linked : IsLinked next prev place first) (is : named (list_of next) first ≡ m) (f< : f < 256) where
  abbrev numbers : List ℕ
  numbers = map number_in place

  kept : Kept next prev numbers
  kept = (linked.placed, linked.forward, linked.backward)

  numbers_long : length numbers ≡ 256
  numbers_long = length-map place number_in ∙ linked.long

  number_at : get_or numbers f 5 ≡ number_in (get_or place f None)
  number_at = get_or-map number_in place f None

  -- other links, and another place of the frame
  linked_again : (o : Option ℕ) (n p n' p' : List ℕ) → IfSome o (λ q. q < 5) → length n ≡ 261 → length p ≡ 261 → n' ≡ n → p' ≡ p
      → Kept n p (set numbers f (number_in o)) → IsLinked n' p' (set place f o) first
  linked_again o n p n' p' five n-long p-long a b k =
      let at : map number_in (set place f o) ≡ set numbers f (number_in o) = map-set number_in place f o in
      record {
        next_long = ap length a ∙ n-long;
        prev_long = ap length b ∙ p-long;
        long = length-set place f o ∙ linked.long;
        named = linked.named;
        of_five = λ g. elim (cases_eq g f) [
          | inl e ↦ subst (λ x. IfSome x (λ q. q < 5))
              (sym (ap (λ k. get_or (set place f o) k None) e ∙ get_or-set_same place f o None (let l = linked.long in omega arith))) five
          | inr ne ↦ subst (λ x. IfSome x (λ q. q < 5)) (sym (get_or-set_other place f g o None ne)) (linked.of_five g)
        ];
        placed = subst (λ x. Placed x (map number_in (set place f o))) (sym a) (subst (Placed n) (sym at) k.0);
        forward = subst Forward (sym a) k.1;
        backward = subst (λ x. Backward x p') (sym a) (subst (Backward n) (sym b) k.2);
      }

  -- a frame that stands in a queue
  module _ (held : is_none (get_or place f None) ≡ false) where
    below : get_or numbers f 5 < 5
    below = let b = in_queue (get_or place f None) held (linked.of_five f) in let n = number_at in omega arith

    held_is : times_held m f ≡ 1
    held_is = ap (λ x. times_held x f) (sym is) ∙ held_once next numbers first f linked.named linked.placed below

    pub held_yes : true ≡ eqb (times_held m f) 1
    held_yes = sym (eq-eqb _ _ held_is)

    pub held_taken : false ≡ eqb (times_held m f) 0
    held_taken = sym (ne_eqb _ _ (λ e. let h = held_is in omega arith))

    pub held_same : (x : Five) → m ≡ cond (eqb (times_held m f) 0) x m
    held_same x = sym (cond-false (eqb (times_held m f) 0) x m (sym held_taken))

    -- taken out
    module _ (next' prev' : List ℕ) (n : next' ≡ set next (get_or prev f 0) (get_or next f 0)) (p : prev' ≡ set prev (get_or next f 0) (get_or prev f 0)) where
      pub out_linked : IsLinked next' prev' (set place f None) first
      out_linked =
          linked_again None (set next (get_or prev f 0) (get_or next f 0)) (set prev (get_or next f 0) (get_or prev f 0)) next' prev' tt
          (length-set next _ _ ∙ linked.next_long) (length-set prev _ _ ∙ linked.prev_long) n p
          (unlink_keeps next prev numbers f kept linked.next_long linked.prev_long numbers_long below)

      pub out_is : named (list_of next') first ≡ dropped m f
      out_is = ap (λ l. named (list_of l) first) n
          ∙ named_dropped (list_of next) (list_of (set next (get_or prev f 0) (get_or next f 0))) first f (unlink_list next prev numbers f kept linked.next_long linked.prev_long numbers_long below)
          ∙ ap (λ x. dropped x f) is

  -- and one that stands in none
  module _ (free : is_none (get_or place f None) ≡ true) where
    outside : get_or numbers f 5 ≡ 5
    outside = number_at ∙ in_none (get_or place f None) free

    free_is : times_held m f ≡ 0
    free_is = ap (λ x. times_held x f) (sym is) ∙ held_none next numbers first f linked.named linked.placed (let o = outside in omega arith)

    pub free_yes : true ≡ eqb (times_held m f) 0
    free_yes = sym (eq-eqb _ _ free_is)

    pub free_unheld : false ≡ eqb (times_held m f) 1
    free_unheld = sym (ne_eqb _ _ (λ e. let z = free_is in omega arith))

    pub free_same : m ≡ dropped m f
    free_same = dropped_none m f free_is

    -- linked in
    module _ (queue : Queue) (number : ℕ) (next' prev' : List ℕ) (q : number ≡ (first + number_of queue) % 5)
        (n : next' ≡ set (set next (get_or prev (256 + number) 0) f) f (256 + number)) (p : prev' ≡ set (set prev f (get_or prev (256 + number) 0)) (256 + number) f) where
      number< : number < 5
      number< = omega arith

      pub in_linked : IsLinked next' prev' (set place f (Some number)) first
      in_linked =
          linked_again (Some number) (set (set next (get_or prev (256 + number) 0) f) f (256 + number)) (set (set prev f (get_or prev (256 + number) 0)) (256 + number) f) next' prev'
          number< (length-set _ _ _ ∙ length-set next _ _ ∙ linked.next_long) (length-set _ _ _ ∙ length-set prev _ _ ∙ linked.prev_long) n p
          (link_keeps next prev numbers number f kept linked.next_long linked.prev_long numbers_long number< f< (let o = outside in omega arith))

      pub in_is : named (list_of next') first ≡ cond (eqb (times_held m f) 0) (on queue m f) m
      in_is = ap (λ l. named (list_of l) first) n
          ∙ named_on (list_of next) (list_of (set (set next (get_or prev (256 + number) 0) f) f (256 + number))) first f linked.named queue
          (λ r r<. link_list next prev numbers number f kept linked.next_long linked.prev_long numbers_long number< f< (let o = outside in omega arith) r r<
          ∙ ap (λ k. cond (eqb r k) (list_of next r ++ (f ∷ [])) (list_of next r)) q)
          ∙ ap (λ x. on queue x f) is ∙ sym (cond-true (eqb (times_held m f) 0) (on queue m f) m (sym free_yes))

-- taken out, and linked in again
pub refiled : (m m₁ m₂ : Five) (queue : Queue) (f : ℕ) → m₁ ≡ dropped m f → m₂ ≡ cond (eqb (times_held m₁ f) 0) (on queue m₁ f) m₁ → m₂ ≡ on queue (dropped m f) f
refiled m m₁ m₂ queue f a b =
    b ∙ cond-true (eqb (times_held m₁ f) 0) (on queue m₁ f) m₁ (eq-eqb _ _ (ap (λ x. times_held x f) a ∙ dropped_same m f)) ∙ ap (λ x. on queue x f) a

-- the links of a fresh value, whose frames are in no queue
pub fresh_linked : (next prev : List ℕ) → next ≡ fresh → prev ≡ fresh → IsLinked next prev (replicate 256 None) 0
fresh_linked next prev a b =
    let k = fresh_keeps next prev (map number_in (replicate 256 None)) a b refl in
    record {
      next_long = ap length a;
      prev_long = ap length b;
      long = refl;
      named = omega arith;
      of_five = λ f. subst (λ x. IfSome x (λ q. q < 5)) (sym (nowhere {A = Option ℕ} 256 None f)) tt;
      placed = k.0;
      forward = k.1;
      backward = k.2;
    }

pub fresh_is : (next prev : List ℕ) → next ≡ fresh → prev ≡ fresh → named (list_of next) 0 ≡ empty
fresh_is next prev a b = fresh_named next prev (replicate 256 5) a b refl 0

-- a node that is a frame's, if it is one
pub frame_at : {E : Type 0} (r : Result ℕ E) (node : ℕ) → OkIff r (node < 256) node → result_ok r ≡ cond (nat_lt node 256) (Some node) None
frame_at (Ok x) node h = ap Some h.1 ∙ sym (cond-true (nat_lt node 256) (Some node) None (lt-ltb node 256 h.0))
frame_at (Err e) node h = sym (cond-false (nat_lt node 256) (Some node) None (le-ltb node 256 (omega arith)))

-- whether one of five lists has a head
any_head : (a b c d e : List ℕ)
    → (is_some (head_of a) || (is_some (head_of b) || (is_some (head_of c) || (is_some (head_of d) || (is_some (head_of e) || false)))))
    ≡ nat_lt 0 (length a + length b + length c + length d + length e)
any_head (f ∷ a) b c d e = sym (lt-ltb 0 _ (omega arith))
any_head [] (f ∷ b) c d e = sym (lt-ltb 0 _ (omega arith))
any_head [] [] (f ∷ c) d e = sym (lt-ltb 0 _ (omega arith))
any_head [] [] [] (f ∷ d) e = sym (lt-ltb 0 _ (omega arith))
any_head [] [] [] [] (f ∷ e) = sym (lt-ltb 0 _ (omega arith))
any_head [] [] [] [] [] = refl

pub any_held : (m : Five) → list_any (λ queue. is_some (head_of (frames_of m queue))) (Q00 ∷ (Q01 ∷ (Q10 ∷ (Q11 ∷ (Hq ∷ []))))) ≡ nat_lt 0 (size m)
any_held m = any_head m.q00 m.q01 m.q10 m.q11 m.hq
