-- The frames that the queues hold, told queue by queue, tell the five queues.
use Rattle.std.proofs.Common.{◌≡◌, ℕ, Bool, true, false, cond, eqb, List, [], ◌∷◌, ◌++◌, map, sym, refl, ap, ◌∙◌, arith}
use Rattle.std.proofs.lemmas.Bool.{eq-eqb, ne_eqb, cond-true, cond-false}
use Rattle.std.proofs.lemmas.List.{append-nil}
use Rattle.queues.specs.declared.queue.Queue.{Queue}
use Rattle.queues.specs.declared.queue.Queue.TheVariants.{Q00, Q01, Q10, Q11, Hq}
use Rattle.queues.specs.Five.{Five}
use Rattle.queues.specs.Names.{frames_of, number_of}
use Rattle.queues.specs.Weight.{five_same}
use Rattle.cases.specs.declared.table.Held.{Held}
use Rattle.cases.specs.Cases.{ToldApart, held_by, held_of}
use Rattle.cases.specs.Table.{on_queue}

-- the frames that are told of a queue
abbrev frames_in : Queue → List Held → List ℕ
frames_in q [] = []
frames_in q (h ∷ hs) = cond (eqb (number_of h.queue) (number_of q)) (h.frame ∷ frames_in q hs) (frames_in q hs)

either : (b : Bool) (x : ℕ) (xs ys all : List ℕ) → all ≡ xs ++ ys → cond b (x ∷ all) all ≡ cond b (x ∷ xs) xs ++ ys
either true x xs ys all e = ap (λ l. x ∷ l) e
either false x xs ys all e = e

in_append : (q : Queue) (hs ks : List Held) → frames_in q (hs ++ ks) ≡ frames_in q hs ++ frames_in q ks
in_append q [] ks = refl
in_append q (h ∷ hs) ks =
    either (eqb (number_of h.queue) (number_of q)) h.frame (frames_in q hs) (frames_in q ks) (frames_in q (hs ++ ks)) (in_append q hs ks)

-- of the queue itself, and of another one
in_own : (q : Queue) (fs : List ℕ) → frames_in q (map (λ f. on_queue q f) fs) ≡ fs
in_own q [] = refl
in_own q (f ∷ fs) =
    let rest = frames_in q (map (λ f. on_queue q f) fs) in
    cond-true (eqb (number_of q) (number_of q)) (f ∷ rest) rest (eq-eqb _ _ refl) ∙ ap (λ l. f ∷ l) (in_own q fs)

in_other : (q p : Queue) (fs : List ℕ) → (number_of p ≡ number_of q → ⊥) → frames_in q (map (λ f. on_queue p f) fs) ≡ []
in_other q p [] ne = refl
in_other q p (f ∷ fs) ne =
    let rest = frames_in q (map (λ f. on_queue p f) fs) in
    cond-false (eqb (number_of p) (number_of q)) (f ∷ rest) rest (ne_eqb _ _ ne) ∙ in_other q p fs ne

-- an empty list in front, and one behind
skip : (xs ys zs : List ℕ) → xs ≡ [] → ys ≡ zs → xs ++ ys ≡ zs
skip xs ys zs none e = ap (λ l. l ++ ys) none ∙ e

stop : (xs ys zs : List ℕ) → xs ≡ zs → ys ≡ [] → xs ++ ys ≡ zs
stop xs ys zs e none = ap (λ l. l ++ ys) e ∙ ap (λ l. zs ++ l) none ∙ append-nil zs

module _ (m : Five) (q : Queue) where
  abbrev part : Queue → List ℕ
  part p = frames_in q (held_by m p)

  parts : frames_in q (held_of m) ≡ part Q00 ++ part Q01 ++ part Q10 ++ part Q11 ++ part Hq
  parts = in_append q (held_by m Q00 ++ held_by m Q01 ++ held_by m Q10 ++ held_by m Q11) (held_by m Hq)
      ∙ ap (λ l. l ++ part Hq) (in_append q (held_by m Q00 ++ held_by m Q01 ++ held_by m Q10) (held_by m Q11)
      ∙ ap (λ l. l ++ part Q11) (in_append q (held_by m Q00 ++ held_by m Q01) (held_by m Q10)
      ∙ ap (λ l. l ++ part Q10) (in_append q (held_by m Q00) (held_by m Q01))))

  own : part q ≡ frames_of m q
  own = in_own q (frames_of m q)

  none : (p : Queue) → (number_of p ≡ number_of q → ⊥) → part p ≡ []
  none p ne = in_other q p (frames_of m p) ne

told : (m : Five) (q : Queue) → frames_in q (held_of m) ≡ frames_of m q
told m Q00 =
    let b = none m Q00 Q01 (λ e. omega arith) in
    let c = none m Q00 Q10 (λ e. omega arith) in
    let d = none m Q00 Q11 (λ e. omega arith) in
    let e = none m Q00 Hq (λ e. omega arith) in
    parts m Q00 ∙ stop _ _ m.q00 (stop _ _ m.q00 (stop _ _ m.q00 (stop _ _ m.q00 (own m Q00) b) c) d) e
told m Q01 =
    let a = none m Q01 Q00 (λ e. omega arith) in
    let c = none m Q01 Q10 (λ e. omega arith) in
    let d = none m Q01 Q11 (λ e. omega arith) in
    let e = none m Q01 Hq (λ e. omega arith) in
    parts m Q01 ∙ stop _ _ m.q01 (stop _ _ m.q01 (stop _ _ m.q01 (skip _ _ m.q01 a (own m Q01)) c) d) e
told m Q10 =
    let a = none m Q10 Q00 (λ e. omega arith) in
    let b = none m Q10 Q01 (λ e. omega arith) in
    let d = none m Q10 Q11 (λ e. omega arith) in
    let e = none m Q10 Hq (λ e. omega arith) in
    parts m Q10 ∙ stop _ _ m.q10 (stop _ _ m.q10 (skip _ _ m.q10 (skip _ _ [] a b) (own m Q10)) d) e
told m Q11 =
    let a = none m Q11 Q00 (λ e. omega arith) in
    let b = none m Q11 Q01 (λ e. omega arith) in
    let c = none m Q11 Q10 (λ e. omega arith) in
    let e = none m Q11 Hq (λ e. omega arith) in
    parts m Q11 ∙ stop _ _ m.q11 (skip _ _ m.q11 (skip _ _ [] (skip _ _ [] a b) c) (own m Q11)) e
told m Hq =
    let a = none m Hq Q00 (λ e. omega arith) in
    let b = none m Hq Q01 (λ e. omega arith) in
    let c = none m Hq Q10 (λ e. omega arith) in
    let d = none m Hq Q11 (λ e. omega arith) in
    parts m Hq ∙ skip _ _ m.hq (skip _ _ [] (skip _ _ [] (skip _ _ [] a b) c) d) (own m Hq)

pub told_apart : ToldApart
told_apart m n e = five_same m n (at Q00) (at Q01) (at Q10) (at Q11) (at Hq)
  where
    at : (q : Queue) → frames_of m q ≡ frames_of n q
    at q = sym (told m q) ∙ ap (frames_in q) e ∙ told n q
