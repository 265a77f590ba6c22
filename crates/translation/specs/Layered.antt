-- The TLB is a translator, whatever translator it is a layer over.
use Rattle.std.specs.Prelude.{◌≡◌, ℕ, ◌+◌, ◌-◌, ◌≤◌, true, false, ◌||◌, ◌⊎◌, List, [], length, Some, None, Ok, Err, Option, Result, slice_index_or, refl}
use Rattle.std.proofs.Common.{sym, ap, subst, ◌∙◌, inl, inr, arith}
use Rattle.std.proofs.lemmas.Bool.{or_cases, or_left, or_right, or_from}
use Rattle.recency.specs.Places.{place_of}
use Rattle.tables.specs.declared.Refusal.{Refusal}
use Rattle.tables.specs.declared.Sizes.{Sizes}
use Rattle.tables.specs.Walk.{byte_index, checked, frame_start, located, page_index, page_number, segment_index}
use Rattle.tables.proofs.Led.{chain_ok, located_ok}
use Rattle.translation.specs.declared.pair.Pair.{Pair}
use Rattle.translation.specs.Layers.{has, hit, looked, missed, page_of, pair_of, sized, tlb_rules}
use Rattle.translation.specs.Translator.{Answer, Answers, ByPair, ByWalk, Just, Lawful, Rules, Translated}
use Rattle.translation.specs.Held.{at_end_long, has_at_end, has_found, has_nowhere, has_put, put_long, without_adds, without_ends, without_long}
use Rattle.translation.specs.Walked.{walk_of}

refused : {A : Type 0} {x : ℕ} {why : Refusal} → ◌≡◌ {A = Answer} (Ok x) (Err why) → A
refused e = let z : ◌≡◌ {A = ℕ} 0 1 = cc in absurd (omega arith)

never : {A : Type 0} → false ≡ true → A
never e = let z : ◌≡◌ {A = ℕ} 0 1 = cc in absurd (omega arith)

-- The byte index is no more than the real address.
pub byte_within : {M : Type 0} (r : Rules M) (m : M) (s : List ℕ) (a real : ℕ) (z : Sizes) → checked (r.controls m) a ≡ Ok z
    → ByPair r m s a z (Ok real) ⊎ ByWalk r m s a z (Ok real) → byte_index z a ≤ real
byte_within r m s a real z e (inl p) = let l = located_ok s p.start (byte_index z a) real (sym p.answered) in omega (arith, l.0)
byte_within r m s a real z e (inr w) =
    let c = chain_ok (frame_start s (r.controls m) z (segment_index z a) (page_index z a)) (λ st. located s st (byte_index z a)) real (sym (walk_of s (r.controls m) a z e) ∙ sym w.answered) in
    let l = located_ok s c.0 (byte_index z a) real c.2 in
    omega (arith, l.0)

module _ {M : Type 0} (below : Rules M) (law : Lawful below) (m : M) (ps : List Pair) (s : List ℕ) (a : ℕ) (g : below.good m) (few : length ps ≤ 8) where
  hit_answer : (i : ℕ) (answer : Answer) → (hit m ps i answer).answer ≡ answer
  hit_answer i (Ok real) = refl
  hit_answer i (Err why) = refl

  missed_answer : (n : M) (page byte : ℕ) (answer : Answer) → (missed n ps page byte answer).answer ≡ answer
  missed_answer n page byte (Ok real) = refl
  missed_answer n page byte (Err why) = refl

  -- what the layer below says, past the first two steps
  below_answers : (z : Sizes) → checked (below.controls m) a ≡ Ok z
      → ByPair below m s a z (below.translate m s a).answer ⊎ ByWalk below m s a z (below.translate m s a).answer
  below_answers z e = subst (λ r. Answers below m s a r (below.translate m s a).answer) e (law.translate_answer m s a g)

  looked_answers : (z : Sizes) → checked (below.controls m) a ≡ Ok z → (o : Option ℕ) → place_of page_of (page_number z a) ps 0 ≡ o
      → ByPair (tlb_rules below) (m, ps) s a z (looked below m ps s a z o).answer ⊎ ByWalk (tlb_rules below) (m, ps) s a z (looked below m ps s a z o).answer
  looked_answers z e (Some i) f = inl (record {
    start = (slice_index_or ps i (pair_of 0 0)).start;
    paired = or_left _ _ (has_found ps (page_number z a) i f).1;
    answered = hit_answer i (located s (slice_index_or ps i (pair_of 0 0)).start (byte_index z a));
  })
  looked_answers z e None f =
      let told = missed_answer (below.translate m s a).left (page_number z a) (byte_index z a) (below.translate m s a).answer in
      elim (below_answers z e) [
        | inl p ↦ inl (record { start = p.start; paired = or_right (has ps (page_number z a) p.start) _ p.paired; answered = told ∙ p.answered })
        | inr w ↦ inr (record { unknown = λ start. or_from _ _ (has_nowhere ps (page_number z a) 0 f start) (w.unknown start); answered = told ∙ w.answered })
      ]

  sized_answers : (r : Result Sizes Refusal) → checked (below.controls m) a ≡ r → Answers (tlb_rules below) (m, ps) s a r (sized below m ps s a r).answer
  sized_answers (Ok z) e = looked_answers z e (place_of page_of (page_number z a) ps 0) refl
  sized_answers (Err why) e = refl

  abbrev Kept : Translated (M × List Pair) → Type 0
  Kept t = (page start : ℕ) → (tlb_rules below).has_pair t.left page start ≡ true
      → ((tlb_rules below).has_pair (m, ps) page start ≡ true) ⊎ Just (below.controls m) a page start t.answer

  hit_kept : (i : ℕ) (answer : Answer) → Kept (hit m ps i answer)
  hit_kept i (Ok real) page start e = inl (elim (or_cases _ (below.has_pair m page start) e)
      [ inl h ↦ or_left _ _ (has_at_end ps i page start h) | inr h ↦ or_right (has ps page start) _ h ])
  hit_kept i (Err why) page start e = inl e

  module _ (z : Sizes) (passed : checked (below.controls m) a ≡ Ok z) where
    just_put : (real page start : ℕ) → byte_index z a ≤ real → (page_number z a ≡ page) × (real - byte_index z a ≡ start) → Just (below.controls m) a page start (Ok real)
    just_put real page start h (p, q) = record {
      sizes = z;
      passed = passed;
      page_is = sym p;
      answered = ap Ok (let k : real ≡ start + byte_index z a = omega (arith, q) in k);
    }

    below_kept : (answer : Answer) → (below.translate m s a).answer ≡ answer → (page start : ℕ) → below.has_pair (below.translate m s a).left page start ≡ true
        → ((tlb_rules below).has_pair (m, ps) page start ≡ true) ⊎ Just (below.controls m) a page start answer
    below_kept answer f page start e = elim (law.translate_pairs m s a page start g e) [
      | inl h ↦ inl (or_right (has ps page start) _ h)
      | inr j ↦ inr (subst (Just (below.controls m) a page start) f j)
    ]

    missed_kept : (answer : Answer) → (below.translate m s a).answer ≡ answer
        → Kept (missed (below.translate m s a).left ps (page_number z a) (byte_index z a) answer)
    missed_kept (Ok real) f page start e =
        let fits : byte_index z a ≤ real =
        byte_within below m s a real z passed (subst (λ r. ByPair below m s a z r ⊎ ByWalk below m s a z r) f (below_answers z passed)) in
        elim (or_cases _ (below.has_pair (below.translate m s a).left page start) e) [
          | inl h ↦ elim (has_put 8 ps (pair_of (page_number z a) (real - byte_index z a)) page start h)
              [ inl k ↦ inl (or_left _ _ k) | inr k ↦ inr (just_put real page start fits k) ]
          | inr h ↦ below_kept (Ok real) f page start h
        ]
    missed_kept (Err why) f page start e = elim (or_cases _ (below.has_pair (below.translate m s a).left page start) e)
        [ inl h ↦ inl (or_left _ _ h) | inr h ↦ below_kept (Err why) f page start h ]

    looked_kept : (o : Option ℕ) → Kept (looked below m ps s a z o)
    looked_kept (Some i) = hit_kept i (located s (slice_index_or ps i (pair_of 0 0)).start (byte_index z a))
    looked_kept None = missed_kept (below.translate m s a).answer refl

  sized_kept : (r : Result Sizes Refusal) → checked (below.controls m) a ≡ r → Kept (sized below m ps s a r)
  sized_kept (Ok z) e = looked_kept z e (place_of page_of (page_number z a) ps 0)
  sized_kept (Err why) e = λ page start h. inl h

  -- A refusal keeps the pairs.
  abbrev Same : Translated (M × List Pair) → Type 0
  Same t = (why : Refusal) → t.answer ≡ Err why → (page start : ℕ) → (tlb_rules below).has_pair t.left page start ≡ (tlb_rules below).has_pair (m, ps) page start

  hit_same : (i : ℕ) (answer : Answer) → Same (hit m ps i answer)
  hit_same i (Ok real) why e page start = refused e
  hit_same i (Err w) why e page start = refl

  missed_same : (page byte : ℕ) (answer : Answer) → (below.translate m s a).answer ≡ answer → Same (missed (below.translate m s a).left ps page byte answer)
  missed_same p b (Ok real) f why e page start = refused e
  missed_same p b (Err w) f why e page start = ap (λ q. has ps page start || q) (law.translate_refused m s a w g f page start)

  looked_same : (z : Sizes) (o : Option ℕ) → Same (looked below m ps s a z o)
  looked_same z (Some i) = hit_same i (located s (slice_index_or ps i (pair_of 0 0)).start (byte_index z a))
  looked_same z None = missed_same (page_number z a) (byte_index z a) (below.translate m s a).answer refl

  sized_same : (r : Result Sizes Refusal) → Same (sized below m ps s a r)
  sized_same (Ok z) = looked_same z (place_of page_of (page_number z a) ps 0)
  sized_same (Err w) = λ why e page start. refl

  -- What the type keeps true, and the control words.
  abbrev Sound : Translated (M × List Pair) → Type 0
  Sound t = (tlb_rules below).good t.left × ((tlb_rules below).controls t.left ≡ below.controls m)

  hit_sound : (i : ℕ) (answer : Answer) → Sound (hit m ps i answer)
  hit_sound i (Ok real) = ((g, let l = at_end_long ps i in omega arith), refl)
  hit_sound i (Err why) = ((g, few), refl)

  missed_sound : (page byte : ℕ) (answer : Answer) → Sound (missed (below.translate m s a).left ps page byte answer)
  missed_sound p b (Ok real) = ((law.translate_good m s a g, put_long 8 ps (pair_of p (real - b))), law.translate_controls m s a g)
  missed_sound p b (Err why) = ((law.translate_good m s a g, few), law.translate_controls m s a g)

  looked_sound : (z : Sizes) (o : Option ℕ) → Sound (looked below m ps s a z o)
  looked_sound z (Some i) = hit_sound i (located s (slice_index_or ps i (pair_of 0 0)).start (byte_index z a))
  looked_sound z None = missed_sound (page_number z a) (byte_index z a) (below.translate m s a).answer

  sized_sound : (r : Result Sizes Refusal) → Sound (sized below m ps s a r)
  sized_sound (Ok z) = looked_sound z (place_of page_of (page_number z a) ps 0)
  sized_sound (Err w) = ((g, few), refl)

-- An empty layer has no pair of its own.
empty_pairs : {M : Type 0} (below : Rules M) (m : M) (page start : ℕ) → (tlb_rules below).has_pair (m, []) page start ≡ true → below.has_pair m page start ≡ true
empty_pairs below m page start e = e

pub tlb_lawful : {M : Type 0} (below : Rules M) → Lawful below → Lawful (tlb_rules below)
tlb_lawful below law = record {
  translate_good = λ t s a g. (sized_sound below law t.0 t.1 s a g.0 g.1 (checked (below.controls t.0) a)).0;
  translate_controls = λ t s a g. (sized_sound below law t.0 t.1 s a g.0 g.1 (checked (below.controls t.0) a)).1;
  translate_answer = λ t s a g. sized_answers below law t.0 t.1 s a g.0 g.1 (checked (below.controls t.0) a) refl;
  translate_pairs = λ t s a page start g e. sized_kept below law t.0 t.1 s a g.0 g.1 (checked (below.controls t.0) a) refl page start e;
  translate_refused = λ t s a why g e page start. sized_same below law t.0 t.1 s a g.0 g.1 (checked (below.controls t.0) a) why e page start;
  load_good = λ t s w g. (law.load_good t.0 s w g.0, omega arith);
  load_controls = λ t s w g. law.load_controls t.0 s w g.0;
  load_agrees = λ t s w page start g e. law.load_agrees t.0 s w page start g.0 (empty_pairs below (below.load t.0 s w) page start e);
  purge_good = λ t s g. (law.purge_good t.0 s g.0, omega arith);
  purge_controls = λ t s g. law.purge_controls t.0 s g.0;
  purge_agrees = λ t s page start g e. law.purge_agrees t.0 s page start g.0 (empty_pairs below (below.purge t.0 s) page start e);
  forget_good = λ t page g. (law.forget_good t.0 page g.0, let l = without_long t.1 page in let h = g.1 in omega arith);
  forget_controls = λ t page g. law.forget_controls t.0 page g.0;
  forget_ends = λ t page start g. or_from _ _ (without_ends t.1 page start) (law.forget_ends t.0 page start g.0);
  forget_adds_none = λ t gone page start g e. elim (or_cases _ (below.has_pair (below.forget t.0 gone) page start) e) [
    | inl h ↦ or_left _ _ (without_adds t.1 gone page start h)
    | inr h ↦ or_right (has t.1 page start) _ (law.forget_adds_none t.0 gone page start g.0 h)
  ];
}
