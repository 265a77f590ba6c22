-- Searches and counts: the frame that has a page, what a sweep of tests says of each frame, how many pass a test.
use Rattle.std.proofs.Common.{◌≡◌, ℕ, zero, suc, ◌+◌, ◌-◌, ◌*◌, ◌/◌, ◌<◌, ◌≤◌, Bool, true, false, cond, ◌&&◌, eqb, ltb, leb, List, Some, None, sym, refl, ap, ◌∙◌, subst, inl, inr, arith}
use Rattle.std.proofs.lemmas.Bool.{and_from, and_parts, cases_eq, cond-false, eq-eqb, eqb-false, eqb-true, leb-true, ltb-true, ne_eqb}
use Rattle.model.specs.declared.shape.FrameRecord.{FrameRecord}
use Rattle.model.specs.Law.{Pageable}
use Rattle.model.specs.Layout.{counted, entries_are, entry_at, entry_is, entry_should, found_in, frame_is, frame_of, frames_are, named, no_page, page_in, page_is, segment_at, segment_is, segment_word, segments_are}
use Rattle.model.specs.World.{Config}
use Rattle.storage.specs.Bytes.{half, word}

pub found_some : (rs : List FrameRecord) (p f n g : ℕ) → found_in rs p f n ≡ Some g → (f ≤ g) × (g < f + n) × (page_in rs g ≡ p)
unfolding found_in
found_some rs p f zero g e = cc
found_some rs p f (suc n) g e =
    (elim (eqb (page_in rs f) p) as (λ b. eqb (page_in rs f) p ≡ b → cond b (Some f) (found_in rs p (f + 1) n) ≡ Some g → (f ≤ g) × (g < f + suc n) × (page_in rs g ≡ p)) [
      | true ↦ λ t q. let s : f ≡ g = cc in (omega arith, omega arith, subst (λ k. page_in rs k ≡ p) s (eqb-true _ _ t))
      | false ↦ λ t q. let k = found_some rs p (f + 1) n g q in let a = k.0 in let b = k.1 in (omega arith, omega arith, k.2)
    ]) refl e

pub found_none : (rs : List FrameRecord) (p f n : ℕ) → found_in rs p f n ≡ None → (g : ℕ) → f ≤ g → g < f + n → page_in rs g ≡ p → ⊥
unfolding found_in
found_none rs p f zero e g h k = absurd (omega arith)
found_none rs p f (suc n) e g h k =
    (elim (eqb (page_in rs f) p) as (λ b. eqb (page_in rs f) p ≡ b → cond b (Some f) (found_in rs p (f + 1) n) ≡ None → page_in rs g ≡ p → ⊥) [
      | true ↦ λ t q. cc
      | false ↦ λ t q. elim (cases_eq g f) [
        | inl s ↦ λ is. eqb-false _ _ t (ap (page_in rs) (sym s) ∙ is)
        | inr s ↦ found_none rs p (f + 1) n q g (omega arith) (omega arith)
      ]
    ]) refl e

module _ (c : Config) (s : List ℕ) (rs : List FrameRecord) (some : c.supervisor < c.frames) where
  looked : (p : ℕ) (b : Bool) → (leb c.supervisor (named s p) && (ltb (named s p) c.frames && eqb (page_in rs (named s p)) p)) ≡ b
      → (f : ℕ) → cond b (Some (named s p)) (found_in rs p c.supervisor (c.frames - c.supervisor)) ≡ Some f → Pageable c f × (page_in rs f ≡ p)
  looked p true t f e =
      let same : named s p ≡ f = cc in
      let a = and_parts _ _ t in
      let b = and_parts _ _ a.1 in
      subst (λ g. Pageable c g × (page_in rs g ≡ p)) same ((leb-true _ _ a.0, ltb-true _ _ b.0), eqb-true _ _ b.1)
  looked p false t f e =
      let k = found_some rs p c.supervisor (c.frames - c.supervisor) f e in
      let a = k.1 in
      ((k.0, omega arith), k.2)

  -- the frame that is found has the page
  pub frame_some : (p f : ℕ) → frame_of c s rs p ≡ Some f → Pageable c f × (page_in rs f ≡ p)
  frame_some p f e = looked p _ refl f e

  missed : (p : ℕ) (b : Bool) → cond b (Some (named s p)) (found_in rs p c.supervisor (c.frames - c.supervisor)) ≡ None
      → (f : ℕ) → Pageable c f → page_in rs f ≡ p → ⊥
  missed p true e = cc
  missed p false e = λ f h is. let a = h.1 in found_none rs p c.supervisor (c.frames - c.supervisor) e f h.0 (omega arith) is

  -- where none is found no frame has it
  pub frame_none : (p : ℕ) → frame_of c s rs p ≡ None → (f : ℕ) → Pageable c f → page_in rs f ≡ p → ⊥
  frame_none p e = missed p _ e

-- A sweep of tests over the frames: each of them, and back.
pub each_frame : (c : Config) (s : List ℕ) (rs : List FrameRecord) (f n : ℕ) → frames_are c s rs f n ≡ true → (g : ℕ) → f ≤ g → g < f + n → frame_is c s rs g ≡ true
unfolding frames_are
each_frame c s rs f zero e g h k = absurd (omega arith)
each_frame c s rs f (suc n) e g h k =
    let a = and_parts (frame_is c s rs f) _ e in
    elim (cases_eq g f) [ inl q ↦ ap (frame_is c s rs) q ∙ a.0 | inr q ↦ each_frame c s rs (f + 1) n a.1 g (omega arith) (omega arith) ]

pub all_frames : (c : Config) (s : List ℕ) (rs : List FrameRecord) (f n : ℕ) → ((g : ℕ) → f ≤ g → g < f + n → frame_is c s rs g ≡ true) → frames_are c s rs f n ≡ true
unfolding frames_are
all_frames c s rs f zero h = refl
all_frames c s rs f (suc n) h = and_from _ _ (h f (omega arith) (omega arith)) (all_frames c s rs (f + 1) n (λ g a b. h g (omega arith) (omega arith)))

pub each_segment : (c : Config) (s : List ℕ) (f n : ℕ) → segments_are c s f n ≡ true → (g : ℕ) → f ≤ g → g < f + n → word s (segment_at g) ≡ segment_word c g
unfolding segments_are
each_segment c s f zero e g h k = absurd (omega arith)
each_segment c s f (suc n) e g h k =
    let a = and_parts (eqb (word s (segment_at f)) (segment_word c f)) _ e in
    elim (cases_eq g f) [ inl q ↦ subst (λ x. word s (segment_at x) ≡ segment_word c x) (sym q) (eqb-true _ _ a.0) | inr q ↦ each_segment c s (f + 1) n a.1 g (omega arith) (omega arith) ]

pub all_segments : (c : Config) (s : List ℕ) (f n : ℕ) → ((g : ℕ) → f ≤ g → g < f + n → word s (segment_at g) ≡ segment_word c g) → segments_are c s f n ≡ true
unfolding segments_are
all_segments c s f zero h = refl
all_segments c s f (suc n) h = and_from _ _ (eq-eqb _ _ (h f (omega arith) (omega arith))) (all_segments c s (f + 1) n (λ g a b. h g (omega arith) (omega arith)))

pub each_entry : (c : Config) (s : List ℕ) (rs : List FrameRecord) (p n : ℕ) → entries_are c s rs p n ≡ true → (q : ℕ) → p ≤ q → q < p + n → entry_is s q (entry_should c s rs q) ≡ true
unfolding entries_are
each_entry c s rs p zero e q h k = absurd (omega arith)
each_entry c s rs p (suc n) e q h k =
    let a = and_parts (entry_is s p (entry_should c s rs p)) _ e in
    elim (cases_eq q p) [ inl z ↦ subst (λ x. entry_is s x (entry_should c s rs x) ≡ true) (sym z) a.0 | inr z ↦ each_entry c s rs (p + 1) n a.1 q (omega arith) (omega arith) ]

pub all_entries : (c : Config) (s : List ℕ) (rs : List FrameRecord) (p n : ℕ) → ((q : ℕ) → p ≤ q → q < p + n → entry_is s q (entry_should c s rs q) ≡ true) → entries_are c s rs p n ≡ true
unfolding entries_are
all_entries c s rs p zero h = refl
all_entries c s rs p (suc n) h = and_from _ _ (h p (omega arith) (omega arith)) (all_entries c s rs (p + 1) n (λ q a b. h q (omega arith) (omega arith)))

-- What the test of a page's entries says, and back.
pub page_is_lem : (c : Config) (s : List ℕ) (p e : ℕ) → page_is c s p e ≡ true → (word s (segment_at (p / 32)) ≡ segment_word c (p / 32)) × (half s (entry_at p) / 2 ≡ e / 2)
page_is_lem c s p e t = let a = and_parts (segment_is c s p) _ t in (eqb-true _ _ a.0, eqb-true _ _ a.1)

pub is_page : (c : Config) (s : List ℕ) (p e : ℕ) → word s (segment_at (p / 32)) ≡ segment_word c (p / 32) → half s (entry_at p) / 2 ≡ e / 2 → page_is c s p e ≡ true
is_page c s p e a b = and_from _ _ (eq-eqb _ _ a) (eq-eqb _ _ b)

pub frame_page : (c : Config) (s : List ℕ) (rs : List FrameRecord) (f : ℕ) → frame_is c s rs f ≡ true → (page_in rs f ≡ no_page → ⊥)
    → (word s (segment_at (page_in rs f / 32)) ≡ segment_word c (page_in rs f / 32)) × (half s (entry_at (page_in rs f)) / 2 ≡ 4 * f)
frame_page c s rs f t ne =
    let k = page_is_lem c s (page_in rs f) (8 * f) (sym (cond-false _ true (page_is c s (page_in rs f) (8 * f)) (ne_eqb _ _ ne)) ∙ t) in
    let a = k.1 in
    (k.0, omega arith)

-- Counts.
pub counted_same : (P Q : ℕ → Bool) (f n : ℕ) → ((g : ℕ) → f ≤ g → g < f + n → Q g ≡ P g) → counted Q f n ≡ counted P f n
unfolding counted
counted_same P Q f zero h = refl
counted_same P Q f (suc n) h =
    ap (λ b. cond b 1 0 + counted Q (f + 1) n) (h f (omega arith) (omega arith))
    ∙ ap (λ k. cond (P f) 1 0 + k) (counted_same P Q (f + 1) n (λ g a b. h g (omega arith) (omega arith)))

pub counted_up : (P Q : ℕ → Bool) (f n h : ℕ) → f ≤ h → h < f + n → P h ≡ false → Q h ≡ true → ((g : ℕ) → (g ≡ h → ⊥) → Q g ≡ P g) → counted Q f n ≡ counted P f n + 1
unfolding counted
counted_up P Q f zero h a b p q same = absurd (omega arith)
counted_up P Q f (suc n) h a b p q same = elim (cases_eq f h) [
  | inl e ↦
      let rest = counted_same P Q (f + 1) n (λ g x y. same g (λ z. omega arith)) in
      let q1 : ◌≡◌ {A = ℕ} (cond (Q f) 1 0) 1 = ap (λ b. cond b 1 0) (ap Q e ∙ q) in
      let p1 : ◌≡◌ {A = ℕ} (cond (P f) 1 0) 0 = ap (λ b. cond b 1 0) (ap P e ∙ p) in
      omega (arith, rest, q1, p1)
  | inr e ↦
      let rest = counted_up P Q (f + 1) n h (omega arith) (omega arith) p q same in
      let s : ◌≡◌ {A = ℕ} (cond (Q f) 1 0) (cond (P f) 1 0) = ap (λ b. cond b 1 0) (same f e) in
      omega (arith, rest, s)
]

pub counted_room : (P : ℕ → Bool) (f n : ℕ) → (counted P f n ≡ n → ⊥) → (g : ℕ) × (f ≤ g) × (g < f + n) × (P g ≡ false)
unfolding counted
counted_room P f zero h = absurd (h refl)
counted_room P f (suc n) h =
    (elim (P f) as (λ b. P f ≡ b → (cond b 1 0 + counted P (f + 1) n ≡ suc n → ⊥) → (g : ℕ) × (f ≤ g) × (g < f + suc n) × (P g ≡ false)) [
      | false ↦ λ t k. (f, omega arith, omega arith, t)
      | true ↦ λ t k.
          let r = counted_room P (f + 1) n (λ e. k (omega (arith, e))) in
          let a = r.1 in
          let b = r.2 in
          (r.0, omega arith, omega arith, r.3)
    ]) refl h
