-- What is known of an area that opening accepts, and which writes leave it so.
use Rattle.std.specs.Prelude.{◌≡◌, ℕ, ◌+◌, ◌*◌, ◌<◌, ◌≤◌, Bool, true, false, cond, List, length, is_ok, Ok, Err, Result, ◌==◌, ◌≢◌, nat_le, slice_set, refl}
use Rattle.std.proofs.Common.{ap, ◌∙◌, inl, inr, arith}
use Rattle.std.proofs.lemmas.List.{get_or-set_same, get_or-set_other}
use Rattle.std.proofs.lemmas.Bool.{both_ways, cases_eq, le-leb, leb-true, eq-eqb, eqb-true}
use Rattle.storage.specs.Bytes.{word, put_page}
use Rattle.storage.specs.Laws.{Within}
use Rattle.storage.specs.Over.{laws, elsewhere}
use Rattle.dataset.specs.declared.refusal.OpenRefusal.{OpenRefusal}
use Rattle.dataset.specs.declared.refusal.OpenRefusal.TheVariants.{TooShort, OtherPageSize, TooManySlots, OtherLength, UnknownMark}
use Rattle.dataset.specs.Format.{Formed, is_data_set, mark_of, marks_known, opened, slots_of, slots_in}
use Rattle.dataset.specs.Opening.{known_at, known_from}

-- The five tests, where all are passed.
passed : (a s f l m : Bool) (w n : ℕ)
    → ◌≡◌ {A = Result ℕ OpenRefusal} (cond a (cond s (cond f (cond l (cond m (Ok w) (Err UnknownMark)) (Err OtherLength)) (Err TooManySlots)) (Err OtherPageSize)) (Err TooShort)) (Ok n)
    → (s ≡ true) × (f ≡ true) × (l ≡ true) × (m ≡ true) × (n ≡ w)
passed true true true true true w n e = (refl, refl, refl, refl, cc)
passed true true true true false w n e = cc
passed true true true false m w n e = cc
passed true true false l m w n e = cc
passed true false f l m w n e = cc
passed false s f l m w n e = cc

module _ (b : List ℕ) where
  pub opened_formed : (n : ℕ) → opened b ≡ Ok n → Formed b × (n ≡ word b 0)
  unfolding opened
  opened_formed n e =
      let t = passed (nat_le 8 (length b)) (word b 4 == 2048) (nat_le (word b 0) 8192) (length b == 8 + word b 0 + 2048 * word b 0) (marks_known b (word b 0)) (word b 0) n e in (
        record {
          size = eqb-true (word b 4) 2048 t.0;
          few = leb-true (word b 0) 8192 t.1;
          long = eqb-true (length b) (8 + word b 0 + 2048 * word b 0) t.2;
          marks = λ k l. known_at b (word b 0) k t.3 l;
        },
        t.4,
      )

  pub formed_opened : Formed b → opened b ≡ Ok (word b 0)
  unfolding opened
  formed_opened f =
      rw (
        le-leb 8 (length b) (let l = f.long in omega arith),
        eq-eqb (word b 4) 2048 f.size,
        le-leb (word b 0) 8192 f.few,
        eq-eqb (length b) (8 + word b 0 + 2048 * word b 0) f.long,
        known_from b (word b 0) f.marks,
      )

  data_set_of : (r : Result ℕ OpenRefusal) → opened b ≡ r → is_ok r ≡ true → Formed b
  data_set_of (Ok n) e t = (opened_formed n e).0
  data_set_of (Err why) e t = absurd (both_ways false refl t)

  pub data_set_formed : is_data_set b ≡ true → Formed b
  data_set_formed t = data_set_of (opened b) refl t

  pub formed_data_set : Formed b → is_data_set b ≡ true
  formed_data_set f = ap is_ok (formed_opened f)

  pub formed_slots : Formed b → slots_in b ≡ word b 0
  formed_slots f = ap slots_of (formed_opened f)

  slots_of_lem : (r : Result ℕ OpenRefusal) (k : ℕ) → opened b ≡ r → k < slots_of r → Formed b
  slots_of_lem (Ok n) k e h = (opened_formed n e).0
  slots_of_lem (Err why) k e h = absurd (omega arith)

  -- An area with a slot was accepted.
  pub slot_formed : (k : ℕ) → k < slots_in b → Formed b
  slot_formed k h = slots_of_lem (opened b) k refl h

  few_of : (r : Result ℕ OpenRefusal) → opened b ≡ r → slots_of r ≤ 8192
  few_of (Ok n) e = let t = opened_formed n e in let f = t.0.few in let q = t.1 in omega arith
  few_of (Err why) e = omega arith

  pub slots_few : slots_in b ≤ 8192
  slots_few = few_of (opened b) refl

-- A write past the two numbers at the front that leaves marks of 0, 1 and 2.
pub kept_formed : (n at : ℕ) (b t : List ℕ) → Within n at b t → 8 ≤ at → ((k : ℕ) → k < word b 0 → mark_of t k < 3) → Formed b
    → Formed t × (word t 0 ≡ word b 0)
kept_formed n at b t w h m f =
    let slots = elsewhere.word_other n at 0 b t w (inl (omega arith)) in
    let size = elsewhere.word_other n at 4 b t w (inl (omega arith)) in
    let l = w.long in
    let lb = f.long in
    let fb = f.few in (
      record {
        size = size ∙ f.size;
        few = omega arith;
        long = omega arith;
        marks = λ k q. m k (omega arith);
      },
      slots,
    )

-- A mark put.
module _ (b : List ℕ) (k v : ℕ) where
  pub mark_same : 8 + k < length b → mark_of (slice_set b (8 + k) v) k ≡ v
  mark_same h = get_or-set_same b (8 + k) v 0 h

  pub mark_other : (j : ℕ) → (j ≢ k) → mark_of (slice_set b (8 + k) v) j ≡ mark_of b j
  mark_other j ne = get_or-set_other b (8 + k) (8 + j) v 0 (λ e. ne (omega arith))

  marks_known_lem : Formed b → k < word b 0 → v < 3 → (j : ℕ) → j < word b 0 → mark_of (slice_set b (8 + k) v) j < 3
  marks_known_lem f h l j q =
      elim (cases_eq j k) [
        | inl e ↦ let s = mark_same (let lb = f.long in omega arith) in
            let g : mark_of (slice_set b (8 + k) v) j ≡ v = ap (mark_of (slice_set b (8 + k) v)) e ∙ s in omega arith
        | inr e ↦ let s = mark_other j e in let g = f.marks j q in omega arith
      ]

  pub mark_formed : Formed b → k < word b 0 → v < 3 → Formed (slice_set b (8 + k) v) × (word (slice_set b (8 + k) v) 0 ≡ word b 0)
  mark_formed f h l = kept_formed 1 (8 + k) b (slice_set b (8 + k) v) (laws.beside.set_within b (8 + k) v) (omega arith) (marks_known_lem f h l) f

-- A page put past the marks.
pub page_formed : (b : List ℕ) (at : ℕ) (p : List ℕ) → Formed b → 8 + word b 0 ≤ at → at + 2048 ≤ length b → length p ≡ 2048
    → Formed (put_page b at p) × (word (put_page b at p) 0 ≡ word b 0)
page_formed b at p f h l e =
    let w = laws.beside.page_within b at p l e in
    kept_formed 2048 at b (put_page b at p) w (omega arith)
    (λ k q. let s = w.kept (8 + k) (inl (omega arith)) in let g = f.marks k q in omega arith) f
