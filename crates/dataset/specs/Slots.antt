-- The slots of a data set: what a write leaves of each.
use Rattle.std.specs.Prelude.{◌≡◌, ℕ, ◌+◌, ◌-◌, ◌*◌, ◌<◌, ◌≤◌, zero, suc, Bool, true, false, cond, ◌&&◌, ◌⊎◌, List, length, take, drop, set, replicate, Some, None, Ok, Option, Vec, ◌==◌, ◌≢◌, nat_lt, slice_index, slice_set, refl}
use Rattle.std.proofs.Common.{sym, ap, ◌∙◌, inl, inr, arith, get_or}
use borrow.Rule.Slice.PartMut.{put_mid}
use Rattle.std.specs.Bool.{then_some}
use Rattle.std.specs.Option.{IfSome, option_map}
use Rattle.std.specs.Result.{result_ok}
use Rattle.std.specs.Vec.{with_items, with_item}
use Rattle.std.specs.declared.alloc.Global.{Global}
use Rattle.std.proofs.lemmas.List.{length-set, get_or_read, with_items_is}
use Rattle.std.proofs.lemmas.Bool.{cases_eq, cases_lt, eq-eqb, ne_eqb, lt-ltb, ltb-true, le-ltb}
use Rattle.pages.specs.declared.fault.StoreRefusal.{StoreRefusal}
use Rattle.pages.specs.Store.{Lawful, Usable, refusal_at}
use Rattle.pages.proofs.Refusals.{none_usable}
use Rattle.storage.specs.Bytes.{word, page, put_page, zeros}
use Rattle.storage.specs.Laws.{Within}
use Rattle.storage.specs.Over.{laws, elsewhere}
use Rattle.storage.proofs.Parted.{put_mid_lem, part, cleared}
use Rattle.dataset.specs.Laws.{Touched}
use Rattle.dataset.specs.Format.{Formed, mark_of, opened, slots_in, place_of, set_rules, checked}
use Rattle.dataset.specs.Marks.{mark_from, number_of}
use Rattle.dataset.specs.Formed.{formed_opened, formed_slots, slot_formed, slots_few, mark_same, mark_other, mark_formed, page_formed}

-- A number below 3 tells the mark of that number.
told : (n : ℕ) → n < 3 → option_map number_of (result_ok (mark_from n)) ≡ Some n
told zero h = refl
told (suc zero) h = refl
told (suc (suc zero)) h = refl
told (suc (suc (suc n))) h = absurd (omega arith)

-- Two slots have no byte in common.
apart : (s j k : ℕ) → (j ≢ k) → (s + 2048 * j + 2048 ≤ s + 2048 * k) ⊎ (s + 2048 * k + 2048 ≤ s + 2048 * j)
apart s j k ne = elim (cases_lt j k) [ inl l ↦ inl (omega arith) | inr l ↦ inr (omega arith) ]

-- A slot stands wholly in the area, past the marks.
pub within : (b : List ℕ) (k : ℕ) → k < slots_in b → place_of b k + 2048 ≤ length b
within b k h =
    let f = slot_formed b k h in
    let s = formed_slots b f in
    let l = f.long in
    omega arith

pub mark_within : (b : List ℕ) (k : ℕ) → k < slots_in b → 8 + k < length b
mark_within b k h = let w = within b k h in omega arith

-- A mark of 0, 1 or 2 put at a slot leaves what opening finds.
pub mark_opened : (b : List ℕ) (k v : ℕ) → k < slots_in b → v < 3 → opened (slice_set b (8 + k) v) ≡ opened b
mark_opened b k v h l =
    let f = slot_formed b k h in
    let s = formed_slots b f in
    let t = mark_formed b k v f (omega arith) l in
    formed_opened (slice_set b (8 + k) v) t.0 ∙ ap Ok t.1 ∙ sym (formed_opened b f)

-- Where the code finds the mark of a slot: within the area.
pub place_found : (b : List ℕ) (k : ℕ) → IfSome (then_some (nat_lt k (slots_in b)) (8 + k)) (λ at. at < length b)
place_found b k =
    elim (cases_lt k (slots_in b)) [
      | inl l ↦ rw (lt-ltb k (slots_in b) l) (mark_within b k l)
      | inr l ↦ rw (le-ltb k (slots_in b) l) tt
    ]

placed : (t : Bool) (at i : ℕ) → Some at ≡ cond t (Some i) None → (t ≡ true) × (at ≡ i)
placed true at i e = (refl, cc)
placed false at i e = cc

module _ (b : List ℕ) (k at : ℕ) (place : Some at ≡ cond (nat_lt k (slots_in b)) (Some (8 + k)) None) where
  found : k < slots_in b
  found = ltb-true k (slots_in b) (placed (nat_lt k (slots_in b)) at (8 + k) place).0

  at_is : at ≡ 8 + k
  at_is = (placed (nat_lt k (slots_in b)) at (8 + k) place).1

  -- the mark that the number there tells
  pub mark_told : (n : ℕ) → n ≡ get_or b at n
      → option_map number_of (result_ok (mark_from n)) ≡ cond (nat_lt k (slots_in b)) (Some (mark_of b k)) None
  mark_told n e =
      let f = slot_formed b k found in
      let m : n ≡ mark_of b k = get_or_read b at n (let w = mark_within b k found in let q = at_is in omega arith) e 0 ∙ ap (λ i. slice_index b i) at_is in
      let l = f.marks k (let s = formed_slots b f in let h = found in omega arith) in
      told n (omega arith) ∙ ap Some m ∙ sym (ap (λ t. cond t (Some (mark_of b k)) None) (lt-ltb k (slots_in b) found))

  pub mark_put : (v : ℕ) → v < 3 → opened (slice_set b at v) ≡ opened b
  mark_put v l = ap (λ i. opened (slice_set b i v)) at_is ∙ mark_opened b k v found l

-- A page written to a slot.
module _ (b : List ℕ) (k : ℕ) (p : List ℕ) (h : k < slots_in b) (e : length p ≡ 2048) where
  formed : Formed b
  formed = slot_formed b k h

  slots_is : slots_in b ≡ word b 0
  slots_is = formed_slots b formed

  marked : Formed (slice_set b (8 + k) 1) × (word (slice_set b (8 + k) 1) 0 ≡ word b 0)
  marked = let s = slots_is in mark_formed b k 1 formed (omega arith) (omega arith)

  place_within : place_of b k + 2048 ≤ length (slice_set b (8 + k) 1)
  place_within = let l = length-set b (8 + k) 1 in let q = within b k h in omega arith

  touched : Within 2048 (place_of b k) (slice_set b (8 + k) 1) (set_rules.write b k p)
  touched = laws.beside.page_within (slice_set b (8 + k) 1) (place_of b k) p place_within e

  filled : Formed (set_rules.write b k p) × (word (set_rules.write b k p) 0 ≡ word (slice_set b (8 + k) 1) 0)
  filled =
      let s = slots_is in
      let q = marked.1 in
      page_formed (slice_set b (8 + k) 1) (place_of b k) p marked.0 (omega arith) place_within e

  pub write_opened : opened (set_rules.write b k p) ≡ opened b
  write_opened = formed_opened (set_rules.write b k p) filled.0 ∙ ap Ok (filled.1 ∙ marked.1) ∙ sym (formed_opened b formed)

  pub write_long : length (set_rules.write b k p) ≡ length b
  write_long = touched.long ∙ length-set b (8 + k) 1

  write_slots : slots_in (set_rules.write b k p) ≡ slots_in b
  write_slots = formed_slots (set_rules.write b k p) filled.0 ∙ filled.1 ∙ marked.1 ∙ sym slots_is

  -- the marks lie before the pages
  mark_kept : (j : ℕ) → j < slots_in b → mark_of (set_rules.write b k p) j ≡ mark_of (slice_set b (8 + k) 1) j
  mark_kept j l = touched.kept (8 + j) (inl (omega arith))

  mark_over_same : mark_of (set_rules.write b k p) k ≡ 1
  mark_over_same = mark_kept k h ∙ mark_same b k 1 (mark_within b k h)

  mark_over_other : (j : ℕ) → j < slots_in b → (j ≢ k) → mark_of (set_rules.write b k p) j ≡ mark_of b j
  mark_over_other j l ne = mark_kept j l ∙ mark_other b k 1 j ne

  -- a good slot stays good, a bad one bad
  bad_kept : (j : ℕ) → set_rules.bad b k ≡ false → set_rules.bad (set_rules.write b k p) j ≡ set_rules.bad b j
  bad_kept j u =
      ap (λ n. nat_lt j n && mark_of (set_rules.write b k p) j == 2) write_slots
      ∙ elim (cases_lt j (slots_in b)) [
        | inl l ↦ elim (cases_eq j k) [
          | inl q ↦ ap (λ i. nat_lt i (slots_in b) && mark_of (set_rules.write b k p) i == 2) q
              ∙ ap (λ n. nat_lt k (slots_in b) && n == 2) mark_over_same
              ∙ ap (λ t. t && false) (lt-ltb k (slots_in b) h) ∙ sym u ∙ ap (set_rules.bad b) (sym q)
          | inr q ↦ ap (λ n. nat_lt j (slots_in b) && n == 2) (mark_over_other j l q)
        ]
        | inr l ↦ ap (λ t. t && mark_of (set_rules.write b k p) j == 2) (le-ltb j (slots_in b) l)
            ∙ sym (ap (λ t. t && mark_of b j == 2) (le-ltb j (slots_in b) l))
      ]

  page_over_other : (j : ℕ) → j < slots_in b → (j ≢ k) → page (set_rules.write b k p) (place_of b j) ≡ page b (place_of b j)
  page_over_other j l ne =
      let s = length-set b (8 + k) 1 in
      let q = within b j l in
      elsewhere.page_other 2048 (place_of b k) (place_of b j) (slice_set b (8 + k) 1) (set_rules.write b k p) touched (omega arith) (apart (8 + slots_in b) j k ne)
      ∙ elsewhere.page_other 1 (8 + k) (place_of b j) b (slice_set b (8 + k) 1) (laws.beside.set_within b (8 + k) 1) q (inr (omega arith))

  slot_over : (j : ℕ) → j < slots_in b → set_rules.slot (set_rules.write b k p) j ≡ cond (j == k) p (set_rules.slot b j)
  slot_over j l =
      ap (λ n. cond (mark_of (set_rules.write b k p) j == 1) (page (set_rules.write b k p) (8 + n + 2048 * j)) zeros) write_slots
      ∙ elim (cases_eq j k) [
        | inl q ↦ ap (λ i. cond (mark_of (set_rules.write b k p) i == 1) (page (set_rules.write b k p) (place_of b i)) zeros) q
            ∙ ap (λ n. cond (n == 1) (page (set_rules.write b k p) (place_of b k)) zeros) mark_over_same
            ∙ laws.same.page_same (slice_set b (8 + k) 1) (place_of b k) p place_within e
            ∙ sym (ap (λ t. cond t p (set_rules.slot b j)) (eq-eqb j k q))
        | inr q ↦ ap (λ n. cond (n == 1) (page (set_rules.write b k p) (place_of b j)) zeros) (mark_over_other j l q)
            ∙ ap (λ x. cond (mark_of b j == 1) x zeros) (page_over_other j l q)
            ∙ sym (ap (λ t. cond t p (set_rules.slot b j)) (ne_eqb j k q))
      ]

pub touches : (b : List ℕ) (k : ℕ) (p : List ℕ) → Usable set_rules b k → length p ≡ 2048 → Touched b k p (set_rules.write b k p)
touches b k p u e = record {
  long = write_long b k p u.0 e;
  front = λ j h.
      (touched b k p u.0 e).kept j (inl (omega arith)) ∙ (laws.beside.set_within b (8 + k) 1).kept j (inl (omega arith));
  accepted = write_opened b k p u.0 e;
  mark = mark_over_same b k p u.0 e;
  filled = laws.same.page_same (slice_set b (8 + k) 1) (place_of b k) p (place_within b k p u.0 e) e;
  marks = λ j l ne. mark_over_other b k p u.0 e j l ne;
  pages = λ j l ne. page_over_other b k p u.0 e j l ne;
}

slot_long : (b : List ℕ) (k : ℕ) (t : Bool) → k < slots_in b → length (cond t (page b (place_of b k)) zeros) ≡ 2048
slot_long b k true h = laws.pages.page_long b (place_of b k) (within b k h)
slot_long b k false h = laws.pages.zeros_long

pub set_lawful : Lawful set_rules
set_lawful = record {
  few = λ b g. slots_few b;
  long = λ b k g u. slot_long b k (mark_of b k == 1) u.0;
  fault_refusal = λ b why k. refl;
  fault_slot = λ b why k. refl;
  write_good = λ b k p g u e. tt;
  write_count = λ b k p g u e. write_slots b k p u.0 e;
  write_bad = λ b k p j g u e. bad_kept b k p u.0 e j u.1;
  write_slot = λ b k p j g u v e. slot_over b k p u.0 e j v.0;
}

-- What the test of a slot has found, at a buffer of n bytes.
mark_found : (b : List ℕ) (k mark : ℕ) (o : Option StoreRefusal) → Ok mark ≡ checked b k o → (o ≡ None) × (mark ≡ mark_of b k)
mark_found b k mark None e = (refl, cc)
mark_found b k mark (Some why) e = cc

module _ (b : List ℕ) (k n mark : ℕ) (ok : Ok mark ≡ checked b k (refusal_at set_rules b k n)) where
  pub unrefused : refusal_at set_rules b k n ≡ None
  unrefused = (mark_found b k mark (refusal_at set_rules b k n) ok).0

  mark_is : mark ≡ mark_of b k
  mark_is = (mark_found b k mark (refusal_at set_rules b k n) ok).1

  pub there : k < slots_in b
  there = (none_usable set_rules b k n unrefused).1.0

  pub long : n ≡ 2048
  long = (none_usable set_rules b k n unrefused).0

  -- what a read copies out, by the mark
  pub read_blank : (l : List ℕ) → false ≡ (mark == 1) → l ≡ replicate n 0 → l ≡ set_rules.slot b k
  read_blank l t e =
      cleared l n long e ∙ ap (λ x. cond x (page b (place_of b k)) zeros) t ∙ ap (λ m. cond (m == 1) (page b (place_of b k)) zeros) mark_is

  pub read_written : (l xs : List ℕ) (at : ℕ) → true ≡ (mark == 1) → at ≡ place_of b k → xs ≡ b → l ≡ take (at + 2048 - at) (drop at xs)
      → l ≡ set_rules.slot b k
  read_written l xs at t a g e =
      e ∙ part xs at (at + 2048 - at) (let m : at + 2048 - at ≡ 2048 = omega arith in m) ∙ ap (λ s. page s at) g ∙ ap (page b) a
      ∙ ap (λ x. cond x (page b (place_of b k)) zeros) t ∙ ap (λ m. cond (m == 1) (page b (place_of b k)) zeros) mark_is

-- What is left of the Vec after the mark was put and the page copied into its part.
pub stored : (v : Vec ℕ Global) (k at : ℕ) (p xs part : List ℕ) → k < slots_in v.items → length p ≡ 2048 → at ≡ place_of v.items k
    → xs ≡ slice_set v.items (8 + k) 1 → part ≡ p
    → (with_items (with_item v (8 + k) 1) (put_mid at (at + 2048 - at) xs part)).items ≡ set_rules.write v.items k p
stored v k at p xs part h f a g q =
    let m = set v.items (8 + k) 1 in
    let n : at + 2048 - at ≡ 2048 = omega arith in
    let same : put_mid at (at + 2048 - at) xs part ≡ set_rules.write v.items k p =
    ap (λ l. put_mid at (at + 2048 - at) l part) g ∙ put_mid_lem m part at (at + 2048 - at) n ∙ ap (put_page m at) q ∙ ap (λ i. put_page m i p) a in
    with_items_is (with_item v (8 + k) 1) (put_mid at (at + 2048 - at) xs part) (ap length same ∙ write_long v.items k p h f ∙ sym v.ok.0) ∙ same
