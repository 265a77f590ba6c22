-- The slots of a plain area: what a write leaves of each, and what the code reads and writes.
use Rattle.std.specs.Prelude.{◌≡◌, ℕ, ◌+◌, ◌-◌, ◌*◌, ◌<◌, ◌≤◌, cond, ◌⊎◌, List, length, take, drop, Vec, ◌==◌, ◌≢◌, refl}
use Rattle.std.proofs.Common.{sym, ap, ◌∙◌, inl, inr, arith}
use borrow.Rule.Slice.PartMut.{put_mid}
use Rattle.std.specs.declared.alloc.Global.{Global}
use Rattle.std.specs.Vec.{with_items}
use Rattle.std.proofs.lemmas.List.{with_items_is}
use Rattle.std.proofs.lemmas.Bool.{cases_eq, cases_lt, eq-eqb, ne_eqb}
use Rattle.pages.specs.Store.{Lawful, Usable}
use Rattle.storage.specs.Bytes.{page, put_page}
use Rattle.storage.specs.Laws.{Within}
use Rattle.storage.specs.Over.{laws, elsewhere}
use Rattle.storage.proofs.Parted.{put_mid_lem, part}
use Rattle.area.specs.Plain.{slots_of, plain_rules, Touched}

-- Two slots have no byte in common.
apart : (j k : ℕ) → (j ≢ k) → (2048 * j + 2048 ≤ 2048 * k) ⊎ (2048 * k + 2048 ≤ 2048 * j)
apart j k ne = elim (cases_lt j k) [ inl l ↦ inl (omega arith) | inr l ↦ inr (omega arith) ]

-- A slot below the number of slots stands wholly in the area.
within : (m : List ℕ) (k : ℕ) → k < slots_of (length m) → 2048 * k + 2048 ≤ length m
within m k h = omega arith

module _ (m : List ℕ) (k : ℕ) (p : List ℕ) (h : k < slots_of (length m)) (e : length p ≡ 2048) where
  touched : Within 2048 (2048 * k) m (put_page m (2048 * k) p)
  touched = laws.beside.page_within m (2048 * k) p (within m k h) e

  page_other : (j : ℕ) → j < slots_of (length m) → (j ≢ k) → page (put_page m (2048 * k) p) (2048 * j) ≡ page m (2048 * j)
  page_other j l ne = elsewhere.page_other 2048 (2048 * k) (2048 * j) m (put_page m (2048 * k) p) touched (within m j l) (apart j k ne)

  slot_over : (j : ℕ) → j < slots_of (length m) → page (put_page m (2048 * k) p) (2048 * j) ≡ cond (j == k) p (page m (2048 * j))
  slot_over j l =
      elim (cases_eq j k) [
        | inl q ↦ ap (λ i. page (put_page m (2048 * k) p) (2048 * i)) q ∙ laws.same.page_same m (2048 * k) p (within m k h) e
            ∙ sym (ap (λ b. cond b p (page m (2048 * j))) (eq-eqb j k q))
        | inr q ↦ page_other j l q
            ∙ sym (ap (λ b. cond b p (page m (2048 * j))) (ne_eqb j k q))
      ]

pub plain_lawful : Lawful plain_rules
plain_lawful = record {
  few = λ m g. omega arith;
  long = λ m k g u. laws.pages.page_long m (2048 * k) (within m k u.0);
  fault_refusal = λ m why k. refl;
  fault_slot = λ m why k. refl;
  write_good = λ m k p g u e. tt;
  write_count = λ m k p g u e. ap slots_of (touched m k p u.0 e).long;
  write_bad = λ m k p j g u e. refl;
  write_slot = λ m k p j g u v e. slot_over m k p u.0 e j v.0;
}

pub touches : (m : List ℕ) (k : ℕ) (p : List ℕ) → Usable plain_rules m k → length p ≡ 2048 → Touched m k p (plain_rules.write m k p)
touches m k p u e = record {
  long = (touched m k p u.0 e).long;
  filled = laws.same.page_same m (2048 * k) p (within m k u.0) e;
  pages = λ j v ne. page_other m k p u.0 e j v.0 ne;
  unused = λ j h. (touched m k p u.0 e).kept j (inr (let l = u.0 in omega arith));
}

-- What the code reads: the part of the area at the slot's place, where at + 2,048 - at is the length of the part.
pub copied : (m xs l : List ℕ) (k at : ℕ) → at ≡ 2048 * k → xs ≡ m → l ≡ take (at + 2048 - at) (drop at xs) → l ≡ page m (2048 * k)
copied m xs l k at a g e =
    e ∙ part xs at (at + 2048 - at) (let n : at + 2048 - at ≡ 2048 = omega arith in n) ∙ ap (λ s. page s at) g ∙ ap (page m) a

-- What a copy into that part leaves of the Vec.
pub stored : (v : Vec ℕ Global) (k at : ℕ) (p xs part : List ℕ) → k < slots_of (length v.items) → length p ≡ 2048
    → at ≡ 2048 * k → xs ≡ v.items → part ≡ p → (with_items v (put_mid at (at + 2048 - at) xs part)).items ≡ put_page v.items (2048 * k) p
stored v k at p xs part h f a g q =
    let n : at + 2048 - at ≡ 2048 = omega arith in
    let same : put_mid at (at + 2048 - at) xs part ≡ put_page v.items (2048 * k) p =
    ap (λ l. put_mid at (at + 2048 - at) l part) g ∙ put_mid_lem v.items part at (at + 2048 - at) n
    ∙ ap (put_page v.items at) q ∙ ap (λ i. put_page v.items i p) a in
    with_items_is v (put_mid at (at + 2048 - at) xs part) (ap length same ∙ (touched v.items k p h f).long ∙ sym v.ok.0) ∙ same
