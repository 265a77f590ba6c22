-- Which refusal a call meets, over any store's rules, and what follows of its answer, the buffer and the store.
use Rattle.std.proofs.Common.{◌≡◌, ℕ, ◌<◌, ◌≤◌, Bool, true, false, cond, eqb, ltb, List, length, Some, None, Ok, Option, sym, refl, ap, ◌∙◌}
use Rattle.std.proofs.lemmas.Bool.{eq-eqb, ne_eqb, lt-ltb, le-ltb, ltb-true, eqb-true}
use Rattle.pages.specs.declared.fault.StoreRefusal.{StoreRefusal}
use Rattle.pages.specs.declared.fault.StoreRefusal.TheVariants.{WrongLength, NoSuchSlot, BadSlot}
use Rattle.pages.specs.Store.{Rules, refusal_at, told, read_into, written, Usable}

-- No refusal is picked only where all three tests let a call through.
passed : (long there bad : Bool)
    → ◌≡◌ {A = Option StoreRefusal} (cond long (cond there (cond bad (Some BadSlot) None) (Some NoSuchSlot)) (Some WrongLength)) None
    → (long ≡ true) × (there ≡ true) × (bad ≡ false)
passed true true false e = (refl, refl, refl)
passed true true true e = cc
passed true false bad e = cc
passed false there bad e = cc

module _ {M : Type 0} (r : Rules M) (m : M) (k n : ℕ) where
  pub wrong_length : (n ≡ 2048 → ⊥) → refusal_at r m k n ≡ Some WrongLength
  wrong_length h = rw (ne_eqb n 2048 h)

  pub no_such_slot : n ≡ 2048 → r.count m ≤ k → refusal_at r m k n ≡ Some NoSuchSlot
  no_such_slot e h = rw (eq-eqb n 2048 e, le-ltb k (r.count m) h)

  pub bad_slot : n ≡ 2048 → k < r.count m → r.bad m k ≡ true → refusal_at r m k n ≡ Some BadSlot
  bad_slot e h b = rw (eq-eqb n 2048 e, lt-ltb k (r.count m) h, b)

  pub unrefused : n ≡ 2048 → Usable r m k → refusal_at r m k n ≡ None
  unrefused e u = rw (eq-eqb n 2048 e, lt-ltb k (r.count m) u.0, u.1)

  pub none_usable : refusal_at r m k n ≡ None → (n ≡ 2048) × Usable r m k
  none_usable e =
      let t = passed (eqb n 2048) (ltb k (r.count m)) (r.bad m k) e in
      (eqb-true n 2048 t.0, (ltb-true k (r.count m) t.1, t.2))

-- A call is answered only where nothing refuses it.
pub answered : {M : Type 0} (r : Rules M) (m : M) (k : ℕ) (o : Option StoreRefusal) → Ok tt ≡ told r m k o → o ≡ None
answered r m k None e = refl
answered r m k (Some why) e = cc

-- What a call leaves that nothing refuses.
module _ {M : Type 0} (r : Rules M) (m : M) (k : ℕ) (buffer : List ℕ) (none : refusal_at r m k (length buffer) ≡ None) where
  pub read_done : (l : List ℕ) → l ≡ r.slot m k → l ≡ read_into r m k buffer (refusal_at r m k (length buffer))
  read_done l h = h ∙ ap (read_into r m k buffer) (sym none)

  pub write_done : (x : M) → x ≡ r.write m k buffer → x ≡ written r m k buffer (refusal_at r m k (length buffer))
  write_done x h = h ∙ ap (written r m k buffer) (sym none)

-- What a call at a slot that can be read and written, with a buffer of 2,048 bytes, answers and leaves.
module _ {M : Type 0} (r : Rules M) (m : M) (k : ℕ) (u : Usable r m k) where
  pub good_usable : told r m k (refusal_at r m k 2048) ≡ Ok tt
  good_usable = ap (told r m k) (unrefused r m k 2048 refl u)

  pub told_usable : (buffer : List ℕ) → length buffer ≡ 2048 → told r m k (refusal_at r m k (length buffer)) ≡ Ok tt
  told_usable buffer e = ap (told r m k) (unrefused r m k (length buffer) e u)

  pub read_usable : (buffer : List ℕ) → length buffer ≡ 2048 → read_into r m k buffer (refusal_at r m k (length buffer)) ≡ r.slot m k
  read_usable buffer e = ap (read_into r m k buffer) (unrefused r m k (length buffer) e u)

  pub write_usable : (page : List ℕ) → length page ≡ 2048 → written r m k page (refusal_at r m k (length page)) ≡ r.write m k page
  write_usable page e = ap (written r m k page) (unrefused r m k (length page) e u)

-- And conversely: `good` answers at no other slot.
pub usable_good : {M : Type 0} (r : Rules M) (m : M) (k : ℕ) → told r m k (refusal_at r m k 2048) ≡ Ok tt → Usable r m k
usable_good r m k e = (none_usable r m k 2048 (answered r m k (refusal_at r m k 2048) (sym e))).1
