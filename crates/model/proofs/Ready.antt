-- A page that has passed a call's tests is brought in: its frame has it, and the walk leads there.
use Rattle.std.proofs.Common.{◌≡◌, ℕ, ◌+◌, ◌-◌, ◌*◌, ◌/◌, ◌%◌, ◌^◌, ◌<◌, ◌≤◌, Bool, true, false, cond, not, eqb, List, length, get_or, Some, None, Option, sym, refl, ap, ◌∙◌, subst, arith}
use Rattle.std.proofs.lemmas.Bool.{and_parts, cases_eq, cond-true, eqb-false, eq-eqb, and_from, false≢true, cond_both, le-leb}
use Rattle.frames.specs.Keys.{changed}
use Rattle.model.specs.declared.shape.Request.{Request}
use Rattle.model.specs.Law.{Consistent, Fits, Pageable}
use Rattle.model.specs.Layout.{bit15, entry_at, entry_for, fixed_in, key_of, no_page, page_in, segment_at, segment_entries, segment_word, segments}
use Rattle.model.specs.Refusals.{full, tables_right, where_is}
use Rattle.model.specs.Steps.{brought, brought_frame, emptied, emptying, faulted, fill_frame, read_in, taken, taken_frame, taking}
use Rattle.model.specs.World.{Config, LawfulParts, Parts, World}
use Rattle.model.proofs.Decoded.{Reached}
use Rattle.model.proofs.Fault.{BodyOf, Brought, emptied_body, faulted_own, handed_to, slot_of}
use Rattle.model.proofs.Find.{frame_none, frame_some, page_is_lem}
use Rattle.model.proofs.Own.{frame_listed, read_in_lem}
use Rattle.model.proofs.Place.{e_long, e_other, e_same, e_segment, f_entry, f_long, f_segment, frame_fits, listed}
use Rattle.pages.specs.Store as stores
use Rattle.storage.specs.Bytes.{fits, frame, half, put_half, put_page, word, zeros}
use Rattle.storage.specs.Over.{laws}

-- A page in frame f: its entries name it, and all is consistent.
pub record Ready {T P S : Type 0} (r : Parts T P S) (p key : ℕ) (w : World T P S) (f : ℕ) (next : World T P S) : Type 0 where
  pub brought : Brought r p w f next
  pub part : key_of next.config.partitions p ≡ Some key
  pub long : length next.storage ≡ 2048 * next.config.frames
  pub segment : word next.storage (segment_at (p / 32)) ≡ segment_word next.config (p / 32)
  pub entry : half next.storage (entry_at p) / 2 ≡ 4 * f

-- The bytes that a frame is filled with.
pub fill_long : {S : Type 0} (r : stores.Rules S) → stores.Lawful r → (m : S) → r.good m → (k : ℕ) → stores.Usable r m k → (buffer : List ℕ) → length buffer ≡ 2048
    → (b : Bool) → length (cond b zeros (read_in r m k buffer)) ≡ 2048
fill_long r law m good k u buffer l true = laws.pages.zeros_long
fill_long r law m good k u buffer l false = ap length (read_in_lem r m k buffer u l) ∙ law.long m k good u

-- Main storage after a frame is emptied, filled and connected: s is what Emptied left.
module _ (c : Config) (fit : Fits c) (s : List ℕ) (long : length s ≡ 2048 * c.frames) (f p : ℕ) (fp : Pageable c f) (pv : p < c.pages)
    (b : List ℕ) (bl : length b ≡ 2048) where
  pt : p < 32 * segments c
  pt = listed c fit p pv

  abbrev pub after : List ℕ
  after = put_half (put_page s (2048 * f) b) (entry_at p) (8 * f + bit15 (put_page s (2048 * f) b) p)

  pub after_long : length after ≡ 2048 * c.frames
  after_long = e_long c fit (put_page s (2048 * f) b) (f_long c fit s long f b fp bl) p (8 * f + bit15 (put_page s (2048 * f) b) p) pt

  small : 8 * f + bit15 (put_page s (2048 * f) b) p < 2 ^ 16
  small = let h = fp.1 in let n = fit.few in omega arith

  pub after_entry : half after (entry_at p) ≡ 8 * f + bit15 s p
  after_entry =
      e_same c fit (put_page s (2048 * f) b) (f_long c fit s long f b fp bl) p (8 * f + bit15 (put_page s (2048 * f) b) p) pt small
      ∙ ap (λ h. 8 * f + h % 2) (f_entry c fit s long f b fp bl p pt)

  pub after_other : (q : ℕ) → q < 32 * segments c → (q ≡ p → ⊥) → half after (entry_at q) ≡ half s (entry_at q)
  after_other q qt ne =
      e_other c fit (put_page s (2048 * f) b) (f_long c fit s long f b fp bl) p (8 * f + bit15 (put_page s (2048 * f) b) p) pt q ne
      ∙ f_entry c fit s long f b fp bl q qt

  pub after_segment : (g : ℕ) → g < segment_entries c → word after (segment_at g) ≡ word s (segment_at g)
  after_segment g h =
      e_segment c fit (put_page s (2048 * f) b) (f_long c fit s long f b fp bl) p (8 * f + bit15 (put_page s (2048 * f) b) p) pt g h
      ∙ f_segment c fit s long f b fp bl g h

module _ {T P S : Type 0} (r : Parts T P S) (law : LawfulParts r) (w : World T P S) (k : Consistent r w) where
  c : Config
  c = w.config

  -- main storage after Emptied
  module _ (f q : ℕ) (qt : q < 32 * segments w.config) (long : length w.storage ≡ 2048 * w.config.frames) where
    pub emptied_long : (occupied dirty : Bool) → length (emptying r occupied dirty f q (taken r w)).storage ≡ 2048 * w.config.frames
    emptied_long true dirty = e_long w.config k.fits w.storage long q _ qt
    emptied_long false dirty = long

    pub emptied_segment : (occupied dirty : Bool) (g : ℕ) → g < segment_entries w.config → word (emptying r occupied dirty f q (taken r w)).storage (segment_at g) ≡ word w.storage (segment_at g)
    emptied_segment true dirty g h = e_segment w.config k.fits w.storage long q _ qt g h
    emptied_segment false dirty g h = refl

  -- a page whose frame was found
  resident : (p key f : ℕ) → key_of w.config.partitions p ≡ Some key → length w.storage ≡ 2048 * w.config.frames → where_is w p ≡ Some f
      → tables_right w p key (Some f) ≡ true → Ready r p key w f w
  resident p key f part long e t =
      let m = frame_some w.config w.storage w.records k.fits.some p f e in
      let a = page_is_lem w.config w.storage p (8 * f) (and_parts _ _ t).0 in
      let h = a.1 in
      record {
        brought = record { consistent = k; pageable = m.0; has = m.1; same_config = refl };
        part = part;
        long = long;
        segment = a.0;
        entry = omega arith;
      }

  -- a page that no frame has
  module _ (p key : ℕ) (part : key_of w.config.partitions p ≡ Some key) (long : length w.storage ≡ 2048 * w.config.frames)
      (absent : (g : ℕ) → Pageable w.config g → page_in w.records g ≡ p → ⊥)
      (room : fixed_in w.records w.config.supervisor (w.config.frames - w.config.supervisor) ≡ w.config.frames - w.config.supervisor → ⊥) where
    abbrev pub into : ℕ
    into = taken_frame r w

    abbrev pub hollow : World T P S
    hollow = emptied r into (taken r w)

    pub into_pageable : Pageable w.config into
    into_pageable = (handed_to r law w k p key part absent room long).pageable

    pub hollow_body : BodyOf r hollow
    hollow_body = (emptied_body r law w k p key part absent room long (not (eqb (page_in w.records into) no_page)) (changed (get_or (taking r w).keys into 0)) refl).0

    -- the page that goes out has an entry
    out_listed : (page_in w.records into ≡ no_page → ⊥) → page_in w.records into < 32 * segments w.config
    out_listed = frame_listed w.config k.fits w.records k.table into into_pageable

    hollow_cases : (b : Bool) → not (eqb (page_in w.records into) no_page) ≡ b → (dirty : Bool)
        → (length (emptying r b dirty into (page_in w.records into) (taken r w)).storage ≡ 2048 * w.config.frames)
        × ((g : ℕ) → g < segment_entries w.config → word (emptying r b dirty into (page_in w.records into) (taken r w)).storage (segment_at g) ≡ word w.storage (segment_at g))
    hollow_cases false e dirty = (long, λ g h. refl)
    hollow_cases true e dirty =
        let ne : page_in w.records into ≡ no_page → ⊥ = eqb-false _ _ (Rattle.std.proofs.lemmas.Bool.not-true _ e) in
        (emptied_long into (page_in w.records into) (out_listed ne) long true dirty, emptied_segment into (page_in w.records into) (out_listed ne) long true dirty)

    pub hollow_long : length hollow.storage ≡ 2048 * w.config.frames
    hollow_long = (hollow_cases (not (eqb (page_in w.records into) no_page)) refl (changed (get_or (taking r w).keys into 0))).0

    pub hollow_segment : (g : ℕ) → g < segment_entries w.config → word hollow.storage (segment_at g) ≡ word w.storage (segment_at g)
    hollow_segment = (hollow_cases (not (eqb (page_in w.records into) no_page)) refl (changed (get_or (taking r w).keys into 0))).1

    abbrev pub filling : List ℕ
    filling = cond (eqb (bit15 hollow.storage p) 1) zeros (read_in r.store hollow.store (p - w.config.supervisor) (frame hollow.storage into))

    pub p_usable : stores.Usable r.store hollow.store (p - w.config.supervisor)
    p_usable = hollow_body.slots (p - w.config.supervisor) (slot_of r law w.config k.fits p key part)

    pub into_long : length (frame hollow.storage into) ≡ 2048
    into_long = laws.pages.page_long hollow.storage (2048 * into) (frame_fits w.config k.fits hollow.storage hollow_long into into_pageable.1)

    pub filling_long : length filling ≡ 2048
    filling_long = fill_long r.store law.store hollow.store hollow_body.good_store (p - w.config.supervisor) p_usable (frame hollow.storage into) into_long (eqb (bit15 hollow.storage p) 1)

    pub p_inside : (w.config.supervisor ≤ p) × (p < w.config.pages) × (key ≤ 15)
    p_inside = k.fits.keys p key part

    -- the frame stands wholly in main storage
    pub filled_is : fill_frame hollow.storage into filling ≡ put_page hollow.storage (2048 * into) filling
    filled_is =
        cond-true (fits 2048 hollow.storage (2048 * into)) _ _
        (le-leb (2048 * into + 2048) (length hollow.storage) (frame_fits w.config k.fits hollow.storage hollow_long into into_pageable.1))

    pub filled_after : (faulted r into p key w).storage ≡ after w.config k.fits hollow.storage hollow_long into p into_pageable p_inside.1 filling filling_long
    filled_after = ap (λ s. put_half s (entry_at p) (8 * into + bit15 s p)) filled_is

    pub fault_ready : word w.storage (segment_at (p / 32)) ≡ segment_word w.config (p / 32) → Ready r p key w into (faulted r into p key w)
    fault_ready seg =
        let pv = p_inside.1 in
        let m = k.fits.most in
        let e = ap (λ s. half s (entry_at p)) filled_after ∙ after_entry w.config k.fits hollow.storage hollow_long into p into_pageable pv filling filling_long in
        record {
          brought = faulted_own r law w k p key part absent room long;
          part = part;
          long = ap length filled_after ∙ after_long w.config k.fits hollow.storage hollow_long into p into_pageable pv filling filling_long;
          segment =
              ap (λ s. word s (segment_at (p / 32))) filled_after
              ∙ after_segment w.config k.fits hollow.storage hollow_long into p into_pageable pv filling filling_long (p / 32) (omega arith)
              ∙ hollow_segment (p / 32) (omega arith) ∙ seg;
          entry = omega (arith, e);
        }

  -- whichever it is
  ready_cases : (p key : ℕ) (o : Option ℕ) → key_of w.config.partitions p ≡ Some key → length w.storage ≡ 2048 * w.config.frames → where_is w p ≡ o
      → tables_right w p key o ≡ true → full w o ≡ false → Ready r p key w (brought_frame r w o) (brought r p key w o)
  ready_cases p key (Some f) part long e t room = resident p key f part long e t
  ready_cases p key None part long e t room =
      let a = page_is_lem w.config w.storage p (entry_for key None) (and_parts _ _ t).0 in
      fault_ready p key part long (frame_none w.config w.storage w.records k.fits.some p e)
      (λ z. false≢true (sym room ∙ and_from _ _ (eq-eqb _ _ z) refl)) a.0

  pub ready : (p : ℕ) (q : Request) → Reached w p q → full w (where_is w p) ≡ false
      → Ready r p q.key w (brought_frame r w q.frame) (brought r q.page q.key w q.frame)
  ready p q h room =
      subst (λ (x : Request). Ready r p x.key w (brought_frame r w x.frame) (brought r x.page x.key w x.frame)) (sym h.is)
      (ready_cases p q.key (where_is w p) h.part h.long refl h.tables room)
