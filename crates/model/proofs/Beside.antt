-- A machine beside the flat machine: a page brought in, and a sweep, keep them side by side.
use Rattle.std.proofs.Common.{◌≡◌, ℕ, zero, suc, ◌+◌, ◌-◌, ◌*◌, ◌/◌, ◌<◌, ◌≤◌, Bool, true, false, cond, not, ◌&&◌, eqb, List, length, get_or, Some, None, Option, sym, refl, ap, ◌∙◌, subst, inl, inr, arith}
use Rattle.std.proofs.lemmas.List.{get_or-set_same, get_or-set_other}
use Rattle.std.proofs.lemmas.Bool.{and_from, and_parts, cases_eq, cond_both, eqb-false, ne_eqb, not-true}
use Rattle.frames.specs.Keys.{access_of, changed}
use Rattle.model.specs.Law.{Consistent, Pageable}
use Rattle.model.specs.Layout.{bit15, entry_at, entry_for, fixed_in, fixes_in, frame_is, frame_of, key_of, no_page, page_in, page_is, segment_at, segments}
use Rattle.model.specs.Refusals.{tables_right, where_is}
use Rattle.model.specs.Steps.{brought, emptied, emptying, faulted, put_out, read_in, settled_in, settling, swept, taken, taken_frame, taking}
use Rattle.model.specs.Tests.{Absent, Entries}
use Rattle.model.specs.World.{LawfulParts, Parts, World}
use Rattle.model.proofs.Fault.{emptied_body, handed_to, taken_body}
use Rattle.model.proofs.Find.{all_frames, frame_none, frame_some, is_page}
use Rattle.model.proofs.Kept.{settled_own}
use Rattle.model.proofs.Memory.{Content, Counts, backing, change_off_lem, changed_off, content_keys, out_other, out_same, settled_content, settled_entries, vacated_bit, vacated_content, vacated_counts, vacated_entries}
use Rattle.model.proofs.Moved.{connected_content, connected_counts, connected_entries}
use Rattle.model.proofs.Own.{in_keys, read_in_lem, real_page, taken_alike}
use Rattle.model.proofs.Place.{frame_fits}
use Rattle.model.proofs.Ready.{filled_after, filling_long, into_long, p_usable}
use Rattle.storage.specs.Bytes.{frame, half, page, put_half, word, zeros}
use Rattle.storage.specs.Over.{laws}

-- Storage, keys, frame table and store of a world stand for these bytes and counts.
pub record Mem {T P S : Type 0} (r : Parts T P S) (w : World T P S) (bytes fixes : List ℕ) : Type 0 where
  pub entries : Entries w.config w.records w.storage
  pub content : Content r.store w.config w.records w.keys w.store w.storage bytes
  pub counts : Counts w.config w.records fixes

module _ {T P S : Type 0} (r : Parts T P S) (law : LawfulParts r) where
  module _ (w : World T P S) (k : Consistent r w) (bytes fixes : List ℕ) (m : Mem r w bytes fixes) (p key : ℕ)
      (part : key_of w.config.partitions p ≡ Some key) (absent : Absent w.config w.records p)
      (room : fixed_in w.records w.config.supervisor (w.config.frames - w.config.supervisor) ≡ w.config.frames - w.config.supervisor → ⊥) where
    long : length w.storage ≡ 2048 * w.config.frames
    long = m.entries.long

    abbrev f : ℕ
    f = taken_frame r w

    fp : Pageable w.config f
    fp = (handed_to r law w k p key part absent room long).pageable

    unfixed : fixes_in w.records f ≡ 0
    unfixed = (handed_to r law w k p key part absent room long).unfixed

    taken_content : Content r.store w.config w.records (taking r w).keys w.store w.storage bytes
    taken_content =
        content_keys r.store law.store w.config k.fits w.records w.keys (taking r w).keys w.store w.storage bytes m.content
        (taken_alike changed changed_off w.keys (taking r w).keys (law.policy.take_keys w.policy w.keys k.good.policy))

    -- the emptied frame's page stands behind itself
    module _ (ne : page_in w.records f ≡ no_page → ⊥) where
      abbrev q : ℕ
      q = page_in w.records f

      named : (y : ℕ) × (key_of w.config.partitions q ≡ Some y)
      named = k.table.named f fp ne

      bit_small : (dirty : Bool) → cond dirty 0 (bit15 w.storage q) ≤ 1
      bit_small true = omega arith
      bit_small false = omega arith

      abbrev outgoing : Bool → ℕ
      outgoing dirty = 4 + 16 * access_of (get_or (taking r w).keys f 0) + cond dirty 0 (bit15 w.storage q)

      frame_long : length (frame w.storage f) ≡ 2048
      frame_long = laws.pages.page_long w.storage (2048 * f) (frame_fits w.config k.fits w.storage long f fp.1)

      bit_then : (dirty : Bool) → bit15 (put_half w.storage (entry_at q) (outgoing dirty)) q ≡ cond dirty 0 (bit15 w.storage q)
      bit_then dirty =
          vacated_bit r.store law.store w.config k.fits w.records k.table w.storage m.entries f fp ne
          (cond dirty 0 (bit15 w.storage q)) (bit_small dirty) (taking r w).keys (taken_body r law w k p key part absent room long).keyed

      behind : (dirty : Bool) → changed (get_or (taking r w).keys f 0) ≡ dirty
          → backing r.store w.config (put_half w.storage (entry_at q) (outgoing dirty)) (cond dirty (put_out r.store w.store (q - w.config.supervisor) (frame w.storage f)) w.store) q ≡ page bytes (2048 * q)
      behind true e =
          ap (λ n. cond (eqb n 1) zeros (r.store.slot (put_out r.store w.store (q - w.config.supervisor) (frame w.storage f)) (q - w.config.supervisor))) (bit_then true)
          ∙ out_same r.store law.store w.config k.fits w.store k.good.store k.slots q named.0 named.1 (frame w.storage f) frame_long
          ∙ m.content.inside f fp ne
      behind false e =
          ap (λ n. cond (eqb n 1) zeros (r.store.slot w.store (q - w.config.supervisor))) (bit_then false)
          ∙ taken_content.clean f fp ne e

      others : (dirty : Bool) (x y : ℕ) → key_of w.config.partitions x ≡ Some y → (x ≡ q → ⊥)
          → r.store.slot (cond dirty (put_out r.store w.store (q - w.config.supervisor) (frame w.storage f)) w.store) (x - w.config.supervisor) ≡ r.store.slot w.store (x - w.config.supervisor)
      others true x y e nx = out_other r.store law.store w.config k.fits w.store k.good.store k.slots q named.0 named.1 (frame w.storage f) frame_long x y e nx
      others false x y e nx = refl

    hollow_mem : (occupied dirty : Bool) → not (eqb (page_in w.records f) no_page) ≡ occupied → changed (get_or (taking r w).keys f 0) ≡ dirty
        → Mem r (emptying r occupied dirty f (page_in w.records f) (taken r w)) bytes fixes
    hollow_mem false dirty e d = record { entries = m.entries; content = taken_content; counts = m.counts }
    hollow_mem true dirty e d =
        let ne : page_in w.records f ≡ no_page → ⊥ = eqb-false _ _ (not-true _ e) in
        record {
          entries = vacated_entries r.store law.store w.config k.fits w.records k.table w.storage m.entries f fp ne
              (cond dirty 0 (bit15 w.storage (page_in w.records f))) (bit_small ne dirty) (taking r w).keys (taken_body r law w k p key part absent room long).keyed;
          content = vacated_content r.store law.store w.config k.fits w.records k.table w.storage m.entries f fp ne
              (cond dirty 0 (bit15 w.storage (page_in w.records f))) (bit_small ne dirty) (taking r w).keys (taken_body r law w k p key part absent room long).keyed
              w.store _ bytes taken_content (others ne dirty) (behind ne dirty d);
          counts = vacated_counts r.store law.store w.config k.fits w.records k.table w.storage m.entries f fp ne unfixed fixes m.counts;
        }

    -- the world after the fault, with other main storage
    abbrev stored_as : List ℕ → World T P S
    stored_as s = let next = faulted r f p key w in record {
      config = next.config;
      storage = s;
      keys = next.keys;
      records = next.records;
      translator = next.translator;
      policy = next.policy;
      store = next.store;
    }

    pub faulted_mem : Mem r (faulted r f p key w) bytes fixes
    faulted_mem =
        let h = hollow_mem (not (eqb (page_in w.records f) no_page)) (changed (get_or (taking r w).keys f 0)) refl refl in
        let w1 = emptied r f (taken r w) in
        let e = emptied_body r law w k p key part absent room long (not (eqb (page_in w.records f) no_page)) (changed (get_or (taking r w).keys f 0)) refl in
        let gone : Absent w.config w1.records p = λ g gp is. elim (cases_eq g f) [
          | inl z ↦ real_page w.config k.fits p key part (sym is ∙ ap (page_in w1.records) z ∙ e.1)
          | inr z ↦ absent g gp (sym (e.2 g z) ∙ is)
        ] in
        let b = cond (eqb (bit15 w1.storage p) 1) zeros (read_in r.store w1.store (p - w.config.supervisor) (frame w1.storage f)) in
        let bl = filling_long r law w k p key part long absent room in
        let is : b ≡ backing r.store w.config w1.storage w1.store p =
        ap (λ x. cond (eqb (bit15 w1.storage p) 1) zeros x)
        (read_in_lem r.store w1.store (p - w.config.supervisor) (frame w1.storage f) (p_usable r law w k p key part long absent room) (into_long r law w k p key part long absent room)) in
        let kl = in_keys w.config k.fits w1.records w1.keys e.0.keyed f fp.1 in
        subst (λ s. Mem r (stored_as s) bytes fixes) (sym (filled_after r law w k p key part long absent room)) (record {
          entries = connected_entries r.store w.config k.fits w1.records e.0.table w1.storage h.entries f p key fp e.1 part gone b bl;
          content = connected_content r.store w.config k.fits w1.records e.0.table w1.storage h.entries f p key fp e.1 part gone b bl w1.keys kl w1.store bytes h.content is;
          counts = connected_counts r.store w.config k.fits w1.records e.0.table w1.storage h.entries f p key fp e.1 part gone b bl (e.3 f ∙ unfixed) fixes h.counts;
        })

  -- the tables are right for any page of a partition
  module _ (w : World T P S) (k : Consistent r w) (bytes fixes : List ℕ) (m : Mem r w bytes fixes) where
    segment_right : (p : ℕ) → p < w.config.pages → word w.storage (segment_at (p / 32)) ≡ Rattle.model.specs.Layout.segment_word w.config (p / 32)
    segment_right p h = m.entries.segment (p / 32) (omega arith)

    frame_right : (f : ℕ) → Pageable w.config f → frame_is w.config w.storage w.records f ≡ true
    frame_right f fp =
        cond_both (eqb (page_in w.records f) no_page) true (page_is w.config w.storage (page_in w.records f) (8 * f)) (λ b. b ≡ true) (λ _. refl)
        (λ e.
        let ne = eqb-false _ _ e in
        let n = k.table.named f fp ne in
        let i = m.entries.inside f fp ne in
        is_page w.config w.storage (page_in w.records f) (8 * f) (segment_right _ (k.fits.keys _ n.0 n.1).1) (omega arith))

    pub frames_right : Rattle.model.specs.Layout.frames_are w.config w.storage w.records w.config.supervisor (w.config.frames - w.config.supervisor) ≡ true
    frames_right = all_frames w.config w.storage w.records w.config.supervisor (w.config.frames - w.config.supervisor)
        (λ g a b. frame_right g (a, let s = k.fits.some in omega arith))

    pub tables_right_lem : (p key : ℕ) (o : Option ℕ) → key_of w.config.partitions p ≡ Some key → where_is w p ≡ o → tables_right w p key o ≡ true
    tables_right_lem p key (Some f) part e =
        let h = frame_some w.config w.storage w.records k.fits.some p f e in
        let i = m.entries.inside f h.0 (λ z. real_page w.config k.fits p key part (sym h.1 ∙ z)) in
        let j : half w.storage (entry_at p) / 2 ≡ 4 * f = ap (λ x. half w.storage (entry_at x) / 2) (sym h.1) ∙ i in
        and_from _ _ (is_page w.config w.storage p (8 * f) (segment_right p (k.fits.keys p key part).1) (omega arith)) refl
    tables_right_lem p key None part e =
        let o = m.entries.outside p key part (frame_none w.config w.storage w.records k.fits.some p e) in
        and_from _ _ (is_page w.config w.storage p (4 + 16 * key) (segment_right p (k.fits.keys p key part).1) (omega arith)) frames_right

  -- a page brought in
  pub brought_mem : (w : World T P S) (k : Consistent r w) (bytes fixes : List ℕ) → Mem r w bytes fixes → (p key : ℕ) (o : Option ℕ)
      → key_of w.config.partitions p ≡ Some key → where_is w p ≡ o
      → ((z : o ≡ None) → fixed_in w.records w.config.supervisor (w.config.frames - w.config.supervisor) ≡ w.config.frames - w.config.supervisor → ⊥)
      → Mem r (brought r p key w o) bytes fixes
  brought_mem w k bytes fixes m p key (Some f) part e room = m
  brought_mem w k bytes fixes m p key None part e room =
      faulted_mem w k bytes fixes m p key part (frame_none w.config w.storage w.records k.fits.some p e) (room refl)

  -- a frame settled: nothing is changed in it then
  module _ (w : World T P S) (k : Consistent r w) (bytes fixes : List ℕ) (m : Mem r w bytes fixes) (f : ℕ) (fp : Pageable w.config f) where
    kl : f < length w.keys
    kl = in_keys w.config k.fits w.records w.keys k.keyed f fp.1

    settled_cases : (b : Bool) → (not (eqb (page_in w.records f) no_page) && changed (get_or w.keys f 0)) ≡ b → Mem r (settling r b f (page_in w.records f) w) bytes fixes
    settled_cases false e = m
    settled_cases true e =
        let ne : page_in w.records f ≡ no_page → ⊥ = eqb-false _ _ (not-true _ (and_parts _ _ e).0) in
        record {
          entries = settled_entries r.store law.store w.config k.fits w.records k.table w.storage m.entries f fp ne;
          content = settled_content r.store law.store w.config k.fits w.records k.table w.storage m.entries f fp ne w.keys kl w.store k.good.store k.slots bytes m.content;
          counts = m.counts;
        }

    pub settled_mem : Mem r (settled_in r f w) bytes fixes
    settled_mem = settled_cases (not (eqb (page_in w.records f) no_page) && changed (get_or w.keys f 0)) refl

    -- a frame with a page is clean then, and other frames are as they were
    clean_cases : (b : Bool) → (not (eqb (page_in w.records f) no_page) && changed (get_or w.keys f 0)) ≡ b → (page_in w.records f ≡ no_page → ⊥)
        → changed (get_or (settling r b f (page_in w.records f) w).keys f 0) ≡ false
    clean_cases true e ne = ap changed (get_or-set_same w.keys f _ 0 kl) ∙ change_off_lem (get_or w.keys f 0)
    clean_cases false e ne = sym (ap (λ b. not b && changed (get_or w.keys f 0)) (ne_eqb _ _ ne)) ∙ e

    pub settled_clean : (page_in w.records f ≡ no_page → ⊥) → changed (get_or (settled_in r f w).keys f 0) ≡ false
    settled_clean ne = clean_cases (not (eqb (page_in w.records f) no_page) && changed (get_or w.keys f 0)) refl ne

    other_cases : (b : Bool) (g : ℕ) → (g ≡ f → ⊥) → changed (get_or (settling r b f (page_in w.records f) w).keys g 0) ≡ changed (get_or w.keys g 0)
    other_cases true g ne = ap changed (get_or-set_other w.keys f g _ 0 ne)
    other_cases false g ne = refl

    pub settled_others : (g : ℕ) → (g ≡ f → ⊥) → changed (get_or (settled_in r f w).keys g 0) ≡ changed (get_or w.keys g 0)
    settled_others g ne = other_cases (not (eqb (page_in w.records f) no_page) && changed (get_or w.keys f 0)) g ne

  -- a sweep: all frames with a page are clean then
  pub record Swept (w next : World T P S) (from to : ℕ) (bytes fixes : List ℕ) : Type 0 where
    pub mem : Mem r next bytes fixes
    pub same_config : next.config ≡ w.config
    pub same_records : next.records ≡ w.records
    pub clean : (g : ℕ) → w.config.supervisor ≤ g → g < to → (page_in w.records g ≡ no_page → ⊥) → changed (get_or next.keys g 0) ≡ false

  pub swept_mem : (f n : ℕ) (w : World T P S) → Consistent r w → (bytes fixes : List ℕ) → Mem r w bytes fixes → w.config.supervisor ≤ f → f + n ≤ w.config.frames
      → ((g : ℕ) → w.config.supervisor ≤ g → g < f → (page_in w.records g ≡ no_page → ⊥) → changed (get_or w.keys g 0) ≡ false)
      → Swept w (swept r f n w) f (f + n) bytes fixes
  unfolding swept
  swept_mem f zero w k bytes fixes m low h clean = record { mem = m; same_config = refl; same_records = refl; clean = λ g a b ne. clean g a (omega arith) ne }
  swept_mem f (suc n) w k bytes fixes m low h clean =
      let fp : Pageable w.config f = (low, omega arith) in
      let rest = swept_mem (f + 1) n (settled_in r f w) (settled_own r law w k f fp m.entries.long) bytes fixes (settled_mem w k bytes fixes m f fp) (omega arith) (omega arith)
      (λ g a b ne. elim (cases_eq g f) [
        | inl e ↦ ap (λ x. changed (get_or (settled_in r f w).keys x 0)) e ∙ settled_clean w k bytes fixes m f fp (λ z. ne (ap (page_in w.records) e ∙ z))
        | inr e ↦ settled_others w k bytes fixes m f fp g e ∙ clean g a (omega arith) ne
      ]) in
      record {
        mem = rest.mem;
        same_config = rest.same_config;
        same_records = rest.same_records;
        clean = λ g a b ne. rest.clean g a (omega arith) ne;
      }
