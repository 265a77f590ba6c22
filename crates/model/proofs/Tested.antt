-- What IPL writes, what a refused IPL leaves, and what the tests of the tables and the search for a page's frame mean.
use Rattle.std.proofs.Common.{◌≡◌, ℕ, ◌+◌, ◌-◌, ◌*◌, ◌/◌, ◌<◌, ◌≤◌, Bool, true, false, cond, ◌&&◌, eqb, ltb, List, length, Some, None, Ok, Err, Option, Result, sym, refl, ap, ◌∙◌, inl, inr, arith}
use Rattle.std.proofs.lemmas.Bool.{and_from, and_parts, cond-false, cond-true, cond_both, eq-eqb, eqb-false, eqb-true, false_from_ne_true, le-ltb, lt-ltb, ltb-false, ltb-true, ne_eqb}
use Rattle.model.specs.declared.calls.IplRefusal.{IplRefusal}
use Rattle.model.specs.declared.calls.IplRefusal.TheVariants.{Sizes, Partitions}
use Rattle.model.specs.declared.calls.Refusal.{Refusal}
use Rattle.model.specs.declared.calls.Refusal.TheVariants.{Sizes as WrongLength, Tables}
use Rattle.model.specs.declared.shape.FrameRecord.{FrameRecord}
use Rattle.model.specs.Ipl.{first_fault, ipl, partitions_fit, sizes_fit, start_by}
use Rattle.model.specs.Law.{Consistent, Fits, FrameRight, Pageable, RefusedOf, Table, TablesOf, TablesRight, TestOf}
use Rattle.model.specs.Layout.{entries_are, entry_at, entry_for, entry_should, frame_is, frame_of, frames_are, key_of, no_page, out_entry, page_in, page_is, segment_entries, segments, segments_are}
use Rattle.model.specs.Refusals.{and_then, decode_purge, decode_settle, tables_right, unless, where_is}
use Rattle.model.specs.Tests.{Absent, Entries, Found, FoundOf, FramesRight, PurgeTestOf, SettleTestOf}
use Rattle.model.specs.World.{Config, Parts, World}
use Rattle.model.proofs.Find.{all_entries, all_frames, all_segments, each_entry, each_frame, each_segment, frame_none, frame_page, frame_some, is_page, page_is_lem}
use Rattle.model.proofs.Own.{frame_listed, real_page}
use Rattle.model.proofs.Place.{listed}
use Rattle.model.proofs.Start.{first_entry_lem, first_segment, fits_from, tables_kept, tables_long}
use Rattle.storage.specs.Bytes.{half}

-- IPL writes the tables and nothing else.
pub tables_of : TablesOf
tables_of c s e q =
    let f = fits_from c s e q in
    record {
      long = tables_long c f.0 s f.1 ∙ sym f.1;
      segment = first_segment c f.0 s f.1;
      entry = first_entry_lem c f.0 s f.1;
      below = λ j h. tables_kept c f.0 s f.1 j (inl h);
      between = λ j a b. tables_kept c f.0 s f.1 j (inr (inl (a, b)));
      above = λ j h. tables_kept c f.0 s f.1 j (inr (inr h));
    }

-- Two tests in a row.
abbrev both : Bool → Bool → Result (Unit {0}) Refusal
both a b = and_then (unless a WrongLength) (λ _. unless b Tables)

both_by : (a b x y : Bool) → a ≡ x → b ≡ y → both a b ≡ both x y
both_by a b x y e f = ap (λ z. both z b) e ∙ ap (both x) f

module _ (c : Config) (fit : Fits c) (s : List ℕ) (rs : List FrameRecord) where
  -- the test of every frame's page, and back
  pub frames_to : frames_are c s rs c.supervisor (c.frames - c.supervisor) ≡ true → FramesRight c rs s
  frames_to t g gp ne =
      let lo = gp.0 in let hi = gp.1 in let some = fit.some in
      let f = frame_page c s rs g (each_frame c s rs c.supervisor (c.frames - c.supervisor) t g lo (omega arith)) ne in
      record { segment = f.0; entry = f.1 }

  pub frames_from : FramesRight c rs s → frames_are c s rs c.supervisor (c.frames - c.supervisor) ≡ true
  frames_from h = all_frames c s rs c.supervisor (c.frames - c.supervisor) (λ g a b. each g (a, let some = fit.some in omega arith))
    where
      each : (g : ℕ) → Pageable c g → frame_is c s rs g ≡ true
      each g gp =
          cond_both (eqb (page_in rs g) no_page) true (page_is c s (page_in rs g) (8 * g)) (λ b. b ≡ true) (λ _. refl)
          (λ e. let f = h g gp (eqb-false _ _ e) in let i = f.entry in is_page c s (page_in rs g) (8 * g) f.segment (omega arith))

  -- every entry is what a purge tests it to be
  module _ (ents : Entries c rs s) where
    by_frame : (p key : ℕ) → key_of c.partitions p ≡ Some key → (o : Option ℕ) → frame_of c s rs p ≡ o → half s (entry_at p) / 2 ≡ entry_for key o / 2
    by_frame p key part (Some f) e =
        let h = frame_some c s rs fit.some p f e in
        let i = ents.inside f h.0 (λ z. real_page c fit p key part (sym h.1 ∙ z)) in
        let j : half s (entry_at p) / 2 ≡ 4 * f = ap (λ x. half s (entry_at x) / 2) (sym h.1) ∙ i in
        omega arith
    by_frame p key part None e = let o = ents.outside p key part (frame_none c s rs fit.some p e) in omega arith

    by_key : (p : ℕ) → p < 32 * segments c → c.supervisor ≤ p → (o : Option ℕ) → key_of c.partitions p ≡ o → half s (entry_at p) / 2 ≡ out_entry c s rs p o / 2
    by_key p h l None e = ents.unused p h l e
    by_key p h l (Some key) e = by_frame p key e (frame_of c s rs p) refl

    pub entries_right : (p : ℕ) → p < 32 * segments c → half s (entry_at p) / 2 ≡ entry_should c s rs p / 2
    entries_right p h =
        cond_both (ltb p c.supervisor) (8 * p + 1) (out_entry c s rs p (key_of c.partitions p)) (λ e. half s (entry_at p) / 2 ≡ e / 2)
        (λ t. let z = ents.supervisor p (ltb-true _ _ t) in omega arith)
        (λ t. by_key p h (ltb-false _ _ t) (key_of c.partitions p) refl)

    entries_pass : (segments_are c s 0 (segment_entries c) && entries_are c s rs 0 (32 * segments c)) ≡ true
    entries_pass =
        and_from _ _ (all_segments c s 0 (segment_entries c) (λ g a b. ents.segment g (omega arith)))
        (all_entries c s rs 0 (32 * segments c) (λ p a b. eq-eqb _ _ (entries_right p (omega arith))))

  -- the search for the frame of a partition page
  module _ (t : Table c rs) where
    module _ (p key : ℕ) (part : key_of c.partitions p ≡ Some key) where
      pub found_named : (o : Option ℕ) → frame_of c s rs p ≡ o → (f : ℕ) → Pageable c f → page_in rs f ≡ p → o ≡ Some f
      found_named (Some g) e f fp is =
          let h = frame_some c s rs fit.some p g e in
          ap Some (t.apart g f h.0 fp (h.1 ∙ sym is) (λ z. real_page c fit p key part (sym h.1 ∙ z)))
      found_named None e f fp is = absurd (frame_none c s rs fit.some p e f fp is)

      pub found_absent : (o : Option ℕ) → frame_of c s rs p ≡ o → Absent c rs p → o ≡ None
      found_absent (Some g) e none = let h = frame_some c s rs fit.some p g e in absurd (none g h.0 h.1)
      found_absent None e none = refl

    -- what the test of every entry says
    module _ (long : length s ≡ 2048 * c.frames) (pass : (segments_are c s 0 (segment_entries c) && entries_are c s rs 0 (32 * segments c)) ≡ true) where
      stands : (p : ℕ) → p < 32 * segments c → half s (entry_at p) / 2 ≡ entry_should c s rs p / 2
      stands p h = eqb-true _ _ (each_entry c s rs 0 (32 * segments c) (and_parts _ _ pass).1 p (omega arith) (omega arith))

      high : (p : ℕ) (o : Option ℕ) → p < 32 * segments c → c.supervisor ≤ p → key_of c.partitions p ≡ o → half s (entry_at p) / 2 ≡ out_entry c s rs p o / 2
      high p o h l e =
          stands p h ∙ ap (λ n. n / 2) (cond-false _ (8 * p + 1) (out_entry c s rs p (key_of c.partitions p)) (le-ltb _ _ l) ∙ ap (out_entry c s rs p) e)

      partition_page : (p key : ℕ) (o : Option ℕ) → key_of c.partitions p ≡ Some key → frame_of c s rs p ≡ o → half s (entry_at p) / 2 ≡ entry_for key o / 2
      partition_page p key o part e =
          let i = fit.keys p key part in
          high p (Some key) (listed c fit p i.1) i.0 part ∙ ap (λ x. entry_for key x / 2) e

      entries_from : Entries c rs s
      entries_from = record {
        long = long;
        segment = λ g h. each_segment c s 0 (segment_entries c) (and_parts _ _ pass).0 g (omega arith) (omega arith);
        supervisor = λ p h.
            let more = fit.more in
            stands p (omega arith) ∙ ap (λ n. n / 2) (cond-true _ (8 * p + 1) (out_entry c s rs p (key_of c.partitions p)) (lt-ltb _ _ h))
            ∙ (let z : (8 * p + 1) / 2 ≡ 4 * p = omega arith in z);
        inside = λ f fp ne.
            let n = t.named f fp ne in
            partition_page (page_in rs f) n.0 (Some f) n.1 (found_named (page_in rs f) n.0 n.1 (frame_of c s rs (page_in rs f)) refl f fp refl)
            ∙ (let z : (8 * f) / 2 ≡ 4 * f = omega arith in z);
        outside = λ p key part a.
            partition_page p key None part (found_absent p key part (frame_of c s rs p) refl a) ∙ (let z : (4 + 16 * key) / 2 ≡ 2 + 8 * key = omega arith in z);
        unused = λ p h l e. high p None h l e;
      }

module _ {T P S : Type 0} (r : Parts T P S) where
  refused_cases : (c : Config) (w : World T P S) (why : IplRefusal) (a b : Bool) (o : Option _)
      → (cond a (cond b (start_by r c w o) (Err Partitions, w)) (Err Sizes, w)).0 ≡ Err why → (cond a (cond b (start_by r c w o) (Err Partitions, w)) (Err Sizes, w)).1 ≡ w
  refused_cases c w why true true None e = cc
  refused_cases c w why true true (Some f) e = refl
  refused_cases c w why true false o e = refl
  refused_cases c w why false b o e = refl

  pub refused_of : RefusedOf r
  unfolding ipl
  refused_of c w why e = refused_cases c w why (sizes_fit c w.storage) (partitions_fit c) (first_fault r.store w.store 0 (c.pages - c.supervisor)) e

  module _ (w : World T P S) (k : Consistent r w) (p key : ℕ) (part : key_of w.config.partitions p ≡ Some key) where
    right_to : (o : Option ℕ) → where_is w p ≡ o → tables_right w p key o ≡ true → TablesRight w.config w.storage w.records p key
    right_to (Some f) e t =
        let a = page_is_lem w.config w.storage p (8 * f) (and_parts _ _ t).0 in
        let h = frame_some w.config w.storage w.records k.fits.some p f e in
        let b = a.1 in
        record {
          segment = a.0;
          inside = λ g gp is.
              let same = k.table.apart g f gp h.0 (is ∙ sym h.1) (λ z. real_page w.config k.fits p key part (sym is ∙ z)) in
              omega arith;
          outside = λ none. absurd (none f h.0 h.1);
          others = λ none. absurd (none f h.0 h.1);
        }
    right_to None e t =
        let a = page_is_lem w.config w.storage p (4 + 16 * key) (and_parts _ _ t).0 in
        let none = frame_none w.config w.storage w.records k.fits.some p e in
        let all = (and_parts (page_is w.config w.storage p (4 + 16 * key)) _ t).1 in
        let b = a.1 in
        record {
          segment = a.0;
          inside = λ g gp is. absurd (none g gp is);
          outside = λ _. omega arith;
          others = λ _. frames_to w.config k.fits w.storage w.records all;
        }

    right_from : (o : Option ℕ) → where_is w p ≡ o → TablesRight w.config w.storage w.records p key → tables_right w p key o ≡ true
    right_from (Some f) e t =
        let h = frame_some w.config w.storage w.records k.fits.some p f e in
        let i = t.inside f h.0 h.1 in
        and_from _ _ (is_page w.config w.storage p (8 * f) t.segment (omega arith)) refl
    right_from None e t =
        let none = frame_none w.config w.storage w.records k.fits.some p e in
        let o = t.outside none in
        and_from _ _ (is_page w.config w.storage p (4 + 16 * key) t.segment (omega arith))
        (frames_from w.config k.fits w.storage w.records (t.others none))

  pub test_of : TestOf r
  test_of w p key k part = record {
    to = right_to w k p key part (where_is w p) refl;
    from = right_from w k p key part (where_is w p) refl;
  }

  pub found_of : FoundOf r
  found_of w p key k part = record {
    named = found_named w.config k.fits w.storage w.records k.table p key part (where_is w p) refl;
    only = frame_some w.config w.storage w.records k.fits.some p;
    absent = found_absent w.config k.fits w.storage w.records k.table p key part (where_is w p) refl;
  }

  pub settle_test_of : SettleTestOf r
  unfolding decode_settle
  settle_test_of w k =
      let test : Bool = frames_are w.config w.storage w.records w.config.supervisor (w.config.frames - w.config.supervisor) in
      let long : Bool = eqb (length w.storage) (2048 * w.config.frames) in
      record {
        sizes = λ ne. both_by long test false test (ne_eqb _ _ ne) refl;
        wrong = λ l n. both_by long test true false (eq-eqb _ _ l) (false_from_ne_true test (λ t. n (frames_to w.config k.fits w.storage w.records t)));
        right = λ l h. both_by long test true true (eq-eqb _ _ l) (frames_from w.config k.fits w.storage w.records h);
      }

  pub purge_test_of : PurgeTestOf r
  unfolding decode_purge
  purge_test_of w k =
      let test : Bool = segments_are w.config w.storage 0 (segment_entries w.config) && entries_are w.config w.storage w.records 0 (32 * segments w.config) in
      let long : Bool = eqb (length w.storage) (2048 * w.config.frames) in
      record {
        sizes = λ ne. both_by long test false test (ne_eqb _ _ ne) refl;
        wrong = λ l n. both_by long test true false (eq-eqb _ _ l) (false_from_ne_true test (λ t. n (entries_from w.config k.fits w.storage w.records k.table l t)));
        right = λ e. both_by long test true true (eq-eqb _ _ e.long) (entries_pass w.config k.fits w.storage w.records e);
      }
