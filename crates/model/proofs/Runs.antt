-- Every call keeps the two machines side by side, and so does every run: the law over whole runs and over disturbed runs.
use Rattle.std.proofs.Common.{◌≡◌, ℕ, zero, suc, ◌+◌, ◌-◌, ◌*◌, ◌/◌, ◌%◌, ◌<◌, ◌≤◌, min, Bool, true, false, cond, ◌&&◌, eqb, ltb, List, [], ◌∷◌, length, get_or, set, replicate, Some, None, Ok, Err, Option, Result, sym, refl, ap, ◌∙◌, subst, inl, inr, arith}
use Rattle.std.specs.Result.{IsOk}
use Rattle.std.proofs.lemmas.List.{length-replicate}
use Rattle.std.proofs.Math.Nat.{min-eq_right}
use Rattle.std.proofs.lemmas.Bool.{and_from, cases_eq, cond-false, cond-true, cond_both, eq-eqb, false≢true, le-ltb, lt-ltb, ltb-false, ltb-true}
use Rattle.frames.specs.Keys.{changed, reference_on}
use Rattle.model.specs.declared.calls.Reply.{Reply}
use Rattle.model.specs.declared.calls.Reply.TheVariants.{Byte, Done}
use Rattle.model.specs.declared.calls.Call.{Call}
use Rattle.model.specs.declared.calls.Call.TheVariants.{Load, Store, Fix, Free, Purge, Settle}
use Rattle.model.specs.declared.calls.IplRefusal.TheVariants.{Sizes, Partitions}
use Rattle.model.specs.declared.calls.Refusal.{Refusal}
use Rattle.model.specs.declared.calls.Refusal.TheVariants.{Sizes as WrongLength, Tables}
use Rattle.model.specs.declared.shape.FrameRecord.{FrameRecord}
use Rattle.model.specs.declared.shape.Request.{Request}
use Rattle.model.specs.Flat.{Flat, blank, byte_set, fixed_pages, fixes_set, flat, flat_done, flat_fix, flat_free, flat_load, flat_loaded, flat_store}
use Rattle.model.specs.Ipl.{first_fault, fresh, ipl, own_pages, partition_entry, partitions_fit, sizes_fit, start_by, with_tables}
use Rattle.model.specs.Law.{After, Consistent, Fits, LawOf, Pageable, Placed, Saved, Slots, Sound, Stands, SteadyOf}
use Rattle.model.specs.Layout.{controls_of, counted, entries_are, entry_at, entry_for, entry_should, fixed_in, fixes_in, frame_of, frames_are, key_of, no_page, out_entry, page_in, segment_entries, segments, segments_are, vacant}
use Rattle.model.specs.Refusals.{and_then, decode_fix, decode_free, decode_load, decode_purge, decode_settle, decode_store, fixes_of, unless, where_is}
use Rattle.model.specs.Steps.{brought, brought_frame, byte_answer, change_on, done_answer, fix, fixed_once, fixing, free, freed_in, freeing, load, loaded_in, loading, purge, purging, settle, store, stored_in, storing, sweeping, swept, worked}
use Rattle.model.specs.Tests.{Entries}
use Rattle.model.specs.World.{Config, GoodParts, LawfulParts, Parts, World}
use Rattle.model.proofs.Answered.{Side, agree_cases, asked_is, byte_is, counts_agree, fix_agrees, free_agrees, load_agrees, placed, reached_mem, stands, store_agrees}
use Rattle.model.proofs.Beside.{Mem, frames_right, swept_mem}
use Rattle.model.proofs.Decoded.{fix_ok, free_ok, load_ok, store_ok}
use Rattle.model.proofs.Fault.{slot_of}
use Rattle.model.proofs.Find.{frame_none, frame_some}
use Rattle.model.proofs.Kept.{call_own, fixed_frame, loaded_own, ready_page, same_pages, steadies, stored_own}
use Rattle.model.proofs.Memory.{Content, Counts, backing, bit_is, change_on_lem, changed_on, content_keys, content_pages, entries_pages}
use Rattle.model.proofs.Moved.{counted_to, stored_content, stored_entries, total_falls, total_rises, total_stays}
use Rattle.model.proofs.Own.{agrees_frame, get_or-set_alike, in_keys, real_page}
use Rattle.model.proofs.Ready.{ready}
use Rattle.model.proofs.Start.{first_entry_lem, first_holding, first_segment, first_table, fits_from, get_or-replicate_same, no_fault, no_fixes, no_page_lem, tables_long}
use Rattle.model.proofs.Tested.{entries_right, purge_test_of}
use Rattle.pages.specs.Store as stores
use Rattle.storage.specs.Bytes.{half, page, zeros}
use Rattle.storage.specs.Over.{laws}

module _ {T P S : Type 0} (r : Parts T P S) (law : LawfulParts r) where
  -- an outcome beside the flat machine's
  abbrev KeptBy : Call → Result Reply Refusal × World T P S → Result Reply Refusal × Flat → Type 0
  KeptBy c x y = (x.0 ≡ y.0) × (IsOk x.0 → After r c x.1 y.1) × Side r law x.1 y.1

  module _ (w : World T P S) (k : Consistent r w) (bytes fixes : List ℕ) (m : Mem r w bytes fixes) where
    abbrev here : Flat
    here = record { config = w.config; bytes = bytes; fixes = fixes }

    stay : Side r law w here
    stay = record { mem = m; same = refl }

    refused : (c : Call) (x y : Refusal) → x ≡ y → KeptBy c (Err x, w) (Err y, here)
    refused c x y e = (ap Err e, (λ z. absurd (false≢true z)), stay)

    load_done : (a key : ℕ) (q : Request) → decode_load w a key ≡ Ok q
        → KeptBy (Load a key) (byte_answer (loading r a w (Ok q)).0, (loading r a w (Ok q)).1) (Ok (Byte (get_or bytes a 0)), here)
    load_done a key q e =
        let h = load_ok w a key q e in
        let d = ready r law w k (a / 2048) q h.0 h.1 in
        let next = brought r q.page q.key w q.frame in
        let f = brought_frame r w q.frame in
        let mn = reached_mem r law w k bytes fixes m (a / 2048) q h.0 h.1 in
        let kn = d.brought.consistent in
        let after = loaded_in r a f next in
        let ka = loaded_own r law w next a q.key f d in
        let ma : Mem r after bytes fixes = record {
          entries = mn.entries;
          content = content_keys r.store law.store next.config kn.fits next.records next.keys after.keys next.store next.storage bytes mn.content
              (get_or-set_alike changed next.keys f (reference_on (get_or next.keys f 0)) 0 (changed_on (get_or next.keys f 0)));
          counts = mn.counts;
        } in (
          ap (λ n. Ok (Byte n)) (ap (λ n. get_or next.storage n 0) (asked_is r law w next a q.key f d) ∙ byte_is r law next kn bytes fixes mn a q.key f d.part d.brought.pageable d.brought.has),
          (λ _. stands r law after ka bytes fixes ma a q.key f d.part d.brought.pageable d.brought.has w.config),
          record { mem = ma; same = sym d.brought.same_config },
        )

    store_done : (a key byte : ℕ) (q : Request) → decode_store w a key ≡ Ok q
        → KeptBy (Store a key byte) (done_answer (storing r a byte w (Ok q)).0, (storing r a byte w (Ok q)).1) (Ok Done, byte_set here a byte)
    store_done a key byte q e =
        let h = store_ok w a key q e in
        let d = ready r law w k (a / 2048) q h.0 h.1 in
        let next = brought r q.page q.key w q.frame in
        let f = brought_frame r w q.frame in
        let fp = d.brought.pageable in
        let mn = reached_mem r law w k bytes fixes m (a / 2048) q h.0 h.1 in
        let kn = d.brought.consistent in
        let after = stored_in r a byte f next in
        let ka = stored_own r law w next a byte q.key f d in
        let il : a % 2048 < 2048 = omega arith in
        let ne = ready_page r law (a / 2048) q.key w next f d in
        let at = asked_is r law w next a q.key f d in
        let whole : 2048 * page_in next.records f + a % 2048 ≡ a = ap (λ x. 2048 * x + a % 2048) d.brought.has ∙ (let z : 2048 * (a / 2048) + a % 2048 ≡ a = omega arith in z) in
        let new_key = change_on (reference_on (get_or next.keys f 0)) in
        let ma : Mem r after (set bytes a byte) fixes = record {
          entries = subst (λ n. Entries next.config next.records (set next.storage n byte)) (sym at)
              (stored_entries r.store next.config kn.fits next.records kn.table next.storage mn.entries f (a % 2048) byte fp ne il);
          content = subst (λ n. Content r.store next.config next.records after.keys next.store (set next.storage n byte) (set bytes a byte)) (sym at)
              (subst (λ n. Content r.store next.config next.records after.keys next.store (set next.storage (2048 * f + a % 2048) byte) (set bytes n byte)) whole
              (stored_content r.store next.config kn.fits next.records kn.table next.storage mn.entries f (a % 2048) byte fp ne il
              next.keys (in_keys next.config kn.fits next.records next.keys kn.keyed f fp.1) new_key (change_on_lem (reference_on (get_or next.keys f 0))) next.store bytes mn.content));
          counts = mn.counts;
        } in (
          refl,
          (λ _. stands r law after ka (set bytes a byte) fixes ma a q.key f d.part fp d.brought.has w.config),
          record { mem = ma; same = sym d.brought.same_config },
        )

    -- the count of a page in frame f changed
    count_mem : (next : World T P S) (kn : Consistent r next) (mn : Mem r next bytes fixes) (f n p : ℕ) (fp : Pageable next.config f) → (page_in next.records f ≡ no_page → ⊥)
        → page_in next.records f ≡ p → (t : T) (pol : P)
        → fixed_pages (set fixes (page_in next.records f) n) 0 next.config.pages ≡ fixed_in (set next.records f (record { page = page_in next.records f; fixes = n })) next.config.supervisor (next.config.frames - next.config.supervisor)
        → Mem r (record { config = next.config; storage = next.storage; keys = next.keys; records = set next.records f (record { page = page_in next.records f; fixes = n }); translator = t; policy = pol; store = next.store }) bytes (set fixes p n)
    count_mem next kn mn f n p fp ne is t pol total =
        let same = same_pages r law next kn f n fp ne in
        record {
          entries = entries_pages next.config next.records _ next.storage mn.entries same;
          content = content_pages r.store law.store next.config kn.fits next.records _ next.keys next.store next.storage bytes mn.content same;
          counts = subst (λ x. Counts next.config (set next.records f (record { page = page_in next.records f; fixes = n })) (set fixes x n)) is (counted_to next.config kn.fits next.records kn.table fixes mn.counts f n fp ne total);
        }

    fix_done : (p : ℕ) (q : Request) → decode_fix w p ≡ Ok q
        → KeptBy (Fix p) (done_answer (fixing r w (Ok q)).0, (fixing r w (Ok q)).1) (Ok Done, fixes_set here p (get_or fixes p 0 + 1))
    fix_done p q e =
        let h = fix_ok w p q e in
        let d = ready r law w k p q h.0 h.1 in
        let next = brought r q.page q.key w q.frame in
        let f = brought_frame r w q.frame in
        let fp = d.brought.pageable in
        let kn = d.brought.consistent in
        let mn = reached_mem r law w k bytes fixes m p q h.0 h.1 in
        let ne = ready_page r law p q.key w next f d in
        let n = min 255 (fixes_in next.records f + 1) in
        let old : get_or fixes p 0 ≡ fixes_in next.records f = ap (λ x. get_or fixes x 0) (sym d.brought.has) ∙ mn.counts.inside f fp ne in
        let before : get_or fixes p 0 ≡ fixes_of w.records (where_is w p) = sym (counts_agree r law w k bytes fixes m p q.key h.0.part (where_is w p) refl) in
        let exact : n ≡ fixes_in next.records f + 1 = let l = h.2 in min-eq_right (omega arith) in
        let up : ltb 0 n ≡ true = lt-ltb 0 n (omega arith) in
        let total = elim (cases_eq (fixes_in next.records f) 0)
        as (λ _. fixed_pages (set fixes (page_in next.records f) n) 0 next.config.pages ≡ fixed_in (set next.records f (record { page = page_in next.records f; fixes = n })) next.config.supervisor (next.config.frames - next.config.supervisor)) [
          | inl z ↦ total_rises next.config kn.fits next.records kn.table fixes mn.counts f n fp ne up (le-ltb 0 _ (omega arith))
          | inr z ↦ total_stays next.config kn.fits next.records kn.table fixes mn.counts f n fp ne (up ∙ sym (lt-ltb 0 _ (omega arith)))
        ] in (
          refl,
          (λ _. tt),
          record {
            mem = subst (λ x. Mem r (fixed_once r f next) bytes (set fixes p x)) (exact ∙ ap (λ x. x + 1) (sym old))
                (count_mem next kn mn f n p fp ne d.brought.has next.translator (fixed_once r f next).policy total);
            same = sym d.brought.same_config;
          },
        )

    free_done : (p : ℕ) (q : Request) → decode_free w p ≡ Ok q
        → KeptBy (Free p) (done_answer (freeing r w (Ok q)).0, (freeing r w (Ok q)).1) (Ok Done, fixes_set here p (get_or fixes p 0 - 1))
    free_done p q e =
        let h = free_ok w p q e in
        let g = fixed_frame r law w k p (where_is w p) refl h.1 in
        let f = g.0 in
        let fr : q.frame ≡ Some f = ap (λ (x : Request). x.frame) h.0.is ∙ g.1 in
        let fp = g.2 in
        let ne : page_in w.records f ≡ no_page → ⊥ = λ z. real_page w.config k.fits p q.key h.0.part (sym g.3 ∙ z) in
        let pos : 0 < fixes_in w.records f = subst (λ o. 0 < fixes_of w.records o) g.1 h.1 in
        let n = fixes_in w.records f - 1 in
        let old : get_or fixes p 0 ≡ fixes_in w.records f = ap (λ x. get_or fixes x 0) (sym g.3) ∙ m.counts.inside f fp ne in
        let was : ltb 0 (fixes_in w.records f) ≡ true = lt-ltb 0 _ pos in
        let total = elim (cases_eq (fixes_in w.records f) 1)
        as (λ _. fixed_pages (set fixes (page_in w.records f) n) 0 w.config.pages ≡ fixed_in (set w.records f (record { page = page_in w.records f; fixes = n })) w.config.supervisor (w.config.frames - w.config.supervisor)) [
          | inl z ↦ total_falls w.config k.fits w.records k.table fixes m.counts f n fp ne (le-ltb 0 n (omega arith)) was
          | inr z ↦ total_stays w.config k.fits w.records k.table fixes m.counts f n fp ne (lt-ltb 0 n (omega arith) ∙ sym was)
        ] in (
          refl,
          (λ _. tt),
          record {
            mem = subst (λ o. Mem r (freed_in r (brought_frame r w o) w) bytes (set fixes p (get_or fixes p 0 - 1))) (sym fr)
                (subst (λ x. Mem r (freed_in r f w) bytes (set fixes p (x - 1))) (sym old)
                (count_mem w k m f n p fp ne g.3 w.translator (freed_in r f w).policy total));
            same = refl;
          },
        )

    purge_passes : decode_purge w ≡ Ok tt
    purge_passes = (purge_test_of r w k).right m.entries

    purge_kept : KeptBy Purge (done_answer (purging r w (decode_purge w)).0, (purging r w (decode_purge w)).1) (Ok Done, here)
    purge_kept =
        subst (λ x. KeptBy Purge (done_answer (purging r w x).0, (purging r w x).1) (Ok Done, here)) (sym purge_passes)
        (refl, (λ _. tt), record { mem = record { entries = m.entries; content = m.content; counts = m.counts }; same = refl })

    settle_passes : decode_settle w ≡ Ok tt
    unfolding decode_settle
    settle_passes =
        ap (λ b. and_then (unless b WrongLength) (λ _. unless (frames_are w.config w.storage w.records w.config.supervisor (w.config.frames - w.config.supervisor)) Tables)) (eq-eqb _ _ m.entries.long)
        ∙ ap (λ b. unless b Tables) (frames_right r law w k bytes fixes m)

    -- what stands behind a page of a world in which nothing is changed
    behind_all : (next : World T P S) → next.config ≡ w.config → Mem r next bytes fixes → Consistent r next
        → ((g : ℕ) → Pageable next.config g → (page_in next.records g ≡ no_page → ⊥) → changed (get_or next.keys g 0) ≡ false)
        → (p key : ℕ) → key_of next.config.partitions p ≡ Some key → (o : Option ℕ) → where_is next p ≡ o → backing r.store next.config next.storage next.store p ≡ page bytes (2048 * p)
    behind_all next same mn kn clean p key part (Some f) e =
        let h = frame_some next.config next.storage next.records kn.fits.some p f e in
        let ne : page_in next.records f ≡ no_page → ⊥ = λ z. real_page next.config kn.fits p key part (sym h.1 ∙ z) in
        subst (λ x. backing r.store next.config next.storage next.store x ≡ page bytes (2048 * x)) h.1 (mn.content.clean f h.0 ne (clean f h.0 ne))
    behind_all next same mn kn clean p key part None e = mn.content.outside p key part (frame_none next.config next.storage next.records kn.fits.some p e)

    saved : (next : World T P S) (config : Config) (p : ℕ) → backing r.store next.config next.storage next.store p ≡ page bytes (2048 * p)
        → stores.Usable r.store next.store (p - next.config.supervisor) → Saved r next (record { config = config; bytes = bytes; fixes = fixes }) p
    saved next config p e usable = (
      usable,
      elim (bit_is (half next.storage (entry_at p))) [
        | inl z ↦ inl (z, sym (ap (λ n. cond (eqb n 1) zeros (r.store.slot next.store (p - next.config.supervisor))) z) ∙ e)
        | inr z ↦ inr (z, sym e ∙ ap (λ n. cond (eqb n 1) zeros (r.store.slot next.store (p - next.config.supervisor))) z)
      ],
    )

    settle_kept : KeptBy Settle (done_answer (sweeping r w (decode_settle w)).0, (sweeping r w (decode_settle w)).1) (Ok Done, here)
    settle_kept =
        let n = w.config.frames - w.config.supervisor in
        let some = k.fits.some in
        let s = swept_mem r law w.config.supervisor n w k bytes fixes m (omega arith) (omega arith) (λ g a b ne. absurd (omega arith)) in
        let next = swept r w.config.supervisor n w in
        let kn = settled_consistent in
        subst (λ x. KeptBy Settle (done_answer (sweeping r w x).0, (sweeping r w x).1) (Ok Done, here)) (sym settle_passes) (
          refl,
          (λ _ p key part. saved next w.config p (behind_all next s.same_config s.mem kn
              (λ g gp ne.
              let gp2 : Pageable w.config g = subst (λ (c : Config). Pageable c g) s.same_config gp in
              let hi = gp2.1 in
              s.clean g gp2.0 (omega arith) (λ z. ne (ap (λ rs. page_in rs g) s.same_records ∙ z)))
              p key part (where_is next p) refl)
              (kn.slots (p - next.config.supervisor) (slot_of r law next.config kn.fits p key part))),
          record { mem = s.mem; same = sym s.same_config },
        )
      where
        settled_consistent : Consistent r (swept r w.config.supervisor (w.config.frames - w.config.supervisor) w)
        settled_consistent = let some = k.fits.some in Rattle.model.proofs.Kept.swept_own r law w.config.supervisor (w.config.frames - w.config.supervisor) w k (omega arith) (omega arith) m.entries.long

    kept_here : (c : Call) → KeptBy c (worked r c w) (flat c here)
    unfolding load store fix free purge settle
    kept_here (Load a key) =
        agree_cases (λ d f. KeptBy (Load a key) (byte_answer (loading r a w d).0, (loading r a w d).1) (flat_loaded here a f))
        (decode_load w a key) (flat_load here a key) (load_agrees r law w k bytes fixes m a key) (load_done a key) (refused (Load a key))
    kept_here (Store a key byte) =
        agree_cases (λ d f. KeptBy (Store a key byte) (done_answer (storing r a byte w d).0, (storing r a byte w d).1) (flat_done here (byte_set here a byte) f))
        (decode_store w a key) (flat_store here a key) (store_agrees r law w k bytes fixes m a key) (store_done a key byte) (refused (Store a key byte))
    kept_here (Fix p) =
        agree_cases (λ d f. KeptBy (Fix p) (done_answer (fixing r w d).0, (fixing r w d).1) (flat_done here (fixes_set here p (get_or fixes p 0 + 1)) f))
        (decode_fix w p) (flat_fix here p) (fix_agrees r law w k bytes fixes m p) (fix_done p) (refused (Fix p))
    kept_here (Free p) =
        agree_cases (λ d f. KeptBy (Free p) (done_answer (freeing r w d).0, (freeing r w d).1) (flat_done here (fixes_set here p (get_or fixes p 0 - 1)) f))
        (decode_free w p) (flat_free here p) (free_agrees r law w k bytes fixes m p) (free_done p) (refused (Free p))
    kept_here Purge = purge_kept
    kept_here Settle = settle_kept

  -- the flat machine as the one that has this world's configuration
  rebased : (w : World T P S) (m : Flat) → m.config ≡ w.config → m ≡ record { config = w.config; bytes = m.bytes; fixes = m.fixes }
  rebased w m e = ap (λ (c : Config). record { config = c; bytes = m.bytes; fixes = m.fixes }) e

  call_kept : (c : Call) (w : World T P S) (m : Flat) → Consistent r w → Side r law w m → KeptBy c (worked r c w) (flat c m)
  call_kept c w m k d = subst (λ (x : Flat). KeptBy c (worked r c w) (flat c x)) (sym (rebased w m d.same)) (kept_here w k m.bytes m.fixes d.mem c)

  sound : (cs : List Call) (w : World T P S) (m : Flat) → Consistent r w → Side r law w m → Sound r cs w m
  sound [] w m k d = placed r law w k m d
  sound (c ∷ cs) w m k d =
      let h = call_kept c w m k d in
      (placed r law w k m d, h.0, h.1, sound cs (worked r c w).1 (flat c m).1 (call_own r law c w k) h.2)

  -- The start.
  module _ (c : Config) (w : World T P S) (good : GoodParts r w.translator w.policy w.store) (fit : Fits c) (long : length w.storage ≡ 2048 * c.frames)
      (slots : Slots r.store c w.store) where
    abbrev s0 : List ℕ
    s0 = with_tables c w.storage

    abbrev rows : List FrameRecord
    rows = own_pages 0 c.supervisor (replicate 256 vacant)

    sl : length s0 ≡ 2048 * c.frames
    sl = tables_long c fit w.storage long

    low_entry : (p : ℕ) → p < c.supervisor → half s0 (entry_at p) ≡ 8 * p + 1
    low_entry p h =
        let more = fit.more in
        first_entry_lem c fit w.storage long p (omega arith) ∙ cond-true _ (8 * p + 1) (partition_entry (key_of c.partitions p)) (lt-ltb _ _ h)

    high_entry : (p : ℕ) (o : Option ℕ) → p < 32 * segments c → c.supervisor ≤ p → key_of c.partitions p ≡ o → half s0 (entry_at p) ≡ partition_entry o
    high_entry p o pt h e =
        first_entry_lem c fit w.storage long p pt ∙ cond-false _ (8 * p + 1) (partition_entry (key_of c.partitions p)) (le-ltb _ _ h) ∙ ap partition_entry e

    part_entry : (p key : ℕ) → key_of c.partitions p ≡ Some key → half s0 (entry_at p) ≡ 5 + 16 * key
    part_entry p key e = let i = fit.keys p key e in let b = i.1 in high_entry p (Some key) (omega arith) i.0 e

    first_entries : Entries c rows s0
    first_entries = record {
      long = sl;
      segment = first_segment c fit w.storage long;
      supervisor = λ p h. ap (λ n. n / 2) (low_entry p h) ∙ (let z : (8 * p + 1) / 2 ≡ 4 * p = omega arith in z);
      inside = λ f fp ne. absurd (ne (no_page_lem c fit f fp.0));
      outside = λ p key e a. ap (λ n. n / 2) (part_entry p key e) ∙ (let z : (5 + 16 * key) / 2 ≡ 2 + 8 * key = omega arith in z);
      unused = λ p pt h e. ap (λ n. n / 2) (high_entry p None pt h e);
    }

    first_content : Content r.store c rows (replicate 256 0) w.store s0 (replicate (2048 * c.pages) 0)
    first_content = record {
      long = length-replicate {A = ℕ} (2048 * c.pages) 0;
      inside = λ f fp ne. absurd (ne (no_page_lem c fit f fp.0));
      clean = λ f fp ne off. absurd (ne (no_page_lem c fit f fp.0));
      outside = λ p key e a.
          let h = (fit.keys p key e).1 in
          ap (λ n. cond (eqb (n % 2) 1) zeros (r.store.slot w.store (p - c.supervisor))) (part_entry p key e)
          ∙ ap (λ n. cond (eqb n 1) zeros (r.store.slot w.store (p - c.supervisor))) (let z : (5 + 16 * key) % 2 ≡ 1 = omega arith in z)
          ∙ sym (laws.pages.blank (2048 * c.pages) (2048 * p) (omega arith));
    }

    none_counted : (test : ℕ → Bool) (f n : ℕ) → ((g : ℕ) → f ≤ g → test g ≡ false) → counted test f n ≡ 0
    unfolding counted
    none_counted test f zero h = refl
    none_counted test f (suc n) h = ap (λ b. cond b 1 0 + counted test (f + 1) n) (h f (omega arith)) ∙ (let z = none_counted test (f + 1) n (λ g a. h g (omega arith)) in omega arith)

    first_counts : Counts c rows (replicate c.pages 0)
    first_counts = record {
      long = length-replicate {A = ℕ} c.pages 0;
      inside = λ f fp ne. absurd (ne (no_page_lem c fit f fp.0));
      outside = λ p a. get_or-replicate_same c.pages p 0;
      same =
          none_counted (λ q. ltb 0 (get_or (replicate c.pages 0) q 0)) 0 c.pages (λ g a. ap (λ n. ltb 0 n) (get_or-replicate_same c.pages g 0))
          ∙ sym (none_counted (λ g. ltb 0 (fixes_in rows g)) c.supervisor (c.frames - c.supervisor) (λ g a. ap (λ n. ltb 0 n) (no_fixes c fit g a)));
    }

    pub started_side : Side r law (fresh r c w) (blank c)
    started_side = record { mem = record { entries = first_entries; content = first_content; counts = first_counts }; same = refl }

    pub started_own : Consistent r (fresh r c w)
    started_own =
        let h = first_holding r.policy law.policy c fit w.policy good.policy in
        record {
          good = record { translator = law.translator.load_good w.translator s0 (controls_of c) good.translator; policy = h.0; store = good.store };
          fits = fit;
          table = first_table c fit;
          keyed = record {
            long = length-replicate {A = ℕ} 256 0;
            access = λ f key fp e. absurd (real_page c fit no_page key (ap (key_of c.partitions) (sym (no_page_lem c fit f fp.0)) ∙ e) refl);
          };
          holding = h.1;
          paired = record {
            words = law.translator.load_controls w.translator s0 (controls_of c) good.translator;
            each = λ p start v. agrees_frame c fit rows (first_table c fit) s0 sl (first_segment c fit w.storage long) (entries_right c fit s0 rows first_entries) p start
                (law.translator.load_agrees w.translator s0 (controls_of c) p start good.translator v);
          };
          slots = slots;
        }

  -- an answered IPL has passed its tests
  pub record Started (c : Config) (w left : World T P S) : Type 0 where
    pub fits : Fits c
    pub long : length w.storage ≡ 2048 * c.frames
    pub slots : Slots r.store c w.store
    pub leaves : left ≡ fresh r c w

  started_cases : (c : Config) (w : World T P S) (a b : Bool) (o : Option _) → sizes_fit c w.storage ≡ a → partitions_fit c ≡ b → first_fault r.store w.store 0 (c.pages - c.supervisor) ≡ o
      → (cond a (cond b (start_by r c w o) (Err Partitions, w)) (Err Sizes, w)).0 ≡ Ok tt → Started c w (cond a (cond b (start_by r c w o) (Err Partitions, w)) (Err Sizes, w)).1
  started_cases c w true true None x y z ok =
      let f = fits_from c w.storage x y in
      record { fits = f.0; long = f.1; slots = λ k h. no_fault r.store w.store 0 (c.pages - c.supervisor) z k (omega arith) (omega arith); leaves = refl }
  started_cases c w true true (Some f) x y z ok = cc
  started_cases c w true false o x y z ok = cc
  started_cases c w false b o x y z ok = cc

  started : (c : Config) (w : World T P S) → (ipl r c w).0 ≡ Ok tt → Started c w (ipl r c w).1
  unfolding ipl
  started c w ok = started_cases c w (sizes_fit c w.storage) (partitions_fit c) (first_fault r.store w.store 0 (c.pages - c.supervisor)) refl refl refl ok

  pub law_of : LawOf r
  law_of c w good ok calls =
      let s = started c w ok in
      subst (λ (x : World T P S). Sound r calls x (blank c)) (sym s.leaves)
      (sound calls (fresh r c w) (blank c) (started_own c w good s.fits s.long s.slots) (started_side c w good s.fits s.long s.slots))

  pub steady_of : SteadyOf r
  steady_of c w good ok calls =
      let s = started c w ok in
      subst (λ (x : World T P S). Rattle.model.specs.Law.Steady r calls x) (sym s.leaves) (steadies r law calls (fresh r c w) (started_own c w good s.fits s.long s.slots))
